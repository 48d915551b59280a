-- The rows of a fit window hold exactly its held reports: a row's number says which report lies there, and each held report has a row.
-- Assumes nothing.
use mathlib.Core.Path.{◌≡◌, sym, ap, ◌∙◌, subst}
use mathlib.Core.Logic.{◌⊎◌, inl, inr, ⊎_elim}
use mathlib.Core.Bool.{true}
use mathlib.Core.List.Memᴰ
use Prim.Native.Nat.{ℕ, zero, suc, ◌+◌, ◌-◌, ◌≤◌, ◌<◌}
use native.Mathlib.Nat.{add-zero, add-suc, mod-lt, not-suc-le-zero, le_of_suc-le-suc}
use native.Mathlib.Omega.{arith}
use borrow.Author.Tests.{eq-eqb, eqb-true, eqb-false}
use lib.Dec.{eqb}
use Rattle.laws.specs.Lists.{◌∈◌}
use Rattle.values.proofs.Facts.{low_same}
use Rattle.ranking.specs.Standing.{Held, top, Permitted}
use Rattle.ranking.specs.declared.Rule.{Rule}
use Rattle.laws.proofs.Tests.{Tested, passed, failed, tested}
use Rattle.laws.proofs.Lists.{Same, lt_or_eq, moved, there}
use Rattle.search.proofs.Search.{All}
use Rattle.ranking.proofs.Entries.{top-same}
use Rattle.window.specs.Rows.{row_of, number_in, values_in, report_of, held_reports, due, fit_window, report_in, standing}
use Rattle.window.specs.declared.Window.{Window}
use Rattle.window.proofs.Ring.{due_held, due_kept, Kept}
use Rattle.window.proofs.Fitness.{Ranges, Fit, fit_facts, Held-in, row_holds}
use Rattle.window.proofs.Reports.{held_in_lem, held_of}

-- what stands in the rows of any window
module _ (w : Window) where
  abbrev Used : ℕ → Type 0
  Used r = number_in w r ≡ 0 → ⊥

  standing_in : (n r : ℕ) → r < n → Used r → report_in w r ∈ standing w n
  standing_in zero r below used = absurd (not-suc-le-zero below)
  standing_in (suc n) r below used = go (tested (eqb (number_in w n) 0)) (lt_or_eq (le_of_suc-le-suc below)) (λ l. standing_in n r l used)
    where
      go : Tested (eqb (number_in w n) 0) → (r < n) ⊎ (r ≡ n) → (r < n → report_in w r ∈ standing w n) → report_in w r ∈ standing w (suc n)
      go (passed t) (inl l) rest = rw (t, standing) (rest l)
      go (passed t) (inr e) rest = absurd (used (ap (λ m. number_in w m) e ∙ eqb-true _ _ t))
      go (failed f) (inl l) rest = rw (f, standing) (there (rest l))
      go (failed f) (inr e) rest = rw (f, standing) (Memᴰ.head (ap (report_in w) e))

  standing_of : (n : ℕ) {x : Held} → x ∈ standing w n → (r : ℕ) × (r < n) × Used r × (x ≡ report_in w r)
  standing_of zero k = absurd (Memᴰ.not-nil k)
  standing_of (suc n) {x} k = go (tested (eqb (number_in w n) 0)) (standing_of n)
    where
      more : (r : ℕ) × (r < n) × Used r × (x ≡ report_in w r) → (r : ℕ) × (r < suc n) × Used r × (x ≡ report_in w r)
      more s = let below : s.0 < n = s.1 in (s.0, omega arith, s.2, s.3)

      go : Tested (eqb (number_in w n) 0) → (x ∈ standing w n → (r : ℕ) × (r < n) × Used r × (x ≡ report_in w r)) → (r : ℕ) × (r < suc n) × Used r × (x ≡ report_in w r)
      go (passed t) rest = more (rest (rw (t, standing) at k))
      go (failed f) rest =
          ⊎_elim (λ e. (n, omega arith, eqb-false _ _ f, e)) (λ q. more (rest q)) (Memᴰ.cases_cons (rw (f, standing) at k))

  -- rows that hold nothing add nothing
  pub standing-end : (n m : ℕ) → ((r : ℕ) → n ≤ r → r < n + m → number_in w r ≡ 0) → standing w n ≡ standing w (n + m)
  standing-end n zero none = ap (standing w) (sym (add-zero n))
  standing-end n (suc m) none =
      let last : eqb (number_in w (n + m)) 0 ≡ true = eq-eqb (number_in w (n + m)) 0 (none (n + m) (omega arith) (omega arith)) in
      standing-end n m (λ r h l. none r h (less r l)) ∙ sym (ap (standing w) (add-suc n m) ∙ rw (last, standing))
    where
      less : (r : ℕ) → r < n + m → r < n + suc m
      less r l = omega arith

module _ (w : Window) (fit : fit_window w ≡ true) where
  facts : Fit w
  facts = fit_facts w fit

  ranges : Ranges w.counts
  ranges = facts.ranges

  row : (r : ℕ) → r < 1024 → Held-in (due w.counts r) (number_in w r) (values_in w r)
  row r below = row_holds _ _ _ (facts.rows r below)

  in_ring : (m : ℕ) → row_of w.counts.size m < 1024
  in_ring m = omega (arith, mod-lt (m - 1) ranges.ring.positive, ranges.within)

  -- the values that stand in a row are whole
  whole : (r : ℕ) → r < 1024 → report_in w r ≡ record { number = number_in w r; values = values_in w r }
  whole r below = ap (λ v. record { number = number_in w r; values = v }) (low_same (values_in w r) (row r below).permitted)

  -- Every held report has permitted values.
  pub held_permitted : All Permitted (held_reports w)
  held_permitted x k =
      let r = held_of w ranges k in
      let h = row (row_of w.counts.size r.0) (in_ring r.0) in
      subst Permitted (sym r.3) h.permitted

  -- A number is held exactly where its row has it.
  pub number_there : (m : ℕ) → w.counts.entered < m + w.counts.held → m ≤ w.counts.entered → number_in w (row_of w.counts.size m) ≡ m
  number_there m late entered =
      (row (row_of w.counts.size m) (in_ring m)).as_due
      ∙ due_held ranges.ring m late entered

  stands : (m : ℕ) → w.counts.entered < m + w.counts.held → m ≤ w.counts.entered → report_of w m ∈ standing w 1024
  stands m late entered = moved (whole r (in_ring m) ∙ rw number) (standing_in w 1024 r (in_ring m) used)
    where
      r : ℕ
      r = row_of w.counts.size m

      number : number_in w r ≡ m
      number = number_there m late entered

      used : Used w r
      used e = omega (arith, number, ranges.ring.were_entered)

  held_there : (r : ℕ) → r < 1024 → Used w r → report_in w r ∈ held_reports w
  held_there r below used = moved (sym same) (held_in_lem w ranges m k.late k.entered)
    where
      m : ℕ
      m = due w.counts r

      number : number_in w r ≡ m
      number = (row r below).as_due

      k : Kept w.counts.size w.counts.entered w.counts.held r m
      k = due_kept ranges.ring r (λ e. used (number ∙ e))

      same : report_in w r ≡ report_of w m
      same = whole r below ∙ rw (k.its_row, number)

  -- What stands in the rows of a fit window are the held reports.
  pub standing_held : Same (standing w 1024) (held_reports w)
  standing_held = (
    λ x k. let r = standing_of w 1024 k in moved (sym r.3) (held_there r.0 r.1 r.2),
    λ x k. let r = held_of w ranges k in moved (sym r.3) (stands r.0 r.1 r.2),
  )

  -- So the best k of either is the same.
  pub top-standing : (rule : Rule) (k : ℕ) → top rule k (standing w 1024) ≡ top rule k (held_reports w)
  top-standing rule k = top-same rule k (standing w 1024) (held_reports w) standing_held
