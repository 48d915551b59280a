-- The held reports are those of a run of numbers, so a report more drops the first of the run where the window is full, and ends it with the new one.
-- Assumes nothing.
use mathlib.Core.Path.{◌≡◌, refl, sym, ap, ◌∙◌}
use mathlib.Core.Logic.{◌⊎◌, inl, inr, ⊎_elim}
use mathlib.Core.Bool.{true}
use mathlib.Core.List.Memᴰ
use mathlib.Core.List.{[], ◌∷◌, ◌++◌}
use Prim.Native.Nat.{ℕ, zero, suc, min, ◌+◌, ◌-◌, ◌≤◌, ◌<◌}
use native.Mathlib.Nat.{add-zero, eq-or-lt_of_le, not-suc-le-zero}
use native.Mathlib.Omega.{arith}
use lib.ListN.{length, drop}
use lib.Seq.{get_or-set_other}
use Rattle.laws.specs.Lists.{◌∈◌}
use Rattle.values.specs.declared.Values.{Values}
use Rattle.values.specs.Range.{in_range}
use Rattle.values.specs.Names.{named}
use Rattle.ranking.specs.Standing.{Held}
use Rattle.laws.proofs.Lists.{Pairwise, pairwise_map, there}
use Rattle.window.specs.Rows.{empty, row_of, report_of, reports_from, oldest, held_reports, grown, added}
use Rattle.window.specs.declared.Window.{Window}
use Rattle.window.proofs.Ring.{rows_differ}
use Rattle.window.proofs.Fitness.{Ranges, Whole, added-taken, is-sized, place, values_there}

-- of a smaller number
abbrev pub Older : Held → Held → Type 0
Older q r = q.number < r.number

module _ (w : Window) where
  length_reports : (m n : ℕ) → length (reports_from w m n) ≡ n
  length_reports m zero = refl
  length_reports m (suc n) = ap suc (length_reports (m + 1) n)

  -- as many as are held
  pub length_held : length (held_reports w) ≡ w.counts.held
  unfolding held_reports
  length_held = length_reports (oldest w.counts) w.counts.held

  reports_snoc : (m n : ℕ) → reports_from w m (suc n) ≡ reports_from w m n ++ (report_of w (m + n) ∷ [])
  reports_snoc m zero = ap (λ j. report_of w j ∷ []) (sym (add-zero m))
  reports_snoc m (suc n) =
      let same : m + 1 + n ≡ m + suc n = omega arith in
      ap (λ l. report_of w m ∷ l) (reports_snoc (m + 1) n ∙ ap (λ j. reports_from w (m + 1) n ++ (report_of w j ∷ [])) same)

  reports_drop : (k m n : ℕ) → drop k (reports_from w m n) ≡ reports_from w (m + k) (n - k)
  reports_drop zero m n =
      let from : m ≡ m + 0 = omega arith in
      let as_many : n ≡ n - 0 = omega arith in
      ap (λ j. reports_from w j n) from ∙ ap (reports_from w (m + 0)) as_many
  reports_drop (suc k) m zero =
      let none : 0 ≡ 0 - suc k = omega arith in
      ap (reports_from w (m + suc k)) none
  reports_drop (suc k) m (suc n) =
      let from : m + 1 + k ≡ m + suc k = omega arith in
      let as_many : n - k ≡ suc n - suc k = omega arith in
      reports_drop k (m + 1) n ∙ ap (λ j. reports_from w j (n - k)) from ∙ ap (reports_from w (m + suc k)) as_many

  -- the reports of the run, by their numbers
  reports_in : (m n j : ℕ) → m ≤ j → j < m + n → report_of w j ∈ reports_from w m n
  reports_in m zero j from below = absurd (no from below)
    where
      no : m ≤ j → j < m + 0 → ⊥
      no a b = omega arith
  reports_in m (suc n) j from below =
      ⊎_elim (λ e. Memᴰ.head (ap (report_of w) (sym e))) (λ l. there (reports_in (m + 1) n j (omega arith) (omega arith))) (first from)
    where
      first : m ≤ j → (m ≡ j) ⊎ (m < j)
      first h = eq-or-lt_of_le h

  reports_of : (m n : ℕ) {x : Held} → x ∈ reports_from w m n → (j : ℕ) × (m ≤ j) × (j < m + n) × (x ≡ report_of w j)
  reports_of m zero k = absurd (Memᴰ.not-nil k)
  reports_of m (suc n) {x} k = go (Memᴰ.cases_cons k) (reports_of (m + 1) n)
    where
      go : (x ≡ report_of w m) ⊎ (x ∈ reports_from w (m + 1) n) → (x ∈ reports_from w (m + 1) n → (j : ℕ) × (m + 1 ≤ j) × (j < m + 1 + n) × (x ≡ report_of w j)) → (j : ℕ) × (m ≤ j) × (j < m + suc n) × (x ≡ report_of w j)
      go (inl e) rest = (m, omega arith, omega arith, e)
      go (inr q) rest =
          let r = rest q in
          let from : m + 1 ≤ r.0 = r.1 in
          let below : r.0 < m + 1 + n = r.2 in
          (r.0, omega arith, omega arith, r.3)

  reports_rising : (m n : ℕ) → Pairwise Older (reports_from w m n)
  reports_rising m zero = tt
  reports_rising m (suc n) = (λ y k. later y (reports_of (m + 1) n k), reports_rising (m + 1) n)
    where
      later : (y : Held) → (j : ℕ) × (m + 1 ≤ j) × (j < m + 1 + n) × (y ≡ report_of w j) → m < y.number
      later y r =
          let from : m + 1 ≤ r.0 = r.1 in
          let numbered : y.number ≡ r.0 = ap (λ (z : Held). z.number) r.3 in
          omega arith

-- numbers between the first and the last held
module _ (w : Window) (ranges : Ranges w.counts) where
  pub held_in_lem : (m : ℕ) → w.counts.entered < m + w.counts.held → m ≤ w.counts.entered → report_of w m ∈ held_reports w
  unfolding held_reports
  held_in_lem m late entered =
      reports_in w (oldest w.counts) w.counts.held m (omega (arith, ranges.ring.were_entered)) (omega (arith, ranges.ring.were_entered))

  pub held_of : {x : Held} → x ∈ held_reports w → (m : ℕ) × (w.counts.entered < m + w.counts.held) × (m ≤ w.counts.entered) × (x ≡ report_of w m)
  unfolding held_reports
  held_of {x} k =
      let r = reports_of w (oldest w.counts) w.counts.held k in
      let from : oldest w.counts ≤ r.0 = r.1 in
      let below : r.0 < oldest w.counts + w.counts.held = r.2 in
      (r.0, omega (arith, ranges.ring.were_entered), omega (arith, ranges.ring.were_entered), r.3)

  -- The held numbers are the latest ones: above `entered` less `held`, and up to `entered`.
  pub held_latest : (x : Held) → x ∈ held_reports w → (w.counts.entered < x.number + w.counts.held) × (x.number ≤ w.counts.entered)
  held_latest x k =
      let r = held_of k in
      let late : w.counts.entered < r.0 + w.counts.held = r.1 in
      let entered : r.0 ≤ w.counts.entered = r.2 in
      let numbered : x.number ≡ r.0 = ap (λ (z : Held). z.number) r.3 in
      (omega arith, omega arith)

-- The oldest stands first: the one that leaves a full window.
pub oldest-first : (w : Window) → 1 ≤ w.counts.held → held_reports w ≡ report_of w (oldest w.counts) ∷ drop 1 (held_reports w)
unfolding held_reports
oldest-first w positive = first (oldest w.counts) w.counts.held positive
  where
    first : (m n : ℕ) → 1 ≤ n → reports_from w m n ≡ report_of w m ∷ drop 1 (reports_from w m n)
    first m zero h = absurd (not-suc-le-zero h)
    first m (suc n) h = refl

-- The held reports are strictly rising in number, oldest first.
pub held_rising : (w : Window) → Pairwise Older (held_reports w)
unfolding held_reports
held_rising w = reports_rising w (oldest w.counts) w.counts.held

-- No two have one number.
pub held_distinct : (w : Window) → Pairwise (λ (q r : Held). q.number ≡ r.number → ⊥) (held_reports w)
held_distinct w = pairwise_map (λ q r l e. apart q r l e) (held_reports w) (held_rising w)
  where
    apart : (q r : Held) → q.number < r.number → q.number ≡ r.number → ⊥
    apart q r l e = omega arith

-- A fresh window holds nothing.
pub empty_holds : (n : ℕ) → held_reports (empty n) ≡ []
unfolding held_reports
empty_holds n = refl

-- ---- a report more

-- two windows with the same reports of a run's numbers
reports_same : (u w : Window) (m n : ℕ) → ((j : ℕ) → m ≤ j → j < m + n → report_of u j ≡ report_of w j) → reports_from u m n ≡ reports_from w m n
reports_same u w m zero h = refl
reports_same u w m (suc n) h =
    ap (λ r. r ∷ reports_from u (m + 1) n) (h m (omega arith) (omega arith))
    ∙ ap (λ l. report_of w m ∷ l) (reports_same u w (m + 1) n (λ j a b. h j (omega arith) (omega arith)))

-- The report that enters: the next in number.
abbrev pub new_report : Window → Values → Held
new_report w v = record { number = w.counts.entered + 1; values = v }

module _ (w : Window) (v : Values) (ranges : Ranges w.counts) (whole : Whole w) (may : in_range v ≡ true) where
  new_report_lem : report_of (grown w v) (w.counts.entered + 1) ≡ new_report w v
  new_report_lem = ap (λ u. record { number = w.counts.entered + 1; values = u }) (values_there w v ranges whole may)

  old_report : (m : ℕ) → 1 ≤ m → m ≤ w.counts.entered → w.counts.entered + 1 < m + w.counts.size → report_of (grown w v) m ≡ report_of w m
  old_report m first entered near =
      let other = rows_differ w.counts.size ranges.ring.positive m (w.counts.entered + 1) first (omega arith) near in
      rw (
        get_or-set_other w.rows.losses (place w v ranges whole) (row_of w.counts.size m) v.loss 0 other,
        get_or-set_other w.rows.shakes (place w v ranges whole) (row_of w.counts.size m) v.shake 0 other,
        get_or-set_other w.rows.names (place w v ranges whole) (row_of w.counts.size m) (named (w.counts.entered + 1) v.edition) 0 other,
      )

  -- The held reports of a window with one report more: those that were held, without the oldest where N were, and then the new one.
  pub held_added : w.counts.entered < 1000000 → held_reports (added w v) ≡ drop (w.counts.held + 1 - w.counts.size) (held_reports w) ++ (new_report w v ∷ [])
  unfolding held_reports
  held_added room =
      ap held_reports (added-taken w v (is-sized w.counts.size ranges.ring.positive ranges.within) room)
      ∙ ap (λ n. reports_from g (e + 1 - n + 1) n) next
      ∙ ap (λ m. reports_from g m (suc n)) from
      ∙ reports_snoc g (e - n + 1) n
      ∙ ap (λ m. reports_from g (e - n + 1) n ++ (report_of g m ∷ [])) last
      ∙ ap (λ r. reports_from g (e - n + 1) n ++ (r ∷ [])) new_report_lem
      ∙ ap (λ l. l ++ (new_report w v ∷ [])) (kept ∙ sym dropped)
    where
      g : Window
      g = grown w v

      e : ℕ
      e = w.counts.entered

      n : ℕ
      n = min w.counts.size (w.counts.held + 1) - 1

      next : min w.counts.size (w.counts.held + 1) ≡ suc n
      next = omega (arith, ranges.ring.positive)

      bound : (n ≤ e) × (n < w.counts.size)
      bound = (omega (arith, ranges.ring.positive, ranges.ring.were_entered), omega (arith, ranges.ring.positive))

      from : e + 1 - suc n + 1 ≡ e - n + 1
      from = omega (arith, bound)

      last : e - n + 1 + n ≡ e + 1
      last = omega (arith, bound)

      kept : reports_from g (e - n + 1) n ≡ reports_from w (e - n + 1) n
      kept = reports_same g w (e - n + 1) n (λ j a b. old_report j (omega arith) (omega (arith, bound)) (omega (arith, bound)))

      gone : oldest w.counts + (w.counts.held + 1 - w.counts.size) ≡ e - n + 1
      gone = omega (arith, ranges.ring.positive, ranges.ring.has_rows, ranges.ring.were_entered)

      left : w.counts.held - (w.counts.held + 1 - w.counts.size) ≡ n
      left = omega (arith, ranges.ring.positive, ranges.ring.has_rows)

      dropped : drop (w.counts.held + 1 - w.counts.size) (reports_from w (oldest w.counts) w.counts.held) ≡ reports_from w (e - n + 1) n
      dropped =
          reports_drop w (w.counts.held + 1 - w.counts.size) (oldest w.counts) w.counts.held
          ∙ ap (λ m. reports_from w m (w.counts.held - (w.counts.held + 1 - w.counts.size))) gone
          ∙ ap (reports_from w (e - n + 1)) left
