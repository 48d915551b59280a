-- A report enters and the oldest leaves: who is left is as a question's turn wants it, so that every turn leaves the true list; and a list names one that has gone exactly where it names
-- the oldest.
-- Assumes nothing.
use mathlib.Core.Path.{◌≡◌, sym, ap, ◌∙◌, subst}
use mathlib.Core.Logic.{◌⊎◌, inl, inr, ⊎_elim, ◌↔◌}
use mathlib.Core.Bool.{true}
use mathlib.Core.List.Memᴰ
use mathlib.Core.List.{[], ◌∷◌, ◌++◌}
use Prim.Native.Nat.{ℕ, ◌+◌, ◌-◌, ◌≤◌, ◌<◌}
use native.Mathlib.Omega.{arith}
use borrow.Author.Tests.{ltb-true, ltb-false, lt-ltb, le-ltb}
use lib.Dec.{ltb}
use lib.ListN.{drop}
use Rattle.laws.specs.Lists.{◌∈◌}
use Rattle.values.specs.declared.Values.{Values}
use Rattle.values.specs.Range.{in_range}
use Rattle.values.proofs.Names.{name-number}
use Rattle.ranking.specs.Standing.{Held, Entry, top}
use Rattle.laws.proofs.Tests.{Tested, passed, failed, tested, if_so, if_not}
use Rattle.laws.proofs.Lists.{◌⊆◌, there, drop-⊆}
use Rattle.ranking.proofs.Entries.{top_of}
use Rattle.window.specs.declared.Window.{Window}
use Rattle.window.specs.Rows.{held_reports, fit_window, added}
use Rattle.window.proofs.Fitness as window
use Rattle.window.proofs.Reports.{held_added, held_latest, oldest-first}
use Rattle.question.specs.declared.Question.{Question}
use Rattle.question.specs.Lines.{lines}
use Rattle.slot.specs.Turn.{listed, number_named, lists}
use Rattle.slot.proofs.Standing.{Stands}
use Rattle.slot.proofs.Turns.{Leaves, lists_when, added-lines, turn_stands}
use Rattle.board.specs.Work.{leaving, outgoing, new_report, turned}

either : (a b : ℕ) → (a < b) ⊎ (b ≤ a)
either a b = go (tested (ltb a b))
  where
    go : Tested (ltb a b) → (a < b) ⊎ (b ≤ a)
    go (passed t) = inl (ltb-true a b t)
    go (failed t) = inr (ltb-false a b t)

module _ (w : Window) (fit : fit_window w ≡ true) (whole : window.Whole w) (v : Values) (permitted : in_range v ≡ true) (room : w.counts.entered < 1000000) where
  ranges : window.Ranges w.counts
  ranges = (window.fit_facts w fit).ranges

  abbrev new : Held
  new = new_report w v

  pub next-fit : fit_window (added w v) ≡ true
  next-fit = window.added-fit w v fit whole room permitted

  held_next : held_reports (added w v) ≡ drop (w.counts.held + 1 - w.counts.size) (held_reports w) ++ (new ∷ [])
  held_next = held_added w v ranges whole permitted room

  newest : (r : Held) → r ∈ held_reports w → r.number < w.counts.entered + 1
  newest r m = omega (arith, (held_latest w ranges r m).1)

  -- Who has gone: nobody, or the oldest.
  pub gone_is : (w.counts.held < w.counts.size → outgoing w ≡ 0) × (w.counts.size ≤ w.counts.held → outgoing w ≡ w.counts.entered - w.counts.held + 1)
  unfolding leaving
  gone_is = (none, one)
    where
      none : w.counts.held < w.counts.size → leaving w.counts ≡ 0
      none h = if_so _ _ (lt-ltb w.counts.held w.counts.size h)

      one : w.counts.size ≤ w.counts.held → leaving w.counts ≡ w.counts.entered - w.counts.held + 1
      one h = if_not _ _ (le-ltb w.counts.held w.counts.size h) ∙ omega (arith, ranges.ring.has_rows, ranges.ring.were_entered)

  oldest-leaves : Leaves (held_reports w) new (outgoing w) (held_reports (added w v))
  oldest-leaves = record { among = among; stays = stays }
    where
      among : held_reports (added w v) ⊆ new ∷ held_reports w
      among r m =
          ⊎_elim (λ k. there (drop-⊆ (w.counts.held + 1 - w.counts.size) (held_reports w) r k)) (λ k. Memᴰ.head (Memᴰ.eq_of_singleton k))
          (Memᴰ.append_cases (drop (w.counts.held + 1 - w.counts.size) (held_reports w)) (subst (λ l. r ∈ l) held_next m))

      old : (r : Held) → r ∈ held_reports w → outgoing w < r.number → (w.counts.held < w.counts.size) ⊎ (w.counts.size ≤ w.counts.held) → r ∈ drop (w.counts.held + 1 - w.counts.size) (held_reports w)
      old r m h (inl few) =
          let stay : w.counts.held + 1 - w.counts.size ≡ 0 = omega arith in
          subst (λ n. r ∈ drop n (held_reports w)) (sym stay) m
      old r m h (inr over) =
          let full : w.counts.held ≡ w.counts.size = omega (arith, ranges.ring.has_rows) in
          let first : w.counts.held + 1 - w.counts.size ≡ 1 = omega arith in
          let positive : 1 ≤ w.counts.held = omega (arith, ranges.ring.positive) in
          let gone = gone_is.1 over in
          subst (λ n. r ∈ drop n (held_reports w)) (sym first)
          (⊎_elim
          (λ e. let it : r.number ≡ w.counts.entered - w.counts.held + 1 = ap (λ (x : Held). x.number) e in absurd (omega (arith, gone)))
          (λ k. k)
          (Memᴰ.cases_cons (subst (λ l. r ∈ l) (oldest-first w positive) m)))

      stays : (r : Held) → r ∈ new ∷ held_reports w → outgoing w < r.number → r ∈ held_reports (added w v)
      stays r m h =
          subst (λ l. r ∈ l) (sym held_next)
          (⊎_elim (λ e. Memᴰ.append_right (drop (w.counts.held + 1 - w.counts.size) (held_reports w)) (Memᴰ.head e)) (λ k. Memᴰ.append_left (new ∷ []) (old r k h (either w.counts.held w.counts.size)))
          (Memᴰ.cases_cons m))

  module _ (q : Question) (s : Stands (held_reports w) q) where
    -- The turn of a question leaves the true list of the window after it.
    pub turned_stands : Stands (held_reports (added w v)) (turned w v q).question
    turned_stands = turn_stands (held_reports w) new permitted newest q s (added w v) next-fit (outgoing w) oldest-leaves

    -- The list after the addition.
    pub new_lines : lines (listed q new) ≡ top s.rule s.k (new ∷ held_reports w)
    new_lines = added-lines (held_reports w) new permitted newest q s

    -- It names one that has gone exactly where it names the report that leaves.
    pub names-oldest : lists (listed q new) (outgoing w) ≡ true ↔ ((outgoing w ≡ 0 → ⊥) × ((e : Entry) × (e ∈ lines (listed q new)) × (number_named e ≡ outgoing w)))
    names-oldest = (to, from)
      where
        number_of : (e : Entry) → e ∈ lines (listed q new) → w.counts.entered < number_named e + w.counts.held
        number_of e m =
            let r = top_of s.rule s.k (new ∷ held_reports w) (subst (λ l. e ∈ l) new_lines m) in
            let same : r.0.number ≡ number_named e = sym (name-number r.0.number r.0.values.edition) ∙ ap number_named r.2 in
            ⊎_elim (λ n. let it : r.0.number ≡ w.counts.entered + 1 = ap (λ (x : Held). x.number) n in omega arith) (λ k. omega (arith, (held_latest w ranges r.0 k).0)) (Memᴰ.cases_cons r.1)

        to : lists (listed q new) (outgoing w) ≡ true → (outgoing w ≡ 0 → ⊥) × ((e : Entry) × (e ∈ lines (listed q new)) × (number_named e ≡ outgoing w))
        to t =
            let r = (lists_when (listed q new) (outgoing w)).0 t in
            let late = number_of r.0 r.1 in
            ⊎_elim
            (λ few. absurd (omega (arith, gone_is.0 few, ranges.ring.were_entered, r.2)))
            (λ full. let gone = gone_is.1 full in ((λ z. absurd (omega arith)), (r.0, r.1, omega (arith, ranges.ring.were_entered, r.2))))
            (either w.counts.held w.counts.size)

        from : (outgoing w ≡ 0 → ⊥) × ((e : Entry) × (e ∈ lines (listed q new)) × (number_named e ≡ outgoing w)) → lists (listed q new) (outgoing w) ≡ true
        from r = (lists_when (listed q new) (outgoing w)).1 (r.1.0, r.1.1, omega (arith, r.1.2))
