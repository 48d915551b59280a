-- Setting and removing in one slot: a refusal leaves what it holds, and a question that is set has the true list of the reports that it is searched over.
-- Assumes nothing.
use mathlib.Core.Path.{◌≡◌, sym, ap, ◌∙◌, subst}
use mathlib.Core.Bool.{true, false, cond, ◌&&◌}
use mathlib.Core.List.{List, []}
use Prim.Native.Nat.{ℕ, ◌≤◌}
use native.Mathlib.Omega.{arith}
use borrow.Author.Tests.{leb-true, eqb-true, eq-eqb, ne_eqb}
use lib.Dec.{leb, eqb}
use Rattle.ranking.specs.Cells.{weights_fit, ranges_proper, ties_known}
use Rattle.ranking.specs.Standing.{Held}
use Rattle.ranking.specs.declared.Rule.{Rule}
use Rattle.laws.proofs.Tests.{Tested, passed, failed, tested, either, and_both}
use Rattle.ranking.proofs.Cells.{fit_all}
use Rattle.window.specs.declared.Window.{Window}
use Rattle.window.specs.Rows.{held_reports, fit_window}
use Rattle.question.specs.declared.Question.{Question}
use Rattle.question.specs.declared.Searched.{Searched}
use Rattle.question.specs.Lines.{asked, empty_slot, in_rows}
use Rattle.laws.proofs.Tests.{if_so, if_not}
use Rattle.slot.specs.Asking.{Shown, searched_among, ask_refusal, set_in, empty_refusal, emptied, read_in}
use Rattle.slot.specs.Asking.{Seated}
use Rattle.std.specs.Prelude.{Result, Err}
use Rattle.refusal.specs.declared.Refusal.{Refusal}
use Rattle.refusal.specs.declared.Refusal.TheVariants.{LinesOutOfRange, WeightOutOfRange, SlotInUse, SlotEmpty, RangeNotProper, TieRuleUnknown}
use Rattle.refusal.specs.Answers.{answered}
use Rattle.refusal.proofs.Answers.{refused_alike}
use Rattle.slot.specs.Answers.{seated_answer}
use Rattle.slot.proofs.Refusals.{no_refusal, Told, told_none, told_of, told_if}
use Rattle.slot.proofs.Standing.{Asks, Stands, search_stands}
use Rattle.slot.proofs.Turns.{among_held, among_few}

-- Its refusals have their numbers.
ask_told : (held k : ℕ) (rule : Rule) → Told (ask_refusal held k rule)
ask_told held k rule =
    told_if (leb 1 k && leb k 16)
    (told_if (weights_fit rule) (told_if (ranges_proper rule) (told_if (ties_known rule) (told_if (eqb held 0) told_none (told_of SlotInUse)) (told_of TieRuleUnknown)) (told_of RangeNotProper)) (told_of WeightOutOfRange))
    (told_of LinesOutOfRange)

module _ (q : Question) (k : ℕ) (rule : Rule) (reports : List Held) where
  set-taken : eqb (ask_refusal q.k k rule) 0 ≡ true
      → set_in q k rule reports ≡ record { refusal = 0; steps = (searched_among (asked k rule [] 0) reports).steps; question = (searched_among (asked k rule [] 0) reports).question }
  unfolding set_in
  set-taken e = if_so _ _ e

  set-refused : eqb (ask_refusal q.k k rule) 0 ≡ false → set_in q k rule reports ≡ record { refusal = ask_refusal q.k k rule; steps = 0; question = q }
  unfolding set_in
  set-refused e = if_not _ _ e

  -- The refusal is that of the table.
  pub set-refusal : (set_in q k rule reports).refusal ≡ ask_refusal q.k k rule
  set-refusal = go (tested (eqb (ask_refusal q.k k rule) 0))
    where
      go : Tested (eqb (ask_refusal q.k k rule) 0) → (set_in q k rule reports).refusal ≡ ask_refusal q.k k rule
      go (passed t) = ap (λ (s : Seated). s.refusal) (set-taken t) ∙ sym (eqb-true (ask_refusal q.k k rule) 0 t)
      go (failed t) = ap (λ (s : Seated). s.refusal) (set-refused t)

  -- A refused question is answered with that refusal.
  pub set_refused : {e : Refusal} → ◌≡◌ {A = Result (Unit {0}) Refusal} (Err e) (answered (ask_refusal q.k k rule) tt) → Err e ≡ seated_answer (set_in q k rule reports)
  set_refused {e} h =
      refused_alike _ (tt {0}) (record { steps = (set_in q k rule reports).steps; question = (set_in q k rule reports).question }) h
      ∙ ap (λ n. answered n (record { steps = (set_in q k rule reports).steps; question = (set_in q k rule reports).question })) (sym set-refusal)

  pub set_told : Told (set_in q k rule reports).refusal
  set_told = subst Told (sym set-refusal) (ask_told q.k k rule)

  pub set_few : (set_in q k rule reports).steps ≤ 256
  set_few = go (tested (eqb (ask_refusal q.k k rule) 0))
    where
      go : Tested (eqb (ask_refusal q.k k rule) 0) → (set_in q k rule reports).steps ≤ 256
      go (passed t) = subst (λ (s : Seated). s.steps ≤ 256) (sym (set-taken t)) (among_few (asked k rule [] 0) reports)
      go (failed t) = subst (λ (s : Seated). s.steps ≤ 256) (sym (set-refused t)) (omega arith)

  -- A refused question leaves the slot.
  pub set_kept : ((set_in q k rule reports).refusal ≡ 0 → ⊥) → (set_in q k rule reports).question ≡ q
  set_kept n = ap (λ (s : Seated). s.question) (set-refused (ne_eqb (ask_refusal q.k k rule) 0 (λ e. n (set-refusal ∙ e))))

  module _ (free : (set_in q k rule reports).refusal ≡ 0) where
    -- What can be set, and where.
    pub set_asks : Asks k rule × (q.k ≡ 0)
    set_asks =
        let used : ℕ = cond (eqb q.k 0) 0 16 in
        let tied : ℕ = cond (ties_known rule) used 33 in
        let ranged : ℕ = cond (ranges_proper rule) tied 30 in
        let r2 = no_refusal (leb 1 k && leb k 16) (cond (weights_fit rule) ranged 15) 13 (sym set-refusal ∙ free) in
        let r3 = no_refusal (weights_fit rule) ranged 14 r2.1 in
        let r4 = no_refusal (ranges_proper rule) tied 29 r3.1 in
        let r5 = no_refusal (ties_known rule) used 32 r4.1 in
        let ks = and_both (leb 1 k) (leb k 16) r2.0 in (
          record { positive = leb-true 1 k ks.0; small = leb-true k 16 ks.1; rule_fits = fit_all rule r3.0 r4.0 r5.0 },
          eqb-true q.k 0 (no_refusal (eqb q.k 0) 0 15 r5.1).0,
        )

    -- Rule 6.5: a question that is set is searched.
    pub set-searched : set_in q k rule reports ≡ record { refusal = 0; steps = (searched_among (asked k rule [] 0) reports).steps; question = (searched_among (asked k rule [] 0) reports).question }
    set-searched = set-taken (eq-eqb (ask_refusal q.k k rule) 0 (sym set-refusal ∙ free))

-- Over the rows of a fit window.
pub set_stands : (w : Window) → fit_window w ≡ true → (q : Question) (k : ℕ) (rule : Rule) → (set_in q k rule (in_rows w)).refusal ≡ 0 → Stands (held_reports w) (set_in q k rule (in_rows w)).question
set_stands w fit q k rule free =
    let asks = (set_asks q k rule (in_rows w) free).0 in
    subst (Stands (held_reports w))
    (sym (ap (λ (s : Seated). s.question) (set-searched q k rule (in_rows w) free) ∙ ap (λ (r : Searched). r.question) (among_held w fit (asked k rule [] 0) asks.small)))
    (search_stands w fit (asked k rule [] 0) asks)

module _ (q : Question) where
  pub empty_told : Told (empty_refusal q.k)
  empty_told = told_if (eqb q.k 0) (told_of SlotEmpty) told_none

  pub read_told : Told (read_in q).refusal
  unfolding read_in
  read_told = either (λ (r : Shown). Told r.refusal) (eqb q.k 0) (λ t. told_of SlotEmpty) (λ t. told_none)

  -- An empty slot that is to be removed stays.
  pub emptied_kept : (empty_refusal q.k ≡ 0 → ⊥) → emptied q ≡ q
  unfolding emptied
  emptied_kept n = go (tested (eqb q.k 0)) n
    where
      go : Tested (eqb q.k 0) → (empty_refusal q.k ≡ 0 → ⊥) → emptied q ≡ q
      go (passed t) m = if_so _ _ t
      go (failed t) m = absurd (m (if_not _ _ t))

  -- Rule 6.6: a removed slot is a fresh one.
  pub emptied-fresh : empty_refusal q.k ≡ 0 → emptied q ≡ empty_slot
  unfolding emptied
  emptied-fresh e = go (tested (eqb q.k 0))
    where
      no : ◌≡◌ {A = ℕ} 17 0 → ⊥
      no z = omega arith

      go : Tested (eqb q.k 0) → emptied q ≡ empty_slot
      go (passed t) = absurd (no (sym (if_so _ _ t) ∙ e))
      go (failed t) = if_not _ _ t
