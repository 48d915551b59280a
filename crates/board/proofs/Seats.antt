-- Setting, removing and reading touch one slot: a board answers 13, or what the slot answers, and is left with what that slot holds then.
-- Assumes nothing.
use mathlib.Core.Path.{◌≡◌, refl, sym, ap, ◌∙◌}
use Rattle.std.specs.Prelude.{Result, Ok, Err}
use Rattle.refusal.specs.declared.Refusal.{Refusal}
use Rattle.refusal.specs.Answers.{answered}
use Rattle.refusal.proofs.Answers.{taken, taken_number, refused_alike}
use Rattle.question.specs.declared.Searched.{Searched}
use Rattle.slot.specs.Answers.{seated_answer}
use Rattle.board.specs.Answers.{placed_answer, removed_answer}
use Rattle.board.proofs.Refusals.{taken_through}
use Prim.Native.Nat.{ℕ, ◌≤◌, ◌<◌}
use native.Mathlib.Omega.{arith}
use borrow.Author.Tests.{ltb-true, lt-ltb, le-ltb, ltb-false}
use lib.Dec.{ltb}
use lib.Seq.{set-get_or}
use Rattle.ranking.specs.declared.Rule.{Rule}
use Rattle.laws.proofs.Tests.{Tested, passed, failed, tested}
use Rattle.window.specs.Rows.{standing}
use Rattle.question.specs.declared.Question.{Question}
use Rattle.list.specs.Rows.{rows_in}
use Rattle.question.specs.Lines.{in_rows}
use Rattle.laws.proofs.Tests.{if_so, if_not}
use Rattle.slot.specs.Asking.{Seated}
use Rattle.slot.specs.Asking.{set_in, empty_refusal, emptied, not_shown, read_in}
use Rattle.slot.specs.Gauges.{no_question}
use Rattle.slot.proofs.Standing.{Asks}
use Rattle.slot.proofs.Setting as one
use Rattle.slot.proofs.Turns.{rows_alone}
use Rattle.board.specs.Work.{slot_at, with_slot, set_work, remove_work, read_work}
use Rattle.board.specs.declared.Board.{Board}
use Rattle.board.specs.Work.{Placed}
use Rattle.board.specs.Work.{Removed}

not_13 : ◌≡◌ {A = ℕ} 13 0 → ⊥
not_13 z = omega arith

module _ (b : Board) (slot : ℕ) where
  same_slot : with_slot b slot (slot_at b slot) ≡ b
  same_slot = λ i. record { window = b.window; slots = set-get_or b.slots slot no_question i }

  same_with : {q : Question} → q ≡ slot_at b slot → with_slot b slot q ≡ b
  same_with e = ap (with_slot b slot) e ∙ same_slot

  -- ---- setting

  module _ (k : ℕ) (rule : Rule) where
    abbrev seated : Seated
    seated = set_in (slot_at b slot) k rule (in_rows b.window)

    pub set_nowhere : 32 ≤ slot → set_work b slot k rule ≡ record { refusal = 13; steps = 0; board = b }
    unfolding set_work
    set_nowhere h = if_not _ _ (le-ltb slot 32 h)

    pub set_there : slot < 32 → set_work b slot k rule ≡ record { refusal = seated.refusal; steps = seated.steps; board = with_slot b slot seated.question }
    unfolding set_work
    set_there h = if_so _ _ (lt-ltb slot 32 h)

    -- The same, of a slot that was handed the window's rows.
    pub set_seated : slot < 32 → {s : Seated} → s ≡ set_in (slot_at b slot) k rule (standing (rows_in b.window.rows) 1024)
        → set_work b slot k rule ≡ record { refusal = s.refusal; steps = s.steps; board = with_slot b slot s.question }
    unfolding in_rows
    set_seated h e =
        set_there h
        ∙ sym (ap (λ (t : Seated). record { refusal = t.refusal; steps = t.steps; board = with_slot b slot t.question }) (e ∙ ap (set_in (slot_at b slot) k rule) (rows_alone b.window 1024)))

    -- What is answered where the slot refuses it, and where it doesn't.
    pub set_refused : slot < 32 → {e : Refusal} → Err e ≡ seated_answer (set_in (slot_at b slot) k rule (standing (rows_in b.window.rows) 1024)) → Err e ≡ placed_answer (set_work b slot k rule)
    set_refused h a = refused_alike _ _ _ a ∙ ap placed_answer (sym (set_seated h refl))

    pub set_taken : slot < 32 → {f : Searched} → Ok f ≡ seated_answer (set_in (slot_at b slot) k rule (standing (rows_in b.window.rows) 1024))
        → Ok (record { steps = f.steps; board = with_slot b slot f.question }) ≡ placed_answer (set_work b slot k rule)
    set_taken h a =
        taken_through (λ (g : Searched). record { steps = g.steps; board = with_slot b slot g.question }) _ _ a
        ∙ ap placed_answer (sym (set_seated h refl))

    -- A refused question leaves the board.
    pub set_kept : ((set_work b slot k rule).refusal ≡ 0 → ⊥) → (set_work b slot k rule).board ≡ b
    set_kept n = go (tested (ltb slot 32))
      where
        go : Tested (ltb slot 32) → (set_work b slot k rule).board ≡ b
        go (failed t) = ap (λ (r : Placed). r.board) (set_nowhere (ltb-false slot 32 t))
        go (passed t) =
            let is = set_there (ltb-true slot 32 t) in
            ap (λ (r : Placed). r.board) is ∙ same_with (one.set_kept (slot_at b slot) k rule (in_rows b.window) (λ e. n (ap (λ (r : Placed). r.refusal) is ∙ e)))

    -- A question that can be set.
    pub record Settable : Type 0 where
      pub there : slot < 32
      pub taken : seated.refusal ≡ 0
      pub asks : Asks k rule
      pub free : (slot_at b slot).k ≡ 0

    pub settable : (set_work b slot k rule).refusal ≡ 0 → Settable
    settable e = go (tested (ltb slot 32))
      where
        go : Tested (ltb slot 32) → Settable
        go (failed t) = absurd (not_13 (sym (ap (λ (r : Placed). r.refusal) (set_nowhere (ltb-false slot 32 t))) ∙ e))
        go (passed t) =
            let h = ltb-true slot 32 t in
            let free = sym (ap (λ (r : Placed). r.refusal) (set_there h)) ∙ e in
            let may = one.set_asks (slot_at b slot) k rule (in_rows b.window) free in
            record { there = h; taken = free; asks = may.0; free = may.1 }

  -- ---- removing

  pub remove_nowhere : 32 ≤ slot → remove_work b slot ≡ record { refusal = 13; board = b }
  unfolding remove_work
  remove_nowhere h = if_not _ _ (le-ltb slot 32 h)

  pub remove_there : slot < 32 → remove_work b slot ≡ record { refusal = empty_refusal (slot_at b slot).k; board = with_slot b slot (emptied (slot_at b slot)) }
  unfolding remove_work
  remove_there h = if_so _ _ (lt-ltb slot 32 h)

  -- What is answered where the slot is empty, and where it isn't.
  pub remove_refused : slot < 32 → {e : Refusal} → ◌≡◌ {A = Result (Unit {0}) Refusal} (Err e) (answered (empty_refusal (slot_at b slot).k) tt) → Err e ≡ removed_answer (remove_work b slot)
  remove_refused h a = refused_alike _ (tt {0}) _ a ∙ ap removed_answer (sym (remove_there h))

  pub remove_taken : slot < 32 → ◌≡◌ {A = Result (Unit {0}) Refusal} (Ok tt) (answered (empty_refusal (slot_at b slot).k) tt) → Ok (with_slot b slot (emptied (slot_at b slot))) ≡ removed_answer (remove_work b slot)
  remove_taken h a = taken _ _ (taken_number _ (tt {0}) a) ∙ ap removed_answer (sym (remove_there h))

  -- A refused removal leaves the board.
  pub remove_kept : ((remove_work b slot).refusal ≡ 0 → ⊥) → (remove_work b slot).board ≡ b
  remove_kept n = go (tested (ltb slot 32))
    where
      go : Tested (ltb slot 32) → (remove_work b slot).board ≡ b
      go (failed t) = ap (λ (r : Removed). r.board) (remove_nowhere (ltb-false slot 32 t))
      go (passed t) =
          let is = remove_there (ltb-true slot 32 t) in
          ap (λ (r : Removed). r.board) is ∙ same_with (one.emptied_kept (slot_at b slot) (λ e. n (ap (λ (r : Removed). r.refusal) is ∙ e)))

  -- A slot that can be removed.
  pub removable : (remove_work b slot).refusal ≡ 0 → (slot < 32) × (empty_refusal (slot_at b slot).k ≡ 0)
  removable e = go (tested (ltb slot 32))
    where
      go : Tested (ltb slot 32) → (slot < 32) × (empty_refusal (slot_at b slot).k ≡ 0)
      go (failed t) = absurd (not_13 (sym (ap (λ (r : Removed). r.refusal) (remove_nowhere (ltb-false slot 32 t))) ∙ e))
      go (passed t) = let h = ltb-true slot 32 t in (h, sym (ap (λ (r : Removed). r.refusal) (remove_there h)) ∙ e)

  -- ---- reading

  pub read_nowhere : 32 ≤ slot → read_work b slot ≡ not_shown 13
  unfolding read_work
  read_nowhere h = if_not _ _ (le-ltb slot 32 h)

  pub read_there : slot < 32 → read_work b slot ≡ read_in (slot_at b slot)
  unfolding read_work
  read_there h = if_so _ _ (lt-ltb slot 32 h)
