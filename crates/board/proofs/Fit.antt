-- A fit reached board stays fit under setting, removing and entering, so that only a search that is begun and stepped by hand makes one unfit: each slot that a call writes is
-- empty, or has the list and marks that a search or an entry leaves.
-- Assumes nothing.
use mathlib.Core.Path.{◌≡◌, sym, ap, ◌∙◌, subst}
use mathlib.Core.Logic.{⊎_elim}
use mathlib.Core.Bool.{true}
use mathlib.Core.List.Memᴰ
use mathlib.Core.List.{List, map}
use Prim.Native.Nat.{ℕ, ◌<◌}
use native.Mathlib.Omega.{arith}
use borrow.Author.Tests.{eqb-true, eqb-false, ltb-true, ltb-false}
use lib.Dec.{eqb, ltb}
use lib.ListN.{set}
use Rattle.laws.specs.Lists.{◌∈◌}
use Rattle.values.specs.declared.Values.{Values}
use Rattle.ranking.specs.declared.Rule.{Rule}
use Rattle.laws.proofs.Tests.{Tested, passed, failed, tested, and_both, and_true, if_so, if_not}
use Rattle.laws.proofs.Lists.{get_d_in}
use Rattle.window.specs.declared.Window.{Window}
use Rattle.window.specs.Rows.{fit_window, added}
use Rattle.question.specs.declared.Question.{Question}
use Rattle.question.specs.Lines.{in_rows}
use Rattle.list.specs.Lines.{all_of}
use Rattle.list.proofs.Blank.{all_in, all-is}
use Rattle.slot.specs.Asking.{Seated}
use Rattle.slot.specs.Asking.{set_in, empty_refusal, emptied}
use Rattle.slot.specs.Fitness.{slot_fit}
use Rattle.slot.specs.Gauges.{no_question}
use Rattle.slot.proofs.Standing.{Slot, stands, searches, stands_passes, empty-passes, not_searching}
use Rattle.slot.proofs.Standing as state
use Rattle.slot.proofs.Setting.{set_stands, set_kept, emptied_kept, emptied-fresh}
use Rattle.slot.proofs.Turns.{empty_stays}
use Rattle.board.specs.Work.{slot_at, with_slot, new_report, outgoing, turned, enter_refusal, enter_work}
use Rattle.board.specs.Calls.{fit_board, set_call, remove_call, enter_call}
use Rattle.board.specs.declared.Board.{Board}
use Rattle.board.specs.Work.{Placed}
use Rattle.board.specs.Work.{Removed}
use Rattle.board.specs.Work.{Entered}
use Rattle.board.proofs.Refusals.{enterable, Enterable}
use Rattle.board.proofs.Seats.{set_nowhere, set_there, remove_nowhere, remove_there}
use Rattle.board.proofs.Entry.{turned_stands, next-fit}
use Rattle.board.proofs.Kept.{Kept, set_of}

module _ {n : ℕ} {past : List Values} (b : Board) (kept : Kept n past b) (fit : fit_board b ≡ true) where
  window_fit : fit_window b.window ≡ true
  window_fit = kept.since.fit

  every : (q : Question) → q ∈ b.slots → slot_fit b.window q ≡ true
  unfolding fit_board
  every = all_in (slot_fit b.window) b.slots (and_both (fit_window b.window) (all_of (slot_fit b.window) b.slots) fit).1

  with_slot_fit : (i : ℕ) (q : Question) → slot_fit b.window q ≡ true → fit_board (with_slot b i q) ≡ true
  unfolding fit_board
  with_slot_fit i q p =
      and_true window_fit
      (all-is (slot_fit b.window) (set b.slots i q)
      (λ z m. ⊎_elim (λ e. ap (slot_fit b.window) e ∙ p) (λ t. every z t) (set_of b.slots i q m)))

  slot_passes : (slot : ℕ) → slot < 32 → slot_fit b.window (slot_at b slot) ≡ true
  slot_passes slot h = every (slot_at b slot) (get_d_in no_question b.slots slot (omega (arith, kept.many)))

  set-passes : (slot k : ℕ) (rule : Rule) → slot < 32 → slot_fit b.window (set_in (slot_at b slot) k rule (in_rows b.window)).question ≡ true
  set-passes slot k rule h = go (tested (eqb seated.refusal 0))
    where
      seated : Seated
      seated = set_in (slot_at b slot) k rule (in_rows b.window)

      go : Tested (eqb seated.refusal 0) → slot_fit b.window seated.question ≡ true
      go (passed t) = stands_passes b.window window_fit seated.question (set_stands b.window window_fit (slot_at b slot) k rule (eqb-true seated.refusal 0 t))
      go (failed t) = ap (slot_fit b.window) (set_kept (slot_at b slot) k rule (in_rows b.window) (eqb-false seated.refusal 0 t)) ∙ slot_passes slot h

  pub fit-set : (slot k : ℕ) (rule : Rule) → fit_board (set_call b slot k rule).board ≡ true
  unfolding set_call
  fit-set slot k rule = go (tested (ltb slot 32))
    where
      P : Placed → Type 0
      P r = fit_board r.board ≡ true

      go : Tested (ltb slot 32) → fit_board (set_call b slot k rule).board ≡ true
      go (failed t) = subst P (sym (if_so _ _ fit ∙ set_nowhere b slot k rule (ltb-false slot 32 t))) fit
      go (passed t) =
          let h = ltb-true slot 32 t in
          subst P (sym (if_so _ _ fit ∙ set_there b slot k rule h)) (with_slot_fit slot (set_in (slot_at b slot) k rule (in_rows b.window)).question (set-passes slot k rule h))

  removed_passes : (slot : ℕ) → slot < 32 → slot_fit b.window (emptied (slot_at b slot)) ≡ true
  removed_passes slot h = go (tested (eqb (empty_refusal (slot_at b slot).k) 0))
    where
      go : Tested (eqb (empty_refusal (slot_at b slot).k) 0) → slot_fit b.window (emptied (slot_at b slot)) ≡ true
      go (passed t) = ap (slot_fit b.window) (emptied-fresh (slot_at b slot) (eqb-true (empty_refusal (slot_at b slot).k) 0 t)) ∙ empty-passes b.window
      go (failed t) = ap (slot_fit b.window) (emptied_kept (slot_at b slot) (eqb-false (empty_refusal (slot_at b slot).k) 0 t)) ∙ slot_passes slot h

  pub fit-remove : (slot : ℕ) → fit_board (remove_call b slot).board ≡ true
  unfolding remove_call
  fit-remove slot = go (tested (ltb slot 32))
    where
      P : Removed → Type 0
      P r = fit_board r.board ≡ true

      go : Tested (ltb slot 32) → fit_board (remove_call b slot).board ≡ true
      go (failed t) = subst P (sym (if_so _ _ fit ∙ remove_nowhere b slot (ltb-false slot 32 t))) fit
      go (passed t) =
          let h = ltb-true slot 32 t in
          subst P (sym (if_so _ _ fit ∙ remove_there b slot h)) (with_slot_fit slot (emptied (slot_at b slot)) (removed_passes slot h))

  entered-fit : (v : Values) → Enterable b.window.counts v
      → fit_board (record { window = added b.window v; slots = map (λ q. (turned b.window v q).question) b.slots }) ≡ true
  unfolding fit_board
  entered-fit v may =
      and_true after-fit
      (all-is (slot_fit after) (map (λ q. (turned b.window v q).question) b.slots)
      (λ z m.
      let r = Memᴰ.of_map (λ q. (turned b.window v q).question) b.slots m in
      ap (slot_fit after) (sym r.2) ∙ go r.0 (every r.0 r.1) (kept.each r.0 r.1)))
    where
      after : Window
      after = added b.window v

      after-fit : fit_window (added b.window v) ≡ true
      after-fit = next-fit b.window window_fit kept.since.whole v may.permitted may.room

      go : (q : Question) → slot_fit b.window q ≡ true → Slot b.window q → slot_fit after (turned b.window v q).question ≡ true
      go q p (state.empty e) =
          ap (λ x. slot_fit after (turned b.window v x).question) e
          ∙ ap (λ r. slot_fit after r.question) (empty_stays (new_report b.window v) (outgoing b.window) (in_rows (added b.window v)))
          ∙ empty-passes after
      go q p (stands x) = stands_passes after after-fit (turned b.window v q).question (turned_stands b.window window_fit kept.since.whole v may.permitted may.room q x)
      go q p (searches x) = absurd (not_searching b.window window_fit q p x)

  pub fit-enter : (v : Values) → fit_board (enter_call b v).board ≡ true
  unfolding enter_call enter_work
  fit-enter v = go (tested (eqb (enter_refusal b.window.counts v) 0))
    where
      P : Entered → Type 0
      P r = fit_board r.board ≡ true

      go : Tested (eqb (enter_refusal b.window.counts v) 0) → fit_board (enter_call b v).board ≡ true
      go (failed t) = subst P (sym (if_so _ _ fit ∙ if_not _ _ t)) fit
      go (passed t) = subst P (sym (if_so _ _ fit ∙ if_so _ _ t)) (entered-fit v (enterable b.window.counts v (eqb-true (enter_refusal b.window.counts v) 0 t)))
