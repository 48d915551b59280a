-- What holds of every reached board: its window holds the latest reports, and each slot is empty, has the true list, or is in the middle of its search. Each call keeps it.
-- Assumes nothing.
use mathlib.Core.Path.{◌≡◌, refl, sym, ap, ◌∙◌, subst}
use mathlib.Core.Logic.{◌⊎◌, inl, inr, ⊎_elim}
use mathlib.Core.Bool.{true}
use mathlib.Core.List.Memᴰ
use mathlib.Core.List.{List, [], ◌∷◌, ◌++◌, map}
use Prim.Native.Nat.{ℕ, zero, suc, ◌<◌}
use native.Mathlib.Omega.{arith}
use borrow.Author.Tests.{eqb-true, eqb-false, ltb-true, ltb-false}
use lib.Dec.{eqb, ltb}
use lib.ListN.{length, set, replicate, length-set, length-map}
use Rattle.laws.specs.Lists.{◌∈◌}
use Rattle.values.specs.declared.Values.{Values}
use Rattle.ranking.specs.declared.Rule.{Rule}
use Rattle.laws.proofs.Tests.{Tested, passed, failed, tested, and_both, if_so, if_not}
use Rattle.laws.proofs.Lists.{there, get_d_in}
use Rattle.window.specs.Rows.{sized, fresh_window, refusal_in, window_in, fit_window, added}
use Rattle.window.proofs.History.{Since, since-fresh, since-added}
use Rattle.question.specs.declared.Question.{Question}
use Rattle.question.specs.Lines.{empty_slot, in_rows}
use Rattle.list.specs.Lines.{all_of}
use Rattle.question.specs.Calls.{step_call, begin_call}
use Rattle.list.proofs.Blank.{all_in}
use Rattle.slot.specs.Asking.{Seated}
use Rattle.slot.specs.Asking.{set_in, empty_refusal, emptied}
use Rattle.slot.specs.Fitness.{slot_fit}
use Rattle.slot.specs.Gauges.{no_question}
use Rattle.slot.proofs.Standing.{Slot, stands, searches, step_slot, begin_slot, not_searching}
use Rattle.slot.proofs.Standing as state
use Rattle.slot.proofs.Setting.{set_stands, set_kept, emptied_kept, emptied-fresh}
use Rattle.slot.proofs.Turns.{empty_stays}
use Rattle.board.specs.Work.{slot_at, with_slot, fresh_board, new_report, outgoing, turned, enter_refusal, enter_work}
use Rattle.board.specs.Calls.{fit_board, set_call, remove_call, enter_call}
use Rattle.board.specs.Reached.{past_after, Reached, fresh, remove, enter, begin, step}
use Rattle.board.specs.Reached as reach
use Rattle.board.specs.declared.Board.{Board}
use Rattle.board.specs.Work.{Placed}
use Rattle.board.specs.Work.{Removed}
use Rattle.board.specs.Work.{Entered}
use Rattle.board.proofs.Refusals.{Enterable, enterable}
use Rattle.board.proofs.Seats.{set_nowhere, set_there, remove_nowhere, remove_there}
use Rattle.board.proofs.Entry.{turned_stands}

pub record Kept (n : ℕ) (past : List Values) (b : Board) : Type 0 where
  pub since : Since n past b.window
  pub many : length b.slots ≡ 32
  pub each : (q : Question) → q ∈ b.slots → Slot b.window q

-- ---- lists

pub set_of : {A : Type 0} (l : List A) (i : ℕ) (x : A) {z : A} → z ∈ set l i x → (z ≡ x) ⊎ (z ∈ l)
set_of [] i x m = inr m
set_of (y ∷ l) zero x m = ⊎_elim (λ e. inl e) (λ k. inr (there k)) (Memᴰ.cases_cons m)
set_of (y ∷ l) (suc i) x m = ⊎_elim (λ e. inr (Memᴰ.head e)) (λ k. ⊎_elim (λ e. inl e) (λ t. inr (there t)) (set_of l i x k)) (Memᴰ.cases_cons m)

replicate_of : {A : Type 0} (n : ℕ) (x : A) {z : A} → z ∈ replicate n x → z ≡ x
replicate_of zero x m = absurd (Memᴰ.not-nil m)
replicate_of (suc n) x m = ⊎_elim (λ e. e) (λ k. replicate_of n x k) (Memᴰ.cases_cons m)

length-replicate : {A : Type 0} (n : ℕ) (x : A) → length (replicate n x) ≡ n
length-replicate zero x = refl
length-replicate (suc n) x = ap suc (length-replicate n x)

-- ---- one slot is written

kept_slot : {n : ℕ} {past : List Values} (b : Board) → Kept n past b → (i : ℕ) (q : Question) → Slot b.window q → Kept n past (with_slot b i q)
kept_slot b k i q s =
    record {
      since = k.since;
      many = length-set b.slots i q ∙ k.many;
      each = λ z m. ⊎_elim (λ e. subst (Slot b.window) (sym e) s) (λ t. k.each z t) (set_of b.slots i q m);
    }

pub slot_of : {n : ℕ} {past : List Values} (b : Board) → Kept n past b → (i : ℕ) → i < 32 → Slot b.window (slot_at b i)
slot_of b k i h = k.each (slot_at b i) (get_d_in no_question b.slots i (omega (arith, k.many)))

-- ---- the calls

module _ {n : ℕ} {past : List Values} (b : Board) (kept : Kept n past b) where
  fit : fit_window b.window ≡ true
  fit = kept.since.fit

  set_slot : (slot k : ℕ) (rule : Rule) → slot < 32 → Slot b.window (set_in (slot_at b slot) k rule (in_rows b.window)).question
  set_slot slot k rule h = go (tested (eqb seated.refusal 0))
    where
      seated : Seated
      seated = set_in (slot_at b slot) k rule (in_rows b.window)

      go : Tested (eqb seated.refusal 0) → Slot b.window seated.question
      go (passed t) = stands (set_stands b.window fit (slot_at b slot) k rule (eqb-true seated.refusal 0 t))
      go (failed t) = subst (Slot b.window) (sym (set_kept (slot_at b slot) k rule (in_rows b.window) (eqb-false seated.refusal 0 t))) (slot_of b kept slot h)

  pub kept_set : (slot k : ℕ) (rule : Rule) → Kept n past (set_call b slot k rule).board
  unfolding set_call
  kept_set slot k rule = go (tested (fit_board b)) (tested (ltb slot 32))
    where
      P : Placed → Type 0
      P r = Kept n past r.board

      go : Tested (fit_board b) → Tested (ltb slot 32) → Kept n past (set_call b slot k rule).board
      go (failed f) t = subst P (sym (if_not _ _ f)) kept
      go (passed f) (failed t) = subst P (sym (if_so _ _ f ∙ set_nowhere b slot k rule (ltb-false slot 32 t))) kept
      go (passed f) (passed t) =
          let h = ltb-true slot 32 t in
          subst P (sym (if_so _ _ f ∙ set_there b slot k rule h)) (kept_slot b kept slot (set_in (slot_at b slot) k rule (in_rows b.window)).question (set_slot slot k rule h))

  removed_slot : (slot : ℕ) → slot < 32 → Slot b.window (emptied (slot_at b slot))
  removed_slot slot h = go (tested (eqb (empty_refusal (slot_at b slot).k) 0))
    where
      go : Tested (eqb (empty_refusal (slot_at b slot).k) 0) → Slot b.window (emptied (slot_at b slot))
      go (passed t) = state.empty (emptied-fresh (slot_at b slot) (eqb-true (empty_refusal (slot_at b slot).k) 0 t))
      go (failed t) = subst (Slot b.window) (sym (emptied_kept (slot_at b slot) (eqb-false (empty_refusal (slot_at b slot).k) 0 t))) (slot_of b kept slot h)

  pub kept_remove : (slot : ℕ) → Kept n past (remove_call b slot).board
  unfolding remove_call
  kept_remove slot = go (tested (fit_board b)) (tested (ltb slot 32))
    where
      P : Removed → Type 0
      P r = Kept n past r.board

      go : Tested (fit_board b) → Tested (ltb slot 32) → Kept n past (remove_call b slot).board
      go (failed f) t = subst P (sym (if_not _ _ f)) kept
      go (passed f) (failed t) = subst P (sym (if_so _ _ f ∙ remove_nowhere b slot (ltb-false slot 32 t))) kept
      go (passed f) (passed t) =
          let h = ltb-true slot 32 t in
          subst P (sym (if_so _ _ f ∙ remove_there b slot h)) (kept_slot b kept slot (emptied (slot_at b slot)) (removed_slot slot h))

  -- Entering, where nothing refuses it.
  kept_entered : (v : Values) → fit_board b ≡ true → enter_refusal b.window.counts v ≡ 0
      → Kept n (past ++ (v ∷ [])) (record { window = added b.window v; slots = map (λ q. (turned b.window v q).question) b.slots })
  unfolding fit_board
  kept_entered v f t =
      let w = b.window in
      let may = enterable w.counts v t in
      let slots_fit = (and_both (fit_window b.window) (all_of (slot_fit b.window) b.slots) f).1 in
      record {
        since = since-added n past w v kept.since may.permitted (omega (arith, may.room, kept.since.all-entered));
        many = length-map b.slots (λ q. (turned w v q).question) ∙ kept.many;
        each = λ z m.
            let r = Memᴰ.of_map (λ q. (turned w v q).question) b.slots m in
            subst (Slot (added w v)) r.2 (go r.0 (all_in (slot_fit w) b.slots slots_fit r.0 r.1) (kept.each r.0 r.1));
      }
    where
      may_enter : Enterable b.window.counts v
      may_enter = enterable b.window.counts v t

      go : (q : Question) → slot_fit b.window q ≡ true → Slot b.window q → Slot (added b.window v) (turned b.window v q).question
      go q s (state.empty e) = state.empty (ap (λ p. (turned b.window v p).question) e ∙ ap (λ r. r.question) (empty_stays (new_report b.window v) (outgoing b.window) (in_rows (added b.window v))))
      go q s (stands x) = stands (turned_stands b.window fit kept.since.whole v may_enter.permitted may_enter.room q x)
      go q s (searches x) = absurd (not_searching b.window fit q s x)

  pub kept_enter : (v : Values) → Kept n (past_after past v (enter_call b v).refusal) (enter_call b v).board
  unfolding enter_call enter_work
  kept_enter v = go (tested (fit_board b)) (tested (eqb (enter_refusal b.window.counts v) 0))
    where
      P : Entered → Type 0
      P r = Kept n (past_after past v r.refusal) r.board

      go : Tested (fit_board b) → Tested (eqb (enter_refusal b.window.counts v) 0) → Kept n (past_after past v (enter_call b v).refusal) (enter_call b v).board
      go (failed f) t = subst P (sym (if_not _ _ f)) kept
      go (passed f) (failed t) = subst P (sym (if_so _ _ f ∙ if_not _ _ t)) (subst (λ l. Kept n l b) (sym (if_not _ _ t)) kept)
      go (passed f) (passed t) = subst P (sym (if_so _ _ f ∙ if_so _ _ t)) (kept_entered v f (eqb-true (enter_refusal b.window.counts v) 0 t))

kept_fresh : (n : ℕ) → (fresh_board n).refusal ≡ 0 → Kept n [] (fresh_board n).board
unfolding fresh_board fresh_window
kept_fresh n e = go (tested (sized n))
  where
    go : Tested (sized n) → Kept n [] (fresh_board n).board
    go (passed t) =
        subst (λ w. Kept n [] (record { window = w; slots = replicate 32 empty_slot })) (sym (ap window_in (if_so _ _ t)))
        (record { since = since-fresh n t; many = length-replicate 32 empty_slot; each = λ q m. state.empty (replicate_of 32 empty_slot m) })
    go (failed t) = absurd (no (sym (ap refusal_in (if_not _ _ t)) ∙ e))
      where
        no : ◌≡◌ {A = ℕ} 18 0 → ⊥
        no z = omega arith

-- Every reached board.
pub kept : {n : ℕ} {past : List Values} {b : Board} → Reached n past b → Kept n past b
kept {n} (fresh e) = kept_fresh n e
kept (reach.set {b} r slot k rule) = kept_set b (kept r) slot k rule
kept (remove {b} r slot) = kept_remove b (kept r) slot
kept (enter {b} r v) = kept_enter b (kept r) v
kept (begin {b} r slot h) = let k = kept r in kept_slot b k slot (begin_call b.window (slot_at b slot)).question (begin_slot b.window k.since.fit (slot_at b slot) (slot_of b k slot h))
kept (step {b} r slot h) = let k = kept r in kept_slot b k slot (step_call b.window (slot_at b slot)).question (step_slot b.window k.since.fit (slot_at b slot) (slot_of b k slot h))
