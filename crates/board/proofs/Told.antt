-- Each call's refusals have their numbers, since each is a refusal of the table.
-- Assumes nothing.
use Prim.Native.Nat.{ℕ}
use lib.Dec.{ltb}
use Rattle.laws.proofs.Tests.{either}
use Rattle.std.specs.Prelude.{Result}
use Rattle.refusal.specs.declared.Refusal.{Refusal}
use Rattle.refusal.specs.declared.Refusal.TheVariants.{NoSuchSlot, WindowOutOfRange}
use Rattle.values.specs.declared.Values.{Values}
use Rattle.ranking.specs.declared.Rule.{Rule}
use Rattle.window.specs.declared.Window.{Window}
use Rattle.window.specs.Rows.{sized, fresh_window, refusal_in}
use Rattle.question.specs.Lines.{in_rows}
use Rattle.slot.specs.Asking.{Shown}
use Rattle.slot.proofs.Refusals.{Told, told_none, told_of}
use Rattle.slot.proofs.Setting as one
use Rattle.board.specs.declared.Board.{Board}
use Rattle.board.specs.Work.{Placed, Removed, Entered, slot_at, fresh_board, set_work, remove_work, read_work, enter_work}
use Rattle.board.proofs.Refusals.{known_number, enter-refusal}
use mathlib.Core.Path.{sym, subst}

pub fresh_told : (n : ℕ) → Told (fresh_board n).refusal
unfolding fresh_board fresh_window
fresh_told n = either (λ (r : Result Window Refusal). Told (refusal_in r)) (sized n) (λ t. told_none) (λ t. told_of WindowOutOfRange)

module _ (b : Board) where
  pub set_told : (slot k : ℕ) (rule : Rule) → Told (set_work b slot k rule).refusal
  unfolding set_work
  set_told slot k rule = either (λ (r : Placed). Told r.refusal) (ltb slot 32) (λ t. one.set_told (slot_at b slot) k rule (in_rows b.window)) (λ t. told_of NoSuchSlot)

  pub remove_told : (slot : ℕ) → Told (remove_work b slot).refusal
  unfolding remove_work
  remove_told slot = either (λ (r : Removed). Told r.refusal) (ltb slot 32) (λ t. one.empty_told (slot_at b slot)) (λ t. told_of NoSuchSlot)

  pub read_told : (slot : ℕ) → Told (read_work b slot).refusal
  unfolding read_work
  read_told slot = either (λ (r : Shown). Told r.refusal) (ltb slot 32) (λ t. one.read_told (slot_at b slot)) (λ t. told_of NoSuchSlot)

  pub enter_told : (v : Values) → Told (enter_work b v).refusal
  enter_told v = subst Told (sym (enter-refusal b v)) (known_number b.window.counts v)
