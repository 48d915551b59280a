-- On a board that is known to be fit the calls without the check answer the same: the check is all that a door adds.
-- Assumes nothing.
use mathlib.Core.Path.{◌≡◌}
use mathlib.Core.Bool.{true}
use Prim.Native.Nat.{ℕ}
use Rattle.values.specs.declared.Values.{Values}
use Rattle.ranking.specs.declared.Rule.{Rule}
use Rattle.laws.proofs.Tests.{if_so}
use Rattle.board.specs.Work.{set_work, remove_work, read_work, enter_work}
use Rattle.board.specs.Calls.{fit_board, set_call, remove_call, read_call, enter_call}
use Rattle.board.specs.declared.Board.{Board}

module _ (b : Board) (fit : fit_board b ≡ true) where
  pub set_known : (slot k : ℕ) (rule : Rule) → set_call b slot k rule ≡ set_work b slot k rule
  unfolding set_call
  set_known slot k rule = if_so _ _ fit

  pub remove_known : (slot : ℕ) → remove_call b slot ≡ remove_work b slot
  unfolding remove_call
  remove_known slot = if_so _ _ fit

  pub read_known : (slot : ℕ) → read_call b slot ≡ read_work b slot
  unfolding read_call
  read_known slot = if_so _ _ fit

  pub enter_known : (v : Values) → enter_call b v ≡ enter_work b v
  unfolding enter_call
  enter_known v = if_so _ _ fit
