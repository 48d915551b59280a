-- `journal::Log::remove_item` meets its contract: the board answers the refusal, or is left without the slot.
-- Assumes nothing.
use Rattle.board.specs.declared.Board.{Board}
use Rattle.board.proofs.Told.{remove_told}
use Rattle.journal.specs.Log.{no_text, with_board, remove_item}
use Rattle.journal.proofs.Calls.{answer_refuses, answer_does, silent}
use borrow.Author.Rules.{rules}
use Rattle.journal.proofs.Log.remove_item.Goals as goal

pub returns-in-Ok : goal.returns-in-Ok
unfolding remove_item
returns-in-Ok c =
    answer_does c.args.self (λ (b : Board). no_text (with_board c.args.self b)) _ _ c.in-Ok.ensures (silent c.args.out.now c.args.at _ (search rules) c.with_board.ensures)

pub returns-in-Err : goal.returns-in-Err
unfolding remove_item
returns-in-Err c = answer_refuses c.args.self _ _ _ (remove_told c.args.self.board c.args.slot) c.in-Err.ensures c.number.ensures c.refused.ensures
