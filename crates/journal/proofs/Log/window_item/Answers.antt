-- `journal::Log::window_item` meets its contract: the fresh board answers the refusal, or is the log's.
-- Assumes nothing.
use Rattle.board.specs.declared.Board.{Board}
use Rattle.board.proofs.Told.{fresh_told}
use Rattle.journal.specs.Log.{no_text, with_board, window_item}
use Rattle.journal.proofs.Calls.{answer_refuses, answer_does, silent}
use borrow.Author.Rules.{rules}
use Rattle.journal.proofs.Log.window_item.Goals as goal

pub returns-in-Ok : goal.returns-in-Ok
unfolding window_item
returns-in-Ok c =
    answer_does c.args.self (λ (b : Board). no_text (with_board c.args.self b)) _ _ c.in-Ok.ensures (silent c.args.out.now c.args.at _ (search rules) c.with_board.ensures)

pub returns-in-Err : goal.returns-in-Err
unfolding window_item
returns-in-Err c = answer_refuses c.args.self _ _ _ (fresh_told c.args.size) c.in-Err.ensures c.number.ensures c.refused.ensures
