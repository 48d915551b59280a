-- No window has no rows, so that a fresh one of them is refused and leaves this board.
-- Assumes nothing.
use mathlib.Core.Path.{ap, ◌∙◌}
use Rattle.window.specs.Rows.{fresh_window}
use Rattle.board.specs.Work.{empty_board, fresh_board}
use Rattle.board.proofs.Board.none.Goals as goal

pub returns : goal.returns
unfolding fresh_board fresh_window
returns c = c.of.ensures ∙ ap empty_board c.none.ensures
