use Rattle.window.specs.Rows.{report_at, standing}
use Rattle.list.specs.Rows.{rows_in}
use Rattle.board.proofs.Filling.{Turns}
use Rattle.board.proofs.Board.entering.Given as goal

abbrev pub invariant-loop-i : goal.invariant-loop-i
invariant-loop-i l =
    Turns (report_at l.row) l.fn.self.slots l.gone (standing (rows_in l.window.rows) 1024) l.i l.slots l.steps
