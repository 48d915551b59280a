use Rattle.window.specs.Rows.{standing}
use Rattle.list.specs.Rows.{rows_in}
use Rattle.list.proofs.Gathering.{Pass}
use Rattle.list.proofs.upward.Given as goal

abbrev pub invariant-loop-row : goal.invariant-loop-row
invariant-loop-row l =
    Pass l.rule l.most (standing (rows_in l.rows) l.row) l.found l.by l.len l.bar l.least
