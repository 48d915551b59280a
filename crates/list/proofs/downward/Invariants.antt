use Prim.Native.Nat.{◌-◌, ◌≤◌}
use Rattle.window.specs.Rows.{standing}
use Rattle.list.specs.Rows.{rows_in}
use Rattle.list.proofs.Gathering.{with_rows, Pass}
use Rattle.list.proofs.downward.Given as goal

abbrev pub invariant-loop-row : goal.invariant-loop-row
invariant-loop-row l =
    (l.low ≤ l.row) × Pass l.rule l.most (with_rows (rows_in l.rows) l.row (l.high - l.row) (standing (rows_in l.rows) l.low)) l.found l.by l.len l.bar l.least
