use mathlib.Core.Path.{◌≡◌}
use Prim.Native.Nat.{◌+◌, ◌*◌, ◌≤◌, ◌<◌}
use Rattle.ranking.specs.Inner.{met_row}
use Rattle.ranking.specs.declared.Rule.{Rule}
use Rattle.ranking.proofs.Columns.{Along}
use Rattle.ranking.proofs.Rule.row_met.Given as goal

abbrev pub invariant-loop-column : goal.invariant-loop-column
invariant-loop-column l =
    (l.initial.column ≤ l.column) × (l.column ≤ l.column-end) × (l.column-end ≤ 16) × (l.row < 16) × (l.found.cells ≤ 16 * l.row + l.column)
    × ((rule : Rule) → Along l.row l.across l.part l.initial.column l.column-end rule → l.found ≡ met_row rule l.score l.initial.found l.row l.column)
