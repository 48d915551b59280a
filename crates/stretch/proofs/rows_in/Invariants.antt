use mathlib.Core.Path.{◌≡◌}
use Rattle.stretch.specs.Inner.{rows_used}
use Rattle.stretch.proofs.rows_in.Given as goal

abbrev pub invariant-loop-at : goal.invariant-loop-at
invariant-loop-at l = rows_used 1024 l.names ≡ rows_used l.at l.names
