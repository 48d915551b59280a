use mathlib.Core.Path.{◌≡◌}
use Rattle.lines.specs.Words.{tail_at}
use Rattle.lines.proofs.tail.Given as goal

abbrev pub invariant-loop-i : goal.invariant-loop-i
invariant-loop-i l = l.rest ≡ tail_at l.i l.s
