use mathlib.Core.Path.{◌≡◌}
use lib.ListN.{drop}
use Rattle.lines.specs.Numbers.{number_on}
use Rattle.lines.proofs.number.Given as goal

abbrev pub invariant-loop-b : goal.invariant-loop-b
invariant-loop-b l = number_on l.base l.most 0 l.s ≡ number_on l.base l.most l.n (drop l.b-index l.s)
