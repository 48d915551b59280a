use mathlib.Core.Path.{◌≡◌}
use lib.ListN.{take}
use Rattle.slot.specs.Gauges.{lowest}
use Rattle.slot.proofs.gauge.lowest.Given as goal

abbrev pub invariant-loop-name : goal.invariant-loop-name
invariant-loop-name l = l.low ≡ lowest (take l.name-index l.name-items)
