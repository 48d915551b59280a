use mathlib.Core.Path.{◌≡◌}
use Rattle.slot.specs.Gauges.{in_use}
use Rattle.slot.proofs.gauge.Gauge.in_use.Given as goal

abbrev pub invariant-loop-last : goal.invariant-loop-last
invariant-loop-last l = in_use 32 l.slots ≡ in_use l.last l.slots
