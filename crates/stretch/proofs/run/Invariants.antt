use Prim.Native.Nat.{◌-◌}
use lib.ListN.{length}
use Rattle.times.specs.Run.{stations_in}
use Rattle.stretch.proofs.Times.{Due}
use Rattle.stretch.proofs.Stands.{Stands, Turns, log_of}
use Rattle.stretch.specs.Inner.{window_of}
use Rattle.stretch.proofs.run.Given as goal

abbrev pub invariant-loop-slot : goal.invariant-loop-slot
invariant-loop-slot l =
    Turns l.brought (window_of l.counts l.rows) l.items l.filled l.initial.slots l.used l.initial.out l.initial.at l.slot l.slots l.gauges l.at l.out

abbrev pub decreases-loop-slot : goal.decreases-loop-slot
decreases-loop-slot l = l.used - l.slot

abbrev pub invariant-loop-gauges : goal.invariant-loop-gauges
invariant-loop-gauges l =
    Stands (log_of l.initial.items (window_of l.initial.counts l.initial.rows) l.initial.slots (stations_in l.initial.bus l.initial.times)) l.bytes l.initial.out l.initial.at l.items (window_of l.counts l.rows) l.filled l.slots l.gauges l.used l.bus l.times l.i l.at l.out × Due l.i l.begun.last

abbrev pub decreases-loop-gauges : goal.decreases-loop-gauges
decreases-loop-gauges l = length l.bytes - l.i
