use mathlib.Core.Path.{◌≡◌}
use lib.ListN.{length, take}
use Rattle.bus.specs.Room.{first_sessions_in}
use Rattle.bus.proofs.Bus.read.Given as goal

abbrev pub invariant-loop-k : goal.invariant-loop-k
invariant-loop-k l = (length l.session-items ≡ 254) × (take l.k l.session-items ≡ first_sessions_in l.k l.room)
