use mathlib.Core.Path.{◌≡◌}
use Prim.Native.Nat.{◌*◌}
use lib.ListN.{length, take}
use lib.Seq.{sets}
use Rattle.bus.specs.Room.{room_of}
use Rattle.bus.proofs.Places.{Sized}
use Rattle.bus.proofs.fill_in.Given as goal

abbrev pub invariant-loop-k : goal.invariant-loop-k
invariant-loop-k l = (length (room_of (take l.k l.session-items)) ≡ 92 * l.k) × (l.room ≡ sets l.initial.room 0 (room_of (take l.k l.session-items))) × Sized (take l.k l.session-items)
