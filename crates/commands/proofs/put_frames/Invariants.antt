use mathlib.Core.Path.{◌≡◌}
use Prim.Native.Nat.{◌≤◌, ◌*◌}
use lib.ListN.{length}
use lib.Seq.{sets}
use Rattle.commands.proofs.Writing.{cut}
use Rattle.commands.proofs.put_frames.Given as goal

abbrev pub invariant-loop-i : goal.invariant-loop-i
invariant-loop-i l =
    (l.at ≡ length (cut l.time l.i l.frames)) × (l.at ≤ 19 * l.i) × (l.room ≡ sets l.initial.room 0 (cut l.time l.i l.frames))
