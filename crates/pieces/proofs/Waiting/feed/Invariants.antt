use mathlib.Core.Path.{◌≡◌}
use Prim.Native.Nat.{◌-◌, ◌≤◌}
use lib.ListN.{length}
use Rattle.pieces.proofs.Feeding.{Ran}
use Rattle.pieces.proofs.Waiting.feed.Given as goal

abbrev pub invariant-loop-next : goal.invariant-loop-next
invariant-loop-next l =
    (l.i ≤ length l.piece) × (length l.out ≡ length l.initial.out) × (length l.next.bytes ≡ 19) × Ran l.initial.left l.initial.next l.piece l.initial.out l.i l.left l.next l.at l.out

abbrev pub decreases-loop-next : goal.decreases-loop-next
decreases-loop-next l = length l.piece - l.i
