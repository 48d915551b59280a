use mathlib.Core.Path.{◌≡◌}
use Prim.Native.Nat.{◌≤◌}
use Rattle.list.proofs.Sliding.{opened}
use Rattle.list.proofs.slide.Given as goal

abbrev pub invariant-loop-i : goal.invariant-loop-i
invariant-loop-i l =
    (l.at ≤ l.i) × (l.i ≤ l.last) × (l.names ≡ opened l.i l.last l.initial.names) × (l.scores ≡ opened l.i l.last l.initial.scores)
