use mathlib.Core.Path.{◌≡◌}
use Prim.Native.Nat.{◌+◌, ◌-◌, ◌*◌}
use Rattle.std.proofs.lemmas.List.Edits.{sets}
use Rattle.dump.specs.Dump.{pairs_in}
use Rattle.dump.proofs.put_pairs.Given as goal

abbrev pub invariant-loop-i : goal.invariant-loop-i
invariant-loop-i l = sets l.room (l.at + 2 * l.i) (pairs_in l.f (2 + l.i) (l.k - l.i)) ≡ sets l.fn.room l.at (pairs_in l.f 2 l.k)
