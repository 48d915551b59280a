use mathlib.Core.Path.{◌≡◌}
use Prim.Native.Nat.{◌*◌, ◌%◌}
use lib.ListN.{length, drop}
use Rattle.capture.specs.Capture.{hex_in}
use Rattle.capture.proofs.hexadecimal.Given as goal

abbrev pub invariant-loop-k : goal.invariant-loop-k
invariant-loop-k l = hex_in (drop (2 * l.k) l.s) ≡ hex_in l.s
