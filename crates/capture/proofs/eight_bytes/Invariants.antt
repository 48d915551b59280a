use mathlib.Core.Path.{◌≡◌}
use Prim.Native.Nat.{◌*◌}
use lib.ListN.{length, drop, replicate}
use lib.Seq.{sets}
use Rattle.capture.specs.Capture.{bytes_in}
use Rattle.capture.proofs.eight_bytes.Given as goal

abbrev pub invariant-loop-k : goal.invariant-loop-k
invariant-loop-k l = (length l.bytes ≡ 8) × (sets l.bytes l.k (bytes_in (drop (2 * l.k) l.s)) ≡ sets (replicate 8 0) 0 (bytes_in l.s))
