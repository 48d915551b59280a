use mathlib.Core.Path.{◌≡◌}
use lib.Seq.{sets}
use Rattle.bench.specs.Bench.{packets_from, frame_bytes}
use Rattle.bench.proofs.put_packets.Given as goal

abbrev pub invariant-loop-sent : goal.invariant-loop-sent
invariant-loop-sent l = l.room ≡ sets l.initial.room 12 (frame_bytes (packets_from l.sender l.p 1 l.sent))
