-- `bench::put_packets` meets its contract: after each turn one packet more stands behind the announcement.
-- Assumes nothing.
use mathlib.Core.Path.{refl}
use Rattle.bench.specs.Bench.{packets_from, frame_bytes}
use Rattle.bench.proofs.Sending.{packets_more}
use Rattle.bench.proofs.put_packets.Goals as goal

pub loop-sent-init : goal.loop-sent-init
unfolding packets_from frame_bytes
loop-sent-init c = refl

pub loop-sent-preserved : goal.loop-sent-preserved
loop-sent-preserved c = packets_more c.args.sender c.args.p.now c.args.room.now c.loop-sent.sent c.loop-sent.invariant c.put_packet.ensures
