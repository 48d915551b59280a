-- `bench::packet_data` meets its contract: the sequence number and the payload's bytes are stored over eight 255s.
-- Assumes nothing.
use Rattle.bench.proofs.Sending.{packet-stored}
use Rattle.bench.proofs.packet_data.Goals as goal

pub returns : goal.returns
returns c =
    let a = c.args in
    packet-stored c.args.p.now c.args.i c.put.ensures c.put_all.ensures
