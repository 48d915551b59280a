-- `bench::fill` meets its contract: the packets stand behind the 12 bytes of the announcement's frame.
-- Assumes nothing.
use Rattle.bench.proofs.Sending.{all-stored}
use Rattle.bench.proofs.fill.Goals as goal

pub returns : goal.returns
returns c =
    let a = c.args in
    all-stored c.args.sender c.args.p.now c.args.room.now c.identifier.ensures c.announcement-opening.ensures c.packets.ensures c.put_frame.ensures c.put_packets.ensures
