-- `bench::put_packet` meets its contract: it stores the frame of the packet's data.
-- Assumes nothing.
use Rattle.bench.proofs.put_packet.Goals as goal

pub returns : goal.returns
returns c = rw (c.put_frame.ensures, c.identifier.ensures, c.packet_data-carried.ensures)
