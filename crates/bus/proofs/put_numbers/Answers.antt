-- `bus::put_numbers` meets its contract: the three numbers are the last of 92 bytes.
-- Assumes nothing.
use Rattle.bus.proofs.Places.{put_numbers}
use Rattle.bus.proofs.put_numbers.Goals as goal

pub returns : goal.returns
returns c = put_numbers c.args.place.now c.args.size c.args.count c.args.next c.requires
