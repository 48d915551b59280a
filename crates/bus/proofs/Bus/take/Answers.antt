-- `bus::Bus::take` meets its contract: the array has the length that the part is asked to have.
-- Assumes nothing.
use Rattle.bus.proofs.Bus.take.Goals as goal

pub returns : goal.returns
returns c = record { value = c.take_in.ensures.value; room_after = c.take_in.ensures.room_after }
