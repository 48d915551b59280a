-- `bus::Bus::fill` meets its contract: the array has the length that the part is asked to have.
-- Assumes nothing.
use Rattle.bus.proofs.Bus.fill.Goals as goal

pub returns : goal.returns
returns c = record { room_after = c.fill_in.ensures.room_after; room_after_2 = c.fill_in.ensures.room_after_2 }
