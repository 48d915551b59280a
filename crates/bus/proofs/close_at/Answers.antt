-- `bus::close_at` meets its contract: the three numbers are 0.
-- Assumes nothing.
use Rattle.bus.proofs.close_at.Goals as goal

pub returns : goal.returns
returns c = c.put_numbers.ensures
