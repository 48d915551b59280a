-- `bus::open_at` meets its contract: every payload byte is 255, and the numbers are those of the size.
-- Assumes nothing.
use mathlib.Core.Path.{◌∙◌}
use Rattle.bus.proofs.open_at.Goals as goal

pub returns : goal.returns
returns c = c.put_numbers.ensures ∙ rw (c.clear.ensures, c.packets.ensures)
