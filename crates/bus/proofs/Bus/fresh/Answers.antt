-- `bus::Bus::fresh` meets its contract: it repeats one fresh session.
-- Assumes nothing.
use mathlib.Core.Path.{ap}
use lib.ListN.{replicate}
use Rattle.bus.proofs.Bus.fresh.Goals as goal

pub returns : goal.returns
returns c = ap (replicate 254) c.fresh-session.ensures
