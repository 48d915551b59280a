-- The edition is that in the name.
-- Assumes nothing.
use Rattle.window.proofs.Row.values.Goals as goal

pub returns : goal.returns
returns c = rw c.edition.ensures
