-- `joining::Session::payload` meets its contract: it is the front of the bytes, of the size that they hold.
-- Assumes nothing.
use mathlib.Core.Path.{◌∙◌}
use Rattle.joining.specs.Joining.{payload_held}
use Rattle.joining.proofs.Session.payload.Goals as goal

pub returns : goal.returns
unfolding payload_held
returns c = c.front.ensures ∙ rw c.size_held.ensures
