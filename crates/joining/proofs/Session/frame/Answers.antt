-- `joining::Session::frame` meets its contract: what the step leaves in the bytes, and beside them, is the outcome.
-- Assumes nothing.
use Rattle.joining.proofs.Session.frame.Goals as goal

pub returns : goal.returns
returns c = rw (c.stepped-step.ensures.value, c.stepped-step.ensures.bytes_after)
