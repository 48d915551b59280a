-- `joining::Session::fit` meets its contract: the payload bytes say nothing on fitness.
-- Assumes nothing.
use Rattle.joining.specs.Joining.{fit, is_closed, is_open}
use Rattle.joining.proofs.Session.fit.Goals as goal

pub returns : goal.returns
unfolding fit is_closed is_open
returns c = c.numbers_fit.ensures
