-- `times::Station::turned` meets its contract: the refusal is the one of its number.
-- Assumes nothing.
use Rattle.refusal.proofs.Answers.{refusal_back}
use Rattle.times.proofs.Station.turned.Goals as goal

pub returns : goal.returns
returns c = rw (refusal_back c.args.refusal)
