-- `times::Last::after` meets its contract: a frame that is kept sets the time, and another leaves it.
-- Assumes nothing.
use mathlib.Core.Path.{sym, ◌∙◌}
use Rattle.times.proofs.Steps.{kept_ok}
use Rattle.times.proofs.Last.after.Goals as goal

pub returns-then-is_ok : goal.returns-then-is_ok
returns-then-is_ok c = rw (sym (kept_ok c.args.answer) ∙ sym c.is_ok.ensures.value ∙ c.if-is_ok.true)

pub returns : goal.returns
returns c = rw (sym (kept_ok c.args.answer) ∙ sym c.is_ok.ensures.value ∙ c.if-is_ok.false)
