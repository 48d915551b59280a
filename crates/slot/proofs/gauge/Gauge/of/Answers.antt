-- Each field is what its function answers.
-- Assumes nothing.
use mathlib.Core.Path.{◌∙◌}
use mir.Syntax.{w32}
use Rattle.laws.proofs.Words.{kept}
use Rattle.slot.proofs.gauge.Gauge.of.Goals as goal

pub returns : goal.returns
returns c = (λ i. record { weights = c.args.question.rule.weights; least = (kept w32 c.least.result c.least.type_inv ∙ c.least.ensures) i; low = c.lowest.ensures i })
