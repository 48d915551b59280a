-- The weights' sum is the rule's.
-- Assumes nothing.
use mathlib.Core.Path.{◌∙◌}
use mir.Syntax.{w32}
use Rattle.laws.proofs.Words.{kept}
use Rattle.ranking.specs.Cells.{sum}
use Rattle.ranking.proofs.Rule.sum.Goals as goal

pub returns : goal.returns
unfolding sum
returns c = kept w32 c.sum.result c.sum.type_inv ∙ c.sum.ensures
