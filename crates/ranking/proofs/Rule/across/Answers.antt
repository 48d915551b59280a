-- The invariant: the columns so far have their part.
-- Assumes nothing.
use Rattle.std.proofs.Common.{◌≢◌, ◌<◌, length, arith, below_more, length-set, get_or-set_other, get_or-set_same}
use mathlib.Core.Path.{◌∙◌}
use mir.Syntax.{w32}
use Rattle.laws.proofs.Words.{kept}
use Rattle.ranking.proofs.Rule.across.Goals as goal

pub loop-column-preserved : goal.loop-column-preserved
loop-column-preserved c =
    let is = kept w32 c.loss_part.result c.loss_part.type_inv ∙ c.loss_part.ensures.0 in
    let inside : c.loop-column.column < length c.loop-column.part-items = omega arith in (
      length-set _ _ _ ∙ c.loop-column.invariant.0,
      below_more _ _ (λ k h. let ne : k ≢ c.loop-column.column = omega arith in rw get_or-set_other (c.loop-column.invariant.1 k h)) (rw get_or-set_same is),
    )
