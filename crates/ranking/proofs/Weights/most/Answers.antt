-- Loss and shake, and the best heat's part; it fits as a sum does.
-- Assumes nothing.
use mathlib.Core.Path.{◌≡◌, ap, ap₂, ◌∙◌}
use Prim.Native.Nat.{◌<◌}
use lib.IntN.{ℤ, ◌+ℤ◌}
use lib.Signed.{mag}
use mir.Facts.{to_z-of_z}
use mir.Syntax.{w16, w32}
use mir.Val.{SFits, to_z, of_z}
use Rattle.laws.proofs.Words.{kept}
use Rattle.values.specs.declared.Values.{Values}
use Rattle.values.specs.Range.{low}
use Rattle.values.proofs.Facts.{low_in}
use Rattle.ranking.specs.Cells.{weighed, sum, rule_of}
use Rattle.ranking.specs.Inner.{heat_part, hottest, pair_part, Words}
use Rattle.ranking.specs.declared.Weights.{Weights}
use Rattle.ranking.proofs.Cells.{word_fits, hottest_in}
use Rattle.ranking.proofs.Weights.most.Goals as goal

parts : (w : Weights) (v : Values) {x y : ℤ} → Words w → mag x < 2147483648 → x ≡ pair_part w v → mag y < 2147483648 → y ≡ heat_part (to_z w16 (of_z w16 w.heat))
    → to_z w32 (of_z w32 x) +ℤ to_z w32 (of_z w32 y) ≡ weighed w (hottest w v)
parts w v words f e g d = ap₂ (λ x y. x +ℤ y) (kept w32 _ f ∙ e) (kept w32 _ g ∙ d ∙ ap heat_part (to_z-of_z words.heat))

fits : (w : Weights) (v : Values) → Words w → SFits w32 (weighed w (hottest w (low v)))
unfolding sum
fits w v words = word_fits (rule_of w) (hottest w (low v)) words (hottest_in (rule_of w) (low v) (low_in v))

pub overflow_add-result : goal.overflow_add-result
overflow_add-result c =
    rw (parts c.args.self (low c.args.values) c.pair.ensures.1 c.pair.type_inv c.pair.ensures.0 c.best_heat.type_inv c.best_heat.ensures)
    (fits c.args.self c.args.values c.pair.ensures.1)

pub returns : goal.returns
returns c = (
  rw (parts c.args.self (low c.args.values) c.pair.ensures.1 c.pair.type_inv c.pair.ensures.0 c.best_heat.type_inv c.best_heat.ensures)
      (to_z-of_z (fits c.args.self c.args.values c.pair.ensures.1)),
  c.pair.ensures.1,
)
