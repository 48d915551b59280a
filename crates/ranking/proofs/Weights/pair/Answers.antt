-- The sum of two parts, and fits since each value counts by its low 12 bits.
-- Assumes nothing.
use mathlib.Core.Path.{◌≡◌, ap, ap₂, ◌∙◌}
use lib.IntN.{pos, ◌+ℤ◌, ◌*ℤ◌}
use mir.Facts.{to_z-of_z}
use mir.Syntax.{w32}
use mir.Val.{SFits, to_z, of_z}
use Rattle.laws.proofs.Words.{kept}
use Rattle.values.specs.Range.{low}
use Rattle.values.proofs.Facts.{low_in, range_facts}
use Rattle.ranking.specs.Inner.{pair_part, Words}
use Rattle.ranking.proofs.Cells.{two_fit}
use Rattle.ranking.proofs.Weights.pair.Goals as goal

pub overflow_add-result : goal.overflow_add-result
overflow_add-result c =
    let words : Words (c.args.self) = let told = c.struct_told-1.given in
    record { loss = record { sfits = c.struct_told-1.given.0.1 }; shake = record { sfits = c.struct_told-1.given.1.0.1 }; heat = record { sfits = c.struct_told-1.given.1.1.0.1 } } in
    let parts : to_z w32 (of_z w32 c.weighted.result) +ℤ to_z w32 (of_z w32 c.weighted-2.result) ≡ pair_part (c.args.self) (low (c.args.values)) = ap₂ (λ x y. x +ℤ y)
    (kept w32 c.weighted.result c.weighted.type_inv ∙ c.weighted.ensures ∙ ap (λ z. z *ℤ pos (low (c.args.values)).loss) (to_z-of_z (words).loss))
    (kept w32 c.weighted-2.result c.weighted-2.type_inv ∙ c.weighted-2.ensures ∙ ap (λ z. z *ℤ pos (low (c.args.values)).shake) (to_z-of_z (words).shake)) in
    let fits : SFits w32 (pair_part (c.args.self) (low (c.args.values))) = let f = range_facts (low (c.args.values)) (low_in (c.args.values)) in
    two_fit (c.args.self).loss (low (c.args.values)).loss (words).loss f.loss_fits (c.args.self).shake (low (c.args.values)).shake (words).shake f.shake_fits in
    rw (parts) (fits)

pub returns : goal.returns
returns c =
    let words : Words (c.args.self) = let told = c.struct_told-1.given in
    record { loss = record { sfits = c.struct_told-1.given.0.1 }; shake = record { sfits = c.struct_told-1.given.1.0.1 }; heat = record { sfits = c.struct_told-1.given.1.1.0.1 } } in
    let parts : to_z w32 (of_z w32 c.weighted.result) +ℤ to_z w32 (of_z w32 c.weighted-2.result) ≡ pair_part (c.args.self) (low (c.args.values)) = ap₂ (λ x y. x +ℤ y)
    (kept w32 c.weighted.result c.weighted.type_inv ∙ c.weighted.ensures ∙ ap (λ z. z *ℤ pos (low (c.args.values)).loss) (to_z-of_z (words).loss))
    (kept w32 c.weighted-2.result c.weighted-2.type_inv ∙ c.weighted-2.ensures ∙ ap (λ z. z *ℤ pos (low (c.args.values)).shake) (to_z-of_z (words).shake)) in
    let fits : SFits w32 (pair_part (c.args.self) (low (c.args.values))) = let f = range_facts (low (c.args.values)) (low_in (c.args.values)) in
    two_fit (c.args.self).loss (low (c.args.values)).loss (words).loss f.loss_fits (c.args.self).shake (low (c.args.values)).shake (words).shake f.shake_fits in
    (ap (λ z. to_z w32 (of_z w32 z)) (parts) ∙ to_z-of_z (fits), words)
