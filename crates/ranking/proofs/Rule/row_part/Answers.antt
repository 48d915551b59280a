-- The corner has 12 bits, and counts by its weight; the best heat is added.
-- Assumes nothing.
use mathlib.Core.Path.{◌≡◌, ap, ap₂, ◌∙◌}
use lib.IntN.{◌+ℤ◌}
use mir.Facts.{to_z-of_z}
use mir.Syntax.{w16, w32}
use mir.Val.{SFits, to_z, of_z}
use Rattle.laws.proofs.Words.{kept}
use Rattle.ranking.specs.Inner.{heat_part, row_part}
use Rattle.ranking.proofs.Columns.{part_read, row_word}
use Rattle.ranking.proofs.Rule.row_part.Goals as goal

pub overflow_add-result : goal.overflow_add-result
unfolding row_part
overflow_add-result c =
    let is : to_z w32 (of_z w32 c.weighted.result) +ℤ to_z w32 (of_z w32 c.best_heat.result) ≡ row_part c.args.self c.args.row = let rule = c.args.self in
    let told = c.struct_told-1.given in
    ap₂ (λ x y. x +ℤ y)
    (kept w32 c.weighted.result c.weighted.type_inv
    ∙ c.weighted.ensures
    ∙ part_read rule.ranges.shake c.args.row c.requires (kept w16 rule.weights.shake told.1.0.1) c.corner.ensures)
    (kept w32 c.best_heat.result c.best_heat.type_inv ∙ c.best_heat.ensures ∙ ap heat_part (kept w16 rule.weights.heat told.1.1.0.1)) in
    let fits : SFits w32 (row_part c.args.self c.args.row) = let told = c.struct_told-1.given in
    row_word c.args.self (record { loss = record { sfits = told.0.1 }; shake = record { sfits = told.1.0.1 }; heat = record { sfits = told.1.1.0.1 } }) c.args.row c.requires in
    rw (is) (fits)

pub returns : goal.returns
unfolding row_part
returns c =
    let is : to_z w32 (of_z w32 c.weighted.result) +ℤ to_z w32 (of_z w32 c.best_heat.result) ≡ row_part c.args.self c.args.row = let rule = c.args.self in
    let told = c.struct_told-1.given in
    ap₂ (λ x y. x +ℤ y)
    (kept w32 c.weighted.result c.weighted.type_inv
    ∙ c.weighted.ensures
    ∙ part_read rule.ranges.shake c.args.row c.requires (kept w16 rule.weights.shake told.1.0.1) c.corner.ensures)
    (kept w32 c.best_heat.result c.best_heat.type_inv ∙ c.best_heat.ensures ∙ ap heat_part (kept w16 rule.weights.heat told.1.1.0.1)) in
    let fits : SFits w32 (row_part c.args.self c.args.row) = let told = c.struct_told-1.given in
    row_word c.args.self (record { loss = record { sfits = told.0.1 }; shake = record { sfits = told.1.0.1 }; heat = record { sfits = told.1.1.0.1 } }) c.args.row c.requires in
    rw (is) (to_z-of_z (fits))
