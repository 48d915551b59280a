-- Of the columns that have a value inside the range the one at the better end is taken first.
-- Assumes nothing.
use mathlib.Core.Path.{◌≡◌, sym, ap₂, ◌∙◌, subst}
use mathlib.Core.Bool.{true}
use Prim.Native.Nat.{ℕ, ◌+◌, ◌*◌, ◌<◌}
use native.Mathlib.Omega.{arith}
use mir.Facts.{to_z-of_z}
use mir.Syntax.{w16}
use mir.Val.{SFits, to_z, of_z}
use Rattle.ranking.specs.Cells.{meets}
use Rattle.ranking.specs.Inner.{stripes_of, edge_of, FirstOf}
use Rattle.ranking.specs.declared.Rule.{Rule}
use Rattle.ranking.specs.declared.Stripes.{Stripes}
use Rattle.ranking.proofs.Columns.{edge_first}
use Rattle.ranking.proofs.Rule.row_first.Goals as goal

first : (rule : Rule) (row : ℕ) (at : Stripes) {edge : ℕ} → SFits w16 rule.weights.loss → at ≡ stripes_of rule.ranges.loss → at.first < at.end → meets rule.ranges.shake row ≡ true
    → edge ≡ edge_of (to_z w16 (of_z w16 rule.weights.loss)) at → FirstOf rule row (16 * row + edge)
first rule row at fits is some met edge =
    subst (λ n. FirstOf rule row (16 * row + n)) (sym (edge ∙ ap₂ edge_of (to_z-of_z fits) is))
    (edge_first rule row met (subst (λ (s : Stripes). s.first < s.end) is some))

pub overflow_add-result : goal.overflow_add-result
overflow_add-result c =
    let some : c.stripes-across.result.first < c.stripes-across.result.end = omega arith in
    let f = first c.args.self c.args.row c.stripes-across.result (record { sfits = c.struct_told-1.given.0.1 }) c.stripes-across.ensures some (sym c.meets.ensures ∙ c.if-meets.true) c.edge.ensures in
    omega (arith, c.requires, f.within, f.is)

pub returns-then-meets : goal.returns-then-meets
returns-then-meets c =
    let some : c.stripes-across.result.first < c.stripes-across.result.end = omega arith in
    first c.args.self c.args.row c.stripes-across.result (record { sfits = c.struct_told-1.given.0.1 }) c.stripes-across.ensures some (sym c.meets.ensures ∙ c.if-meets.true) c.edge.ensures
