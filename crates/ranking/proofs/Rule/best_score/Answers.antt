-- The best possible score is its column's part and its row's.
-- Assumes nothing.
use mathlib.Core.Path.{◌≡◌, sym, ap, ap₂, ◌∙◌}
use Prim.Native.Nat.{ℕ, ◌+◌, ◌*◌, ◌/◌, ◌%◌, ◌<◌}
use native.Mathlib.Omega.{arith}
use lib.IntN.{ℤ, ◌+ℤ◌}
use lib.Signed.{mag}
use mir.Facts.{to_z-of_z}
use mir.Syntax.{w32}
use mir.Val.{to_z, of_z}
use Rattle.laws.proofs.Words.{kept}
use Rattle.ranking.specs.Cells.{best_score}
use Rattle.ranking.specs.Inner.{loss_part, row_part}
use Rattle.ranking.specs.declared.Rule.{Rule}
use Rattle.ranking.proofs.Columns.{best_parts}
use Rattle.ranking.proofs.Reaching.{best_fits}
use Rattle.ranking.proofs.Rule.best_score.Goals as goal

parts : (rule : Rule) (cell : ℕ) {x y : ℤ} → mag x < 2147483648 → x ≡ loss_part rule (cell % 16) → mag y < 2147483648 → y ≡ row_part rule (cell / 16)
    → to_z w32 (of_z w32 x) +ℤ to_z w32 (of_z w32 y) ≡ best_score rule cell
parts rule cell f e g d =
    let whole : 16 * (cell / 16) + cell % 16 ≡ cell = omega arith in
    ap₂ (λ x y. x +ℤ y) (kept w32 _ f ∙ e) (kept w32 _ g ∙ d) ∙ sym (best_parts rule (cell / 16) (cell % 16) (omega arith)) ∙ ap (best_score rule) whole

pub overflow_add-result : goal.overflow_add-result
overflow_add-result c =
    rw (parts c.args.self c.from-n.result c.loss_part.type_inv c.loss_part.ensures.0 c.row_part.type_inv c.row_part.ensures ∙ ap (best_score c.args.self) c.from-n.ensures)
    (best_fits c.args.self c.loss_part.ensures.1 c.args.cell c.ranges.cell.fits)

pub returns : goal.returns
returns c =
    rw (parts c.args.self c.from-n.result c.loss_part.type_inv c.loss_part.ensures.0 c.row_part.type_inv c.row_part.ensures ∙ ap (best_score c.args.self) c.from-n.ensures)
    (to_z-of_z (best_fits c.args.self c.loss_part.ensures.1 c.args.cell c.ranges.cell.fits))
