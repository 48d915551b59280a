-- A row whose first cell is below the score is that cell; any other is looked at cell by cell.
-- Assumes nothing.
use mathlib.Core.Path.{sym, ap₂, ◌∙◌}
use lib.Signed.{lt_z}
use mir.Facts.{to_z-of_z}
use mir.Syntax.{w32}
use Rattle.laws.proofs.Words.{kept}
use Rattle.ranking.specs.Inner.{met}
use Rattle.ranking.proofs.Reaching.{row_first}
use Rattle.ranking.proofs.Rule.row_sought.Goals as goal

pub returns-then-best-score : goal.returns-then-best-score
returns-then-best-score c =
    let best = kept w32 c.best_score-best.result c.best_score-best.type_inv ∙ c.best_score-best.ensures in
    let asked = to_z-of_z c.ranges.score in
    c.met.ensures
    ∙ ap₂ (λ x y. met c.args.sought c.in-Some.cell x y) best asked
    ∙ sym (row_first c.args.self c.args.score c.args.sought c.args.row c.in-Some.cell c.in-Some.ensures (sym (ap₂ lt_z best asked) ∙ c.if-best-score.true))
