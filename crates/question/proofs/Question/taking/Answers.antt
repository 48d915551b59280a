-- The report that joins is the row's, by its number, its cell and its score.
-- Assumes nothing.
use mathlib.Core.Path.{◌≡◌, sym, ap, ap₂, ◌∙◌}
use borrow.Author.Rules.{rules}
use borrow.Author.Tests.{eq-eqb, ne_eqb}
use mir.Syntax.{w32}
use Rattle.values.specs.Range.{low}
use Rattle.values.proofs.Names.{name_back}
use Rattle.ranking.specs.Cells.{score, is_scored, points, cell}
use Rattle.window.specs.Rows.{report_at}
use Rattle.laws.proofs.Words.{kept}
use Rattle.question.proofs.Taking.{taking_here}
use Rattle.question.specs.Lines.{cut_with}
use Rattle.question.proofs.Question.taking.Goals as goal

pub returns-in-Some : goal.returns-in-Some
returns-in-Some c =
    let r = report_at c.args.row in
    let is = ap (λ v. score c.args.self.rule (low v)) (sym c.values-values.ensures) ∙ sym c.score.ensures ∙ c.in-Some.is in
    c.cut_with.ensures
    ∙ ap₂ (λ n s. cut_with c.args.self (record { name = n; score = s })) (sym (name_back c.args.row.name)) (kept w32 c.in-Some.score (search rules) ∙ sym (ap points is))
    ∙ sym
    (taking_here c.args.self r (ne_eqb _ 0 (λ e. c.if-number-eq0.false (c.number.ensures ∙ e)))
    (eq-eqb (cell r.values) c.args.self.next (sym (c.from-cell.ensures ∙ c.cell.ensures ∙ ap (λ v. cell (low v)) c.values-values.ensures) ∙ c.if-cell-self.false)) (ap is_scored is))
