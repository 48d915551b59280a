-- A question with no lines, at the first cell of the visiting order.
-- Assumes nothing.
use mathlib.Core.Path.{ap, ◌∙◌}
use mathlib.Core.List.{[]}
use Rattle.question.specs.Lines.{asked}
use Rattle.question.proofs.Question.begun.Goals as goal

pub returns : goal.returns
returns c =
    let q = c.args.self in
    c.without_lines.ensures ∙ ap (asked c.args.self.k c.args.self.rule []) c.first_cell.ensures
