-- A question with no lines and no rule.
-- Assumes nothing.
use mathlib.Core.Path.{ap, ◌∙◌}
use mathlib.Core.List.{[]}
use Rattle.question.specs.Lines.{asked}
use Rattle.question.proofs.Question.fresh.Goals as goal

pub returns : goal.returns
returns c = c.without_lines.ensures ∙ ap (λ rule. asked 0 rule [] 0) c.none.ensures
