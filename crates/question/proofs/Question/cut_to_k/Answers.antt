-- The first k of its list.
-- Assumes nothing.
use mathlib.Core.Path.{ap, ◌∙◌}
use lib.ListN.{take}
use Rattle.list.specs.Lines.{lines_in, columns_of}
use Rattle.question.specs.Lines.{holding}
use Rattle.question.proofs.Question.cut_to_k.Goals as goal

pub returns : goal.returns
returns c =
    let q = c.args.self in
    c.holding.ensures
    ∙ ap (holding q) (c.first_lines.ensures ∙ ap (λ l. columns_of (take c.args.self.k (lines_in l))) c.list.ensures)
