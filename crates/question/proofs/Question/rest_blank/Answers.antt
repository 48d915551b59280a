-- What its list answers.
-- Assumes nothing.
use mathlib.Core.Path.{ap, ◌∙◌}
use lib.ListN.{drop}
use Rattle.list.specs.declared.Lines.{Lines}
use Rattle.list.specs.Lines.{lines_of, all_of, blank}
use Rattle.question.proofs.Question.rest_blank.Goals as goal

pub returns : goal.returns
returns c = c.rest_blank.ensures ∙ ap (λ (l : Lines). all_of blank (drop l.len (lines_of l.names l.scores))) c.list.ensures
