-- All the rows are lent, and nothing else of the window is read.
-- Assumes nothing.
use mathlib.Core.Path.{refl, ◌∙◌}
use Rattle.list.specs.Rows.{rows_in}
use Rattle.question.proofs.Finding.{searched_arrays, searched_rows}
use Rattle.question.proofs.Question.searched.Goals as goal

pub returns : goal.returns
returns c =
    let a = c.args in
    c.searched_in.ensures ∙ searched_rows c.args.self (rows_in c.args.window.rows) 1024 refl ∙ searched_arrays c.args.self c.args.window
