-- Which slots are fit (docs/RULES.md, section 9).
use Rattle.std.specs.Prelude.{Bool, ◌&&◌, ◌||◌, eqb}
use Rattle.ranking.specs.Cells.{is_none}
use Rattle.window.specs.declared.Window.{Window}
use Rattle.question.specs.declared.Question.{Question}
use Rattle.list.specs.Lines.{lines_of, all_of, blank}
use Rattle.question.specs.Lines.{finished}
use Rattle.question.specs.Calls.{fit_question}

-- Rule 9.6: an empty slot has k 0, and all else in it is 0.
unfoldable pub is_empty : Question → Bool
is_empty q =
    eqb q.k 0
    && is_none q.rule
    && eqb q.len 0
    && eqb q.next 0
    && all_of blank (lines_of q.names q.scores)

-- A slot is empty, or holds a fit question whose search has ended (rule 7.9).
unfoldable pub slot_fit : Window → Question → Bool
slot_fit w q = is_empty q || fit_question w q && finished q
