-- What the inner functions of `question` answer, and what its proofs speak of; no public contract and no promise cites it.
use Rattle.std.specs.Prelude.{ℕ, min, cond, ◌&&◌, eqb}
use Rattle.ranking.specs.Standing.{Held, is_counted, entry}
use Rattle.window.specs.declared.Window.{Window}
use Rattle.window.specs.Rows.{standing}
use Rattle.list.specs.Lines.{most_lines}
use Rattle.question.specs.Lines.{with_list, in_cell, stepped_lines, cut_with}
use Rattle.question.specs.declared.Question.{Question}

-- How many lines there are.
abbrev pub line_count : Question → ℕ
line_count q = min q.len most_lines

-- The report of one row joins the lines, if there is one, it lies in the next cell, and it counts.
unfoldable pub taking : Question → Held → Question
taking q h =
    cond (eqb h.number 0) q (cond (in_cell q.next h) (cond (is_counted q.rule h) (cut_with q (entry q.rule h)) q) q)

-- The best k of the lines and of the next cell's reports in the first `n` rows.
abbrev pub list_taken : Question → Window → ℕ → Question
list_taken q w n = with_list q (stepped_lines q (standing w n))
