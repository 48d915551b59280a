-- A question as it is stored, and what its search does to it (docs/RULES.md, sections 6 and 7).
use Rattle.std.specs.Prelude.{ℕ, zero, suc, Bool, true, cond, not, ◌&&◌, ◌||◌, List, [], ◌++◌, map, length, take, leb, eqb}
use Rattle.laws.specs.Lists.{on_last, only}
use Rattle.search.specs.Best.{best, placed}
use Rattle.search.specs.Search.{has, steps, found}
use Rattle.ranking.specs.declared.Rule.{Rule}
use Rattle.ranking.specs.Cells.{no_rule, cell, cell_count, before, cells, most_steps, visiting, in_order, cell_at, cell_after, steps_to, reaching}
use Rattle.ranking.specs.Standing.{Held, Entry, above, entries, reaches, search_of}
use Rattle.window.specs.declared.Window.{Window}
use Rattle.window.specs.Rows.{row_count, standing}
use Rattle.list.specs.declared.Lines.{Lines}
use Rattle.list.specs.Lines.{most_lines, names_of, scores_of, columns_of, lines_in}
pub use Rattle.list.specs.Lines.{lines_of}
pub use Rattle.list.specs.Rows.{rows_of}
use Rattle.list.specs.declared.Bar.{Bar}
use Rattle.list.specs.Bars as bars
use Rattle.question.specs.declared.Question.{Question}
use Rattle.question.specs.declared.Searched.{Searched}

-- A question's list.
abbrev pub list_of : Question → Lines
list_of q = record { names = q.names; scores = q.scores; len = q.len }

-- Its lines, best first.
abbrev pub lines : Question → List Entry
lines q = lines_in (list_of q)

-- The same question with another list.
abbrev pub holding : Question → Lines → Question
holding q l =
    record { k = q.k; rule = q.rule; names = l.names; scores = l.scores; len = l.len; next = q.next }

-- And with some lines, as a list stores them.
abbrev pub with_list : Question → List Entry → Question
with_list q l = holding q (columns_of l)

-- A question with that list and that next cell.
abbrev pub asked : ℕ → Rule → List Entry → ℕ → Question
asked k rule l next =
    record { k = k; rule = rule; names = names_of l; scores = scores_of l; len = length l; next = next }

-- Rules 6.6 and 9.6: an empty slot has k 0, and all else in it is 0.
abbrev pub empty_slot : Question
empty_slot = asked 0 no_rule [] 0

-- The steps that the search has taken: the cells before the next one in the visiting order, all of them where none is left.
abbrev pub steps_taken : Question → ℕ
steps_taken q = steps_to q.rule q.next

-- Rule 7.5: the cells that the search has taken are the marked ones.
unfoldable pub marked : Question → List ℕ
marked q = take (steps_taken q) (visiting q.rule)

-- The cell is among them.
unfoldable pub is_marked : Question → ℕ → Bool
is_marked q c = has c (marked q)

-- The search has come past the cell, if it can take it: for a cell of the order, that is its mark.
unfoldable pub is_past : Question → ℕ → Bool
is_past q c = cond (in_order q.rule q.next) (before q.rule c q.next) true

-- Of each cell, whether it is marked.
unfoldable pub marks_of : Question → List Bool
marks_of q = map (is_marked q) cells

-- One entry put in its rank among the lines, which have each report once; a list has room for 16.
abbrev pub with_entry : Question → Entry → Question
with_entry q e = with_list q (take most_lines (placed (above q.rule) e (lines q)))

-- Rule 8.1: the list cut to k.
abbrev pub cut_to_k : Question → Question
cut_to_k q = with_list q (take q.k (lines q))

-- Rule 7.6: the search has ended: no cell is left, or the list has k lines and the next cell doesn't reach the last of them.
unfoldable pub finished : Question → Bool
finished q =
    not (in_order q.rule q.next) || eqb q.len q.k && on_last (λ e. not (reaches q.rule q.next e)) (lines q)

-- Rule 7.8: a search begun: no line, no mark, no step taken.
abbrev pub begun : Question → Question
begun q = asked q.k q.rule [] (cell_at q.rule 0)

-- The report lies in the cell c.
abbrev pub in_cell : ℕ → Held → Bool
in_cell c h = eqb (cell h.values) c

-- Rule 7.7: the list after a step: the best k of the lines it had and of the next cell's reports.
abbrev pub stepped_lines : Question → List Held → List Entry
stepped_lines q hs =
    best (above q.rule) q.k (lines q ++ entries q.rule (only (in_cell q.next) hs))

-- Rule 7.7: a step: that list, and one cell more is marked.
unfoldable pub stepped : Question → List Held → Question
stepped q hs =
    asked q.k q.rule (stepped_lines q hs) (cell_after q.rule q.next)

-- n steps, one after the other.
unfoldable pub after_steps : ℕ → Question → List Held → Question
after_steps zero q hs = q
after_steps (suc n) q hs = stepped (after_steps n q hs) hs

-- A search from its beginning to its end.
unfoldable pub searched : Question → List Held → Question
searched q hs =
    asked q.k q.rule (found (search_of q.rule) q.k hs)
    (cell_at q.rule (steps (search_of q.rule) q.k hs))

-- What it leaves, and the steps that it took.
abbrev pub searched_in : Question → List Held → Searched
searched_in q hs = record { steps = steps (search_of q.rule) q.k hs; question = searched q hs }

-- The reports that stand in a window's rows, whatever they hold; of a fit window they are the held ones.
unfoldable pub in_rows : Window → List Held
in_rows w = standing w row_count

-- A step on whatever stands in a window's rows; none, where k is over 16 or no cell is left.
unfoldable pub step_on : Question → Window → Question
step_on q w = cond (leb q.k most_lines && in_order q.rule q.next) (stepped q (in_rows w)) q

-- A search of whatever stands in a window's rows, and its steps; none, where k is over 16.
unfoldable pub searched_on : Question → Window → Searched
searched_on q w = cond (leb q.k most_lines) (searched_in q (in_rows w)) (record { steps = 0; question = q })

-- The same over what stands in the first n rows.
unfoldable pub searched_first : Question → Window → ℕ → Searched
searched_first q w n = cond (leb q.k most_lines) (searched_in q (standing w n)) (record { steps = 0; question = q })

-- What an entry has to rank above to change its list, where it has k lines.
abbrev pub bar_of : Question → Bar
bar_of q = bars.bar_of (list_of q) q.k

-- The same list, and another cell is next.
abbrev pub with_next : Question → ℕ → Question
with_next q next =
    record { k = q.k; rule = q.rule; names = q.names; scores = q.scores; len = q.len; next = next }

-- Where the search that found this list ends.
unfoldable pub ended_of : Question → Searched
ended_of q =
    cond (bar_of q).full
    (record {
      steps = reaching q.rule (bar_of q).score;
      question = with_next q (cell_at q.rule (reaching q.rule (bar_of q).score));
    })
    (record { steps = most_steps q.rule; question = with_next q cell_count })

-- One entry among the first k.
abbrev pub cut_with : Question → Entry → Question
cut_with q e = cut_to_k (with_entry q e)
