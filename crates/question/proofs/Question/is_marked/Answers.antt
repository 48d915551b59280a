-- A cell that can be taken is marked where the search has come past it, and no other is.
-- Assumes nothing.
use mathlib.Core.Path.{sym, ◌∙◌}
use Rattle.laws.proofs.Tests.{and_no}
use Rattle.ranking.specs.Cells.{in_order}
use Rattle.ranking.proofs.Cells.{order_in}
use lib.Dec.{ltb}
use Rattle.question.proofs.Marking.{marked_past, marked_out}
use Rattle.question.proofs.Question.is_marked.Goals as goal

pub returns-then-cell_counts : goal.returns-then-cell_counts
returns-then-cell_counts c =
    c.is_past.ensures
    ∙ sym (marked_past c.args.self c.args.cell (order_in c.args.self.rule c.args.cell c.ranges.cell.fits (sym c.cell_counts.ensures ∙ c.if-cell_counts.true)))

pub returns-else-cell_counts : goal.returns-else-cell_counts
unfolding in_order
returns-else-cell_counts c =
    c.if-cell_counts.false ∙ sym (marked_out c.args.self c.args.cell (and_no (ltb c.args.cell 256) (sym c.cell_counts.ensures ∙ c.if-cell_counts.false)))
