-- The list is taken, and the cell after the next one is next.
-- Assumes nothing.
use mathlib.Core.Path.{sym, ap₂, ◌∙◌}
use borrow.Author.Tests.{not-true, not-false}
use Rattle.question.proofs.Taking.{step_wide, step-none, step-taken}
use Rattle.question.specs.Lines.{with_next}
use mathlib.Core.Path.{ap}
use mathlib.Core.Bool.{not}
use Rattle.question.proofs.Question.stepped.Goals as goal

pub returns-then-self-gt-LINES : goal.returns-then-self-gt-LINES
returns-then-self-gt-LINES c = sym (step_wide c.args.self c.args.window c.if-self-gt-LINES.true)

pub returns-then-not-in_order : goal.returns-then-not-in_order
returns-then-not-in_order c =
    let a = c.args in
    sym (step-none c.args.self c.args.window (sym c.in_order.ensures ∙ not-true _ (ap not c.if-not-in_order.true)))

pub returns : goal.returns
returns c =
    let q = c.args.self in
    c.with_next.ensures
    ∙ ap₂ with_next c.list_taken-list.ensures c.next_cell.ensures
    ∙ sym (step-taken q c.args.window c.if-self-gt-LINES.false (sym c.in_order.ensures ∙ not-false _ (ap not c.if-not-in_order.false)))
