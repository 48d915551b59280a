-- Each branch is a case of the definition.
-- Assumes nothing.
use mathlib.Core.Path.{sym, ◌∙◌}
use Rattle.laws.proofs.Tests.{if_so, if_not}
use Rattle.ranking.specs.Cells.{place_of, most_steps, steps_to}
use Rattle.ranking.proofs.Cells.{in_order_lem}
use Rattle.ranking.proofs.Rule.steps_to.Goals as goal

pub overflow_cast-cell : goal.overflow_cast-cell
overflow_cast-cell c =
    let a = c.args in
    record { fits = (in_order_lem c.args.self c.args.cell (sym c.in_order.ensures ∙ c.if-in_order.true)).0 }

pub returns-then-in_order : goal.returns-then-in_order
unfolding steps_to
returns-then-in_order c =
    let a = c.args in
    c.place_of.ensures ∙ sym (if_so (place_of c.args.self c.args.cell) (most_steps c.args.self) (sym c.in_order.ensures ∙ c.if-in_order.true))

pub returns : goal.returns
unfolding steps_to
returns c =
    let a = c.args in
    c.most_steps.ensures ∙ sym (if_not (place_of c.args.self c.args.cell) (most_steps c.args.self) (sym c.in_order.ensures ∙ c.if-in_order.false))
