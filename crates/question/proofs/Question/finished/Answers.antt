-- Each branch is a case of when a search has ended.
-- Assumes nothing.
use mathlib.Core.Path.{sym, ap, ap₂, ◌∙◌}
use borrow.Author.Tests.{not-true, not-false}
use lib.Signed.{lt_z}
use mir.Syntax.{w32}
use Rattle.laws.proofs.Words.{kept}
use Rattle.ranking.proofs.Cells.{in_order_lem}
use Rattle.list.specs.declared.Bar.{Bar}
use Rattle.list.specs.Bars as bars
use Rattle.question.proofs.Stored.{roomy}
use Rattle.question.proofs.Ending.{finished-none, finished_open, finished-full}
use mathlib.Core.Bool.{not}
use Rattle.question.proofs.Question.finished.Goals as goal

pub returns-then-not-in_order : goal.returns-then-not-in_order
returns-then-not-in_order c = sym (finished-none c.args.self (sym c.in_order.ensures ∙ not-true _ (ap not c.if-not-in_order.true)))

pub overflow_cast-next : goal.overflow_cast-next
overflow_cast-next c =
    let q = c.args.self in
    record { fits = (in_order_lem c.args.self.rule c.args.self.next (sym c.in_order.ensures ∙ not-false _ (ap not c.if-not-in_order.false))).0 }

pub returns-then-bar : goal.returns-then-bar
returns-then-bar c =
    let q = c.args.self in
    let good = c.well_formed.0.1.1 in
    let is = c.bar-bar.ensures ∙ ap (λ l. bars.bar_of l c.args.self.k) c.list.ensures in
    ap₂ lt_z (kept w32 c.best_score.result c.best_score.type_inv ∙ c.best_score.ensures)
    (kept w32 c.bar-bar.result.score c.struct_told-1.given.1.1.0.1 ∙ ap (λ (b : Bar). b.score) is)
    ∙ sym
    (finished-full q (sym c.in_order.ensures ∙ not-false _ (ap not c.if-not-in_order.false)) (roomy q c.well_formed.0.1.1.0.1.0.1 c.well_formed.0.1.1.1.1.0.1.0.1)
    (sym (ap (λ (b : Bar). b.full) is) ∙ c.if-bar.true))

pub returns-else-bar : goal.returns-else-bar
returns-else-bar c =
    let q = c.args.self in
    c.if-bar.false
    ∙ sym
    (finished_open q (sym c.in_order.ensures ∙ not-false _ (ap not c.if-not-in_order.false))
    (sym (ap (λ (b : Bar). b.full) (c.bar-bar.ensures ∙ ap (λ l. bars.bar_of l c.args.self.k) c.list.ensures)) ∙ c.if-bar.false))
