-- A next cell of the order is below 256.
-- Assumes nothing.
use mathlib.Core.Path.{sym, ◌∙◌}
use Rattle.ranking.proofs.Cells.{in_order_lem}
use Rattle.question.proofs.Question.is_past.Goals as goal

pub overflow_cast-self : goal.overflow_cast-self
overflow_cast-self c = record { fits = (in_order_lem c.args.self.rule c.args.self.next (sym c.in_order.ensures ∙ c.if-not-in_order.false)).0 }
