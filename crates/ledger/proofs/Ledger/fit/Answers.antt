-- Senders and tallies, which stand beside a fit window, then the slots.
-- Assumes nothing.
use mathlib.Core.Path.{sym, ◌∙◌}
use Rattle.ledger.proofs.Doors.{fit_then, fit_not}
use Rattle.ledger.proofs.Ledger.fit.Goals as goal

pub returns-then-fit : goal.returns-then-fit
returns-then-fit c = c.slots_fit.ensures ∙ sym (fit_then c.args.self (sym c.fit.ensures ∙ c.if-fit.true))

pub returns-else-fit : goal.returns-else-fit
returns-else-fit c = c.if-fit.false ∙ sym (fit_not c.args.self (sym c.fit.ensures ∙ c.if-fit.false))
