-- 24, or what the senders answer.
-- Assumes nothing.
use mathlib.Core.Path.{sym, ◌∙◌}
use borrow.Author.Tests.{not-true, not-false}
use Rattle.laws.proofs.Tests.{if_so, if_not}
use Rattle.ledger.specs.Calls.{tally_call}
use mathlib.Core.Path.{ap}
use mathlib.Core.Bool.{not}
use Rattle.ledger.proofs.Ledger.tally.Goals as goal

pub returns-then-not-fit : goal.returns-then-not-fit
unfolding tally_call
returns-then-not-fit c = sym (if_not _ _ (sym c.fit.ensures ∙ not-true _ (ap not c.if-not-fit.true)))

pub returns : goal.returns
unfolding tally_call
returns c = c.tally.ensures ∙ sym (if_so _ _ (sym c.fit.ensures ∙ not-false _ (ap not c.if-not-fit.false)))
