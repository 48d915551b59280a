-- 24, or what the board answers.
-- Assumes nothing.
use mathlib.Core.Path.{sym, ap, ◌∙◌}
use borrow.Author.Tests.{not-true, not-false}
use Rattle.laws.proofs.Tests.{if_so, if_not}
use mathlib.Core.Bool.{not}
use Rattle.refusal.specs.Answers.{refusal_of}
use Rattle.slot.specs.Answers.{shown_answer}
use Rattle.ledger.specs.Calls.{read_call}
use Rattle.ledger.proofs.Ledger.read.Goals as goal

pub returns-then-not-fit : goal.returns-then-not-fit
unfolding read_call refusal_of
returns-then-not-fit c = ap shown_answer (sym (if_not _ _ (sym c.fit.ensures ∙ not-true _ (ap not c.if-not-fit.true))))

pub returns : goal.returns
unfolding read_call
returns c = c.read_work.ensures ∙ ap shown_answer (sym (if_so _ _ (sym c.fit.ensures ∙ not-false _ (ap not c.if-not-fit.false))))
