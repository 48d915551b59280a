-- The tests are those of the definition, in its order.
use Rattle.std.proofs.Common.{sym, ◌∙◌}
use borrow.Author.Tests.{lt-ltb, le-ltb}
use Rattle.laws.proofs.Tests.{if_so, if_not}
use Rattle.refusal.specs.declared.Refusal.TheVariants.{WindowFull, ValueOutOfRange}
use Rattle.refusal.proofs.Answers.{taken, refused}
use Rattle.board.specs.Work.{enter_refusal}
use Rattle.board.proofs.enter_refusal.Goals as goal

pub returns-then-not-in_range : goal.returns-then-not-in_range
unfolding enter_refusal
returns-then-not-in_range c = refused _ tt ValueOutOfRange (if_not _ _ (sym c.in_range.ensures ∙ c.if-not-in_range.true))

pub returns-then-counts-lt-REPORTS : goal.returns-then-counts-lt-REPORTS
unfolding enter_refusal
returns-then-counts-lt-REPORTS c = taken _ tt (if_so _ _ (sym c.in_range.ensures ∙ c.if-not-in_range.false) ∙ if_so _ _ (lt-ltb _ _ c.if-counts-lt-REPORTS.true))

pub returns-else-counts-lt-REPORTS : goal.returns-else-counts-lt-REPORTS
unfolding enter_refusal
returns-else-counts-lt-REPORTS c = refused _ tt WindowFull (if_so _ _ (sym c.in_range.ensures ∙ c.if-not-in_range.false) ∙ if_not _ _ (le-ltb _ _ c.if-counts-lt-REPORTS.false))
