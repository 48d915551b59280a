-- `pieces::value_end` meets its contract: a value of at most 16 bytes ends behind them.
-- Assumes nothing.
use borrow.Author.Tests.{le-leb, lt-leb}
use Rattle.pieces.specs.Machine.{value_end}
use Rattle.pieces.proofs.value_end.Goals as goal

pub returns-then-long-le-LONGEST : goal.returns-then-long-le-LONGEST
unfolding value_end
returns-then-long-le-LONGEST c = rw (le-leb c.args.size 16 c.if-long-le-LONGEST.true)

pub returns-else-long-le-LONGEST : goal.returns-else-long-le-LONGEST
unfolding value_end
returns-else-long-le-LONGEST c = rw (lt-leb c.args.size 16 c.if-long-le-LONGEST.false)
