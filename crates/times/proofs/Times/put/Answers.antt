-- `times::Times::put` meets its contract: both arrays are stored to, or none where the sender has no place in them.
-- Assumes nothing.
use borrow.Author.Tests.{lt-ltb, le-ltb}
use Rattle.times.proofs.Times.put.Goals as goal

pub returns-then-k-lt-SENDERS : goal.returns-then-k-lt-SENDERS
returns-then-k-lt-SENDERS c = rw (lt-ltb _ 254 c.if-k-lt-SENDERS.true)

pub returns-else-k-lt-SENDERS : goal.returns-else-k-lt-SENDERS
returns-else-k-lt-SENDERS c = rw (le-ltb _ 254 c.if-k-lt-SENDERS.false)
