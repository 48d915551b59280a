-- `journal::Log::with_item` meets its contract: only the count changes.
-- Assumes nothing.
use Rattle.journal.proofs.Log.with_item.Goals as goal

pub returns : goal.returns
returns c = λ i. record { items = c.next_item-items.ensures i; board = c.args.self.board; sessions = c.args.self.sessions; times = c.args.self.times }
