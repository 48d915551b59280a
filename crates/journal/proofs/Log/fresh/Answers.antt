-- `journal::Log::fresh` meets its contract: a board of no window, fresh sessions and no times, as their makers answer them.
-- Assumes nothing.
use Rattle.journal.specs.Log.{fresh_log}
use Rattle.journal.proofs.Log.fresh.Goals as goal

pub returns : goal.returns
unfolding fresh_log
returns c =
    let board = c.none-board.ensures in
    let bus = c.fresh-bus.ensures in
    let times = c.fresh-times.ensures in
    λ i. record { items = 0; board = board i; sessions = bus i; times = times i }
