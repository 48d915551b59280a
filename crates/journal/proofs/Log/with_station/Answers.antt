-- `journal::Log::with_station` meets its contract: the session is put back, and then the last time.
-- Assumes nothing.
use Rattle.journal.proofs.Log.with_station.Goals as goal

pub returns : goal.returns
returns c =
    let log = c.with_session-log.ensures in
    let times = c.with-kept.ensures in
    λ i. record { items = (log i).items; board = (log i).board; sessions = (log i).sessions; times = times i }
