-- `journal::Log::timed_item` meets its contract: the session and the last time of the frame's sender are taken out, advanced and put back.
-- Assumes nothing.
use Rattle.times.specs.Run.{timed_at}
use Rattle.journal.proofs.Calls.{outcome_is}
use Rattle.journal.proofs.Frames.{unheard, heard_timed}
use Rattle.journal.proofs.Log.timed_item.Goals as goal

pub returns-then-k-ge-SENDERS : goal.returns-then-k-ge-SENDERS
returns-then-k-ge-SENDERS c =
    let a = c.args in
    outcome_is (unheard c.args.self (timed_at c.args.time c.args.id c.args.data.now) c.if-k-ge-SENDERS.true c.frame_number.ensures) c.refused.ensures

pub returns : goal.returns
returns c =
    let a = c.args in
    outcome_is (heard_timed c.args.self c.args.id c.args.data.now c.if-k-ge-SENDERS.false c.args.time c.of-last.ensures c.frame-heard.ensures c.with_station.ensures)
    c.answer_item.ensures
