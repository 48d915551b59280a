-- `journal::Log::frame_item` meets its contract: the session that the frame belongs to is taken out, advanced and put back, and the times stay.
-- Assumes nothing.
use Rattle.times.specs.Run.{untimed_at}
use Rattle.journal.proofs.Calls.{outcome_is}
use Rattle.journal.proofs.Frames.{unheard, heard}
use Rattle.journal.proofs.Log.frame_item.Goals as goal

pub returns-then-k-ge-SENDERS : goal.returns-then-k-ge-SENDERS
returns-then-k-ge-SENDERS c =
    let a = c.args in
    outcome_is (unheard c.args.self (untimed_at c.args.id c.args.data.now) c.if-k-ge-SENDERS.true c.frame_number.ensures) c.refused.ensures

pub returns : goal.returns
returns c =
    let a = c.args in
    outcome_is (heard c.args.self c.args.id c.args.data.now c.if-k-ge-SENDERS.false c.lend-taken.ensures c.with_session.ensures) c.answer_item.ensures
