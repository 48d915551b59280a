-- `times::Times::meet_in` meets its contract: nothing for a sender that has no session, and else as the last time lets it.
-- Assumes nothing.
use mathlib.Core.Path.{sym}
use borrow.Author.Tests.{le-ltb}
use Rattle.bus.proofs.Places.{room_of_sessions}
use Rattle.times.proofs.Times.meet_in.Goals as goal

pub returns-then-k-ge-SENDERS : goal.returns-then-k-ge-SENDERS
returns-then-k-ge-SENDERS c =
    let has = le-ltb _ 254 c.if-k-ge-SENDERS.true in
    record { answers = rw has; sessions = rw has (sym (room_of_sessions 254 c.args.room.now c.requires)); times = rw has; stays = λ e. cc }
