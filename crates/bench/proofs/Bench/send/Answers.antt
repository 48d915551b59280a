-- `bench::Bench::send` meets its contract: it goes by the sender, the writer and the room, as `send_answer` does, and `fill` stores the frames.
-- Assumes nothing.
use mathlib.Core.Path.{sym, ◌∙◌}
use Rattle.std.proofs.Common.{arith}
use Rattle.std.specs.Option.{option_copied}
use lib.Seq.{length-take-le}
use Rattle.bench.proofs.Sending.{wrote, faultless, written-front, no_sender, faulty, short, fits}
use Rattle.bench.proofs.Bench.send.Goals as goal

pub returns-then-sender-gt-LARGEST_SENDER : goal.returns-then-sender-gt-LARGEST_SENDER
returns-then-sender-gt-LARGEST_SENDER c =
    let both = no_sender c.args.room.now c.args.sender c.args.report (option_copied c.args.note) c.if-sender-gt-LARGEST_SENDER.true in
    record { value = both.0; room_after = both.1 }

pub returns-in_err-size : goal.returns-in_err-size
returns-in_err-size c =
    let both = faulty c.args.room.now c.args.sender c.args.report (option_copied c.args.note) c.if-sender-gt-LARGEST_SENDER.false (sym c.write.ensures.value ∙ c.in_err-size.was) in
    record { value = grind arith; room_after = both.1 }

-- What is not faulty fits 89 bytes.
pub overflow_cast-size : goal.overflow_cast-size
overflow_cast-size c =
    let so = faultless c.args.report (option_copied c.args.note) (sym (wrote c.args.report (option_copied c.args.note)) ∙ sym c.write.ensures.value ∙ c.in_ok-size.was) in
    omega (arith, so.1, so.2)

pub returns-then-room-needed : goal.returns-then-room-needed
returns-then-room-needed c =
    let so = faultless c.args.report (option_copied c.args.note) (sym (wrote c.args.report (option_copied c.args.note)) ∙ sym c.write.ensures.value ∙ c.in_ok-size.was) in
    let both = short c.args.room.now c.args.sender c.args.report (option_copied c.args.note) c.if-sender-gt-LARGEST_SENDER.false so.0 so.1 c.packets.ensures c.if-room-needed.true in
    record { value = both.0; room_after = both.1 }

pub slice_bounds-payload-end : goal.slice_bounds-payload-end
slice_bounds-payload-end c =
    let so = faultless c.args.report (option_copied c.args.note) (sym (wrote c.args.report (option_copied c.args.note)) ∙ sym c.write.ensures.value ∙ c.in_ok-size.was) in
    omega (arith, so.1, so.2, c.write.auto.room)

pub slice_bounds-fill-end : goal.slice_bounds-fill-end
slice_bounds-fill-end c =
    let so = faultless c.args.report (option_copied c.args.note) (sym (wrote c.args.report (option_copied c.args.note)) ∙ sym c.write.ensures.value ∙ c.in_ok-size.was) in
    sym (length-take-le _ _ (omega (arith, so.1, so.2, c.write.auto.room)))

pub returns : goal.returns
returns c =
    let was = sym c.write.ensures.value ∙ c.in_ok-size.was in
    let so = faultless c.args.report (option_copied c.args.note) (sym (wrote c.args.report (option_copied c.args.note)) ∙ was) in
    let front = written-front c.args.report (option_copied c.args.note) was c.write.ensures.room_after so.1 in
    let both = fits c.args.room.now c.args.sender c.args.report (option_copied c.args.note) c.if-sender-gt-LARGEST_SENDER.false so.0 so.1 c.packets.ensures c.if-room-needed.false front c.fill.ensures in
    record { value = both.0; room_after = both.1 }
