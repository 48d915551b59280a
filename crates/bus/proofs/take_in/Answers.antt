-- `bus::take_in` meets its contract: a frame that is refused at once changes nothing, and another its sender's session.
-- Assumes nothing.
use native.Mathlib.Omega.{arith}
use Rattle.std.proofs.lemmas.Result.{err_from_is_err_and}
use Rattle.joining.proofs.Frames.{frame_let, sound-frame}
use Rattle.bus.proofs.Placed.{stopped_at, heard}
use Rattle.bus.proofs.take_in.Goals as goal

pub returns-in_err-frame_refusal : goal.returns-in_err-frame_refusal
returns-in_err-frame_refusal c =
    let p = err_from_is_err_and c.from_residual.result c.from_residual.ensures.1 in
    let both = stopped_at c.args.room.now c.args.id c.args.«data».now c.requires c.in_err-frame_refusal.field-0.0 c.in_err-frame_refusal.ensures in
    record { value = rw (p.1, p.2) both.0; room_after = both.1 }

pub advance_in-requires : goal.advance_in-requires
advance_in-requires c = let e = frame_let c.args.id c.args.«data».now c.in_ok-frame_refusal.ensures in record { room_len = (c.requires, omega (arith, (sound-frame c.args.id c.args.«data».now e).sender)); data_value = e }

pub returns : goal.returns
returns c =
    let e = frame_let c.args.id c.args.«data».now c.in_ok-frame_refusal.ensures in
    let both = heard c.args.room.now c.args.id c.args.«data».now c.requires e c.advance_in.ensures.value c.advance_in.ensures.room_after in
    record { value = both.0; room_after = both.1 }
