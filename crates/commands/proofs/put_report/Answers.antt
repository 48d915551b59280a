-- `commands::put_report` meets its contract: the frames that the bench sender wrote, cut into items, or its refusal.
-- Assumes nothing.
use mathlib.Core.Path.{refl, sym, ap, ◌∙◌}
use Prim.Native.Nat.{ℕ}
use lib.ListN.{replicate, length-replicate}
use Rattle.items.specs.Run.{run_bytes}
use Rattle.commands.proofs.Writing.{took, items_sent, items_counted, items_refused}
use native.Mathlib.Omega.{arith}
use Rattle.commands.proofs.put_report.Goals as goal

pub put_frames-size-requires : goal.put_frames-size-requires
put_frames-size-requires c =
    let sent = items_sent c.args.time c.args.s c.args.note.now (replicate 168 0) c.in-Ok.n (length-replicate {A = ℕ} 168 0) (rw c.note_of.ensures at (sym c.send.ensures.value ∙ c.in-Ok.is)) (rw c.note_of.ensures at c.send.ensures.room_after) in record { count_in_bounds = omega (arith, sent.within, c.send.auto); frames_len_bound = omega (arith, c.send.auto) }

pub returns-in-Ok : goal.returns-in-Ok
returns-in-Ok c =
    let sent = items_sent c.args.time c.args.s c.args.note.now (replicate 168 0) c.in-Ok.n (length-replicate {A = ℕ} 168 0) (rw c.note_of.ensures at (sym c.send.ensures.value ∙ c.in-Ok.is)) (rw c.note_of.ensures at c.send.ensures.room_after) in record { value = ap took c.put_frames-size.ensures.value ∙ items_counted c.args.time c.args.s c.args.note.now sent; room_after = c.put_frames-size.ensures.room_after ∙ rw sent.items }

pub returns-in-Err : goal.returns-in-Err
unfolding run_bytes
returns-in-Err c =
    let refused = items_refused c.args.time c.args.s c.args.note.now 168 c.in-Err.refusal refl (rw c.note_of.ensures at (sym c.send.ensures.value ∙ c.in-Err.is)) in record { value = refused.0; room_after = rw refused.1 }
