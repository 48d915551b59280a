-- `commands::put_frames` meets its contract: after i turns the items of i frames are stored.
-- Assumes nothing.
use mathlib.Core.Path.{◌≡◌, refl}
use Prim.Native.Nat.{◌-◌, ◌+◌, ◌*◌}
use lib.ListN.{length}
use Rattle.items.specs.Run.{run_bytes}
use Rattle.bench.specs.Bench.{frames_in}
use Rattle.commands.proofs.Writing.{item_at, item_most, frames_longer, frames_more}
use native.Mathlib.Omega.{arith}
use Rattle.commands.proofs.put_frames.Goals as goal

pub loop-i-init : goal.loop-i-init
unfolding frames_in run_bytes
loop-i-init c = (refl, omega arith, refl)

-- What a turn stores is its frame's item.
pub overflow_add-at : goal.overflow_add-at
overflow_add-at c =
    let i = c.loop-i.i in
    let eight : 12 * i + 12 - (12 * i + 4) ≡ 8 = omega arith in
    let size_is : c.put-at.result ≡ length (item_at c.args.time (12 * i) c.args.frames.now) = rw (eight, c.frame_item-item.ensures, c.read32.ensures) at c.put-at.ensures.value in
    omega (arith, size_is, item_most c.args.time (12 * i) c.args.frames.now)

pub loop-i-preserved : goal.loop-i-preserved
loop-i-preserved c =
    let i = c.loop-i.i in
    let frames = c.args.frames.now in
    let eight : 12 * i + 12 - (12 * i + 4) ≡ 8 = omega arith in
    let size_is : c.put-at.result ≡ length (item_at c.args.time (12 * i) c.args.frames.now) = rw (eight, c.frame_item-item.ensures, c.read32.ensures) at c.put-at.ensures.value in (
      frames_longer c.args.time i frames c.loop-i.invariant.0 size_is,
      omega (arith, size_is, item_most c.args.time (12 * i) frames),
      frames_more c.args.time c.args.room.now i frames c.loop-i.invariant.0 c.loop-i.invariant.2 (rw (eight, c.frame_item-item.ensures, c.read32.ensures) at c.put-at.ensures.room_after),
    )
