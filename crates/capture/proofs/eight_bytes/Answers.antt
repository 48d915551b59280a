-- `capture::eight_bytes` meets its contract: what is stored and the pairs that are left make all the bytes.
-- Assumes nothing.
use Rattle.std.proofs.Common.{◌≡◌, ◌+◌, ◌-◌, ◌*◌, arith, add-one}
use lib.ListN.{length-set}
use Rattle.capture.proofs.Texts.{bytes_more, bytes-end}
use Rattle.capture.proofs.eight_bytes.Goals as goal

pub loop-k-preserved : goal.loop-k-preserved
loop-k-preserved c =
    let s = c.args.s.now in
    let two : 2 * c.loop-k.k + 2 - 2 * c.loop-k.k ≡ 2 = omega arith in
    let more = bytes_more s c.loop-k.k c.number.result (rw two at c.number.ensures) (omega arith) in
    (rw (c.put.ensures, length-set) c.loop-k.invariant.0, rw (c.put.ensures, c.unwrap_or-byte.ensures, add-one) (rw (more, add-one) at c.loop-k.invariant.1))

pub returns : goal.returns
returns c = rw (bytes-end c.args.s.now c.loop-k.k (omega arith)) at c.loop-k.invariant.1
