-- A frame's time, if it has one, is met with what stands behind the item's head.
-- Assumes nothing.
use mathlib.Core.Path.{◌≡◌, ap}
use mathlib.Core.List.{List}
use Prim.Native.Nat.{ℕ, ◌+◌, ◌-◌}
use native.Mathlib.Omega.{arith}
use lib.ListN.{take, drop}
use Rattle.wire.specs.Bytes.{part}
use Rattle.stretch.proofs.Times.{sixteen, untimed_begins, refused_begins, timed_begins}
use borrow.Author.Rules.{rules}
use Rattle.stretch.proofs.begin.Goals as goal

value_is : (i : ℕ) (l : List ℕ) → take (i + 19 - (i + 3)) (drop (i + 3) l) ≡ part (i + 3) 16 l
value_is i l =
    let n : i + 19 - (i + 3) ≡ 16 = omega arith in
    ap (λ (k : ℕ). take k (drop (i + 3) l)) n

pub returns-then-tag-ne-TIMED : goal.returns-then-tag-ne-TIMED
returns-then-tag-ne-TIMED c =
    let a = c.args in
    untimed_begins c.args.room.now c.args.times.now c.args.i c.args.bytes.now c.args.last c.if-tag-ne-TIMED.true c.requires.2

pub slice_bounds-meet-end : goal.slice_bounds-meet-end
slice_bounds-meet-end c = let e = sixteen c.if-tag-ne-TIMED.false in search rules

pub returns-in-Err : goal.returns-in-Err
returns-in-Err c = refused_begins c.args.room.now c.args.times.now c.args.i c.args.bytes.now c.args.last c.if-tag-ne-TIMED.false c.requires.1 _ (value_is c.args.i c.args.bytes.now) (rw c.in-Err.is at c.meet-met.ensures)

pub returns-in-Ok : goal.returns-in-Ok
returns-in-Ok c = timed_begins c.args.room.now c.args.times.now c.args.i c.args.bytes.now c.args.last c.if-tag-ne-TIMED.false c.requires.1 _ (value_is c.args.i c.args.bytes.now) (rw c.in-Ok.is at c.meet-met.ensures)
