-- `bus::put_session` meets its contract: its four stores stand in a row.
-- Assumes nothing.
use mathlib.Core.Path.{◌≡◌}
use native.Mathlib.Omega.{arith}
use lib.ListN.{length, length-set}
use lib.Seq.{length-sets}
use Rattle.bus.proofs.Places.{four_stores}
use borrow.Author.Rules.{rules}
use Rattle.bus.proofs.put_session.Goals as goal

pub bounds-room-at-2 : goal.bounds-room-at-2
bounds-room-at-2 c = rw length-set (rw (c.put_all.ensures, length-sets, c.requires.0) (omega (arith, c.requires.1)))

pub bounds-room-at-3 : goal.bounds-room-at-3
bounds-room-at-3 c = rw (length-set, length-set) (rw (c.put_all.ensures, length-sets, c.requires.0) (omega (arith, c.requires.1)))

pub returns : goal.returns
returns c =
    let a = c.args in
    let long : length c.args.s.bytes ≡ 89 = search rules in
    (four_stores c.args.room.now c.args.at c.args.s long c.put_all.ensures, long)
