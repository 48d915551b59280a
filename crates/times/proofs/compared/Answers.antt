-- `times::compared` meets its contract: its tests are those of the definition.
-- Assumes nothing.
use Prim.Native.Nat.{◌-◌}
use native.Mathlib.Omega.{arith}
use borrow.Author.Tests.{lt-ltb, le-ltb, ne_eqb}
use Rattle.times.specs.Timed.{fit_last, is_before, is_late}
use Rattle.times.specs.Inner.{came_at}
use Rattle.times.proofs.compared.Goals as goal

pub returns-then-time-last : goal.returns-then-time-last
unfolding came_at fit_last is_before is_late
returns-then-time-last c =
    let a = c.args in
    rw (c.if-known.true, lt-ltb c.args.time c.args.last (omega arith))

pub returns-then-time-last-gt-LONGEST : goal.returns-then-time-last-gt-LONGEST
unfolding came_at fit_last is_before is_late
returns-then-time-last-gt-LONGEST c =
    let a = c.args in
    rw (c.if-known.true, le-ltb c.args.time c.args.last (omega arith), lt-ltb 750 (c.args.time - c.args.last) (omega arith))

pub returns-then-known : goal.returns-then-known
unfolding came_at fit_last is_before is_late
returns-then-known c =
    let a = c.args in
    rw (c.if-known.true, le-ltb c.args.time c.args.last (omega arith), le-ltb 750 (c.args.time - c.args.last) (omega arith))

pub returns-then-last-ne0 : goal.returns-then-last-ne0
unfolding came_at fit_last is_before is_late
returns-then-last-ne0 c = rw (c.if-known.false, ne_eqb _ _ c.if-last-ne0.true)

pub returns : goal.returns
unfolding came_at fit_last is_before is_late
returns c = rw (c.if-known.false, c.if-last-ne0.false)
