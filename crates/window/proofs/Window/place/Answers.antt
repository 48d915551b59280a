-- The next number less one is the number that was entered last, and its remainder is the row.
-- Assumes nothing.
use mathlib.Core.Path.{◌≡◌, sym, ◌∙◌}
use Prim.Native.Nat.{◌+◌, ◌-◌}
use native.Mathlib.Nat.{mod-lt, lt_of_lt_of_le}
use native.Mathlib.Omega.{arith}
use Rattle.window.specs.Rows.{place_for}
use Rattle.window.proofs.Fitness.{size_range}
use Rattle.window.proofs.Window.place.Goals as goal

pub nonzero_rem-result : goal.nonzero_rem-result
nonzero_rem-result c =
    let range = size_range c.args.counts.size (sym c.sized.ensures ∙ c.if-sized.true) in
    omega arith

pub overflow_cast-result-then-sized : goal.overflow_cast-result-then-sized
overflow_cast-result-then-sized c =
    let range = size_range c.args.counts.size (sym c.sized.ensures ∙ c.if-sized.true) in
    record { fits = lt_of_lt_of_le (mod-lt _ range.0) (omega arith) }

pub returns-then-sized : goal.returns-then-sized
unfolding place_for
returns-then-sized c =
    let entered = c.args.counts.entered in
    let last : entered + 1 - 1 ≡ entered = omega arith in
    rw (sym c.sized.ensures ∙ c.if-sized.true, last, c.capped.ensures)

pub returns : goal.returns
unfolding place_for
returns c = rw (sym c.sized.ensures ∙ c.if-sized.false)
