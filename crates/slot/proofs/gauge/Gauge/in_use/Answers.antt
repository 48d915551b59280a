-- The invariant: no slot from the bound on is in use.
-- Assumes nothing.
use mathlib.Core.Path.{◌≡◌, sym, ◌∙◌}
use Prim.Native.Nat.{◌+◌, ◌-◌}
use native.Mathlib.Omega.{arith}
use Rattle.slot.specs.Gauges.{no_question, is_idle}
use Rattle.slot.proofs.Gauges.{none-used, used_here, used_below}
use Rattle.slot.proofs.gauge.Gauge.in_use.Goals as goal

pub returns-then-not-idle : goal.returns-then-not-idle
returns-then-not-idle c =
    let back : c.loop-last.last - 1 + 1 ≡ c.loop-last.last = omega arith in
    back ∙ sym (c.loop-last.invariant ∙ used_here is_idle no_question c.args.slots c.loop-last.last (c.loop-last.last - 1) (omega arith) (sym c.idle.ensures ∙ c.if-not-idle.true))

pub loop-last-preserved : goal.loop-last-preserved
loop-last-preserved c =
    c.loop-last.invariant ∙ used_below is_idle no_question c.args.slots c.loop-last.last (c.loop-last.last - 1) (omega arith) (sym c.idle.ensures ∙ c.if-not-idle.false)

pub returns : goal.returns
returns c = sym (c.loop-last.invariant ∙ none-used is_idle no_question c.args.slots c.loop-last.last (omega arith))
