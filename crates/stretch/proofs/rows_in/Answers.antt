-- The invariant: no row from the bound on holds a report.
-- Assumes nothing.
use mathlib.Core.Path.{◌≡◌, sym, ◌∙◌}
use Prim.Native.Nat.{◌+◌, ◌-◌}
use native.Mathlib.Omega.{arith}
use borrow.Author.Tests.{eq-eqb, ne_eqb}
use lib.Dec.{eqb}
use Rattle.slot.proofs.Gauges.{none-used, used_here, used_below}
use Rattle.stretch.proofs.rows_in.Goals as goal

pub returns-then-names-at-ne0 : goal.returns-then-names-at-ne0
returns-then-names-at-ne0 c =
    let back : c.loop-at.at - 1 + 1 ≡ c.loop-at.at = omega arith in
    back ∙ sym (c.loop-at.invariant ∙ used_here (λ k. eqb k 0) 0 c.args.names.now c.loop-at.at (c.loop-at.at - 1) (omega arith) (ne_eqb _ _ c.if-names-at-ne0.true))

pub loop-at-preserved : goal.loop-at-preserved
loop-at-preserved c =
    c.loop-at.invariant ∙ used_below (λ k. eqb k 0) 0 c.args.names.now c.loop-at.at (c.loop-at.at - 1) (omega arith) (eq-eqb _ _ c.if-names-at-ne0.false)

pub returns : goal.returns
returns c = sym (c.loop-at.invariant ∙ none-used (λ k. eqb k 0) 0 c.args.names.now c.loop-at.at (omega arith))
