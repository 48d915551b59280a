-- The invariant: what stood from i on has moved one place back, and the place i is as it was.
-- Assumes nothing.
use mathlib.Core.Path.{◌≡◌, sym, ap, ◌∙◌}
use Prim.Native.Nat.{◌≤◌, ◌-◌, ◌+◌}
use native.Mathlib.Omega.{arith}
use borrow.Author.Rules.{rules}
use lib.IntN.{pos}
use lib.ListN.{get_or, set}
use mir.Facts.{to_z-of_z}
use mir.Syntax.{w32}
use Rattle.laws.proofs.Words.{kept}
use Rattle.list.proofs.Sliding.{opened, opened-none, opened_more, closed}
use Rattle.list.proofs.slide.Goals as goal

pub loop-i-init : goal.loop-i-init
loop-i-init c = (
  c.requires.0,
  omega arith,
  sym (opened-none c.args.last c.args.names.now (omega (arith, c.requires.2.names, c.requires.1))),
  sym (opened-none c.args.last c.args.scores.now (omega (arith, c.requires.2.scores, c.requires.1))),
)

pub loop-i-preserved : goal.loop-i-preserved
loop-i-preserved c =
    let i = c.loop-i.i in
    let inv = c.loop-i.invariant in
    let back : i ≡ i - 1 + 1 = omega (arith, c.loop-i-test.true) in (
      omega arith,
      omega arith,
      opened_more 0 (i - 1 + 1) (i - 1) c.args.last c.args.names.now c.loop-i.names (omega arith) (omega arith) (omega (arith, c.requires.2.names, c.requires.1)) (inv.2 ∙ ap (λ n. opened n c.args.last c.args.names.now) back),
      ap (set c.loop-i.scores (i - 1 + 1)) (kept w32 (get_or c.loop-i.scores (i - 1) (pos 0)) (search rules))
          ∙ opened_more (pos 0) (i - 1 + 1) (i - 1) c.args.last c.args.scores.now c.loop-i.scores (omega arith) (omega arith) (omega (arith, c.requires.2.scores, c.requires.1)) (inv.3 ∙ ap (λ n. opened n c.args.last c.args.scores.now) back),
    )

pub returns : goal.returns
returns c =
    let inv = c.loop-i.invariant in
    let all : c.loop-i.i ≡ c.args.at = omega (arith, c.loop-i.invariant.0, c.loop-i-test.false) in (
      ap (λ l. set l c.args.at c.args.name) (inv.2 ∙ ap (λ i. opened i c.args.last c.args.names.now) all)
          ∙ closed c.args.name c.args.at c.args.last c.args.names.now c.requires.0 (omega (arith, c.requires.2.names)),
      ap (set c.loop-i.scores c.args.at) (to_z-of_z c.ranges.score)
          ∙ ap (λ l. set l c.args.at c.args.score) (inv.3 ∙ ap (λ i. opened i c.args.last c.args.scores.now) all)
          ∙ closed c.args.score c.args.at c.args.last c.args.scores.now c.requires.0 (omega (arith, c.requires.2.scores)),
    )
