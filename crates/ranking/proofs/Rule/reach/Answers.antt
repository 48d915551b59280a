-- The invariant is what is known after the rows so far; after all of them it is how far the score reaches.
-- Assumes nothing.
use mathlib.Core.Path.{◌≡◌, sym, ap, ◌∙◌, subst}
use Prim.Native.Nat.{◌+◌, ◌*◌, ◌<◌}
use native.Mathlib.Omega.{arith}
use mir.Facts.{to_z-of_z}
use mir.Syntax.{w32}
use mir.Val.{to_z, of_z}
use Rattle.ranking.specs.Cells.{reach_of}
use Rattle.ranking.proofs.Reaching.{Met, met_row_lem, met_all, modest}
use Rattle.ranking.proofs.Rule.reach.Goals as goal

pub loop-row-preserved : goal.loop-row-preserved
loop-row-preserved c =
    let s = to_z w32 (of_z w32 c.args.score) in
    let below : c.loop-row.row < 16 = omega arith in (
      c.loop-row.invariant.0,
      subst (Met c.args.self s (16 * (c.loop-row.row + 1))) (sym c.row_sought-sought.ensures)
          (met_row_lem c.args.self s (modest c.args.self c.loop-row.invariant.0.words) c.loop-row.sought c.loop-row.row below c.loop-row.invariant.1),
    )

pub returns : goal.returns
returns c =
    let s = to_z w32 (of_z w32 c.args.score) in
    let all : 16 * c.loop-row.row ≡ 256 = omega arith in
    met_all c.args.self s c.loop-row.sought (subst (λ d. Met c.args.self s d c.loop-row.sought) all c.loop-row.invariant.1)
    ∙ ap (reach_of c.args.self) (to_z-of_z c.ranges.score)
