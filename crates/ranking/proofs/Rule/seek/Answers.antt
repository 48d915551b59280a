-- The invariant is what a scan knows after the cells below d; after all of them it has found the cell that follows.
-- Assumes nothing.
use mathlib.Core.Path.{◌≡◌, sym, subst}
use Prim.Native.Nat.{◌+◌, ◌<◌}
use native.Mathlib.Omega.{arith}
use Rattle.ranking.proofs.Scan.{Scanned, scanned_more, scanned_all}
use Rattle.ranking.specs.Inner.{follows}
use Rattle.ranking.proofs.Rule.seek.Goals as goal

pub loop-d-preserved : goal.loop-d-preserved
loop-d-preserved c =
    let cell : c.loop-d.d < 256 = omega arith in
    subst (Scanned c.args.self (follows c.args.self c.args.from) (c.loop-d.d + 1)) (sym c.nearer-found.ensures)
    (scanned_more c.args.self c.args.from c.loop-d.found c.loop-d.d cell c.loop-d.invariant)

pub returns : goal.returns
returns c =
    let all : c.loop-d.d ≡ 256 = omega arith in
    scanned_all c.args.self c.args.from c.loop-d.found c.requires (subst (λ d. Scanned c.args.self (follows c.args.self c.args.from) d c.loop-d.found) all c.loop-d.invariant)
