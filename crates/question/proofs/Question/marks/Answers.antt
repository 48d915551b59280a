-- The invariant: the cells so far have their marks.
-- Assumes nothing.
use mathlib.Core.Path.{◌≡◌, refl, sym, subst}
use Prim.Native.Nat.{◌+◌, ◌<◌}
use native.Mathlib.Omega.{arith}
use lib.ListN.{set}
use Rattle.question.specs.Lines.{is_marked}
use Rattle.question.proofs.Marking.{Filled, filled_more, filled_all}
use Rattle.question.proofs.Question.marks.Goals as goal

pub loop-cell-init : goal.loop-cell-init
loop-cell-init c = record { whole = refl; first = refl }

pub loop-cell-preserved : goal.loop-cell-preserved
loop-cell-preserved c =
    let q = c.args.self in
    let below : c.loop-cell.cell < 256 = omega arith in
    subst (λ v. Filled (is_marked q) (c.loop-cell.cell + 1) (set c.loop-cell.marks c.loop-cell.cell v)) (sym c.is_marked.ensures)
    (filled_more (is_marked q) c.loop-cell.cell c.loop-cell.marks below c.loop-cell.invariant)

pub returns : goal.returns
returns c =
    let q = c.args.self in
    let all : c.loop-cell.cell ≡ 256 = omega arith in
    filled_all q c.loop-cell.marks (subst (λ n. Filled (is_marked q) n c.loop-cell.marks) all c.loop-cell.invariant)
