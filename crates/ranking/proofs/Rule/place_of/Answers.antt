-- The invariant: n counts the cells below d that are taken before the given one.
-- Assumes nothing.
use mathlib.Core.Path.{◌≡◌, sym, ap, ◌∙◌, subst}
use mathlib.Core.Bool.{Bool, ◌&&◌}
use mathlib.Core.List.{[]}
use Prim.Native.Nat.{ℕ, ◌+◌}
use native.Mathlib.Omega.{arith}
use lib.ListN.{length}
use Rattle.laws.specs.Lists.{only}
use Rattle.ranking.specs.Cells.{cell_counts, before, numbers_below}
use Rattle.ranking.proofs.Scan.{counted_yes, counted_no}
use Rattle.ranking.proofs.Rule.place_of.Goals as goal
use Rattle.ranking.proofs.Rule.place_of.Goals.{then-comes_before, else-comes_before}

pub loop-d-preserved : goal.loop-d-preserved
loop-d-preserved c =
    let p : ℕ → Bool = λ e. cell_counts c.args.self e && before c.args.self e c.args.cell in
    elim c.if-comes_before.branch [
      | then-comes_before w ↦ (
        omega (arith, w.n-is),
        w.n-is
            ∙ ap (λ m. m + 1) c.loop-d.invariant.1
            ∙ sym (counted_yes p c.loop-d.d (sym c.comes_before.ensures ∙ w.if-comes_before.true)),
      )
      | else-comes_before w ↦ (
        omega (arith, w.n-is),
        w.n-is ∙ c.loop-d.invariant.1 ∙ sym (counted_no p c.loop-d.d (sym c.comes_before.ensures ∙ w.if-comes_before.false)),
      )
    ]

pub returns : goal.returns
returns c =
    let all : c.loop-d.d ≡ 256 = omega arith in
    subst (λ d. c.loop-d.n ≡ length (only (λ e. cell_counts c.args.self e && before c.args.self e c.args.cell) (numbers_below d []))) all c.loop-d.invariant.1
