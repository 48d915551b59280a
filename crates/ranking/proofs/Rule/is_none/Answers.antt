-- Each number is compared with that of no rule, in the order of the fields.
-- Assumes nothing.
use mathlib.Core.Path.{◌≡◌, refl, ◌∙◌}
use mathlib.Core.Bool.{Bool, true, false, ◌&&◌}
use lib.IntN.{ℤ, pos}
use lib.Dec.{eqb}
use lib.Signed.{lt_z}
use Rattle.std.specs.Ordering.{int_eq}
use Rattle.laws.specs.Whole.{equal}
use Rattle.laws.proofs.Tests.{Tested, passed, failed, tested}
use Rattle.ranking.specs.Cells.{is_no_range, is_none}
use Rattle.ranking.proofs.Rule.is_none.Goals as goal

same_test : (a b : ℤ) → int_eq a b ≡ equal a b
unfolding equal
same_test a b = go (tested (lt_z a b)) (tested (lt_z b a))
  where
    go : Tested (lt_z a b) → Tested (lt_z b a) → int_eq a b ≡ equal a b
    go (passed e) f = rw e
    go (failed e) (passed f) = rw (e, f)
    go (failed e) (failed f) = rw (e, f)

in_turn : (a b c d e : Bool) → a && (b && c) && (d && e) ≡ a && b && c && e && d
in_turn false b c d e = refl
in_turn true false c d e = refl
in_turn true true false d e = refl
in_turn true true true false false = refl
in_turn true true true false true = refl
in_turn true true true true false = refl
in_turn true true true true true = refl

pub returns : goal.returns
unfolding is_none
returns c =
    let w = c.args.self.weights in
    let r = c.args.self.ranges in
    let zero = λ (z : ℤ). equal z (pos 0) in
    let is = rw (c.none.ensures, same_test w.loss (pos 0), same_test w.shake (pos 0), same_test w.heat (pos 0)) at c.eq.ensures in
    is ∙ in_turn (zero w.loss) (zero w.shake) (zero w.heat) (is_no_range r.loss && is_no_range r.shake) (eqb c.args.self.ties 0)
