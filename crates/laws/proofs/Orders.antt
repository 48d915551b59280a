-- What follows of any test that is a strict total order, and numbers by size as one.
-- Assumes nothing.
use mathlib.Core.Path.{◌≡◌, sym, subst}
use mathlib.Core.Bool.{Bool, true, false}
use native.Mathlib.Omega.{arith}
use borrow.Author.Tests.{lt-ltb, ltb-true, ltb-false, le-ltb}
use lib.Dec.{ltb}
use Rattle.laws.proofs.Tests.{Tested, passed, failed, tested, clash}

-- "ranks above" orders all: none above itself, and of two different ones one above the other
pub record StrictTotal {E : Type 0} (above : E → E → Bool) : Type 0 where
  pub irreflexive : (x : E) → above x x ≡ false
  pub transitive : (x y z : E) → above x y ≡ true → above y z ≡ true → above x z ≡ true
  pub total : (x y : E) → above x y ≡ false → above y x ≡ false → x ≡ y

-- numbers by size
pub ltb_strict : StrictTotal ltb
ltb_strict =
    record {
      irreflexive = λ x. le-ltb x x (omega arith);
      transitive = λ x y z p q. lt-ltb x z (omega (arith, ltb-true x y p, ltb-true y z q));
      total = λ x y p q. omega (arith, ltb-false x y p, ltb-false y x q);
    }

module _ {E : Type 0} (above : E → E → Bool) (order : StrictTotal above) where
  -- two cannot each rank above the other
  pub opposite {ℓ} : {X : Type ℓ} (x y : E) → above x y ≡ true → above y x ≡ true → X
  opposite x y p q = clash (order.transitive x y x p q) (order.irreflexive x)

  pub one_way : (x y : E) → above x y ≡ true → above y x ≡ false
  one_way x y p = go (tested (above y x))
    where
      go : Tested (above y x) → above y x ≡ false
      go (passed q) = opposite x y p q
      go (failed q) = q

  -- what does not rank below another ranks above all that the other does
  pub ahead : (x y z : E) → above y x ≡ false → above y z ≡ true → above x z ≡ true
  ahead x y z p q = go (tested (above x y))
    where
      go : Tested (above x y) → above x z ≡ true
      go (passed e) = order.transitive x y z e q
      go (failed e) = subst (λ v. above v z ≡ true) (sym (order.total x y e p)) q

  pub behind : (x y z : E) → above x y ≡ true → above z y ≡ false → above x z ≡ true
  behind x y z p q = go (tested (above y z))
    where
      go : Tested (above y z) → above x z ≡ true
      go (passed e) = order.transitive x y z p e
      go (failed e) = subst (λ v. above x v ≡ true) (order.total y z e q) p

  -- one that ranks above another is another
  pub differs : (x y : E) → above x y ≡ true → x ≡ y → ⊥
  differs x y p e = clash (subst (λ z. above x z ≡ true) (sym e) p) (order.irreflexive x)
