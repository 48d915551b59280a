-- Laws of whole numbers with a sign, by cases of the signs: their order is strict and total, sums and products respect it, and how large they get.
-- "a is at most b" is said as `lt_z b a ≡ false`, which is what the tests say.
-- Assumes nothing.
use mathlib.Core.Path.{◌≡◌, refl, sym, ap, ◌∙◌, subst}
use mathlib.Core.Bool.{true, false, not, cond, ◌||◌}
use Prim.Native.Nat.{ℕ, zero, suc, ◌+◌, ◌*◌, ◌≤◌}
use native.Mathlib.Nat.{mul-add}
use native.Mathlib.Omega.{arith}
use borrow.Author.Tests.{lt-ltb, le-ltb, ltb-true, ltb-false, le-leb, lt-leb, not-true}
use lib.Dec.{ltb, leb}
use lib.IntN.{ℤ, pos, negsuc, suc_ℤ, neg_ℤ, nat_abs, sub_ℕ, ◌+ℤ◌, ◌*ℤ◌, +ℤ-suc_ℤ, +ℤ_idr, +ℤ_assoc, +ℤ_comm, +ℤ_invl, neg_ℤ-+ℤ}
use lib.Signed.{lt_z, le_z, mag}
use Rattle.laws.specs.Whole.{equal}
use Rattle.laws.proofs.Tests.{Tested, passed, failed, tested, clash, or_neither}
use Rattle.laws.proofs.Orders.{StrictTotal}

irrefl : (a : ℤ) → lt_z a a ≡ false
irrefl (pos a) = le-ltb a a (omega arith)
irrefl (negsuc a) = le-ltb a a (omega arith)

trans : (a b c : ℤ) → lt_z a b ≡ true → lt_z b c ≡ true → lt_z a c ≡ true
trans (pos a) (pos b) (pos c) p q = lt-ltb a c (omega (arith, ltb-true a b p, ltb-true b c q))
trans (pos a) (pos b) (negsuc c) p q = q
trans (pos a) (negsuc b) c p q = clash {b = false} p refl
trans (negsuc a) (pos b) (pos c) p q = refl
trans (negsuc a) (pos b) (negsuc c) p q = clash {b = false} q refl
trans (negsuc a) (negsuc b) (pos c) p q = refl
trans (negsuc a) (negsuc b) (negsuc c) p q = lt-ltb c a (omega (arith, ltb-true b a p, ltb-true c b q))

squeezed : (a b : ℕ) → b ≤ a → a ≤ b → a ≡ b
squeezed a b p q = omega arith

total : (a b : ℤ) → lt_z a b ≡ false → lt_z b a ≡ false → a ≡ b
total (pos a) (pos b) p q = ap pos (squeezed a b (ltb-false a b p) (ltb-false b a q))
total (pos a) (negsuc b) p q = clash {b = true} refl q
total (negsuc a) (pos b) p q = clash {b = true} refl p
total (negsuc a) (negsuc b) p q = ap negsuc (squeezed a b (ltb-false a b q) (ltb-false b a p))

pub lt_z_strict : StrictTotal lt_z
lt_z_strict = record { irreflexive = irrefl; transitive = trans; total = total }

-- ---- b is n more than a
pub record Up (a b : ℤ) : Type 0 where
  pub gap : ℕ
  pub is : a +ℤ pos gap ≡ b

next_not_less : (x a : ℤ) → lt_z x a ≡ false → lt_z (suc_ℤ x) a ≡ false
next_not_less (pos x) (pos a) h = le-ltb (suc x) a (omega (arith, ltb-false x a h))
next_not_less (pos x) (negsuc a) h = refl
next_not_less (negsuc zero) (pos a) h = clash {b = true} refl h
next_not_less (negsuc zero) (negsuc a) h = refl
next_not_less (negsuc (suc x)) (pos a) h = h
next_not_less (negsuc (suc x)) (negsuc a) h = le-ltb a x (omega (arith, ltb-false a (suc x) h))

sum_not_less : (a : ℤ) (n : ℕ) → lt_z (a +ℤ pos n) a ≡ false
sum_not_less a zero = ap (λ z. lt_z z a) (+ℤ_idr a) ∙ irrefl a
sum_not_less a (suc n) = ap (λ z. lt_z z a) (+ℤ-suc_ℤ a (pos n)) ∙ next_not_less (a +ℤ pos n) a (sum_not_less a n)

pub up_le : {a b : ℤ} → Up a b → lt_z b a ≡ false
up_le {a} {b} u = subst (λ z. lt_z z a ≡ false) u.is (sum_not_less a u.gap)

pub up_lt : {a b : ℤ} (u : Up a b) → 1 ≤ u.gap → lt_z a b ≡ true
up_lt {a} {b} u h = go (tested (lt_z a b))
  where
    nought : a ≡ b → pos u.gap ≡ pos 0
    nought e =
        sym (+ℤ_comm (pos 0) (pos u.gap) ∙ +ℤ_idr (pos u.gap))
        ∙ ap (λ z. z +ℤ pos u.gap) (sym (+ℤ_invl a))
        ∙ +ℤ_assoc (neg_ℤ a) a (pos u.gap)
        ∙ ap (λ z. neg_ℤ a +ℤ z) (u.is ∙ sym e)
        ∙ +ℤ_invl a

    go : Tested (lt_z a b) → lt_z a b ≡ true
    go (passed e) = e
    go (failed e) = absurd (omega (arith, ap nat_abs (nought (total a b e (up_le u)))))

unfoldable pub up_sum : {a b c d : ℤ} → Up a b → Up c d → Up (a +ℤ c) (b +ℤ d)
up_sum {a} {b} {c} {d} u v =
    record {
      gap = u.gap + v.gap;
      is =
          regroup a c (pos u.gap) (pos v.gap)
          ∙ ap (λ z. z +ℤ (c +ℤ pos v.gap)) u.is
          ∙ ap (λ z. b +ℤ z) v.is;
    }
  where
    regroup : (a c m n : ℤ) → (a +ℤ c) +ℤ (m +ℤ n) ≡ (a +ℤ m) +ℤ (c +ℤ n)
    regroup a c m n =
        +ℤ_assoc a c (m +ℤ n)
        ∙ ap (λ z. a +ℤ z) (sym (+ℤ_assoc c m n) ∙ ap (λ z. z +ℤ n) (+ℤ_comm c m) ∙ +ℤ_assoc m c n)
        ∙ sym (+ℤ_assoc a m (c +ℤ n))

-- a number that isn't negative, times more
unfoldable pub up_times : (a v d : ℕ) → Up (pos a *ℤ pos v) (pos a *ℤ pos (v + d))
up_times a v d = record { gap = a * d; is = ap pos (sym (mul-add a v d)) }

-- a negative number, times less
pub down_times : (a v d : ℕ) → Up (negsuc a *ℤ pos (v + d)) (negsuc a *ℤ pos v)
down_times a v d =
    record {
      gap = suc a * d;
      is =
          ap (λ n. neg_ℤ (pos n) +ℤ pos (suc a * d)) (mul-add (suc a) v d)
          ∙ ap (λ z. z +ℤ pos (suc a * d)) (neg_ℤ-+ℤ (pos (suc a * v)) (pos (suc a * d)))
          ∙ +ℤ_assoc (neg_ℤ (pos (suc a * v))) (neg_ℤ (pos (suc a * d))) (pos (suc a * d))
          ∙ ap (λ z. neg_ℤ (pos (suc a * v)) +ℤ z) (+ℤ_invl (pos (suc a * d)))
          ∙ +ℤ_idr (neg_ℤ (pos (suc a * v)));
    }

-- ---- how large

pub mag_le : (z : ℤ) → mag z ≤ nat_abs z
mag_le (pos n) = omega arith
mag_le (negsuc n) = omega arith

abs_neg : (n : ℕ) → nat_abs (neg_ℤ (pos n)) ≡ n
abs_neg zero = refl
abs_neg (suc n) = refl

pub abs_times : (z : ℤ) (v : ℕ) → nat_abs (z *ℤ pos v) ≡ nat_abs z * v
abs_times (pos n) v = refl
abs_times (negsuc n) v = abs_neg (suc n * v)

abs_sub : (a b : ℕ) → nat_abs (sub_ℕ a b) ≤ a + b
abs_sub a b = go (tested (ltb a b))
  where
    go : Tested (ltb a b) → nat_abs (sub_ℕ a b) ≤ a + b
    go (passed e) = rw (e, cond) (omega (arith, ltb-true a b e))
    go (failed e) = rw (e, cond) (omega (arith, ltb-false a b e))

pub abs_sum : (y z : ℤ) → nat_abs (y +ℤ z) ≤ nat_abs y + nat_abs z
abs_sum (pos a) (pos b) = omega arith
abs_sum (pos a) (negsuc b) = abs_sub a (suc b)
abs_sum (negsuc a) (pos b) = omega (arith, abs_sub b (suc a))
abs_sum (negsuc a) (negsuc b) = omega arith

-- ---- tests

-- "not less" and "at most" are one test
pub le_is : (a b : ℤ) → not (lt_z a b) ≡ le_z b a
le_is (pos a) (pos b) = go (tested (ltb a b))
  where
    go : Tested (ltb a b) → not (ltb a b) ≡ leb b a
    go (passed t) = ap not t ∙ sym (lt-leb b a (ltb-true a b t))
    go (failed t) = ap not t ∙ sym (le-leb b a (ltb-false a b t))
le_is (pos a) (negsuc b) = refl
le_is (negsuc a) (pos b) = refl
le_is (negsuc a) (negsuc b) = go (tested (ltb b a))
  where
    go : Tested (ltb b a) → not (ltb b a) ≡ leb a b
    go (passed t) = ap not t ∙ sym (lt-leb a b (ltb-true b a t))
    go (failed t) = ap not t ∙ sym (le-leb a b (ltb-false b a t))

pub equal_is : (a b : ℤ) → equal a b ≡ true → a ≡ b
unfolding equal
equal_is a b h =
    let neither = or_neither (lt_z a b) (lt_z b a) (not-true (lt_z a b || lt_z b a) h) in
    total a b neither.0 neither.1

pub equal_refl : (a : ℤ) → equal a a ≡ true
unfolding equal
equal_refl a = rw (irrefl a)

pub equal-same : (a b : ℤ) → a ≡ b → equal a b ≡ true
equal-same a b e = subst (λ z. equal a z ≡ true) e (equal_refl a)

pub equal_other : (a b : ℤ) → (a ≡ b → ⊥) → equal a b ≡ false
equal_other a b h = go (tested (equal a b))
  where
    go : Tested (equal a b) → equal a b ≡ false
    go (passed t) = absurd (h (equal_is a b t))
    go (failed t) = t
