-- Laws of Boolean tests, by their two values.
-- Assumes nothing.
use mathlib.Core.Path.{◌≡◌, refl, sym, ap, ◌∙◌}
use mathlib.Core.Logic.{◌⊎◌, inl, inr}
use mathlib.Core.Bool.{Bool, true, false, cond, ◌&&◌, ◌||◌, true≢false}

-- a Boolean test and its outcome
pub data Tested (b : Bool) : Type 0 where
  passed : b ≡ true → Tested b
  failed : b ≡ false → Tested b

pub tested : (b : Bool) → Tested b
tested true = passed refl
tested false = failed refl

pub clash {ℓ} : {X : Type ℓ} {b : Bool} → b ≡ true → b ≡ false → X
clash p q = absurd (true≢false (sym p ∙ q))

pub and_both : (a b : Bool) → a && b ≡ true → (a ≡ true) × (b ≡ true)
and_both true b h = (refl, h)
and_both false b h = clash {b = false} h refl

pub or_either : (a b : Bool) → a || b ≡ true → (a ≡ true) ⊎ (b ≡ true)
or_either true b h = inl refl
or_either false b h = inr h

pub or_left : (a b : Bool) → a ≡ true → a || b ≡ true
or_left a b e = rw e

pub or_right : (a b : Bool) → b ≡ true → a || b ≡ true
or_right true b e = refl
or_right false b e = e

pub and_true : {a b : Bool} → a ≡ true → b ≡ true → a && b ≡ true
and_true {a} {b} p q = rw (p, q)

-- a test behind one that holds, and behind one that fails
pub and_after : {a : Bool} (b : Bool) → a ≡ true → a && b ≡ b
and_after b e = ap (λ t. t && b) e

pub and_stops : {a : Bool} (b : Bool) → a ≡ false → a && b ≡ false
and_stops b e = ap (λ t. t && b) e

pub and_no : (a : Bool) {b : Bool} → b ≡ false → a && b ≡ false
and_no true e = e
and_no false e = refl

pub and_so : (a : Bool) → a && true ≡ a
and_so true = refl
and_so false = refl

pub or_neither : (a b : Bool) → a || b ≡ false → (a ≡ false) × (b ≡ false)
or_neither true b h = clash {b = true} refl h
or_neither false b h = (refl, h)

-- two tests of which each holds where the other does
pub one_test : (a b : Bool) → (a ≡ true → b ≡ true) → (b ≡ true → a ≡ true) → a ≡ b
one_test true b f g = sym (f refl)
one_test false true f g = g refl
one_test false false f g = refl

-- what a choice comes to
pub if_so : {A : Type 0} {b : Bool} (x y : A) → b ≡ true → cond b x y ≡ x
if_so x y e = ap (λ t. cond t x y) e

pub if_not : {A : Type 0} {b : Bool} (x y : A) → b ≡ false → cond b x y ≡ y
if_not x y e = ap (λ t. cond t x y) e

-- both cases of a choice
pub either : {A : Type 0} (P : A → Type 0) (b : Bool) {x y : A} → (b ≡ true → P x) → (b ≡ false → P y) → P (cond b x y)
either P true f g = f refl
either P false f g = g refl
