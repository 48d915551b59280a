-- What no refusal tells: a chain of tests answers 0 only where each is passed.
-- Assumes nothing.
use mathlib.Core.Path.{◌≡◌, refl, ap, ◌∙◌}
use Rattle.std.specs.Prelude.{Err}
use Rattle.refusal.specs.declared.Refusal.{Refusal}
use Rattle.refusal.specs.Numbers.{number_of}
use Rattle.refusal.specs.Answers.{refusal_of, answered}
use Rattle.refusal.proofs.Answers.{refused_is, refused_number, known}
use mathlib.Core.Bool.{Bool, true, false, cond}
use Prim.Native.Nat.{ℕ, suc}
use native.Mathlib.Omega.{arith}
use borrow.Author.Tests.{eq-eqb, ne_eqb}
use lib.Dec.{eqb}
use Rattle.laws.proofs.Tests.{if_so, if_not}

pub no_refusal : (t : Bool) (x n : ℕ) → cond t x (suc n) ≡ 0 → (t ≡ true) × (x ≡ 0)
no_refusal true x n e = (refl, e)
no_refusal false x n e = absurd (omega arith)

pub zero_is : {n : ℕ} {A : Type 0} (x y : A) → n ≡ 0 → cond (eqb n 0) x y ≡ x
zero_is {n} x y e = if_so x y (eq-eqb n 0 e)

pub zero_not : {n : ℕ} {A : Type 0} (x y : A) → (n ≡ 0 → ⊥) → cond (eqb n 0) x y ≡ y
zero_not {n} x y e = if_not x y (ne_eqb n 0 e)

-- ---- what a number tells of the answer

-- Where a number isn't 0, it is a refusal's.
abbrev pub Told : ℕ → Type 0
Told n = (n ≡ 0 → ⊥) → number_of (refusal_of n) ≡ n

pub told_none : Told 0
told_none not_0 = absurd (not_0 refl)

pub told_of : (e : Refusal) → Told (number_of e)
told_of e not_0 = known e

pub told_if : (t : Bool) {x y : ℕ} → Told x → Told y → Told (cond t x y)
told_if true p q = p
told_if false p q = q

-- The refusal that is answered has that number.
pub answer_number : {A : Type 0} {e : Refusal} (n : ℕ) (a : A) → Told n → Err e ≡ answered n a → number_of e ≡ n
answer_number n a told h = ap number_of (refused_is n a h) ∙ told (refused_number n a h)
