-- The digits of a number, read back, are the number, and no other digits without a leading zero are: each step of the definition takes the last
-- digit off.
-- Assumes nothing.
use mathlib.Core.Path.{◌≡◌, refl, sym, ◌∙◌, ap, ap₂}
use mathlib.Core.Bool.{Bool, true, false}
use mathlib.Core.Logic.{⊎_elim, ◌⊎◌, inl, inr}
use mathlib.Core.List.{List, [], ◌∷◌, ◌++◌, append_assoc, append-nil, tail}
use Prim.Native.Nat.{ℕ, zero, suc, pred, ◌+◌, ◌-◌, ◌*◌, ◌/◌, ◌%◌, ◌≤◌, ◌<◌}
use native.Mathlib.Omega.{arith}
use borrow.Author.Tests.{lt-ltb, le-ltb, ltb-true, ltb-false}
use lib.Dec.{ltb}
use lib.IntN.{ℤ, pos, negsuc, nat_abs}
use lib.Signed.{lt_z}
use mir.Facts.{to_z-of_z}
use mir.Syntax.{w32}
use mir.Val.{SFits, to_z, of_z}
use Rattle.text.specs.Text.{spelled, decimal, signed_decimal, read_on}

pub below_or : (n m : ℕ) (b : Bool) → ltb n m ≡ b → (n < m) ⊎ (m ≤ n)
below_or n m true e = inl (ltb-true n m e)
below_or n m false e = inr (ltb-false n m e)

module _ (P : ℕ → Type 0) (one : (n : ℕ) → n < 10 → P n) (more : (n : ℕ) → 10 ≤ n → P (n / 10) → P n) where
  tens : (k n : ℕ) → n ≤ k → P n
  tens zero n h = one n (omega arith)
  tens (suc k) n h =
      ⊎_elim (λ s. one n s) (λ l. more n l (tens k (n / 10) (omega arith))) (below_or n 10 (ltb n 10) refl)

  -- What holds of a number below ten, and of any other when it holds of its tenth part, holds of all.
  pub by_tens : (n : ℕ) → P n
  by_tens n = tens n n (omega arith)

spelled_one : (k n : ℕ) → n < 10 → spelled k n ≡ (48 + n) ∷ []
unfolding spelled
spelled_one zero n h = refl
spelled_one (suc k) n h = rw (lt-ltb n 10 h)

spelled_more : (k n : ℕ) → 10 ≤ n → spelled (suc k) n ≡ spelled k (n / 10) ++ (48 + n % 10) ∷ []
unfolding spelled
spelled_more k n h = rw (le-ltb n 10 h)

-- More room before the last digit changes nothing.
spelled_same : (n j k : ℕ) → n ≤ j → n ≤ k → spelled j n ≡ spelled k n
spelled_same =
    by_tens (λ n. (j k : ℕ) → n ≤ j → n ≤ k → spelled j n ≡ spelled k n)
    (λ n h j k p q. spelled_one j n h ∙ sym (spelled_one k n h))
    (λ n h rest. larger n h rest)
  where
    larger : (n : ℕ) → 10 ≤ n → ((j k : ℕ) → n / 10 ≤ j → n / 10 ≤ k → spelled j (n / 10) ≡ spelled k (n / 10)) → (j k : ℕ) → n ≤ j → n ≤ k → spelled j n ≡ spelled k n
    larger n h rest zero k p q = absurd (omega arith)
    larger n h rest (suc j) zero p q = absurd (omega arith)
    larger n h rest (suc j) (suc k) p q = rw (spelled_more j n h, spelled_more k n h, rest j k (omega arith) (omega arith))

-- A number below ten is one digit.
pub decimal_one : (n : ℕ) → n < 10 → decimal n ≡ (48 + n) ∷ []
unfolding decimal
decimal_one n h = spelled_one n n h

-- Any other is its tenth part and its last digit.
pub decimal_more : (n : ℕ) → 10 ≤ n → decimal n ≡ decimal (n / 10) ++ (48 + n % 10) ∷ []
unfolding decimal
decimal_more zero h = absurd (omega arith)
decimal_more (suc n) h =
    rw (spelled_more n (suc n) h, spelled_same (suc n / 10) n (suc n / 10) (omega arith) (omega arith))

-- ---- read back

read_append : (n : ℕ) (s : List ℕ) (d : ℕ) → read_on n (s ++ d ∷ []) ≡ 10 * read_on n s + (d - 48)
unfolding read_on
read_append n [] d = refl
read_append n (c ∷ s) d = read_append (10 * n + (c - 48)) s d

-- The digits of a number, read back, are the number.
pub reads_back : (n : ℕ) → read_on 0 (decimal n) ≡ n
unfolding read_on
reads_back =
    by_tens (λ n. read_on 0 (decimal n) ≡ n) (λ n h. rw (decimal_one n h) (omega arith))
    (λ n h rest. rw (decimal_more n h, read_append, rest) (omega arith))

-- Two numbers with the same text are equal.
pub decimal_injective : (m n : ℕ) → decimal m ≡ decimal n → m ≡ n
decimal_injective m n e = sym (reads_back m) ∙ ap (read_on 0) e ∙ reads_back n

-- ---- digits, the first no zero

-- Every byte is an ASCII digit.
abbrev pub Digits : List ℕ → Type 0
Digits [] = Unit
Digits (d ∷ ds) = (48 ≤ d) × (d ≤ 57) × Digits ds

digits_append : (s : List ℕ) (d : ℕ) → Digits s → 48 ≤ d → d ≤ 57 → Digits (s ++ d ∷ [])
digits_append [] d h l u = (l, u, tt)
digits_append (c ∷ s) d h l u = (h.0, h.1, digits_append s d h.2 l u)

pub decimal_digits : (n : ℕ) → Digits (decimal n)
decimal_digits =
    by_tens (λ n. Digits (decimal n)) (λ n h. rw (decimal_one n h) (omega arith, omega arith, tt))
    (λ n h rest. rw (decimal_more n h) (digits_append (decimal (n / 10)) (48 + n % 10) rest (omega arith) (omega arith)))

-- A text has a first byte, above b.
abbrev pub Opens : ℕ → List ℕ → Type 0
Opens b [] = ⊥
Opens b (c ∷ s) = b < c

opens-append : (b : ℕ) (s t : List ℕ) → Opens b s → Opens b (s ++ t)
opens-append b [] t h = absurd h
opens-append b (c ∷ s) t h = h

-- There is no leading zero, unless the number is 0.
pub no_leading_zero : (n : ℕ) → 0 < n → Opens 48 (decimal n)
no_leading_zero =
    by_tens (λ n. 0 < n → Opens 48 (decimal n)) (λ n h p. rw (decimal_one n h) (omega arith))
    (λ n h rest p. rw (decimal_more n h) (opens-append 48 (decimal (n / 10)) ((48 + n % 10) ∷ []) (rest (omega arith))))

-- A digit more behind those of n.
decimal-next : (n d : ℕ) → 0 < n → 48 ≤ d → d ≤ 57 → decimal (10 * n + (d - 48)) ≡ decimal n ++ d ∷ []
decimal-next n d p l u =
    let rest : (10 * n + (d - 48)) / 10 ≡ n = omega arith in
    let last : 48 + (10 * n + (d - 48)) % 10 ≡ d = omega arith in
    decimal_more (10 * n + (d - 48)) (omega arith) ∙ ap₂ (λ (m c : ℕ). decimal m ++ c ∷ []) rest last

decimal_on : (n : ℕ) (s : List ℕ) → 0 < n → Digits s → decimal (read_on n s) ≡ decimal n ++ s
unfolding read_on
decimal_on n [] p h = sym (append-nil (decimal n))
decimal_on n (d ∷ s) p h =
    decimal_on (10 * n + (d - 48)) s (omega arith) h.2
    ∙ rw (decimal-next n d p h.0 h.1) (append_assoc (decimal n) (d ∷ []) s)

-- Digits without a leading zero are those of the number that they stand for: no other text is a number's.
pub decimal-only : (s : List ℕ) → Digits s → Opens 48 s → decimal (read_on 0 s) ≡ s
unfolding read_on
decimal-only [] h o = absurd o
decimal-only (d ∷ s) h o =
    let one : 48 + (10 * 0 + (d - 48)) ≡ d = omega arith in
    decimal_on (10 * 0 + (d - 48)) s (omega arith) h.2
    ∙ rw (decimal_one (10 * 0 + (d - 48)) (omega (arith, h.1)))
    (ap (λ (c : ℕ). c ∷ s) one)

-- ---- with a sign

-- A minus is no digit.
decimal_no_minus : (n : ℕ) (s : List ℕ) → decimal n ≡ 45 ∷ s → ⊥
decimal_no_minus n s e =
    let d : Digits (45 ∷ s) = rw e at (decimal_digits n) in
    omega (arith, d.0)

-- The same of numbers that may be negative.
pub signed_injective : (y z : ℤ) → signed_decimal y ≡ signed_decimal z → y ≡ z
unfolding signed_decimal
signed_injective (pos m) (pos n) e = ap pos (decimal_injective m n e)
signed_injective (pos m) (negsuc n) e = absurd (decimal_no_minus m (decimal (suc n)) e)
signed_injective (negsuc m) (pos n) e = absurd (decimal_no_minus n (decimal (suc m)) (sym e))
signed_injective (negsuc m) (negsuc n) e =
    let h : suc m ≡ suc n = decimal_injective (suc m) (suc n) (ap tail e) in
    ap negsuc (ap pred h)

below_nought : (z : ℤ) → lt_z z (pos 0) ≡ true → signed_decimal z ≡ 45 ∷ decimal (nat_abs z)
unfolding signed_decimal
below_nought (pos n) h = absurd (omega (arith, ltb-true n 0 h))
below_nought (negsuc n) h = refl

not_below : (z : ℤ) → lt_z z (pos 0) ≡ false → signed_decimal z ≡ decimal (nat_abs z)
unfolding signed_decimal
not_below (pos n) h = refl
not_below (negsuc n) h = cc

-- A minus where it is below 0, and the number without its sign, as the machine holds them.
module _ (z : ℤ) (fits : SFits w32 z) where
  pub signed_minus : lt_z (to_z w32 (of_z w32 z)) (pos 0) ≡ true → signed_decimal z ≡ 45 ∷ decimal (nat_abs (to_z w32 (of_z w32 z)))
  signed_minus h = rw (to_z-of_z fits) (below_nought z (rw (to_z-of_z fits) at h))

  pub signed_plain : lt_z (to_z w32 (of_z w32 z)) (pos 0) ≡ false → signed_decimal z ≡ decimal (nat_abs (to_z w32 (of_z w32 z)))
  signed_plain h = rw (to_z-of_z fits) (not_below z (rw (to_z-of_z fits) at h))
