-- A number that `text` writes is read back as that number: each step takes the last digit off.
-- Assumes nothing.
use mathlib.Core.Path.{◌≡◌, refl, sym, ◌∙◌, ap}
use mathlib.Core.Logic.{⊎_elim}
use mathlib.Core.Bool.{Bool, true, false, cond}
use mathlib.Core.List.{List, [], ◌∷◌, ◌++◌}
use Prim.Native.Nat.{ℕ, suc, ◌+◌, ◌-◌, ◌*◌, ◌/◌, ◌%◌, ◌≤◌, ◌<◌}
use native.Mathlib.Omega.{arith}
use borrow.Author.Tests.{le-leb, lt-leb, lt-ltb, ne_eqb}
use lib.Dec.{eqb, ltb}
use lib.ListN.{length, get_or}
use lib.IntN.{ℤ, pos, negsuc}
use Rattle.text.specs.Text.{decimal, signed_decimal, read_on}
use Rattle.text.proofs.Decimal.{Digits, below_or, by_tens, decimal_one, decimal_more, decimal_digits}
use Rattle.text.proofs.Lengths.{length_some}
use Rattle.lines.specs.Numbers.{digit_of, shifted, with_digit, number_on, number_in, short_in}
use Rattle.std.proofs.Common.{Option, Some, None, option_and_then}

digit_back : (d : ℕ) → d < 10 → digit_of (48 + d) ≡ Some d
unfolding digit_of
digit_back d h = rw (le-leb 48 (48 + d) (omega arith), le-leb (48 + d) 57 (omega arith)) (ap Some (omega arith))

-- A digit more is that number where it is at most the most, and none where it is over it.
with_back : (most n d : ℕ) → d < 10 → n * 10 + d ≤ most → with_digit 10 most n (48 + d) ≡ Some (n * 10 + d)
unfolding with_digit
with_back most n d h room = rw (digit_back d h, lt-ltb d 10 h, le-leb (n * 10 + d) most room)

with_over : (most n d : ℕ) → d < 10 → most < n * 10 + d → with_digit 10 most n (48 + d) ≡ None
unfolding with_digit
with_over most n d h over = rw (digit_back d h, lt-ltb d 10 h, lt-leb (n * 10 + d) most over)

on_append : (base most n : ℕ) (s : List ℕ) (b : ℕ) → number_on base most n (s ++ b ∷ []) ≡ option_and_then (λ m. with_digit base most m b) (number_on base most n s)
unfolding number_on
on_append base most n [] b = by_digit (with_digit base most n b)
  where
    by_digit : (d : Option ℕ) → option_and_then (λ m. Some m) d ≡ d
    by_digit None = refl
    by_digit (Some m) = refl
on_append base most n (a ∷ s) b = by_digit (with_digit base most n a) (λ m. on_append base most m s b)
  where
    by_digit : (d : Option ℕ) → ((m : ℕ) → number_on base most m (s ++ b ∷ []) ≡ option_and_then (λ k. with_digit base most k b) (number_on base most m s))
        → option_and_then (λ m. number_on base most m (s ++ b ∷ [])) d ≡ option_and_then (λ k. with_digit base most k b) (option_and_then (λ m. number_on base most m s) d)
    by_digit None rest = refl
    by_digit (Some m) rest = rest m

digits_back : (most n : ℕ) → n ≤ most → number_on 10 most 0 (decimal n) ≡ Some n
unfolding number_on
digits_back most =
    by_tens (λ n. n ≤ most → number_on 10 most 0 (decimal n) ≡ Some n)
    (λ n h room. rw (decimal_one n h, on_append 10 most 0 [] (48 + n)) (with_back most 0 n h (omega arith) ∙ ap Some (omega arith)))
    (λ n h rest room.
    rw (decimal_more n h, on_append, rest (omega arith)) (with_back most (n / 10) (n % 10) (omega arith) (omega arith) ∙ ap Some (omega arith)))

-- The text of a number that is at most `most` is read as that number.
pub number_back : (most n : ℕ) → n ≤ most → number_in 10 most (decimal n) ≡ Some n
unfolding number_in
number_back most n h = rw (ne_eqb (length (decimal n)) 0 (λ e. omega (arith, length_some n))) (digits_back most n h)

-- ---- any digits

read_grows : (n : ℕ) (s : List ℕ) → n ≤ read_on n s
unfolding read_on
read_grows n [] = omega arith
read_grows n (d ∷ s) = omega (arith, read_grows (10 * n + (d - 48)) s)

one_digit : (most n d : ℕ) → 48 ≤ d → d ≤ 57 → 10 * n + (d - 48) ≤ most → with_digit 10 most n d ≡ Some (10 * n + (d - 48))
one_digit most n d low high room =
    let e : 48 + (d - 48) ≡ d = omega arith in
    let v : n * 10 + (d - 48) ≡ 10 * n + (d - 48) = omega arith in
    (rw e at (with_back most n (d - 48) (omega arith) (omega arith))) ∙ ap Some v

digits_on : (most n : ℕ) (s : List ℕ) → Digits s → read_on n s ≤ most → number_on 10 most n s ≡ Some (read_on n s)
unfolding number_on read_on
digits_on most n [] d h = refl
digits_on most n (b ∷ s) d h =
    rw (one_digit most n b d.0 d.1 (omega (arith, read_grows (10 * n + (b - 48)) s))) (digits_on most (10 * n + (b - 48)) s d.2 h)

-- Decimal digits, leading zeros too, are read as the number that they stand for, where it is at most `most`.
pub number_digits : (most : ℕ) (b : ℕ) (s : List ℕ) → Digits (b ∷ s) → read_on 0 (b ∷ s) ≤ most → number_in 10 most (b ∷ s) ≡ Some (read_on 0 (b ∷ s))
unfolding number_in
number_digits most b s d h = rw (ne_eqb (length (b ∷ s)) 0 (λ e. omega arith)) (digits_on most 0 (b ∷ s) d h)

over_digit : (most n d : ℕ) → 48 ≤ d → d ≤ 57 → most < 10 * n + (d - 48) → with_digit 10 most n d ≡ None
over_digit most n d low high h =
    let e : 48 + (d - 48) ≡ d = omega arith in
    rw e at (with_over most n (d - 48) (omega arith) (omega arith))

digits_over : (most n : ℕ) (s : List ℕ) → n ≤ most → Digits s → most < read_on n s → number_on 10 most n s ≡ None
unfolding number_on read_on
digits_over most n [] room d h = absurd (omega arith)
digits_over most n (b ∷ s) room d h =
    ⊎_elim (λ o. rw (over_digit most n b d.0 d.1 o))
    (λ r. rw (one_digit most n b d.0 d.1 r) (digits_over most (10 * n + (b - 48)) s r d.2 h))
    (below_or most (10 * n + (b - 48)) (ltb most (10 * n + (b - 48))) refl)

-- And where it is more they are no number.
pub number_over : (most : ℕ) (s : List ℕ) → Digits s → most < read_on 0 s → number_in 10 most s ≡ None
unfolding number_in
number_over most s d h = go (eqb (length s) 0) (digits_over most 0 s (omega arith) d h)
  where
    go : (t : Bool) {n : Option ℕ} → n ≡ None → cond t None n ≡ None
    go true e = refl
    go false e = e

-- A digit is no minus.
no_minus : (s : List ℕ) → Digits s → get_or s 0 0 ≡ 45 → ⊥
no_minus [] d e = omega arith
no_minus (b ∷ s) d e = omega (arith, d.0)

-- From -32,768 to 32,767.
abbrev pub InShort : ℤ → Type 0
InShort (pos n) = n ≤ 32767
InShort (negsuc n) = suc n ≤ 32768

-- The same of a number that may be negative.
pub short_back : (z : ℤ) → InShort z → short_in (signed_decimal z) ≡ Some z
unfolding short_in signed_decimal
short_back (pos n) h = rw (ne_eqb (get_or (decimal n) 0 0) 45 (no_minus (decimal n) (decimal_digits n)), number_back 32767 n h)
short_back (negsuc n) h = rw (number_back 32768 (suc n) h)
