-- Numbers in text.
use Rattle.std.specs.Prelude.{ℕ, ◌+◌, ◌-◌, ◌*◌, List, [], ◌∷◌, Bool, cond, ◌&&◌, length, get_or, drop, leb, ltb, eqb, ℤ, pos, neg_ℤ, Option, Some, None, option_map, option_and_then}

-- A byte from `low` to `high`.
abbrev pub is_between : ℕ → ℕ → ℕ → Bool
is_between low high b = leb low b && leb b high

-- What a byte stands for as a digit: 0 to 9, A to F, a to f.
unfoldable pub digit_of : ℕ → Option ℕ
digit_of b =
    cond (is_between 48 57 b) (Some (b - 48))
    (cond (is_between 65 70 b) (Some (b - 65 + 10))
    (cond (is_between 97 102 b) (Some (b - 97 + 10))
    None))

-- A number with a digit d of the base more, which stays at most `most`.
abbrev pub shifted : ℕ → ℕ → ℕ → ℕ → Option ℕ
shifted base most n d = cond (ltb d base && leb (n * base + d) most) (Some (n * base + d)) None

-- One digit more.
unfoldable pub with_digit : ℕ → ℕ → ℕ → ℕ → Option ℕ
with_digit base most n b = option_and_then (shifted base most n) (digit_of b)

-- Digit by digit.
unfoldable pub number_on : ℕ → ℕ → ℕ → List ℕ → Option ℕ
number_on base most n [] = Some n
number_on base most n (b ∷ s) = option_and_then (λ m. number_on base most m s) (with_digit base most n b)

-- The number that a text stands for: at least one digit.
unfoldable pub number_in : ℕ → ℕ → List ℕ → Option ℕ
number_in base most s = cond (eqb (length s) 0) None (number_on base most 0 s)

-- A number from -32,768 to 32,767, with a minus before a negative one.
unfoldable pub short_in : List ℕ → Option ℤ
short_in s = cond (eqb (get_or s 0 0) 45) (option_map (λ n. neg_ℤ (pos n)) (number_in 10 32768 (drop 1 s))) (option_map pos (number_in 10 32767 s))
