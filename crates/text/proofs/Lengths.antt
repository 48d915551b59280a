-- How long the texts get: a number below a power of ten has at most that many digits, and a line is its numbers with a byte before each.
-- Assumes nothing.
use mathlib.Core.Path.{◌≡◌, refl, sym}
use mathlib.Core.Logic.{⊎_elim}
use mathlib.Core.List.{List, [], ◌∷◌}
use Prim.Native.Nat.{ℕ, zero, suc, ◌+◌, ◌*◌, ◌/◌, ◌^◌, ◌≤◌, ◌<◌}
use native.Mathlib.Nat.{pow-suc, div-lt_iff_lt-mul}
use native.Mathlib.Numerals.{add-one}
use native.Mathlib.Omega.{arith}
use lib.Dec.{ltb, lit<, lit≤}
use lib.ListN.{length, get_or, take, length-append}
use lib.IntN.{ℤ, pos, negsuc}
use lib.Signed.{mag}
use Rattle.text.specs.Text.{Entry, decimal, signed_decimal, spaced, s_line, r_line, entry_text, entries_text, q_line, entries_of}
use Rattle.text.proofs.Decimal.{below_or, by_tens, decimal_one, decimal_more}

pub length_one : (n : ℕ) → n < 10 → length (decimal n) ≡ 1
length_one n h = rw (decimal_one n h)

pub length_more : (n : ℕ) → 10 ≤ n → length (decimal n) ≡ length (decimal (n / 10)) + 1
length_more n h = rw (decimal_more n h, length-append)

pub length_some : (n : ℕ) → 0 < length (decimal n)
length_some =
    by_tens (λ n. 0 < length (decimal n)) (λ n h. rw (length_one n h) (lit< tt))
    (λ n h rest. rw (length_more n h) (omega arith))

-- A number below a power of ten has at most that many digits.
pub decimal-longest : (k n : ℕ) → n < 10 ^ suc k → length (decimal n) ≤ suc k
decimal-longest zero n h = rw (length_one n h) (omega arith)
decimal-longest (suc k) n h =
    ⊎_elim (λ s. rw (length_one n s) (omega arith))
    (λ l.
    let q : n / 10 < 10 ^ suc k = (div-lt_iff_lt-mul (lit< tt)).1 (rw pow-suc at h) in
    rw (length_more n l) (omega (arith, decimal-longest k (n / 10) q)))
    (below_or n 10 (ltb n 10) refl)

-- `Text::NUMBER`, and a number of 32 bits.
pub decimal64_longest : (n : ℕ) → n < 2 ^ 64 → length (decimal n) ≤ 20
decimal64_longest n h = decimal-longest 19 n (omega arith)

pub decimal32_longest : (n : ℕ) → n < 2 ^ 32 → length (decimal n) ≤ 10
decimal32_longest n h = decimal-longest 9 n (omega arith)

-- `Text::SCORE`.
pub signed32_longest : (z : ℤ) → mag z < 2 ^ 31 → length (signed_decimal z) ≤ 11
unfolding signed_decimal
signed32_longest (pos n) h = omega (arith, decimal32_longest n (omega arith))
signed32_longest (negsuc n) h = omega (arith, decimal32_longest (suc n) (omega arith))

length_word : (n : ℕ) → length (spaced n) ≡ length (decimal n) + 1
unfolding spaced
length_word n = sym (add-one (length (decimal n)))

-- `Text::S_LONGEST`.
pub s_line-longest : (item slot steps : ℕ) → item < 2 ^ 64 → slot < 2 ^ 8 → steps < 2 ^ 16 → length (s_line item slot steps) ≤ 33
unfolding s_line
s_line-longest item slot steps hi hs ht =
    simp (length-append, length_word)
    (omega (arith, decimal64_longest item hi, decimal-longest 2 slot (omega arith), decimal-longest 4 steps (omega arith)))

-- `Text::R_LONGEST`.
pub r_line-longest : (item code : ℕ) → item < 2 ^ 64 → code < 2 ^ 8 → length (r_line item code) ≤ 27
unfolding r_line
r_line-longest item code hi hc =
    simp (length-append, length_word) (omega (arith, decimal64_longest item hi, decimal-longest 2 code (omega arith)))

-- Each number fits a `u32`, and each score an `i32`.
abbrev pub InRange : List Entry → Type 0
InRange [] = Unit
InRange (e ∷ es) = (e.number < 2 ^ 32) × (mag e.score < 2 ^ 31) × InRange es

-- Entries from numbers and scores that fit are in range, the first n of them too.
pub listed_in_range : (n : ℕ) (ns : List ℕ) (ss : List ℤ) → ((i : ℕ) → get_or ns i 0 < 2 ^ 32) → ((i : ℕ) → mag (get_or ss i (pos 0)) < 2 ^ 31)
    → InRange (take n (entries_of ns ss))
unfolding entries_of
listed_in_range zero ns ss h k = tt
listed_in_range (suc n) [] ss h k = tt
listed_in_range (suc n) (x ∷ ns) [] h k = tt
listed_in_range (suc n) (x ∷ ns) (s ∷ ss) h k = (h 0, k 0, listed_in_range n ns ss (λ i. h (suc i)) (λ i. k (suc i)))

length-entry : (e : Entry) → length (entry_text e) ≡ length (decimal e.number) + 1 + 1 + length (signed_decimal e.score)
unfolding entry_text
length-entry e = simp (length-append, length_word) (omega arith)

pub entries-longest : (es : List Entry) → InRange es → length (entries_text es) ≤ 23 * length es
unfolding entries_text
entries-longest [] h = lit≤ tt
entries-longest (e ∷ es) h =
    simp (length-append, length-entry)
    (omega (arith, decimal32_longest e.number h.0, signed32_longest e.score h.1, entries-longest es h.2))

-- `Text::Q_LONGEST`.
pub q_line-longest : (slot : ℕ) (es : List Entry) → slot < 2 ^ 8 → length es ≤ 16 → InRange es → length (q_line slot es) ≤ 377
unfolding q_line
q_line-longest slot es hs hn h =
    simp (length-append, length_word)
    (omega (arith, decimal-longest 2 slot (omega arith), decimal-longest 1 (length es) (omega arith), entries-longest es h))
