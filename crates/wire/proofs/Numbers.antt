-- A number and its bytes determine each other: each byte is the remainder by 256, and the bytes behind it are the quotient's.
-- Assumes nothing.
use mathlib.Core.Path.{◌≡◌, refl, sym, ◌∙◌, ap, ap₂}
use mathlib.Core.Bool.{true, false≢true, and-eq-true_iff}
use mathlib.Core.List.{List, [], ◌∷◌}
use borrow.Author.Tests.{eq-eqb, eqb-true}
use Prim.Native.Nat.{ℕ, zero, suc, ◌+◌, ◌*◌, ◌/◌, ◌%◌, ◌^◌, ◌≤◌, ◌<◌}
use native.Mathlib.Nat.{pow-suc, div-lt_iff_lt-mul, add-mul-mod_self_left}
use native.Mathlib.Numerals.{add-one}
use native.Mathlib.Omega.{arith}
use lib.Dec.{lit<, eqb}
use Rattle.std.proofs.Common.{w16, w32}
use Rattle.std.specs.Int.{from_le_bytes, to_le_bytes}
use lib.ListN.{length, get_or, take, drop_of_length-le}
use lib.Seq.{take-nil, drop-nil}
use Rattle.wire.specs.Bytes.{number, bytes, part, same}

-- Every element is a byte: what a `&[u8]` says of its list.
abbrev pub Bytes : List ℕ → Type 0
Bytes s = (i : ℕ) → get_or s i 0 < 256

pub length-bytes : (n x : ℕ) → length (bytes n x) ≡ n
unfolding bytes
length-bytes zero x = refl
length-bytes (suc n) x = ap suc (length-bytes n (x / 256))

pub number-bytes : (n x : ℕ) → x < 256 ^ n → number (bytes n x) ≡ x
unfolding number bytes
number-bytes zero x h = omega arith
number-bytes (suc n) x h =
    let q : x / 256 < 256 ^ n = (div-lt_iff_lt-mul (lit< tt)).1 (rw pow-suc at h) in
    rw (number-bytes n (x / 256) q) (omega arith)

pub bytes-number : (s : List ℕ) → Bytes s → bytes (length s) (number s) ≡ s
unfolding number bytes
bytes-number [] h = refl
bytes-number (b ∷ s) h =
    let low : (b + 256 * number s) % 256 ≡ b = omega (arith, h 0) in
    let rest : (b + 256 * number s) / 256 ≡ number s = omega (arith, h 0) in
    ap₂ (λ (c : ℕ) (t : List ℕ). c ∷ t) low (rw rest (bytes-number s (λ i. h (suc i))))

pub number_nil : (at n : ℕ) → number (part at n []) ≡ 0
unfolding number
number_nil at n = simp (drop-nil, take-nil)

pub number_past : (s : List ℕ) (at n : ℕ) → length s ≤ at → number (part at n s) ≡ 0
unfolding number
number_past s at n h = simp (drop_of_length-le s h, take-nil)

-- One byte more, wherever the part stands: past the end there are zeros.
number_part_suc : (s : List ℕ) (at n : ℕ) → number (part at (suc n) s) ≡ get_or s at 0 + 256 * number (part (suc at) n s)
unfolding number
number_part_suc [] at n = rw (number_nil at (suc n), number_nil (suc at) n)
number_part_suc (b ∷ s) zero n = refl
number_part_suc (b ∷ s) (suc at) n = number_part_suc s at n

pub number-part : (s : List ℕ) (at n : ℕ) → number (part at (suc n) s) ≡ get_or s at 0 + 256 * number (part (at + 1) n s)
number-part s at n = rw add-one (number_part_suc s at n)

number-none : (s : List ℕ) (at : ℕ) → number (part at 0 s) ≡ 0
unfolding number
number-none s at = refl

pub number_two : (s : List ℕ) (at : ℕ) → number (part at 2 s) ≡ get_or s at 0 + 256 * get_or s (at + 1) 0
number_two s at = omega (arith, number-part s at 1, number-part s (at + 1) 0, number-none s (at + 1 + 1))

-- Bytes read one by one, with 0 for each past the end, stand for the number of those that there are.
module _ (l r : List ℕ) where
  pub from_two : ((i : ℕ) → i < 2 → get_or l i 0 ≡ get_or r i 0) → from_le_bytes w16 l ≡ number (take 2 r)
  from_two h = omega (arith, number_part_suc r 0 1, number_part_suc r 1 0, number-none r 2, h 0 (lit< tt), h 1 (lit< tt))

  pub from_four : ((i : ℕ) → i < 4 → get_or l i 0 ≡ get_or r i 0) → from_le_bytes w32 l ≡ number (take 4 r)
  from_four h =
      omega (
        arith,
        number_part_suc r 0 3,
        number_part_suc r 1 2,
        number_part_suc r 2 1,
        number_part_suc r 3 0,
        number-none r 4,
        h 0 (lit< tt),
        h 1 (lit< tt),
        h 2 (lit< tt),
        h 3 (lit< tt),
      )

-- The same where a fourth byte of 0 stands behind three.
pub from_three : (l r : List ℕ) → ((i : ℕ) → i < 3 → get_or l i 0 ≡ get_or r i 0)
    → from_le_bytes w32 (get_or l 0 0 ∷ get_or l 1 0 ∷ get_or l 2 0 ∷ 0 ∷ []) ≡ number (take 3 r)
from_three l r h =
    omega (arith, number_part_suc r 0 2, number_part_suc r 1 1, number_part_suc r 2 0, number-none r 3, h 0 (lit< tt), h 1 (lit< tt), h 2 (lit< tt))

pub to_two : (x : ℕ) → to_le_bytes w16 x ≡ bytes 2 x
unfolding bytes
to_two x = refl

pub to_four : (x : ℕ) → to_le_bytes w32 x ≡ bytes 4 x
unfolding bytes
to_four x =
    let third : x / 256 / 256 ≡ x / 65536 = omega arith in
    let fourth : x / 65536 / 256 ≡ x / 16777216 = omega arith in
    rw (third, fourth)

pub bytes_low : (x : ℕ) → bytes 2 (x % 65536) ≡ bytes 2 x
unfolding bytes
bytes_low x =
    let low : x % 65536 % 256 ≡ x % 256 = omega arith in
    let next : x / 256 ≡ x % 65536 / 256 + 256 * (x / 65536) = omega arith in
    let second : x % 65536 / 256 % 256 ≡ x / 256 % 256 =
    sym (ap (λ (k : ℕ). k % 256) next ∙ add-mul-mod_self_left (x % 65536 / 256) 256 (x / 65536)) in
    rw (low, second)

pub same_refl : (s : List ℕ) → same s s ≡ true
same_refl [] = refl
same_refl (a ∷ s) = (and-eq-true_iff (eqb a a) (same s s)).1 (eq-eqb a a refl, same_refl s)

pub same_eq : (s t : List ℕ) → same s t ≡ true → s ≡ t
same_eq [] [] h = refl
same_eq [] (b ∷ t) h = absurd (false≢true h)
same_eq (a ∷ s) [] h = absurd (false≢true h)
same_eq (a ∷ s) (b ∷ t) h =
    let e = (and-eq-true_iff (eqb a b) (same s t)).0 h in
    ap₂ (λ (x : ℕ) (r : List ℕ). x ∷ r) (eqb-true a b e.0) (same_eq s t e.1)

-- n bytes stand for a number below 256 ^ n.
pub number_below : (s : List ℕ) → Bytes s → number s < 256 ^ length s
unfolding number
number_below [] h = lit< tt
number_below (b ∷ s) h =
    let rest : number s < 256 ^ length s = number_below s (λ i. h (suc i)) in
    rw (pow-suc 256 (length s)) (omega (arith, h 0))
