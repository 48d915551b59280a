-- The parts of a captured line: each test of the code is a case of the definition.
-- Assumes nothing.
use mathlib.Core.Path.{◌≡◌, refl, sym, ◌∙◌, ap}
use mathlib.Core.Bool.{Bool, true, false, ◌&&◌}
use mathlib.Core.List.{List, [], ◌∷◌, append-nil}
use Prim.Native.Nat.{ℕ, zero, suc, ◌+◌, ◌-◌, ◌*◌, ◌/◌, ◌%◌, ◌≤◌, ◌<◌}
use native.Mathlib.Omega.{arith}
use lib.ListN.{length, take, drop, replicate, length-drop, drop_of_length-le}
use lib.Seq.{sets, drop-drop, sets-eq}
use Rattle.std.proofs.Common.{Option, Some, None, is_some, unwrap_or}
use Rattle.lines.specs.Numbers.{number_in}
use Rattle.lines.proofs.Numbers.{number_most}
use Rattle.capture.specs.Capture.{hex_in, bytes_in}

-- ---- pairs of digits

-- What a text is read as, or 0, is at most the most.
pub read_most : (base most : ℕ) (s : List ℕ) → unwrap_or (number_in base most s) 0 ≤ most
read_most base most s = go (number_in base most s) refl
  where
    go : (n : Option ℕ) → number_in base most s ≡ n → unwrap_or n 0 ≤ most
    go None e = omega arith
    go (Some n) e = number_most base most s n e

two_hex : (l : List ℕ) → 1 < length l → hex_in l ≡ (is_some (number_in 16 255 (take 2 l)) && hex_in (drop 2 l))
unfolding hex_in
two_hex [] h = absurd (omega arith)
two_hex (a ∷ []) h = absurd (omega arith)
two_hex (a ∷ (b ∷ s)) h = refl

two_bytes : (l : List ℕ) → 1 < length l → bytes_in l ≡ unwrap_or (number_in 16 255 (take 2 l)) 0 ∷ bytes_in (drop 2 l)
unfolding bytes_in
two_bytes [] h = absurd (omega arith)
two_bytes (a ∷ []) h = absurd (omega arith)
two_bytes (a ∷ (b ∷ s)) h = refl

pub hex_odd : (s : List ℕ) → (length s % 2 ≡ 0 → ⊥) → false ≡ hex_in s
unfolding hex_in
hex_odd [] h = absurd (h refl)
hex_odd (a ∷ []) h = refl
hex_odd (a ∷ (b ∷ s)) h = rest (is_some (number_in 16 255 (a ∷ b ∷ []))) (hex_odd s (λ e. h (omega arith)))
  where
    rest : (x : Bool) {y : Bool} → false ≡ y → false ≡ (x && y)
    rest true e = e
    rest false e = refl

module _ (s : List ℕ) (k : ℕ) (n : Option ℕ) (pair : n ≡ number_in 16 255 (take 2 (drop (2 * k) s))) (inside : k < length s / 2) where
  after : drop 2 (drop (2 * k) s) ≡ drop (2 * (k + 1)) s
  after = let e : 2 * k + 2 ≡ 2 * (k + 1) = omega arith in drop-drop 2 (2 * k) s ∙ rw e

  pub hex_more : is_some n ≡ true → hex_in (drop (2 * k) s) ≡ hex_in (drop (2 * (k + 1)) s)
  hex_more h = two_hex (drop (2 * k) s) (rw length-drop (omega arith)) ∙ rw (← pair, h, after)

  pub hex_stop : is_some n ≡ false → hex_in (drop (2 * k) s) ≡ false
  hex_stop h = two_hex (drop (2 * k) s) (rw length-drop (omega arith)) ∙ rw (← pair, h)

  pub bytes_more : bytes_in (drop (2 * k) s) ≡ unwrap_or n 0 ∷ bytes_in (drop (2 * (k + 1)) s)
  bytes_more = two_bytes (drop (2 * k) s) (rw length-drop (omega arith)) ∙ rw (← pair, after)

pub hex_end : (s : List ℕ) (k : ℕ) → length s ≤ 2 * k → hex_in (drop (2 * k) s) ≡ true
unfolding hex_in
hex_end s k h = rw (drop_of_length-le s {i = 2 * k} h)

pub bytes-end : (s : List ℕ) (k : ℕ) → length s / 2 ≤ k → bytes_in (drop (2 * k) s) ≡ []
unfolding bytes_in
bytes-end s k h = go (drop (2 * k) s) (rw length-drop (omega arith))
  where
    go : (l : List ℕ) → length l ≤ 1 → bytes_in l ≡ []
    go [] h = refl
    go (a ∷ []) h = refl
    go (a ∷ (b ∷ l)) h = absurd (omega arith)

pub bytes_count : (k : ℕ) (s : List ℕ) → length s ≡ 2 * k → length (bytes_in s) ≡ k
unfolding bytes_in
bytes_count zero [] h = refl
bytes_count zero (a ∷ s) h = absurd (omega arith)
bytes_count (suc k) [] h = absurd (omega arith)
bytes_count (suc k) (a ∷ []) h = absurd (omega arith)
bytes_count (suc k) (a ∷ (b ∷ s)) h = ap suc (bytes_count k s (omega arith))

-- ---- an item's value

over : (l v : List ℕ) → length v ≡ length l → sets l 0 v ≡ v
over l v h = sets-eq v l 0 (omega arith) ∙ rw (drop_of_length-le l {i = 0 + length v} (omega arith)) (append-nil v)

-- Eight bytes fill the room for them.
pub eight_stored : (d : List ℕ) {e : List ℕ} → length d ≡ 16 → e ≡ sets (replicate 8 0) 0 (bytes_in d) → e ≡ bytes_in d
eight_stored d h eight = eight ∙ over (replicate 8 0) (bytes_in d) (bytes_count 8 d h)
