-- A signed number of 16 bits and its two bytes' number determine each other, by halves.
-- Assumes nothing.
use mathlib.Core.Path.{◌≡◌, refl, ap, ◌∙◌}
use mathlib.Core.Bool.{Bool, true, false, cond}
use Prim.Native.Nat.{ℕ, suc, ◌+◌, ◌-◌, ◌<◌}
use native.Mathlib.Omega.{arith}
use borrow.Author.Tests.{ltb-true, ltb-false, lt-ltb, le-ltb}
use lib.Dec.{ltb}
use lib.IntN.{ℤ, pos, negsuc}
use lib.Signed.{mag}
use mir.Facts.{to_z-of_z}
use mir.Syntax.{w16}
use mir.Val.{to_z, of_z, sel}
use Rattle.items.specs.Items.{signed16, unsigned16}

-- Both halves of two bytes.
halves : (P : ℤ → Type 0) (n : ℕ) → (n < 32768 → P (pos n)) → ((32768 < n + 1) → P (negsuc (65535 - n))) → P (signed16 n)
unfolding signed16
halves P n low high = go (ltb n 32768) refl
  where
    go : (b : Bool) → ltb n 32768 ≡ b → P (cond b (pos n) (negsuc (65535 - n)))
    go true e = low (ltb-true n 32768 e)
    go false e = high (omega (arith, ltb-false n 32768 e))

-- Both are what the library casts to.
pub cast_is : (n : ℕ) → to_z w16 n ≡ signed16 n
unfolding signed16
cast_is n = go (ltb n 32768)
  where
    go : (b : Bool) → sel b (pos n) (negsuc (65536 - suc n)) ≡ cond b (pos n) (negsuc (65535 - n))
    go true = refl
    go false = ap negsuc (omega arith)

pub uncast_is : (z : ℤ) → of_z w16 z ≡ unsigned16 z
unfolding unsigned16
uncast_is (pos n) = refl
uncast_is (negsuc n) = omega arith

pub signed_fits : (n : ℕ) → n < 65536 → mag (signed16 n) < 32768
signed_fits n h = halves (λ z. mag z < 32768) n (λ low. low) (λ high. omega arith)

-- It is kept where it is stored in 16 bits.
pub signed_kept : (n : ℕ) {z : ℤ} → n < 65536 → z ≡ signed16 n → to_z w16 (of_z w16 z) ≡ signed16 n
signed_kept n h e = ap (λ (y : ℤ). to_z w16 (of_z w16 y)) e ∙ to_z-of_z {w = w16} (record { sfits = signed_fits n h })

-- A cast is the number that two bytes stand for, also where it is stored.
pub cast_kept : (n : ℕ) → n < 65536 → to_z w16 (of_z w16 (to_z w16 n)) ≡ signed16 n
cast_kept n h = signed_kept n h (cast_is n)

pub unsigned_below : (z : ℤ) → mag z < 32768 → unsigned16 z < 65536
unfolding unsigned16
unsigned_below (pos n) h = omega arith
unsigned_below (negsuc n) h = omega arith

pub unsigned_signed : (n : ℕ) → n < 65536 → unsigned16 (signed16 n) ≡ n
unfolding unsigned16
unsigned_signed n h = halves (λ z. unsigned16 z ≡ n) n (λ low. refl) (λ high. omega arith)

pub signed_unsigned : (z : ℤ) → mag z < 32768 → signed16 (unsigned16 z) ≡ z
unfolding signed16 unsigned16
signed_unsigned (pos n) h = rw (lt-ltb n 32768 h)
signed_unsigned (negsuc n) h =
    let same : 65535 - (65535 - n) ≡ n = omega arith in
    rw (le-ltb (65535 - n) 32768 (omega arith), same)
