-- A signed number that fits is read back from its bits.
-- Assumes nothing.
use mathlib.Core.Path.{◌≡◌, sym, ap, ap₂, ◌∙◌}
use Prim.Native.Nat.{◌^◌, ◌<◌}
use borrow.Author.Tests.{eqb-true, eqb-false}
use lib.Dec.{eqb}
use lib.IntN.{ℤ}
use lib.Signed.{lt_z, mag}
use mir.Facts.{to_z-of_z}
use mir.Syntax.{Width}
use mir.Val.{SFits, hbits, to_z, of_z}
use Rattle.laws.specs.Whole.{equal}
use Rattle.laws.proofs.Tests.{Tested, passed, failed, tested}
use Rattle.laws.proofs.Whole.{equal-same, equal_other}

pub kept : (w : Width) (z : ℤ) → mag z < 2 ^ hbits w → to_z w (of_z w z) ≡ z
kept w z h = to_z-of_z {w = w} {z = z} (record { sfits = h })

pub less_kept : {w : Width} {a b : ℤ} → SFits w a → SFits w b → lt_z (to_z w (of_z w a)) (to_z w (of_z w b)) ≡ lt_z a b
less_kept f g = ap₂ lt_z (to_z-of_z f) (to_z-of_z g)

-- Two signed numbers that fit are equal exactly where their bits are.
pub same_bits : (w : Width) (a b : ℤ) → SFits w a → SFits w b → eqb (of_z w a) (of_z w b) ≡ equal a b
same_bits w a b f g = go (tested (eqb (of_z w a) (of_z w b)))
  where
    go : Tested (eqb (of_z w a) (of_z w b)) → eqb (of_z w a) (of_z w b) ≡ equal a b
    go (passed t) = t ∙ sym (equal-same a b (sym (to_z-of_z f) ∙ ap (to_z w) (eqb-true (of_z w a) (of_z w b) t) ∙ to_z-of_z g))
    go (failed t) = t ∙ sym (equal_other a b (λ e. eqb-false (of_z w a) (of_z w b) t (ap (of_z w) e)))
