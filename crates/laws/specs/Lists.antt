-- Membership, the last entry, and those that pass a test, over lists of anything.
use Rattle.std.specs.Prelude.{Bool, true, false}
use mathlib.Core.List.{List, [], ◌∷◌, Memᴰ}

infix 50 ◌∈◌
-- x is one of the list's members
abbrev pub ◌∈◌ {ℓ} : {A : Type ℓ} → A → List A → Type ℓ
x ∈ l = Memᴰ x l

module _ {E : Type 0} where
  -- the test p holds of the list's last entry; an empty list has none
  abbrev pub on_last : (E → Bool) → List E → Bool
  on_last p [] = false
  on_last p (x ∷ []) = p x
  on_last p (x ∷ y ∷ ys) = on_last p (y ∷ ys)

  -- those that pass the test, in their order
  abbrev pub only : (E → Bool) → List E → List E
  only p [] = []
  only p (x ∷ xs) = elim (p x) [ true ↦ x ∷ only p xs | false ↦ only p xs ]
