-- The best k of some things, over any carrier and any test `above x y`: x ranks above y.
use Rattle.std.specs.Prelude.{Bool, true, false, List, [], ◌∷◌, ℕ, take}

module _ {E : Type 0} (above : E → E → Bool) where
  -- x put in its rank into a ranked list, and not put where it already stands: each stands there once
  abbrev pub placed : E → List E → List E
  placed x [] = x ∷ []
  placed x (y ∷ ys) =
      elim (above x y) [
        | true ↦ x ∷ y ∷ ys
        | false ↦ elim (above y x) [ true ↦ y ∷ placed x ys | false ↦ y ∷ ys ]
      ]

  -- the ranking: each once, highest first
  abbrev pub rank : List E → List E
  rank [] = []
  rank (x ∷ xs) = placed x (rank xs)

  -- rule 6.4: the first k of that ranking, or all of them
  abbrev pub best : ℕ → List E → List E
  best k xs = take k (rank xs)
