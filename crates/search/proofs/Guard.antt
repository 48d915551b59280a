-- Between searches: marks guard a list where every cell without a mark has its bound below the last entry of a full list. A search leaves it so,
-- and it stays so while reports enter, since the last entry only rises.
-- Assumes nothing.
use mathlib.Core.Path.{◌≡◌, sym, ap, ◌∙◌, subst}
use mathlib.Core.Logic.{◌⊎◌, inr, ⊎_elim}
use mathlib.Core.Bool.{true, false}
use mathlib.Core.List.{List, ◌∷◌}
use Prim.Native.Nat.{ℕ, min, ◌≤◌, ◌<◌}
use native.Mathlib.Omega.{arith}
use borrow.Author.Tests.{lt-ltb}
use lib.Dec.{ltb}
use lib.ListN.{length, length-take}
use Rattle.laws.specs.Lists.{◌∈◌, on_last}
use Rattle.search.specs.Best.{placed, best}
use Rattle.search.specs.Search.{Search, entries, marks}
use Rattle.laws.proofs.Tests.{Tested, passed, failed, tested, or_left, or_right}
use Rattle.laws.proofs.Lists.{lt_or_eq, take-⊆, moved}
use Rattle.search.proofs.Best.{Lowest, best_falling, best_cons, best_below, length_best_le, place_length_ge, place_of_lem, entered, lowest_some}
use Rattle.search.proofs.Search.{All, Sound, mattering}

module _ {E I : Type 0} (s : Search E I) where
  -- a cell without a mark can't put an entry on the list
  abbrev pub Guarded : ℕ → List ℕ → List E → Type 0
  Guarded k marked l = (c : ℕ) → c ∈ s.order → (c ∈ marked → ⊥) → (length l ≡ k) × (on_last (s.reaches c) l ≡ false)

  module _ {Good : I → Type 0} (sound : Sound s Good) (k : ℕ) (positive : 1 ≤ k) where
    lowest-full : (l : List E) → length (best s.above k l) ≡ k → Lowest s.above (best s.above k l)
    lowest-full l e = lowest_some s.above sound.strict (best s.above k l) (best_falling s.above sound.strict k l) (omega arith)

    -- a search leaves its list guarded by its marks
    pub guard_search : (hs : List I) → All Good hs → Guarded k (marks s k hs) (best s.above k (entries s hs))
    guard_search hs good c m off = (full (lt_or_eq (length_best_le s.above sound.strict k (entries s hs))), low (tested (on_last (s.reaches c) L)))
      where
        L : List E
        L = best s.above k (entries s hs)

        full : (length L < k) ⊎ (length L ≡ k) → length L ≡ k
        full = ⊎_elim (λ h. absurd (off (mattering s sound hs good k positive c m (or_left (ltb (length L) k) (on_last (s.reaches c) L) (lt-ltb (length L) k h))))) (λ e. e)

        low : Tested (on_last (s.reaches c) L) → on_last (s.reaches c) L ≡ false
        low (passed h) = absurd (off (mattering s sound hs good k positive c m (or_right (ltb (length L) k) (on_last (s.reaches c) L) h)))
        low (failed h) = h

    -- What enters an unmarked cell changes nothing.
    pub guard_unmarked : (marked : List ℕ) (l : List E) → Guarded k marked (best s.above k l) → (i : I) → Good i → s.counts i ≡ true → (s.cell_of i ∈ marked → ⊥) → best s.above k (s.entry i ∷ l) ≡ best s.above k l
    guard_unmarked marked l g i good counted off =
        let r = g (s.cell_of i) (sound.covers i good counted) off in
        let low = lowest-full l r.0 in
        best_below s.above sound.strict k (s.entry i) l r.0
        (low.is_last (λ z. s.above z (s.entry i)) ∙ sound.bound i good counted low.entry (sym (low.is_last (s.reaches (s.cell_of i))) ∙ r.1))

    module _ (rises : (c : ℕ) (e f : E) → s.above e f ≡ true → s.reaches c f ≡ false → s.reaches c e ≡ false) where
      -- Marks go on guarding the list when one more enters: a full list stays full, and its last entry doesn't fall.
      pub guard_enter : (marked : List ℕ) (x : E) (l : List E) → Guarded k marked (best s.above k l) → Guarded k marked (best s.above k (x ∷ l))
      guard_enter marked x l g c m off = (full, low'.is_last (s.reaches c) ∙ go (raised low'.listed))
        where
          L : List E
          L = best s.above k l

          was_full : length L ≡ k
          was_full = (g c m off).0

          low : Lowest s.above L
          low = lowest-full l was_full

          full : length (best s.above k (x ∷ l)) ≡ k
          full =
              ap length (best_cons s.above sound.strict k x l)
              ∙ length-take k (placed s.above x L)
              ∙ shorter (place_length_ge s.above sound.strict x L)
            where
              shorter : length L ≤ length (placed s.above x L) → min k (length (placed s.above x L)) ≡ k
              shorter h = omega (arith, was_full)

          low' : Lowest s.above (best s.above k (x ∷ l))
          low' = lowest-full (x ∷ l) full

          short : length L < k → ⊥
          short h = omega (arith, was_full)

          new : x ∈ best s.above k (x ∷ l) → (x ≡ low.entry) ⊎ (s.above x low.entry ≡ true)
          new t =
              ⊎_elim (λ h. absurd (short h))
              (⊎_elim (low.rest x) (λ h. inr (sym (low.is_last (s.above x)) ∙ h)))
              (entered s.above sound.strict k x l t)

          raised : {z : E} → z ∈ best s.above k (x ∷ l) → (z ≡ low.entry) ⊎ (s.above z low.entry ≡ true)
          raised {z} t =
              ⊎_elim
              (λ e. subst (λ v. (v ≡ low.entry) ⊎ (s.above v low.entry ≡ true)) (sym e) (new (moved e t)))
              (low.rest z)
              (place_of_lem s.above sound.strict x L
              (take-⊆ k (placed s.above x L) z (subst (λ b. z ∈ b) (best_cons s.above sound.strict k x l) t)))

          under : s.reaches c low.entry ≡ false
          under = sym (low.is_last (s.reaches c)) ∙ (g c m off).1

          go : (low'.entry ≡ low.entry) ⊎ (s.above low'.entry low.entry ≡ true) → s.reaches c low'.entry ≡ false
          go = ⊎_elim (λ e. subst (λ v. s.reaches c v ≡ false) (sym e) under) (λ a. rises c low'.entry low.entry a under)
