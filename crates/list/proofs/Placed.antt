-- An entry is put in its rank: the lines before it, itself, and the lines behind it, by induction on the lines.
-- Assumes nothing.
use mathlib.Core.Path.{◌≡◌, refl, sym, ap, ◌∙◌, subst}
use mathlib.Core.Bool.{Bool, true, false}
use mathlib.Core.List.{List, [], ◌∷◌, ◌++◌}
use Prim.Native.Nat.{ℕ, zero, suc, ◌+◌, ◌≤◌, ◌<◌}
use native.Mathlib.Nat.{add-zero, zero-add, le_of_suc-le-suc, not-suc-le-zero}
use native.Mathlib.Omega.{arith}
use lib.ListN.{length, take, drop, get_or}
use lib.Seq.{take-take, take-append-le, length-take-le}
use Rattle.search.specs.Best.{placed}
use Rattle.laws.proofs.Orders.{StrictTotal, one_way}
use Rattle.search.proofs.Best.{place-first, place-later, place_same}
use Rattle.laws.proofs.Tests.{Tested, passed, failed, tested, clash}
use Rattle.list.specs.Inner.{rank_in, new_in}

-- a look at the lines for the rank of x: those before i rank above it
pub record Ranked {E : Type 0} (above : E → E → Bool) (x : E) (l : List E) (i : ℕ) : Type 0 where
  pub so_far : rank_in above x l ≡ i + rank_in above x (drop i l)

module _ {E : Type 0} (above : E → E → Bool) (strict : StrictTotal above) where
  pub rank_le : (x : E) (l : List E) → rank_in above x l ≤ length l
  rank_le x [] = omega arith
  rank_le x (y ∷ ys) = go (tested (above y x)) (rank_le x ys)
    where
      go : Tested (above y x) → rank_in above x ys ≤ length ys → rank_in above x (y ∷ ys) ≤ suc (length ys)
      go (passed t) ih = rw (t, rank_in) (omega arith)
      go (failed t) ih = rw (t, rank_in) (omega arith)

  pub rank_on : (x y : E) (ys : List E) → above y x ≡ true → rank_in above x (y ∷ ys) ≡ suc (rank_in above x ys)
  rank_on x y ys t = rw (t, rank_in)

  pub rank_here : (x y : E) (ys : List E) → above y x ≡ false → rank_in above x (y ∷ ys) ≡ 0
  rank_here x y ys t = rw (t, rank_in)

  -- the test at the rank
  pub new_there : (x : E) (l : List E) (d : E) → rank_in above x l < length l → new_in above x l ≡ above x (get_or l (rank_in above x l) d)
  new_there x [] d h = absurd (not-suc-le-zero h)
  new_there x (y ∷ ys) d h = go (tested (above y x)) (new_there x ys d)
    where
      go : Tested (above y x) → (rank_in above x ys < length ys → new_in above x ys ≡ above x (get_or ys (rank_in above x ys) d)) → new_in above x (y ∷ ys) ≡ above x (get_or (y ∷ ys) (rank_in above x (y ∷ ys)) d)
      go (passed t) ih =
          let less : rank_in above x ys < length ys = le_of_suc-le-suc (subst (λ n. n < suc (length ys)) (rank_on x y ys t) h) in
          rw (t, new_in, rank_in) (ih less)
      go (failed t) ih = rw (t, new_in, rank_in)

  pub new_last : (x : E) (l : List E) → length l ≤ rank_in above x l → new_in above x l ≡ true
  new_last x [] h = refl
  new_last x (y ∷ ys) h = go (tested (above y x)) (new_last x ys)
    where
      no : suc (length ys) ≤ 0 → ⊥
      no h = omega arith

      go : Tested (above y x) → (length ys ≤ rank_in above x ys → new_in above x ys ≡ true) → new_in above x (y ∷ ys) ≡ true
      go (passed t) ih = rw (t, new_in) (ih (le_of_suc-le-suc (subst (λ n. suc (length ys) ≤ n) (rank_on x y ys t) h)))
      go (failed t) ih = absurd (no (subst (λ n. suc (length ys) ≤ n) (rank_here x y ys t) h))

  -- a new entry stands at its rank
  pub place_new : (x : E) (l : List E) → new_in above x l ≡ true → placed above x l ≡ take (rank_in above x l) l ++ (x ∷ drop (rank_in above x l) l)
  place_new x [] h = refl
  place_new x (y ∷ ys) h = go (tested (above y x)) (place_new x ys)
    where
      go : Tested (above y x) → (new_in above x ys ≡ true → placed above x ys ≡ take (rank_in above x ys) ys ++ (x ∷ drop (rank_in above x ys) ys)) → placed above x (y ∷ ys) ≡ take (rank_in above x (y ∷ ys)) (y ∷ ys) ++ (x ∷ drop (rank_in above x (y ∷ ys)) (y ∷ ys))
      go (passed t) ih =
          place-later above x y ys (one_way above strict y x t) t
          ∙ ap (λ l. y ∷ l) (ih (rw (t, new_in) at h))
          ∙ ap (λ n. take n (y ∷ ys) ++ (x ∷ drop n (y ∷ ys))) (sym (rank_on x y ys t))
      go (failed t) ih =
          place-first above x y ys (rw (t, new_in) at h) ∙ ap (λ n. take n (y ∷ ys) ++ (x ∷ drop n (y ∷ ys))) (sym (rank_here x y ys t))

  -- one that is there already changes nothing
  pub place_old : (x : E) (l : List E) → new_in above x l ≡ false → placed above x l ≡ l
  place_old x [] h = clash {b = true} refl h
  place_old x (y ∷ ys) h = go (tested (above y x)) (place_old x ys)
    where
      go : Tested (above y x) → (new_in above x ys ≡ false → placed above x ys ≡ ys) → placed above x (y ∷ ys) ≡ y ∷ ys
      go (passed t) ih = place-later above x y ys (one_way above strict y x t) t ∙ ap (λ l. y ∷ l) (ih (rw (t, new_in) at h))
      go (failed t) ih = place_same above x y ys (rw (t, new_in) at h) t

  -- one whose rank is past the room changes nothing in it
  pub place_over : (x : E) (l : List E) (room : ℕ) → room ≤ rank_in above x l → take room (placed above x l) ≡ take room l
  place_over x l room h = go (tested (new_in above x l))
    where
      n : ℕ
      n = rank_in above x l

      go : Tested (new_in above x l) → take room (placed above x l) ≡ take room l
      go (failed t) = ap (take room) (place_old x l t)
      go (passed t) =
          ap (take room) (place_new x l t)
          ∙ take-append-le room (take n l) (x ∷ drop n l) (rw (length-take-le n l (rank_le x l)) h)
          ∙ take-take room n l h

  -- the list with an entry at a place, cut
  pub cut_new : (x : E) (at j : ℕ) (l : List E) → at ≤ j → take (suc j) (take at l ++ (x ∷ drop at l)) ≡ take at l ++ (x ∷ drop at (take j l))
  cut_new x zero j l h = refl
  cut_new x (suc a) zero l h = absurd (not-suc-le-zero h)
  cut_new x (suc a) (suc b) [] h = refl
  cut_new x (suc a) (suc b) (y ∷ ys) h = ap (λ l. y ∷ l) (cut_new x a b ys (le_of_suc-le-suc h))

  -- ---- a look at the lines for the rank

  pub ranked_none : (x : E) (l : List E) → Ranked above x l 0
  ranked_none x l = record { so_far = sym (zero-add (rank_in above x l)) }

  pub ranked_on : (x y : E) (l : List E) (i : ℕ) → Ranked above x l i → drop i l ≡ y ∷ drop (i + 1) l → above y x ≡ true → Ranked above x l (i + 1)
  ranked_on x y l i r e t = record { so_far = r.so_far ∙ ap (λ n. i + n) (ap (rank_in above x) e ∙ rank_on x y (drop (i + 1) l) t) ∙ moved i (rank_in above x (drop (i + 1) l)) }
    where
      moved : (a b : ℕ) → a + suc b ≡ a + 1 + b
      moved a b = omega arith

  pub ranked_here : (x y : E) (l rest : List E) (i : ℕ) → Ranked above x l i → drop i l ≡ y ∷ rest → above y x ≡ false → i ≡ rank_in above x l
  ranked_here x y l rest i r e t = sym (r.so_far ∙ ap (λ n. i + n) (ap (rank_in above x) e ∙ rank_here x y rest t) ∙ add-zero i)

  pub ranked_end : (x : E) (l : List E) (i : ℕ) → Ranked above x l i → drop i l ≡ [] → i ≡ rank_in above x l
  ranked_end x l i r e = sym (r.so_far ∙ ap (λ n. i + n) (ap (rank_in above x) e) ∙ add-zero i)
