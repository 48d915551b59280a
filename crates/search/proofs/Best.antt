-- The laws of best k, over any test `above` that is a strict total order: a ranking is strictly falling, and a strictly falling list is
-- determined by its members.
-- Assumes nothing.
use mathlib.Core.Path.{◌≡◌, refl, sym, ap, ◌∙◌, subst}
use mathlib.Core.Logic.{◌⊎◌, inl, inr, ⊎_elim}
use mathlib.Core.Bool.{Bool, true, false, cond, ◌||◌}
use mathlib.Core.List.Memᴰ
use mathlib.Core.List.{List, [], ◌∷◌, ◌++◌}
use Prim.Native.Nat.{ℕ, zero, suc, min, ◌≤◌, ◌<◌}
use native.Mathlib.Nat.{le_of_suc-le-suc, not-suc-le-zero}
use native.Mathlib.Omega.{arith}
use borrow.Author.Tests.{lt-ltb}
use lib.Dec.{ltb}
use lib.ListN.{length, take, get_or, length-take}
use lib.Seq.{take_all, take-take, take-append_seam}
use Rattle.laws.specs.Lists.{◌∈◌, on_last, only}
use Rattle.search.specs.Best.{placed, rank, best}
use Rattle.laws.proofs.Tests.{Tested, passed, failed, tested, clash, or_left, or_right}
use Rattle.laws.proofs.Orders.{StrictTotal, opposite, one_way, differs}
use Rattle.laws.proofs.Lists.{◌⊆◌, Same, Pairwise, Distinct, here, there, moved, take-⊆, pairwise_map, pairwise_take, take_more, lt_or_eq, get_d_in, only_all_fail}

module _ {E : Type 0} (above : E → E → Bool) where
  -- each ranks above all that follow
  abbrev pub Falling : List E → Type 0
  Falling l = Pairwise (λ x y. above x y ≡ true) l

  -- a list that isn't empty has a last entry, and every other entry ranks above it
  pub record Lowest (l : List E) : Type 0 where
    pub entry : E
    pub listed : entry ∈ l
    pub is_last : (p : E → Bool) → on_last p l ≡ p entry
    pub rest : (z : E) → z ∈ l → (z ≡ entry) ⊎ (above z entry ≡ true)

  -- x enters exactly where the list is short, has x already, or x ranks above its last
  abbrev pub Enters : ℕ → E → List E → Type 0
  Enters k x l = (length (best above k l) < k) ⊎ ((x ∈ best above k l) ⊎ (on_last (above x) (best above k l) ≡ true))

  -- how two stand to each other
  data Stand (x y : E) : Type 0 where
    first : above x y ≡ true → Stand x y
    later : above x y ≡ false → above y x ≡ true → Stand x y
    same : above x y ≡ false → above y x ≡ false → Stand x y

  stand : (x y : E) → Stand x y
  stand x y = go (tested (above x y)) (tested (above y x))
    where
      go : Tested (above x y) → Tested (above y x) → Stand x y
      go (passed e) t = first e
      go (failed e) (passed f) = later e f
      go (failed e) (failed f) = same e f

  pub place-first : (x y : E) (ys : List E) → above x y ≡ true → placed above x (y ∷ ys) ≡ x ∷ y ∷ ys
  place-first x y ys e = rw (e, placed)

  pub place-later : (x y : E) (ys : List E) → above x y ≡ false → above y x ≡ true → placed above x (y ∷ ys) ≡ y ∷ placed above x ys
  place-later x y ys e f = rw (e, f, placed)

  pub place_same : (x y : E) (ys : List E) → above x y ≡ false → above y x ≡ false → placed above x (y ∷ ys) ≡ y ∷ ys
  place_same x y ys e f = rw (e, f, placed)

  -- what is cut off plays no part in the first k
  pub take-place : (k : ℕ) (x : E) (l : List E) → take k (placed above x l) ≡ take k (placed above x (take k l))
  take-place zero x l = refl
  take-place (suc k) x [] = refl
  take-place (suc k) x (y ∷ ys) = go (stand x y) (take-place k x ys)
    where
      again : take k ys ≡ take k (take k ys)
      again = sym (take-take k k ys (omega arith))

      one_more : (j : ℕ) → j ≤ suc k → take j (y ∷ ys) ≡ take j (y ∷ take k ys)
      one_more zero h = refl
      one_more (suc j) h = ap (λ l. y ∷ l) (sym (take-take j k ys (omega arith)))

      go : Stand x y → take k (placed above x ys) ≡ take k (placed above x (take k ys)) → take (suc k) (placed above x (y ∷ ys)) ≡ take (suc k) (placed above x (y ∷ take k ys))
      go (first e) ih = rw (place-first x y ys e, place-first x y (take k ys) e) (ap (λ l. x ∷ l) (one_more k (omega arith)))
      go (later e f) ih = rw (place-later x y ys e f, place-later x y (take k ys) e f) (ap (λ l. y ∷ l) ih)
      go (same e f) ih = rw (place_same x y ys e f, place_same x y (take k ys) e f) (ap (λ l. y ∷ l) again)

  module _ (order : StrictTotal above) where
    pub place_in : (x : E) (l : List E) → x ∈ placed above x l
    place_in x [] = here
    place_in x (y ∷ ys) = go (stand x y) (place_in x ys)
      where
        go : Stand x y → x ∈ placed above x ys → x ∈ placed above x (y ∷ ys)
        go (first e) ih = rw (place-first x y ys e) here
        go (later e f) ih = rw (place-later x y ys e f) (there ih)
        go (same e f) ih = rw (place_same x y ys e f) (Memᴰ.head (order.total x y e f))

    pub place_keeps : (x : E) (l : List E) → l ⊆ placed above x l
    place_keeps x [] z m = absurd (Memᴰ.not-nil m)
    place_keeps x (y ∷ ys) z m = go (stand x y) (place_keeps x ys z)
      where
        go : Stand x y → (z ∈ ys → z ∈ placed above x ys) → z ∈ placed above x (y ∷ ys)
        go (first e) ih = rw (place-first x y ys e) (there m)
        go (later e f) ih = rw (place-later x y ys e f) (⊎_elim (λ q. Memᴰ.head q) (λ k. there (ih k)) (Memᴰ.cases_cons m))
        go (same e f) ih = rw (place_same x y ys e f) m

    pub place_of_lem : (x : E) (l : List E) {z : E} → z ∈ placed above x l → (z ≡ x) ⊎ (z ∈ l)
    place_of_lem x [] m = Memᴰ.cases_cons m
    place_of_lem x (y ∷ ys) {z} m = go (stand x y) (place_of_lem x ys)
      where
        pass : (z ≡ x) ⊎ (z ∈ ys) → (z ≡ x) ⊎ (z ∈ y ∷ ys)
        pass (inl q) = inl q
        pass (inr k) = inr (there k)

        go : Stand x y → (z ∈ placed above x ys → (z ≡ x) ⊎ (z ∈ ys)) → (z ≡ x) ⊎ (z ∈ y ∷ ys)
        go (first e) ih = Memᴰ.cases_cons (subst (λ l. z ∈ l) (place-first x y ys e) m)
        go (later e f) ih =
            ⊎_elim (λ q. inr (Memᴰ.head q)) (λ k. pass (ih k)) (Memᴰ.cases_cons (subst (λ l. z ∈ l) (place-later x y ys e f) m))
        go (same e f) ih = inr (subst (λ l. z ∈ l) (place_same x y ys e f) m)

    pub place_falling : (x : E) (l : List E) → Falling l → Falling (placed above x l)
    place_falling x [] w = (λ z m. absurd (Memᴰ.not-nil m), tt)
    place_falling x (y ∷ ys) w = go (stand x y) (place_falling x ys w.1)
      where
        go : Stand x y → Falling (placed above x ys) → Falling (placed above x (y ∷ ys))
        go (first e) ih =
            rw (place-first x y ys e) (
              λ z m.
                  ⊎_elim (λ q. subst (λ v. above x v ≡ true) (sym q) e) (λ k. order.transitive x y z e (w.0 z k)) (Memᴰ.cases_cons m),
              w,
            )
        go (later e f) ih =
            rw (place-later x y ys e f)
            (λ z m. ⊎_elim (λ q. subst (λ v. above y v ≡ true) (sym q) f) (w.0 z) (place_of_lem x ys m), ih)
        go (same e f) ih = rw (place_same x y ys e f) w

    -- the ranking's members are those ranked
    pub rank_in_lem : (l : List E) → l ⊆ rank above l
    rank_in_lem [] z m = m
    rank_in_lem (x ∷ xs) z m =
        ⊎_elim (λ q. moved (sym q) (place_in x (rank above xs))) (λ k. place_keeps x (rank above xs) z (rank_in_lem xs z k)) (Memᴰ.cases_cons m)

    pub rank_of : (l : List E) → rank above l ⊆ l
    rank_of [] z m = m
    rank_of (x ∷ xs) z m = ⊎_elim (λ q. Memᴰ.head q) (λ k. there (rank_of xs z k)) (place_of_lem x (rank above xs) m)

    -- each once, highest first
    pub rank_falling : (l : List E) → Falling (rank above l)
    rank_falling [] = tt
    rank_falling (x ∷ xs) = place_falling x (rank above xs) (rank_falling xs)

    pub best_falling : (k : ℕ) (l : List E) → Falling (best above k l)
    best_falling k l = pairwise_take (λ x y. above x y ≡ true) k (rank above l) (rank_falling l)

    pub best_of : (k : ℕ) (l : List E) → best above k l ⊆ l
    best_of k l z m = rank_of l z (take-⊆ k (rank above l) z m)

    pub falling_distinct : (l : List E) → Falling l → Distinct l
    falling_distinct l w = pairwise_map (differs above order) l w

    -- a strictly falling list is determined by its members
    pub falling_same : (l m : List E) → Falling l → Falling m → Same l m → l ≡ m
    falling_same [] [] v w s = refl
    falling_same [] (y ∷ ys) v w s = absurd (Memᴰ.not-nil (s.1 y here))
    falling_same (x ∷ xs) [] v w s = absurd (Memᴰ.not-nil (s.0 x here))
    falling_same (x ∷ xs) (y ∷ ys) v w s = ap (λ z. z ∷ xs) heads ∙ ap (λ l. y ∷ l) (falling_same xs ys v.1 w.1 (left, right))
      where
        heads : x ≡ y
        heads =
            ⊎_elim (λ q. q)
            (λ k. ⊎_elim (λ q. sym q) (λ j. opposite above order x y (v.0 y j) (w.0 x k)) (Memᴰ.cases_cons (s.1 y here)))
            (Memᴰ.cases_cons (s.0 x here))

        left : xs ⊆ ys
        left z m = ⊎_elim (λ q. absurd (differs above order x z (v.0 z m) (heads ∙ sym q))) (λ k. k) (Memᴰ.cases_cons (s.0 z (there m)))

        right : ys ⊆ xs
        right z m = ⊎_elim (λ q. absurd (differs above order y z (w.0 z m) (sym heads ∙ sym q))) (λ k. k) (Memᴰ.cases_cons (s.1 z (there m)))

    -- the ranking is the same for any order of the same members
    pub rank_same : (l m : List E) → Same l m → rank above l ≡ rank above m
    rank_same l m s =
        falling_same (rank above l) (rank above m) (rank_falling l) (rank_falling m)
        (λ z k. rank_in_lem m z (s.0 z (rank_of l z k)), λ z k. rank_in_lem l z (s.1 z (rank_of m z k)))

    pub best-same : (k : ℕ) (l m : List E) → Same l m → best above k l ≡ best above k m
    best-same k l m s = ap (take k) (rank_same l m s)

    -- a strictly falling list is its own ranking
    pub rank_falling_is : (l : List E) → Falling l → rank above l ≡ l
    rank_falling_is l w = falling_same (rank above l) l (rank_falling l) w (rank_of l, rank_in_lem l)

    pub best-best : (k : ℕ) (l : List E) → best above k (best above k l) ≡ best above k l
    best-best k l =
        ap (take k) (rank_falling_is (best above k l) (best_falling k l)) ∙ take-take k k (rank above l) (omega arith)

    -- one more
    pub best_cons : (k : ℕ) (x : E) (l : List E) → best above k (x ∷ l) ≡ take k (placed above x (best above k l))
    best_cons k x l = take-place k x (rank above l)

    pub best-after : (k : ℕ) (xs ys : List E) → best above k (xs ++ best above k ys) ≡ best above k (xs ++ ys)
    best-after k [] ys = best-best k ys
    best-after k (x ∷ xs) ys =
        best_cons k x (xs ++ best above k ys) ∙ ap (λ l. take k (placed above x l)) (best-after k xs ys) ∙ sym (best_cons k x (xs ++ ys))

    swapped : (xs ys : List E) → (xs ++ ys) ⊆ (ys ++ xs)
    swapped xs ys z m = ⊎_elim (λ k. Memᴰ.append_right ys k) (λ k. Memᴰ.append_left xs k) (Memᴰ.append_cases xs m)

    -- the best k of the best k so far and what comes after
    pub best-append : (k : ℕ) (xs ys : List E) → best above k (best above k xs ++ ys) ≡ best above k (xs ++ ys)
    best-append k xs ys =
        best-same k (best above k xs ++ ys) (ys ++ best above k xs) (swapped (best above k xs) ys, swapped ys (best above k xs))
        ∙ best-after k ys xs
        ∙ best-same k (ys ++ xs) (xs ++ ys) (swapped ys xs, swapped xs ys)

    -- a part that has all of the best k has the same best k
    pub best-part : (k : ℕ) (part whole : List E) → part ⊆ whole → best above k whole ⊆ part → best above k part ≡ best above k whole
    best-part k part whole h g =
        best-same k part (part ++ best above k whole)
        (λ z m. Memᴰ.append_left (best above k whole) m, λ z m. ⊎_elim (λ q. q) (g z) (Memᴰ.append_cases part m))
        ∙ best-after k part whole
        ∙ best-same k (part ++ whole) whole (λ z m. ⊎_elim (h z) (λ q. q) (Memᴰ.append_cases part m), λ z m. Memᴰ.append_right part m)

    -- what isn't on the list may leave, and may not have come
    pub best_leave : (k : ℕ) (x : E) (l : List E) → (x ∈ best above k (x ∷ l) → ⊥) → best above k (x ∷ l) ≡ best above k l
    best_leave k x l h =
        sym
        (best-part k l (x ∷ l) (λ z m. there m)
        (λ z m. ⊎_elim (λ q. absurd (h (moved q m))) (λ j. j) (Memᴰ.cases_cons (best_of k (x ∷ l) z m))))

    -- all of a list rank above x: x stands behind them
    pub place-behind : (x : E) (l : List E) → ((z : E) → z ∈ l → above z x ≡ true) → placed above x l ≡ l ++ (x ∷ [])
    place-behind x [] h = refl
    place-behind x (y ∷ ys) h = go (stand x y) (place-behind x ys (λ z m. h z (there m)))
      where
        go : Stand x y → placed above x ys ≡ ys ++ (x ∷ []) → placed above x (y ∷ ys) ≡ y ∷ (ys ++ (x ∷ []))
        go (first e) ih = opposite above order x y e (h y here)
        go (later e f) ih = rw (place-later x y ys e f) (ap (λ l. y ∷ l) ih)
        go (same e f) ih = clash (h y here) f

    -- x stands in the list already
    pub place_there : (x : E) (l : List E) → Falling l → x ∈ l → placed above x l ≡ l
    place_there x l w m =
        falling_same (placed above x l) l (place_falling x l w) w
        (λ z k. ⊎_elim (λ q. moved (sym q) m) (λ j. j) (place_of_lem x l k), place_keeps x l)

    pub lowest : (x : E) (l : List E) → Falling (x ∷ l) → Lowest (x ∷ l)
    lowest x [] w =
        record {
          entry = x;
          listed = here;
          is_last = λ p. refl;
          rest = λ z m. ⊎_elim (λ q. inl q) (λ k. absurd (Memᴰ.not-nil k)) (Memᴰ.cases_cons m);
        }
    lowest x (y ∷ ys) w =
        let r = lowest y ys w.1 in
        record {
          entry = r.entry;
          listed = there r.listed;
          is_last = r.is_last;
          rest = λ z m. ⊎_elim (λ q. inr (subst (λ v. above v r.entry ≡ true) (sym q) (w.0 r.entry r.listed))) (r.rest z) (Memᴰ.cases_cons m);
        }

    pub lowest_some : (l : List E) → Falling l → 1 ≤ length l → Lowest l
    lowest_some [] w h = absurd (no h)
      where
        no : 1 ≤ 0 → ⊥
        no h = omega arith
    lowest_some (x ∷ xs) w h = lowest x xs w

    -- where a test holds of the last entry there is one
    pub lowest_of_lem : (p : E → Bool) (l : List E) → Falling l → on_last p l ≡ true → Lowest l
    lowest_of_lem p [] w h = clash {b = false} h refl
    lowest_of_lem p (x ∷ xs) w h = lowest x xs w

    -- what the last entry ranks above, every entry ranks above
    pub last_above : (x : E) (l : List E) → Falling l → on_last (λ z. above z x) l ≡ true → (z : E) → z ∈ l → above z x ≡ true
    last_above x l w h z m =
        let r = lowest_of_lem (λ v. above v x) l w h in
        let e : above r.entry x ≡ true = sym (r.is_last (λ v. above v x)) ∙ h in
        ⊎_elim (λ q. subst (λ v. above v x ≡ true) (sym q) e) (λ q. order.transitive z r.entry x q e) (r.rest z m)

    pub length_best_le : (k : ℕ) (l : List E) → length (best above k l) ≤ k
    length_best_le k l = simp length-take (omega arith)

    -- below the last of a full list: nothing changes
    pub best_below : (k : ℕ) (x : E) (l : List E) → length (best above k l) ≡ k → on_last (λ z. above z x) (best above k l) ≡ true → best above k (x ∷ l) ≡ best above k l
    best_below k x l full h =
        best_cons k x l
        ∙ ap (take k) (place-behind x (best above k l) (last_above x (best above k l) (best_falling k l) h))
        ∙ subst (λ n. take n (best above k l ++ (x ∷ [])) ≡ best above k l) full (take-append_seam (best above k l) (x ∷ []))

    -- the same for any number of them
    pub best_below_all : (k : ℕ) (xs l : List E) → length (best above k l) ≡ k → ((x : E) → x ∈ xs → on_last (λ z. above z x) (best above k l) ≡ true) → best above k (xs ++ l) ≡ best above k l
    best_below_all k [] l full h = refl
    best_below_all k (x ∷ xs) l full h =
        let ih : best above k (xs ++ l) ≡ best above k l = best_below_all k xs l full (λ z m. h z (there m)) in
        best_below k x (xs ++ l) (ap length ih ∙ full) (subst (λ m. on_last (λ z. above z x) m ≡ true) (sym ih) (h x here)) ∙ ih

    place_length_le : (x : E) (l : List E) → length (placed above x l) ≤ suc (length l)
    place_length_le x [] = omega arith
    place_length_le x (y ∷ ys) = go (stand x y) (place_length_le x ys)
      where
        go : Stand x y → length (placed above x ys) ≤ suc (length ys) → length (placed above x (y ∷ ys)) ≤ suc (suc (length ys))
        go (first e) ih = rw (place-first x y ys e) (omega arith)
        go (later e f) ih = rw (place-later x y ys e f) (omega arith)
        go (same e f) ih = rw (place_same x y ys e f) (omega arith)

    pub place_length_ge : (x : E) (l : List E) → length l ≤ length (placed above x l)
    place_length_ge x [] = omega arith
    place_length_ge x (y ∷ ys) = go (stand x y) (place_length_ge x ys)
      where
        go : Stand x y → length ys ≤ length (placed above x ys) → suc (length ys) ≤ length (placed above x (y ∷ ys))
        go (first e) ih = rw (place-first x y ys e) (omega arith)
        go (later e f) ih = rw (place-later x y ys e f) (omega arith)
        go (same e f) ih = rw (place_same x y ys e f) (omega arith)

    place-length : (x : E) (l : List E) → (x ∈ l → ⊥) → length (placed above x l) ≡ suc (length l)
    place-length x [] h = refl
    place-length x (y ∷ ys) h = go (stand x y) (place-length x ys (λ m. h (there m)))
      where
        go : Stand x y → length (placed above x ys) ≡ suc (length ys) → length (placed above x (y ∷ ys)) ≡ suc (suc (length ys))
        go (first e) ih = rw (place-first x y ys e)
        go (later e f) ih = rw (place-later x y ys e f) (ap suc ih)
        go (same e f) ih = absurd (h (Memᴰ.head (order.total x y e f)))

    -- where none is there twice, the ranking has as many
    pub length-rank : (l : List E) → Distinct l → length (rank above l) ≡ length l
    length-rank [] w = refl
    length-rank (x ∷ xs) w =
        place-length x (rank above xs) (λ m. w.0 x (rank_of xs x m) refl) ∙ ap suc (length-rank xs w.1)

    -- rule 6.4: k of them, or as many as there are
    pub length-best : (k : ℕ) (l : List E) → Distinct l → length (best above k l) ≡ min k (length l)
    length-best k l w = length-take k (rank above l) ∙ ap (min k) (length-rank l w)

    -- two lists with the same members, each once, are equally long
    pub length-same : (l m : List E) → Distinct l → Distinct m → Same l m → length l ≡ length m
    length-same l m v w s = sym (length-rank l v) ∙ ap length (rank_same l m s) ∙ length-rank m w

    -- above the last of a list: x stands among as many as there were
    place_in_take : (x : E) (l : List E) → on_last (above x) l ≡ true → x ∈ take (length l) (placed above x l)
    place_in_take x [] h = clash {b = false} h refl
    place_in_take x (y ∷ []) h = rw (place-first x y [] h) here
    place_in_take x (y ∷ u ∷ us) h = go (stand x y) (place_in_take x (u ∷ us) h)
      where
        go : Stand x y → x ∈ take (suc (length us)) (placed above x (u ∷ us)) → x ∈ take (suc (suc (length us))) (placed above x (y ∷ u ∷ us))
        go (first e) ih = rw (place-first x y (u ∷ us) e) here
        go (later e f) ih = rw (place-later x y (u ∷ us) e f) (there ih)
        go (same e f) ih = rw (place_same x y (u ∷ us) e f) (Memᴰ.head (order.total x y e f))

    pub enters : (k : ℕ) (x : E) (l : List E) → Enters k x l → x ∈ best above k (x ∷ l)
    enters k x l (inl short) =
        rw (best_cons k x l)
        (rw (take_all k (placed above x (best above k l)) (omega (arith, place_length_le x (best above k l)))) (place_in x (best above k l)))
    enters k x l (inr (inl m)) =
        rw (best_cons k x l)
        (rw (place_there x (best above k l) (best_falling k l) m) (rw (take_all k (best above k l) (length_best_le k l)) m))
    enters k x l (inr (inr h)) =
        rw (best_cons k x l)
        (take_more (placed above x (best above k l)) (length_best_le k l) x (place_in_take x (best above k l) h))

    pub entered : (k : ℕ) (x : E) (l : List E) → x ∈ best above k (x ∷ l) → Enters k x l
    entered zero x l m = absurd (Memᴰ.not-nil m)
    entered (suc k) x l m = ⊎_elim (λ h. inl h) (λ full. inr (go full (tested (on_last (λ z. above z x) L)) (tested (on_last (above x) L)))) (lt_or_eq (length_best_le (suc k) l))
      where
        L : List E
        L = best above (suc k) l

        go : length L ≡ suc k → Tested (on_last (λ z. above z x) L) → Tested (on_last (above x) L) → (x ∈ L) ⊎ (on_last (above x) L ≡ true)
        go full (passed h) t = inl (subst (λ b. x ∈ b) (best_below (suc k) x l full h) m)
        go full (failed h) (passed h') = inr h'
        go full (failed h) (failed h') =
            let r = lowest_some L (best_falling (suc k) l) (omega arith) in
            inl
            (moved (sym (order.total x r.entry (sym (r.is_last (above x)) ∙ h') (sym (r.is_last (λ z. above z x)) ∙ h)))
            r.listed)

    -- in a strictly falling list as many rank above an entry as stand before it
    pub falling_place : (d : E) (l : List E) (n : ℕ) → Falling l → n < length l → length (only (λ y. above y (get_or l n d)) l) ≡ n
    falling_place d [] n w h = absurd (not-suc-le-zero h)
    falling_place d (x ∷ xs) zero w h =
        let e : above x x ≡ false = order.irreflexive x in
        rw (e, only) (ap length (only_all_fail (λ y. above y x) xs (λ y m. one_way above order x y (w.0 y m))))
    falling_place d (x ∷ xs) (suc n) w h =
        let g : n < length xs = le_of_suc-le-suc h in
        let e : above x (get_or xs n d) ≡ true = w.0 (get_or xs n d) (get_d_in d xs n g) in
        rw (e, only) (ap suc (falling_place d xs n w.1 g))

    -- one more that is new: it is put in its rank and the list is cut to k where the list is short or it ranks above the last, and else nothing changes
    pub best_rule : (k : ℕ) (x : E) (l : List E) → (x ∈ l → ⊥) → best above k (x ∷ l) ≡ cond (ltb (length (best above k l)) k || on_last (above x) (best above k l)) (take k (placed above x (best above k l))) (best above k l)
    best_rule k x l new = go (tested (short || over))
      where
        L : List E
        L = best above k l

        short : Bool
        short = ltb (length L) k

        over : Bool
        over = on_last (above x) L

        refused : short || over ≡ false → x ∈ best above k (x ∷ l) → ⊥
        refused e m =
            ⊎_elim (λ h. clash (or_left short over (lt-ltb (length L) k h)) e)
            (⊎_elim (λ h. new (best_of k l x h)) (λ h. clash (or_right short over h) e))
            (entered k x l m)

        go : Tested (short || over) → best above k (x ∷ l) ≡ cond (short || over) (take k (placed above x L)) L
        go (passed e) = rw (e, cond) (best_cons k x l)
        go (failed e) = rw (e, cond) (best_leave k x l (refused e))

    -- one more at the end, as a scan meets it
    pub best_snoc : (k : ℕ) (l : List E) (x : E) → best above k (l ++ (x ∷ [])) ≡ take k (placed above x (best above k l))
    best_snoc k l x = best-same k (l ++ (x ∷ [])) (x ∷ l) (swapped l (x ∷ []), swapped (x ∷ []) l) ∙ best_cons k x l

    -- a ranked list of at most k is its own best k
    pub best_self : (k : ℕ) (l : List E) → Falling l → length l ≤ k → best above k l ≡ l
    best_self k l w h = ap (take k) (rank_falling_is l w) ∙ take_all k l h

    -- what doesn't rank above the last of a full list changes nothing: it is below it, or is it
    pub best_skip : (k : ℕ) (x : E) (l : List E) → 1 ≤ k → length (best above k l) ≡ k → on_last (above x) (best above k l) ≡ false → best above k (x ∷ l) ≡ best above k l
    best_skip k x l positive full h = go (tested (on_last (λ z. above z x) L))
      where
        L : List E
        L = best above k l

        low : Lowest L
        low = lowest_some L (best_falling k l) (omega arith)

        go : Tested (on_last (λ z. above z x) L) → best above k (x ∷ l) ≡ best above k l
        go (passed b) = best_below k x l full b
        go (failed b) =
            let is : x ≡ low.entry = order.total x low.entry (sym (low.is_last (above x)) ∙ h) (sym (low.is_last (λ z. above z x)) ∙ b) in
            best_cons k x l
            ∙ ap (take k) (place_there x L (best_falling k l) (moved (sym is) low.listed))
            ∙ take_all k L (length_best_le k l)

    dropped : (k : ℕ) (x y : E) (m : List E) → x ∈ m → x ∈ best above k (y ∷ m) → x ∈ best above k m
    dropped k x y m i h =
        ⊎_elim
        (λ e. subst (λ l. x ∈ l) (best-same k (y ∷ m) m (λ z n. ⊎_elim (λ q. moved (e ∙ sym q) i) (λ j. j) (Memᴰ.cases_cons n), λ z n. there n)) h)
        (λ n. n)
        (place_of_lem y (best above k m) (take-⊆ k (placed above y (best above k m)) x (subst (λ l. x ∈ l) (best_cons k y m) h)))

    -- what stands among the best of a whole stands among the best of each part that has it
    pub best_in_part : (k : ℕ) (part whole : List E) → part ⊆ whole → (x : E) → x ∈ part → x ∈ best above k whole → x ∈ best above k part
    best_in_part k part whole inside x m h =
        go whole
        (subst (λ l. x ∈ l) (best-same k whole (whole ++ part) (λ z n. Memᴰ.append_left part n, λ z n. ⊎_elim (λ p. p) (inside z) (Memᴰ.append_cases whole n))) h)
      where
        go : (w : List E) → x ∈ best above k (w ++ part) → x ∈ best above k part
        go [] n = n
        go (y ∷ w) n = go w (dropped k x y (w ++ part) (Memᴰ.append_right w m) n)

-- Two orders that agree on what is ranked rank it alike.
module _ {E : Type 0} (above other : E → E → Bool) (order : StrictTotal above) (order' : StrictTotal other) where
  abbrev pub Agree : List E → Type 0
  Agree l = (x y : E) → x ∈ l → y ∈ l → other x y ≡ above x y

  falls_too : (l : List E) → Agree l → Falling above l → Falling other l
  falls_too [] agree w = tt
  falls_too (x ∷ xs) agree w = (λ y m. agree x y here (there m) ∙ w.0 y m, falls_too xs (λ y z m n. agree y z (there m) (there n)) w.1)

  pub best_agree : (k : ℕ) (l : List E) → Agree l → best other k l ≡ best above k l
  best_agree k l agree =
      ap (take k)
      (falling_same other order' (rank other l) (rank above l) (rank_falling other order' l)
      (falls_too (rank above l) (λ x y m n. agree x y (rank_of above order l x m) (rank_of above order l y n)) (rank_falling above order l))
      (λ z m. rank_in_lem above order l z (rank_of other order' l z m), λ z m. rank_in_lem other order' l z (rank_of above order l z m)))
