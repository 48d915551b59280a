-- The search finds the best k of all that is held and counts, and takes exactly the cells that could matter: a cell whose bound is below the final
-- last entry is taken after all the cells of the list's entries, and by then the search has stopped.
-- Assumes nothing.
use mathlib.Core.Path.{◌≡◌, refl, sym, ap, ◌∙◌, subst}
use mathlib.Core.Logic.{◌⊎◌, inl, inr, ⊎_elim, ◌↔◌}
use mathlib.Core.Bool.{Bool, true, false, not}
use mathlib.Core.List.Memᴰ
use mathlib.Core.List.{List, [], ◌∷◌, ◌++◌}
use Prim.Native.Nat.{ℕ, suc, ◌-◌, ◌≤◌, ◌<◌}
use native.Mathlib.Nat.{zero-add, suc-ne-zero}
use native.Mathlib.Omega.{arith}
use borrow.Author.Tests.{not-true, eq-eqb, eqb-true, lt-ltb, ltb-true}
use lib.Dec.{eqb, ltb}
use lib.ListN.{length, take, drop, take-append-drop, length-drop}
use lib.Seq.{drop-length, length-take-le, take-nil}
use Rattle.laws.specs.Lists.{◌∈◌, on_last, only}
use Rattle.search.specs.Best.{best}
use Rattle.search.specs.Search.{Search, has, entries, held_in, counted_in, list_after, stops, ended, steps, found, marks}
use Rattle.laws.proofs.Tests.{Tested, passed, failed, tested, clash, and_both, and_true, or_either, or_left, or_right}
use Rattle.laws.proofs.Lists.{◌⊆◌, Same, Pairwise, Distinct, there, moved, take-⊆, take_more, lt_or_eq, pairwise_drop, pairwise_take, pairwise_only, only_in, only_of, only_all_fail, placed, take_next, Other}
use Rattle.laws.proofs.Orders.{StrictTotal, ltb_strict, opposite, differs}
use Rattle.search.proofs.Best.{Falling, Lowest, lowest_of_lem, best_falling, best_of, best-same, best-append, best-part, best_below_all, length_best_le, length-same, enters, entered, lowest_some}
use Rattle.search.proofs.Least.{least-before, least-holds, least_le, least-same}
use Rattle.search.specs.Inner.{matters}

-- ---- cells and tests

pub has_in : (c : ℕ) (cs : List ℕ) → has c cs ≡ true → c ∈ cs
has_in c [] h = clash {b = false} h refl
has_in c (d ∷ ds) h = go (tested (eqb c d)) (has_in c ds)
  where
    go : Tested (eqb c d) → (has c ds ≡ true → c ∈ ds) → c ∈ d ∷ ds
    go (passed e) ih = Memᴰ.head (eqb-true c d e)
    go (failed e) ih = there (ih (rw (e, has) at h))

pub in_has : (c : ℕ) (cs : List ℕ) → c ∈ cs → has c cs ≡ true
in_has c [] m = absurd (Memᴰ.not-nil m)
in_has c (d ∷ ds) m = go (tested (eqb c d)) (Memᴰ.cases_cons m) (in_has c ds)
  where
    go : Tested (eqb c d) → (c ≡ d) ⊎ (c ∈ ds) → (c ∈ ds → has c ds ≡ true) → has c (d ∷ ds) ≡ true
    go (passed e) k ih = rw (e, has)
    go (failed e) (inl q) ih = clash (eq-eqb c d q) e
    go (failed e) (inr k) ih = rw (e, has) (ih k)

-- ---- what a search rests on

-- the items of which a theorem speaks
abbrev pub All : {I : Type 0} → (I → Type 0) → List I → Type 0
All {I} Good hs = (i : I) → i ∈ hs → Good i

pub record Sound {E I : Type 0} (s : Search E I) (Good : I → Type 0) : Type 0 where
  pub strict : StrictTotal s.above
  pub distinct : Distinct s.order
  -- each that counts lies in a cell of the order
  pub covers : (i : I) → Good i → s.counts i ≡ true → s.cell_of i ∈ s.order
  -- cells are taken by falling bound
  pub falling : Pairwise (λ c d. (e : E) → s.reaches d e ≡ true → s.reaches c e ≡ true) s.order
  -- no item ranks above the bound of its cell
  pub bound : (i : I) → Good i → s.counts i ≡ true → (e : E) → s.reaches (s.cell_of i) e ≡ false → s.above e (s.entry i) ≡ true

-- What a value that is added as the one that goes first on ties may do, in a window of things hs: `New c e` says that e is the entry of a permitted value of the cell c.
pub record Foremost {E I : Type 0} (s : Search E I) (hs : List I) (New : ℕ → E → Type 0) : Type 0 where
  -- some value attains the cell's bound, and so ranks above all that the cell reaches
  pub attains : (c : ℕ) → c ∈ s.order → (e : E) × New c e × ((x : E) → x ∈ entries s hs → s.reaches c x ≡ true → s.above e x ≡ true)
  -- none ranks above the bound
  pub bounded : (c : ℕ) (e : E) → New c e → (x : E) → s.reaches c x ≡ false → s.above x e ≡ true
  pub fresh : (c : ℕ) (e : E) → New c e → e ∈ entries s hs → ⊥

module _ {E I : Type 0} (s : Search E I) where
  -- a held thing that counts
  abbrev pub Counted : List I → I → Type 0
  Counted hs i = (i ∈ hs) × (s.counts i ≡ true)

  pub entries_in : (hs : List I) {i : I} → Counted hs i → s.entry i ∈ entries s hs
  entries_in hs m = Memᴰ.map s.entry (only_in s.counts hs m.0 m.1)

  pub entries_of_lem : (hs : List I) {e : E} → e ∈ entries s hs → (i : I) × Counted hs i × (s.entry i ≡ e)
  entries_of_lem hs m =
      let r = Memᴰ.of_map s.entry (only s.counts hs) m in
      (r.0, only_of s.counts hs r.1, r.2)

  pub held_in_lem : (cs : List ℕ) (hs : List I) {i : I} → Counted hs i → s.cell_of i ∈ cs → s.entry i ∈ entries s (held_in s cs hs)
  held_in_lem cs hs {i} m k = entries_in (held_in s cs hs) (only_in (λ j. has (s.cell_of j) cs) hs m.0 (in_has (s.cell_of i) cs k), m.1)

  pub held_of : (cs : List ℕ) (hs : List I) {e : E} → e ∈ entries s (held_in s cs hs) → (i : I) × Counted hs i × (s.cell_of i ∈ cs) × (s.entry i ≡ e)
  held_of cs hs m =
      let r = entries_of_lem (held_in s cs hs) m in
      let q = only_of (λ j. has (s.cell_of j) cs) hs r.1.0 in
      (r.0, (q.0, r.1.1), has_in (s.cell_of r.0) cs q.1, r.2)

  pub held_part : (cs : List ℕ) (hs : List I) → entries s (held_in s cs hs) ⊆ entries s hs
  held_part cs hs e m = let r = held_of cs hs m in moved r.3 (entries_in hs r.1)

  pub steps_le : (k : ℕ) (hs : List I) → steps s k hs ≤ length s.order
  unfolding steps
  steps_le k hs = omega (arith, least_le (ended s k hs) (length s.order) 0)

  -- the search ends
  pub ends : (k : ℕ) (hs : List I) → ended s k hs (steps s k hs) ≡ true
  unfolding steps
  ends k hs =
      least-holds (ended s k hs) (length s.order) 0
      (subst (λ n. ended s k hs n ≡ true) (sym (zero-add (length s.order))) (rw (drop-length s.order)))

  -- and not before
  pub goes_on : (k : ℕ) (hs : List I) (n : ℕ) → n < steps s k hs → ended s k hs n ≡ false
  unfolding steps
  goes_on k hs n h = least-before (ended s k hs) (length s.order) 0 n (omega arith) h

  -- as many cells are marked as steps were taken
  pub length-marks : (k : ℕ) (hs : List I) → length (marks s k hs) ≡ steps s k hs
  length-marks k hs = length-take-le (steps s k hs) s.order (steps_le k hs)

  -- in the beginning the list is empty
  pub list_zero : (k : ℕ) (hs : List I) → list_after s k hs 0 ≡ []
  list_zero k hs = ap (λ l. best s.above k (entries s l)) (only_all_fail (λ i. false) hs (λ i m. refl)) ∙ take-nil k

  -- what is held in two parts of the cells
  held_append : (cs ds : List ℕ) (hs : List I) → Same (entries s (held_in s (cs ++ ds) hs)) (entries s (held_in s cs hs) ++ entries s (held_in s ds hs))
  held_append cs ds hs = (one, other)
    where
      one : entries s (held_in s (cs ++ ds) hs) ⊆ entries s (held_in s cs hs) ++ entries s (held_in s ds hs)
      one e m =
          let r = held_of (cs ++ ds) hs m in
          moved r.3
          (⊎_elim (λ k. Memᴰ.append_left (entries s (held_in s ds hs)) (held_in_lem cs hs r.1 k))
          (λ k. Memᴰ.append_right (entries s (held_in s cs hs)) (held_in_lem ds hs r.1 k))
          (Memᴰ.append_cases cs r.2))

      back : (es : List ℕ) → es ⊆ cs ++ ds → entries s (held_in s es hs) ⊆ entries s (held_in s (cs ++ ds) hs)
      back es h e m = let r = held_of es hs m in moved r.3 (held_in_lem (cs ++ ds) hs r.1 (h (s.cell_of r.0) r.2))

      other : entries s (held_in s cs hs) ++ entries s (held_in s ds hs) ⊆ entries s (held_in s (cs ++ ds) hs)
      other e m =
          ⊎_elim (back cs (λ c k. Memᴰ.append_left ds k) e) (back ds (λ c k. Memᴰ.append_right cs k) e)
          (Memᴰ.append_cases (entries s (held_in s cs hs)) m)

  module _ (strict : StrictTotal s.above) where
    -- one step: the next cell's held things join the list
    pub list_suc : (k : ℕ) (hs : List I) (n c : ℕ) (left : List ℕ) → drop n s.order ≡ c ∷ left → list_after s k hs (suc n) ≡ best s.above k (list_after s k hs n ++ entries s (held_in s (c ∷ []) hs))
    list_suc k hs n c left e =
        let first = take n s.order in
        ap (λ cs. best s.above k (entries s (held_in s cs hs))) (take_next n s.order e)
        ∙ best-same s.above strict k (entries s (held_in s (first ++ (c ∷ [])) hs)) (entries s (held_in s first hs) ++ entries s (held_in s (c ∷ []) hs)) (held_append first (c ∷ []) hs)
        ∙ sym (best-append s.above strict k (entries s (held_in s first hs)) (entries s (held_in s (c ∷ []) hs)))

    module _ (k : ℕ) (hs hs' : List I) (w : Same (counted_in s (marks s k hs) hs) (counted_in s (marks s k hs) hs')) where
      over : (cs : List ℕ) (gs gs' : List I) → cs ⊆ marks s k hs → counted_in s (marks s k hs) gs ⊆ counted_in s (marks s k hs) gs' → entries s (held_in s cs gs) ⊆ entries s (held_in s cs gs')
      over cs gs gs' h g e m =
          let r = held_of cs gs m in
          let c = s.cell_of r.0 in
          let there = only_in (λ j. has (s.cell_of j) (marks s k hs)) gs r.1.0 (in_has c (marks s k hs) (h c r.2)) in
          let q = only_of s.counts (held_in s (marks s k hs) gs') (g r.0 (only_in s.counts (held_in s (marks s k hs) gs) there r.1.1)) in
          moved r.3
          (held_in_lem cs gs' ((only_of (λ j. has (s.cell_of j) (marks s k hs)) gs' q.0).0, q.1) r.2)

      list_local : (n : ℕ) → n ≤ steps s k hs → list_after s k hs n ≡ list_after s k hs' n
      list_local n h =
          let cs = take n s.order in
          best-same s.above strict k (entries s (held_in s cs hs)) (entries s (held_in s cs hs'))
          (over cs hs hs' (take_more s.order h) w.0, over cs hs' hs (take_more s.order h) w.1)

      -- locality: the same things in the marked cells, and whatever else in others, give the same steps, list and marks
      pub local_steps : steps s k hs ≡ steps s k hs'
      unfolding steps
      local_steps =
          least-same (ended s k hs) (ended s k hs') (length s.order) 0
          (λ n h. ap (λ l. stops s k l (drop n s.order)) (list_local n h))

      pub local_marks : marks s k hs ≡ marks s k hs'
      local_marks = ap (λ n. take n s.order) local_steps

      pub local_found : found s k hs ≡ found s k hs'
      local_found = list_local (steps s k hs) (omega arith) ∙ ap (list_after s k hs') local_steps

-- where every cell reaches every entry, all cells are taken
pub all-steps : {E I : Type 0} (s : Search E I) → StrictTotal s.above → (k : ℕ) (hs : List I) → ((c : ℕ) (e : E) → e ∈ entries s hs → s.reaches c e ≡ true) → steps s k hs ≡ length s.order
all-steps {E} s strict k hs h = ⊎_elim (λ short. absurd (go (drop n s.order) refl (ends s k hs) short)) (λ e. e) (lt_or_eq (steps_le s k hs))
  where
    n : ℕ
    n = steps s k hs

    taken : List ℕ
    taken = take n s.order

    L : List E
    L = found s k hs

    rest : (a b : ℕ) → b - a ≡ 0 → a < b → ⊥
    rest a b e l = omega arith

    go : (left : List ℕ) → drop n s.order ≡ left → stops s k L left ≡ true → n < length s.order → ⊥
    go [] q e short = rest n (length s.order) (sym (length-drop n s.order) ∙ ap length q) short
    go (c ∷ left) q e short =
        let both = and_both (eqb (length L) k) (on_last (λ z. not (s.reaches c z)) L) e in
        let low = lowest_of_lem s.above strict (λ z. not (s.reaches c z)) L (best_falling s.above strict k (entries s (held_in s taken hs))) both.1 in
        clash
        (h c low.entry (held_part s taken hs low.entry (best_of s.above strict k (entries s (held_in s taken hs)) low.entry low.listed)))
        (not-true (s.reaches c low.entry) (sym (low.is_last (λ z. not (s.reaches c z))) ∙ both.1))

-- ---- the end

module _ {E I : Type 0} (s : Search E I) {Good : I → Type 0} (sound : Sound s Good) where
  -- a cell that doesn't reach e: no later one does
  unreached : (c : ℕ) (left : List ℕ) (n : ℕ) → drop n s.order ≡ c ∷ left → (e : E) → s.reaches c e ≡ false → (d : ℕ) → d ∈ drop n s.order → s.reaches d e ≡ false
  unreached c left n q e h d m = go (tested (s.reaches d e)) (Memᴰ.cases_cons (subst (λ l. d ∈ l) q m))
    where
      Later : ℕ → ℕ → Type 0
      Later a b = (z : E) → s.reaches b z ≡ true → s.reaches a z ≡ true

      ordered : Pairwise Later (c ∷ left)
      ordered = subst (Pairwise Later) q (pairwise_drop Later n s.order sound.falling)

      go : Tested (s.reaches d e) → (d ≡ c) ⊎ (d ∈ left) → s.reaches d e ≡ false
      go (failed f) t = f
      go (passed f) (inl z) = clash (subst (λ v. s.reaches v e ≡ true) z f) h
      go (passed f) (inr k) = clash (ordered.0 d k e f) h

  module _ (hs : List I) (good : All Good hs) where
    -- before the place n or after it
    sides : (n : ℕ) (i : I) → Counted s hs i → (s.cell_of i ∈ take n s.order) ⊎ (s.cell_of i ∈ drop n s.order)
    sides n i m =
        Memᴰ.append_cases (take n s.order)
        (subst (λ l. s.cell_of i ∈ l) (sym (take-append-drop n s.order)) (sound.covers i (good i m.0) m.1))

    -- all the things in the cells that are left are below e
    below : (c : ℕ) (left : List ℕ) (n : ℕ) → drop n s.order ≡ c ∷ left → (e : E) → s.reaches c e ≡ false → (i : I) → Counted s hs i → s.cell_of i ∈ drop n s.order → s.above e (s.entry i) ≡ true
    below c left n q e h i m k = sound.bound i (good i m.0) m.1 e (unreached c left n q e h (s.cell_of i) k)

    -- The list that a search leaves is the best k of all that is held and counts.
    pub found-is : (k : ℕ) → found s k hs ≡ best s.above k (entries s hs)
    found-is k = go (drop n s.order) refl (ends s k hs)
      where
        n : ℕ
        n = steps s k hs

        taken : List ℕ
        taken = take n s.order

        inside : List E
        inside = entries s (held_in s taken hs)

        others : List E
        others = entries s (only (λ i. not (has (s.cell_of i) taken)) hs)

        F : List E
        F = found s k hs

        fall : Falling s.above F
        fall = best_falling s.above sound.strict k inside

        others_of : {x : E} → x ∈ others → (i : I) × Counted s hs i × (s.cell_of i ∈ drop n s.order) × (s.entry i ≡ x)
        others_of m =
            let r = entries_of_lem s (only (λ i. not (has (s.cell_of i) taken)) hs) m in
            let q = only_of (λ i. not (has (s.cell_of i) taken)) hs r.1.0 in (
              r.0,
              (q.0, r.1.1),
              ⊎_elim (λ z. clash (in_has (s.cell_of r.0) taken z) (not-true (has (s.cell_of r.0) taken) q.1)) (λ z. z) (sides n r.0 (q.0, r.1.1)),
              r.2,
            )

        apart : others ++ inside ⊆ entries s hs
        apart e m =
            ⊎_elim (λ z. let r = others_of z in moved r.3 (entries_in s hs r.1)) (held_part s taken hs e)
            (Memᴰ.append_cases others m)

        put : (i : I) → Counted s hs i → Tested (has (s.cell_of i) taken) → s.entry i ∈ others ++ inside
        put i m (passed t) = Memᴰ.append_right others (held_in_lem s taken hs m (has_in (s.cell_of i) taken t))
        put i m (failed t) =
            Memᴰ.append_left inside
            (entries_in s (only (λ j. not (has (s.cell_of j) taken)) hs) (only_in (λ j. not (has (s.cell_of j) taken)) hs m.0 (ap not t), m.1))

        together : entries s hs ⊆ others ++ inside
        together e m = let r = entries_of_lem s hs m in moved r.2 (put r.0 r.1 (tested (has (s.cell_of r.0) taken)))

        go : (left : List ℕ) → drop n s.order ≡ left → stops s k (found s k hs) left ≡ true → found s k hs ≡ best s.above k (entries s hs)
        go [] q h =
            best-same s.above sound.strict k inside (entries s hs) (
              held_part s taken hs,
              λ e m.
                  let r = entries_of_lem s hs m in
                  moved r.2
                  (held_in_lem s taken hs r.1 (⊎_elim (λ z. z) (λ z. absurd (Memᴰ.not-nil (subst (λ l. s.cell_of r.0 ∈ l) q z))) (sides n r.0 r.1))),
            )
        go (c ∷ left) q h =
            let both = and_both (eqb (length F) k) (on_last (λ e. not (s.reaches c e)) F) h in
            let low = lowest_of_lem s.above sound.strict (λ e. not (s.reaches c e)) F fall both.1 in
            let under = not-true (s.reaches c low.entry) (sym (low.is_last (λ e. not (s.reaches c e))) ∙ both.1) in
            sym
            (best_below_all s.above sound.strict k others inside (eqb-true (length F) k both.0)
            (λ x m.
            let r = others_of m in
            low.is_last (λ z. s.above z x)
            ∙ subst (λ z. s.above low.entry z ≡ true) r.3 (below c left n q low.entry under r.0 r.1 r.2)))
            ∙ best-same s.above sound.strict k (others ++ inside) (entries s hs) (apart, together)

    -- where the list isn't full, or has no entry, all cells are taken
    pub steps_open : (k : ℕ) → (length (best s.above k (entries s hs)) ≡ k → ⊥) ⊎ (length (best s.above k (entries s hs)) ≡ 0) → steps s k hs ≡ length s.order
    steps_open k room = ⊎_elim (λ short. absurd (go (drop n s.order) refl (ends s k hs) short)) (λ e. e) (lt_or_eq (steps_le s k hs))
      where
        n : ℕ
        n = steps s k hs

        L : List E
        L = best s.above k (entries s hs)

        rest : (a b : ℕ) → b - a ≡ 0 → a < b → ⊥
        rest a b e l = omega arith

        no_last : (p : E → Bool) (l : List E) → length l ≡ 0 → on_last p l ≡ false
        no_last p [] e = refl
        no_last p (x ∷ l) e = absurd (suc-ne-zero (length l) e)

        go : (left : List ℕ) → drop n s.order ≡ left → stops s k (found s k hs) left ≡ true → n < length s.order → ⊥
        go [] q e short = rest n (length s.order) (sym (length-drop n s.order) ∙ ap length q) short
        go (c ∷ left) q e short =
            let p : E → Bool = λ z. not (s.reaches c z) in
            let both = and_both (eqb (length L) k) (on_last p L) (subst (λ l. stops s k l (c ∷ left) ≡ true) (found-is k) e) in
            ⊎_elim (λ h. h (eqb-true (length L) k both.0)) (λ h. clash both.1 (no_last p L h)) room

    -- ---- why the steps are exact
    module _ (k : ℕ) (positive : 1 ≤ k) where
      abbrev L : List E
      L = best s.above k (entries s hs)

      fall : Falling s.above L
      fall = best_falling s.above sound.strict k (entries s hs)

      lowest-full : length L ≡ k → Lowest s.above L
      lowest-full e = lowest_some s.above sound.strict L fall (omega arith)

      -- the true list is full and a cell doesn't reach its last entry: then a search that comes to the cell has found all of the list, and stops
      complete : (n c : ℕ) (left : List ℕ) → drop n s.order ≡ c ∷ left → length L ≡ k → on_last (s.reaches c) L ≡ false → ended s k hs n ≡ true
      complete n c left q full h =
          ap (stops s k (list_after s k hs n)) q
          ∙ ap (λ l. stops s k l (c ∷ left)) (best-part s.above sound.strict k inside (entries s hs) (held_part s taken hs) within)
          ∙ and_true (eq-eqb (length L) k full) (low.is_last (λ e. not (s.reaches c e)) ∙ ap not under)
        where
          taken : List ℕ
          taken = take n s.order

          inside : List E
          inside = entries s (held_in s taken hs)

          low : Lowest s.above L
          low = lowest-full full

          under : s.reaches c low.entry ≡ false
          under = sym (low.is_last (s.reaches c)) ∙ h

          beaten : {z : E} → z ∈ L → s.above low.entry z ≡ true → ⊥
          beaten {z} m b =
              ⊎_elim (λ e. differs s.above sound.strict low.entry z b (sym e))
              (λ a. opposite s.above sound.strict z low.entry a b)
              (low.rest z m)

          within : L ⊆ inside
          within z m =
              let r = entries_of_lem s hs (best_of s.above sound.strict k (entries s hs) z m) in
              moved r.2
              (held_in_lem s taken hs r.1
              (⊎_elim (λ t. t)
              (λ t. absurd (beaten m (subst (λ v. s.above low.entry v ≡ true) r.2 (below c left n q low.entry under r.0 r.1 t))))
              (sides n r.0 r.1)))

      -- a marked cell could matter
      pub marked : (c : ℕ) → c ∈ marks s k hs → matters s k hs c ≡ true
      marked c m =
          ⊎_elim (λ short. or_left (ltb (length L) k) (on_last (s.reaches c) L) (lt-ltb (length L) k short))
          (λ full. go full (tested (on_last (s.reaches c) L)))
          (lt_or_eq (length_best_le s.above sound.strict k (entries s hs)))
        where
          at : (n : ℕ) × (n < steps s k hs) × (left : List ℕ) × (drop n s.order ≡ c ∷ left)
          at = placed (steps s k hs) s.order m

          go : length L ≡ k → Tested (on_last (s.reaches c) L) → matters s k hs c ≡ true
          go full (passed h) = or_right (ltb (length L) k) (on_last (s.reaches c) L) h
          go full (failed h) = clash (complete at.0 c at.2 at.3 full h) (goes_on s k hs at.0 at.1)

      -- a cell that could matter is marked
      pub mattering : (c : ℕ) → c ∈ s.order → matters s k hs c ≡ true → c ∈ marks s k hs
      mattering c m h =
          ⊎_elim (λ t. t) (λ t. go (drop n s.order) refl t (ends s k hs))
          (Memᴰ.append_cases (take n s.order) (subst (λ l. c ∈ l) (sym (take-append-drop n s.order)) m))
        where
          n : ℕ
          n = steps s k hs

          no : (a : ℕ) → a ≡ k → a < k → ⊥
          no a e l = omega arith

          go : (left : List ℕ) → drop n s.order ≡ left → c ∈ drop n s.order → stops s k (found s k hs) left ≡ true → c ∈ marks s k hs
          go [] q t e = absurd (Memᴰ.not-nil (subst (λ l. c ∈ l) q t))
          go (d ∷ left) q t e =
              let both = and_both (eqb (length L) k) (on_last (λ z. not (s.reaches d z)) L) (subst (λ l. stops s k l (d ∷ left) ≡ true) (found-is k) e) in
              let full = eqb-true (length L) k both.0 in
              let low = lowest-full full in
              let under = not-true (s.reaches d low.entry) (sym (low.is_last (λ z. not (s.reaches d z))) ∙ both.1) in
              ⊎_elim (λ short. absurd (no (length L) full (ltb-true (length L) k short)))
              (λ r. clash (sym (low.is_last (s.reaches c)) ∙ r) (unreached d left n q low.entry under c t))
              (or_either (ltb (length L) k) (on_last (s.reaches c) L) h)

      -- the number of steps is the number of cells that could matter, in whatever order they are counted
      pub steps-count : (cells : List ℕ) → Distinct cells → Same cells s.order → steps s k hs ≡ length (only (matters s k hs) cells)
      steps-count cells w same =
          sym (length-marks s k hs)
          ∙ length-same ltb ltb_strict (marks s k hs) (only (matters s k hs) cells)
          (pairwise_take Other (steps s k hs) s.order sound.distinct) (pairwise_only Other (matters s k hs) cells w) (
            λ c m. only_in (matters s k hs) cells (same.1 c (take-⊆ (steps s k hs) s.order c m)) (marked c m),
            λ c m. let r = only_of (matters s k hs) cells m in mattering c (same.0 c r.0) r.1,
          )

      -- ---- the cells that are wanted
      -- `New c e`: e is the entry of a permitted value of the cell c, added so
      module _ (New : ℕ → E → Type 0) (facts : Foremost s hs New) where
        Stands : ℕ → Type 0
        Stands c = (e : E) × New c e × (e ∈ best s.above k (e ∷ entries s hs))

        -- A cell is marked exactly where some permitted value of it, added so, would stand on the list.
        pub wanted : (c : ℕ) → c ∈ s.order → c ∈ marks s k hs ↔ ((e : E) × New c e × (e ∈ best s.above k (e ∷ entries s hs)))
        unfolding Stands
        wanted c m = (to, from)
          where
            to : c ∈ marks s k hs → Stands c
            to t =
                let a = facts.attains c m in (
                  a.0,
                  a.1,
                  enters s.above sound.strict k a.0 (entries s hs)
                      (⊎_elim (λ short. inl (ltb-true (length L) k short))
                      (λ h.
                      let low = lowest_of_lem s.above sound.strict (s.reaches c) L fall h in
                      inr
                      (inr
                      (low.is_last (s.above a.0)
                      ∙ a.2 low.entry (best_of s.above sound.strict k (entries s hs) low.entry low.listed) (sym (low.is_last (s.reaches c)) ∙ h))))
                      (or_either (ltb (length L) k) (on_last (s.reaches c) L) (marked c t))),
                )

            reached : (e : E) → New c e → (low : Lowest s.above L) → s.above e low.entry ≡ true → Tested (s.reaches c low.entry) → on_last (s.reaches c) L ≡ true
            reached e f low a (passed r) = low.is_last (s.reaches c) ∙ r
            reached e f low a (failed r) = opposite s.above sound.strict e low.entry a (facts.bounded c e f low.entry r)

            from : Stands c → c ∈ marks s k hs
            from (e, f, t) =
                ⊎_elim
                (λ short. mattering c m (or_left (ltb (length L) k) (on_last (s.reaches c) L) (lt-ltb (length L) k short)))
                (⊎_elim
                (λ there. absurd (facts.fresh c e f (best_of s.above sound.strict k (entries s hs) e there)))
                (λ h.
                let low = lowest_of_lem s.above sound.strict (s.above e) L fall h in
                mattering c m
                (or_right (ltb (length L) k) (on_last (s.reaches c) L)
                (reached e f low (sym (low.is_last (s.above e)) ∙ h) (tested (s.reaches c low.entry))))))
                (entered s.above sound.strict k e (entries s hs) t)
