-- A scan over the cells finds the cell that follows: what follows a cell of the visiting order is what is left of the order after its place.
-- Assumes nothing.
use mathlib.Core.Path.{◌≡◌, refl, sym, ap, ◌∙◌, subst}
use mathlib.Core.Logic.{◌⊎◌, inl, inr, ⊎_elim, ◌↔◌}
use mathlib.Core.Bool.{Bool, true, false, ◌&&◌}
use mathlib.Core.List.Memᴰ
use mathlib.Core.List.{List, [], ◌∷◌, ◌++◌, append_assoc}
use Prim.Native.Nat.{ℕ, zero, suc, ◌+◌, ◌≤◌, ◌<◌}
use native.Mathlib.Nat.{not-suc-le-zero}
use native.Mathlib.Omega.{arith}
use native.Mathlib.Numerals.{add-one}
use borrow.Author.Tests.{lt-ltb, le-ltb, ltb-true, ltb-false}
use lib.Dec.{ltb}
use lib.ListN.{length, take, drop, length-append, take-append-drop, drop_of_length-le}
use lib.Seq.{take-suc, drop-cons}
use Rattle.laws.specs.Lists.{◌∈◌, only}
use Rattle.ranking.specs.Cells.{fit_rule, cell_counts, before, numbers_below, most_steps, visiting, in_order, place_of, cell_at, cell_after}
use Rattle.ranking.specs.declared.Rule.{Rule}
use Rattle.laws.proofs.Tests.{Tested, passed, failed, tested, clash, and_both, and_true, if_so}
use Rattle.laws.proofs.Lists.{Pairwise, here, drop-⊆, lt_or_eq, pairwise_at, pairwise_drop, index_of, get_d_in, get_d_left, get_d_past, only-append}
use Rattle.laws.proofs.Orders.{opposite, differs}
use Rattle.search.proofs.Best.{falling_place}
use Rattle.ranking.proofs.Cells.{before_strict, fit-counts, low_ends, counts-order, in_order_lem, order_in, visiting_in, visiting_of, visiting_falling, length-visiting, counted-order}
use Rattle.ranking.specs.Inner.{leads, follows, nearer, place_after}

-- ---- counting

count-append : (n : ℕ) (rest : List ℕ) → numbers_below n rest ≡ numbers_below n [] ++ rest
count-append zero rest = refl
count-append (suc n) rest =
    count-append n (n ∷ rest)
    ∙ sym (append_assoc (numbers_below n []) (n ∷ []) rest)
    ∙ ap (λ l. l ++ rest) (sym (count-append n (n ∷ [])))

-- one more number, which passes the test or not
pub counted : (p : ℕ → Bool) (n : ℕ) → length (only p (numbers_below (n + 1) [])) ≡ length (only p (numbers_below n [])) + length (only p (n ∷ []))
counted p n =
    ap (λ m. length (only p (numbers_below m []))) (add-one n)
    ∙ ap (λ l. length (only p l)) (count-append n (n ∷ []))
    ∙ ap length (only-append p (numbers_below n []) (n ∷ []))
    ∙ length-append (only p (numbers_below n [])) (only p (n ∷ []))

pub counted_yes : (p : ℕ → Bool) (n : ℕ) → p n ≡ true → length (only p (numbers_below (n + 1) [])) ≡ length (only p (numbers_below n [])) + 1
counted_yes p n e = counted p n ∙ rw (e, only)

pub counted_no : (p : ℕ → Bool) (n : ℕ) → p n ≡ false → length (only p (numbers_below (n + 1) [])) ≡ length (only p (numbers_below n []))
counted_no p n e = counted p n ∙ rw (e, only) (omega arith)

-- ---- places

module _ (rule : Rule) where
  abbrev Earlier : ℕ → ℕ → Type 0
  Earlier c d = before rule c d ≡ true

  -- the place of the cell at a place
  pub place_at : (n : ℕ) → n < most_steps rule → place_of rule (cell_at rule n) ≡ n
  place_at n h =
      counted-order rule (λ d. before rule d (cell_at rule n))
      ∙ falling_place (before rule) (before_strict rule) 256 (visiting rule) n (visiting_falling rule) (rw (length-visiting rule) h)

  -- each cell of the order stands at its place
  pub at_place : (c : ℕ) → in_order rule c ≡ true → (place_of rule c < most_steps rule) × (cell_at rule (place_of rule c) ≡ c)
  at_place c h =
      let r = index_of 256 (visiting rule) (visiting_in rule c h) in
      let below : r.0 < most_steps rule = subst (λ n. r.0 < n) (length-visiting rule) r.1 in
      let e : place_of rule c ≡ r.0 = ap (place_of rule) (sym r.2) ∙ place_at r.0 below in
      (subst (λ n. n < most_steps rule) (sym e) below, ap (cell_at rule) e ∙ r.2)

  pub cell_at_lem : (n : ℕ) → n < most_steps rule → in_order rule (cell_at rule n) ≡ true
  cell_at_lem n h = visiting_of rule (cell_at rule n) (get_d_in 256 (visiting rule) n (rw (length-visiting rule) h))

  -- a fit rule has a cell that can be taken
  pub fit_some : fit_rule rule ≡ true → 0 < most_steps rule
  fit_some fit =
      let c = fit-counts rule fit in
      first (at_place _ (counts-order rule (low_ends rule) c.0 c.1)).0
    where
      first : {m n : ℕ} → m < n → 0 < n
      first h = omega arith

  -- what comes after a cell of the order
  pub next_at : (c : ℕ) → in_order rule c ≡ true → cell_after rule c ≡ cell_at rule (place_of rule c + 1)
  unfolding cell_after
  next_at c h = if_so (cell_at rule (place_of rule c + 1)) 256 h

  pub place_after_lem : (c : ℕ) → c < 256 → place_after rule c ≡ place_of rule c + 1
  place_after_lem c h = let e = lt-ltb c 256 h in rw (e, place_after) (sym (add-one (place_of rule c)))

  -- ---- which cells follow

  pub leads-cells : (c d : ℕ) → c < 256 → d < 256 → leads rule c d ≡ before rule c d
  leads-cells c d h g =
      let e = lt-ltb c 256 h in
      let f = lt-ltb d 256 g in
      rw (e, f, leads)

  pub leads_from : (c d : ℕ) → 256 ≤ c → leads rule c d ≡ true
  leads_from c d h = let e = le-ltb c 256 h in rw (e, leads)

  pub leads_to : (c d : ℕ) → 256 ≤ d → leads rule c d ≡ true
  leads_to c d h = go (tested (ltb c 256))
    where
      last : ltb d 256 ≡ false
      last = le-ltb d 256 h

      go : Tested (ltb c 256) → leads rule c d ≡ true
      go (passed e) = rw (e, last, leads)
      go (failed e) = rw (e, leads)

  pub nearer_yes : (from found d : ℕ) → follows rule from d ≡ true → leads rule d found ≡ true → nearer rule from found d ≡ d
  nearer_yes from found d p q = let e = and_true p q in rw (e, nearer)

  pub nearer_no : (from found d : ℕ) → follows rule from d && leads rule d found ≡ false → nearer rule from found d ≡ found
  nearer_no from found d e = rw (e, nearer)

  -- what is known of the cells that pass a test after those below d have been looked at: the one that is taken first
  pub record Scanned (p : ℕ → Bool) (d found : ℕ) : Type 0 where
    pub at_most : found ≤ 256
    pub passes : found < 256 → p found ≡ true
    pub soonest : (e : ℕ) → e < d → p e ≡ true → (found < 256) × (before rule e found ≡ false)

  pub scanned_none : (p : ℕ → Bool) → Scanned p 0 256
  scanned_none p = record { at_most = omega arith; passes = λ h. absurd (no 256 h); soonest = λ e h. absurd (not-suc-le-zero h) }
    where
      no : (n : ℕ) → n < n → ⊥
      no n h = omega arith

  module _ (p : ℕ → Bool) (found d : ℕ) (cell : d < 256) (so_far : Scanned p d found) where
    up_to_d : (e : ℕ) → e < d + 1 → (e < d) ⊎ (e ≡ d)
    up_to_d e h = lt_or_eq (below e h)
      where
        below : (e : ℕ) → e < d + 1 → e ≤ d
        below e h = omega arith

    -- d passes and is taken sooner
    pub scanned_take : p d ≡ true → (found < 256 → before rule d found ≡ true) → Scanned p (d + 1) d
    scanned_take t q =
        record {
          at_most = omega arith;
          passes = λ h. t;
          soonest = λ e h l. (cell, go e (up_to_d e h) l);
        }
      where
        beaten : (e : ℕ) → e < d → p e ≡ true → Tested (before rule e d) → before rule e d ≡ false
        beaten e h l (failed f) = f
        beaten e h l (passed f) =
            let r = so_far.soonest e h l in
            clash ((before_strict rule).transitive e d found f (q r.0)) r.1

        go : (e : ℕ) → (e < d) ⊎ (e ≡ d) → p e ≡ true → before rule e d ≡ false
        go e (inl h) l = beaten e h l (tested (before rule e d))
        go e (inr h) l = subst (λ z. before rule z d ≡ false) (sym h) ((before_strict rule).irreflexive d)

    -- or not
    pub scanned_leave : (p d ≡ true → (found < 256) × (before rule d found ≡ false)) → Scanned p (d + 1) found
    scanned_leave n =
        record {
          at_most = so_far.at_most;
          passes = so_far.passes;
          soonest = λ e h l. go e (up_to_d e h) l;
        }
      where
        go : (e : ℕ) → (e < d) ⊎ (e ≡ d) → p e ≡ true → (found < 256) × (before rule e found ≡ false)
        go e (inl h) l = so_far.soonest e h l
        go e (inr h) l =
            subst (λ z. (found < 256) × (before rule z found ≡ false)) (sym h) (n (subst (λ z. p z ≡ true) h l))

  -- the cells that follow `from`
  module _ (from found d : ℕ) (cell : d < 256) (so_far : Scanned (follows rule from) d found) where
    pub scanned_more : Scanned (follows rule from) (d + 1) (nearer rule from found d)
    scanned_more = go (tested (follows rule from d && leads rule d found))
      where
        ahead : leads rule d found ≡ true → found < 256 → before rule d found ≡ true
        ahead q h = sym (leads-cells d found cell h) ∙ q

        at_d : leads rule d found ≡ false → (found < 256) ⊎ (found ≡ 256) → (found < 256) × (before rule d found ≡ false)
        at_d q (inl h) = (h, sym (leads-cells d found cell h) ∙ q)
        at_d q (inr h) = clash (leads_to d found (omega arith)) q

        go : Tested (follows rule from d && leads rule d found) → Scanned (follows rule from) (d + 1) (nearer rule from found d)
        go (passed e) =
            let r = and_both (follows rule from d) (leads rule d found) e in
            subst (Scanned (follows rule from) (d + 1)) (sym (nearer_yes from found d r.0 r.1))
            (scanned_take (follows rule from) found d cell so_far r.0 (ahead r.1))
        go (failed e) =
            subst (Scanned (follows rule from) (d + 1)) (sym (nearer_no from found d e))
            (scanned_leave (follows rule from) found d cell so_far
            (λ p. at_d (sym (ap (λ b. b && leads rule d found) p) ∙ e) (lt_or_eq so_far.at_most)))

  -- a cell of the order with its place: it ends the cells up to its place, and what follows it is left
  module _ (from : ℕ) (h : in_order rule from ≡ true) where
    n : ℕ
    n = place_of rule from

    within : n < length (visiting rule)
    unfolding n
    within = rw (length-visiting rule) (at_place from h).0

    up_to : take (suc n) (visiting rule) ≡ take n (visiting rule) ++ (from ∷ [])
    unfolding n
    up_to = take-suc (visiting rule) n 256 within ∙ ap (λ c. take n (visiting rule) ++ (c ∷ [])) (at_place from h).1

    at_left : from ∈ drop n (visiting rule)
    unfolding n
    at_left = subst (λ l. from ∈ l) (sym (drop-cons (visiting rule) n 256 within)) (Memᴰ.head (sym (at_place from h).1))

    left_follows : (e : ℕ) → e ∈ drop (suc n) (visiting rule) → before rule from e ≡ true
    left_follows e m =
        pairwise_at Earlier (suc n) (visiting rule) (visiting_falling rule) from e
        (subst (λ l. from ∈ l) (sym up_to) (Memᴰ.append_right (take n (visiting rule)) here)) m

    follows_left : (e : ℕ) → in_order rule e ≡ true → before rule from e ≡ true → e ∈ drop (suc n) (visiting rule)
    follows_left e g b =
        ⊎_elim (λ m. absurd (not_up_to (Memᴰ.append_cases (take n (visiting rule)) (subst (λ l. e ∈ l) up_to m)))) (λ m. m)
        (Memᴰ.append_cases (take (suc n) (visiting rule)) (subst (λ l. e ∈ l) (sym (take-append-drop (suc n) (visiting rule))) (visiting_in rule e g)))
      where
        not_up_to : (e ∈ take n (visiting rule)) ⊎ (e ∈ from ∷ []) → ⊥
        not_up_to (inl m) = opposite (before rule) (before_strict rule) from e b (pairwise_at Earlier n (visiting rule) (visiting_falling rule) e from m at_left)
        not_up_to (inr m) = differs (before rule) (before_strict rule) from e b (sym (Memᴰ.eq_of_singleton m))

  -- the cells that follow are those that are left
  following : (from : ℕ) → (from < 256 → cell_counts rule from ≡ true) → (e : ℕ) → e < 256 → follows rule from e ≡ true ↔ e ∈ drop (place_after rule from) (visiting rule)
  unfolding n
  following from in-it e g = go (tested (ltb from 256))
    where
      both : follows rule from e ≡ true → (cell_counts rule e ≡ true) × (leads rule from e ≡ true)
      both l = and_both (cell_counts rule e) (leads rule from e) l

      there : (m : ℕ) → e ∈ drop m (visiting rule) → cell_counts rule e ≡ true
      there m k = (in_order_lem rule e (visiting_of rule e (drop-⊆ m (visiting rule) e k))).1

      go : Tested (ltb from 256) → follows rule from e ≡ true ↔ e ∈ drop (place_after rule from) (visiting rule)
      go (passed t) =
          let h = ltb-true from 256 t in
          let at = order_in rule from h (in-it h) in
          rw (t, place_after) (
            λ l. let r = both l in follows_left from at e (order_in rule e g r.0) (sym (leads-cells from e h g) ∙ r.1),
            λ m. and_true (there (suc (place_of rule from)) m) (leads-cells from e h g ∙ left_follows from at e m),
          )
      go (failed t) =
          rw (t, place_after) (λ l. visiting_in rule e (order_in rule e g (both l).0), λ m. and_true (there 0 m) (leads_from from e (ltb-false from 256 t)))

  -- where those that pass the test are what is left after the place m, all the cells looked at show the one at m
  pub scanned_left : (p : ℕ → Bool) (m found : ℕ) → ((e : ℕ) → e < 256 → p e ≡ true ↔ e ∈ drop m (visiting rule)) → Scanned p 256 found → found ≡ cell_at rule m
  scanned_left p m found left s = go (drop m (visiting rule)) refl
    where
      found_left : found < 256 → found ∈ drop m (visiting rule)
      found_left h = (left found h).0 (s.passes h)

      go : (rest : List ℕ) → drop m (visiting rule) ≡ rest → found ≡ cell_at rule m
      go [] q =
          ⊎_elim (λ h. absurd (Memᴰ.not-nil (subst (λ l. found ∈ l) q (found_left h)))) (λ e. e ∙ sym (get_d_past 256 (visiting rule) m q))
          (lt_or_eq s.at_most)
      go (x ∷ xs) q =
          let x-left : x ∈ drop m (visiting rule) = subst (λ l. x ∈ l) (sym q) here in
          let x-cell = (in_order_lem rule x (visiting_of rule x (drop-⊆ m (visiting rule) x x-left))).0 in
          let r = s.soonest x x-cell ((left x x-cell).1 x-left) in
          ⊎_elim (λ e. e)
          (λ k. clash ((subst (Pairwise Earlier) q (pairwise_drop Earlier m (visiting rule) (visiting_falling rule))).0 found k) r.1)
          (Memᴰ.cases_cons (subst (λ l. found ∈ l) q (found_left r.0)))
          ∙ sym (get_d_left 256 (visiting rule) m q)

  -- after all the cells the scan has found the one that follows
  pub scanned_all : (from found : ℕ) → (from < 256 → cell_counts rule from ≡ true) → Scanned (follows rule from) 256 found → found ≡ cell_at rule (place_after rule from)
  scanned_all from found in-it s = scanned_left (follows rule from) (place_after rule from) found (following from in-it) s

  -- ---- the cells taken so far, by the next one

  -- the next cell begins what is left
  pub left_at : (m : ℕ) → m < most_steps rule → drop m (visiting rule) ≡ cell_at rule m ∷ drop (suc m) (visiting rule)
  left_at m h = drop-cons (visiting rule) m 256 (rw (length-visiting rule) h)

  pub left_none : (m : ℕ) → most_steps rule ≤ m → drop m (visiting rule) ≡ []
  left_none m h = drop_of_length-le (visiting rule) {i = m} (subst (λ n. n ≤ m) (sym (length-visiting rule)) h)

  -- while cells are left, one of the order is among the first m exactly where it stands before the next one
  pub taken-before : (m c : ℕ) → m < most_steps rule → in_order rule c ≡ true → c ∈ take m (visiting rule) ↔ before rule c (cell_at rule m) ≡ true
  taken-before m c h g = (to, from)
    where
      to : c ∈ take m (visiting rule) → before rule c (cell_at rule m) ≡ true
      to t = pairwise_at Earlier m (visiting rule) (visiting_falling rule) c (cell_at rule m) t (subst (λ l. cell_at rule m ∈ l) (sym (left_at m h)) here)

      not_left : before rule c (cell_at rule m) ≡ true → c ∈ drop m (visiting rule) → ⊥
      not_left b t =
          let left = subst (Pairwise Earlier) (left_at m h) (pairwise_drop Earlier m (visiting rule) (visiting_falling rule)) in
          ⊎_elim (differs (before rule) (before_strict rule) c (cell_at rule m) b)
          (λ k. opposite (before rule) (before_strict rule) c (cell_at rule m) b (left.0 c k))
          (Memᴰ.cases_cons (subst (λ l. c ∈ l) (left_at m h) t))

      from : before rule c (cell_at rule m) ≡ true → c ∈ take m (visiting rule)
      from b =
          ⊎_elim (λ t. t) (λ t. absurd (not_left b t))
          (Memᴰ.append_cases (take m (visiting rule)) (subst (λ l. c ∈ l) (sym (take-append-drop m (visiting rule))) (visiting_in rule c g)))
