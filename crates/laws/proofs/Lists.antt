-- Laws of lists, each by induction on its list: membership, the same members, what holds of each pair, those that pass a test, the last entry.
-- Assumes nothing.
use mathlib.Core.Path.{◌≡◌, refl, sym, ap, ap₂, ◌∙◌, subst}
use mathlib.Core.Logic.{◌⊎◌, inl, inr, ⊎_elim}
use mathlib.Core.Bool.{Bool, true, false, not, ◌&&◌}
use mathlib.Core.List.Memᴰ
use mathlib.Core.List.{List, [], ◌∷◌, ◌++◌, map, nil≢cons, head-eq_of_cons-eq}
use Prim.Native.Nat.{ℕ, zero, suc, ◌≤◌, ◌<◌, suc-le-suc}
use native.Mathlib.Nat.{eq-or-lt_of_le, le_of_suc-le-suc, not-suc-le-zero}
use lib.Seq.{take-take, take-length}
use native.Mathlib.Omega.{arith}
use lib.ListN.{length, take, drop, get_or, take-append-drop}
use Rattle.laws.proofs.Tests.{Tested, passed, failed, tested, clash}
use Rattle.laws.specs.Lists.{◌∈◌, on_last, only}

pub lt_or_eq : {m n : ℕ} → m ≤ n → (m < n) ⊎ (m ≡ n)
lt_or_eq h = ⊎_elim (λ e. inr e) (λ l. inl l) (eq-or-lt_of_le h)

module _ {A : Type 0} where
  pub here : {x : A} {xs : List A} → x ∈ x ∷ xs
  here = Memᴰ.head refl

  pub there : {x y : A} {xs : List A} → x ∈ xs → x ∈ y ∷ xs
  there m = Memᴰ.tail m

  pub moved : {x y : A} {l : List A} → x ≡ y → x ∈ l → y ∈ l
  moved {l} e m = subst (λ z. z ∈ l) e m

  -- all members of the one are members of the other
  infix 50 ◌⊆◌
  abbrev pub ◌⊆◌ : List A → List A → Type 0
  xs ⊆ ys = (x : A) → x ∈ xs → x ∈ ys

  abbrev pub Same : List A → List A → Type 0
  Same xs ys = (xs ⊆ ys) × (ys ⊆ xs)

  pub same_end : (x : A) (l : List A) → Same (x ∷ l) (l ++ (x ∷ []))
  same_end x l = (to, from)
    where
      to : x ∷ l ⊆ l ++ (x ∷ [])
      to y k = ⊎_elim (λ e. Memᴰ.append_right l (Memᴰ.head e)) (λ m. Memᴰ.append_left (x ∷ []) m) (Memᴰ.cases_cons k)

      from : l ++ (x ∷ []) ⊆ x ∷ l
      from y k = ⊎_elim (λ m. there m) (λ m. Memᴰ.head (Memᴰ.eq_of_singleton m)) (Memᴰ.append_cases l k)

  pub same_swap : (x y : A) (l : List A) → Same (x ∷ y ∷ l) (y ∷ x ∷ l)
  same_swap x y l = (swap x y, swap y x)
    where
      swap : (x y : A) → x ∷ y ∷ l ⊆ y ∷ x ∷ l
      swap x y z k =
          ⊎_elim (λ e. there (Memᴰ.head e)) (λ m. ⊎_elim (λ e. Memᴰ.head e) (λ n. there (there n)) (Memᴰ.cases_cons m)) (Memᴰ.cases_cons k)

  pub take-⊆ : (n : ℕ) (l : List A) → take n l ⊆ l
  take-⊆ zero l x m = absurd (Memᴰ.not-nil m)
  take-⊆ (suc n) [] x m = m
  take-⊆ (suc n) (y ∷ ys) x m = ⊎_elim (λ e. Memᴰ.head e) (λ k. there (take-⊆ n ys x k)) (Memᴰ.cases_cons m)

  pub take_more : {m n : ℕ} (l : List A) → m ≤ n → take m l ⊆ take n l
  take_more {m} {n} l h x k = take-⊆ m (take n l) x (subst (λ s. x ∈ s) (sym (take-take m n l h)) k)

  pub drop-⊆ : (n : ℕ) (l : List A) → drop n l ⊆ l
  drop-⊆ zero l x m = m
  drop-⊆ (suc n) [] x m = m
  drop-⊆ (suc n) (y ∷ ys) x m = there (drop-⊆ n ys x m)

  -- what R says of each member and each later one
  abbrev pub Pairwise : (A → A → Type 0) → List A → Type 0
  Pairwise R [] = Unit {0}
  Pairwise R (x ∷ xs) = ((y : A) → y ∈ xs → R x y) × Pairwise R xs

  abbrev pub Other : A → A → Type 0
  Other x y = x ≡ y → ⊥

  -- each once
  abbrev pub Distinct : List A → Type 0
  Distinct l = Pairwise Other l

  pub pairwise_map : {R S : A → A → Type 0} → ((x y : A) → R x y → S x y) → (l : List A) → Pairwise R l → Pairwise S l
  pairwise_map f [] p = tt
  pairwise_map f (x ∷ xs) p = (λ y m. f x y (p.0 y m), pairwise_map f xs p.1)

  pub pairwise_split : (R : A → A → Type 0) (xs ys : List A) → Pairwise R (xs ++ ys) → (x y : A) → x ∈ xs → y ∈ ys → R x y
  pairwise_split R [] ys p x y m k = absurd (Memᴰ.not-nil m)
  pairwise_split R (z ∷ zs) ys p x y m k =
      ⊎_elim (λ e. subst (λ v. R v y) (sym e) (p.0 y (Memᴰ.append_right zs k)))
      (λ n. pairwise_split R zs ys p.1 x y n k)
      (Memᴰ.cases_cons m)

  pub pairwise_take : (R : A → A → Type 0) (n : ℕ) (l : List A) → Pairwise R l → Pairwise R (take n l)
  pairwise_take R zero l p = tt
  pairwise_take R (suc n) [] p = tt
  pairwise_take R (suc n) (x ∷ xs) p = (λ y m. p.0 y (take-⊆ n xs y m), pairwise_take R n xs p.1)

  -- before and after the place n
  pub pairwise_at : (R : A → A → Type 0) (n : ℕ) (l : List A) → Pairwise R l → (x y : A) → x ∈ take n l → y ∈ drop n l → R x y
  pairwise_at R n l p = pairwise_split R (take n l) (drop n l) (subst (Pairwise R) (sym (take-append-drop n l)) p)

  pub pairwise_drop : (R : A → A → Type 0) (n : ℕ) (l : List A) → Pairwise R l → Pairwise R (drop n l)
  pairwise_drop R zero l p = p
  pairwise_drop R (suc n) [] p = tt
  pairwise_drop R (suc n) (x ∷ xs) p = pairwise_drop R n xs p.1

  -- those that pass a test
  pub only_in : (p : A → Bool) (l : List A) {x : A} → x ∈ l → p x ≡ true → x ∈ only p l
  only_in p [] m t = m
  only_in p (y ∷ ys) {x} m t = go (tested (p y)) (Memᴰ.cases_cons m) (λ k. only_in p ys k t)
    where
      go : Tested (p y) → (x ≡ y) ⊎ (x ∈ ys) → (x ∈ ys → x ∈ only p ys) → x ∈ only p (y ∷ ys)
      go (passed e) (inl q) f = rw (e, only) (Memᴰ.head q)
      go (passed e) (inr k) f = rw (e, only) (there (f k))
      go (failed e) (inl q) f = clash (sym (ap p q) ∙ t) e
      go (failed e) (inr k) f = rw (e, only) (f k)

  pub only_of : (p : A → Bool) (l : List A) {x : A} → x ∈ only p l → (x ∈ l) × (p x ≡ true)
  only_of p [] m = absurd (Memᴰ.not-nil m)
  only_of p (y ∷ ys) {x} m = go (tested (p y)) (λ k. only_of p ys k)
    where
      ends : p y ≡ true → (x ∈ only p ys → (x ∈ ys) × (p x ≡ true)) → (x ≡ y) ⊎ (x ∈ only p ys) → (x ∈ y ∷ ys) × (p x ≡ true)
      ends e f (inl q) = (Memᴰ.head q, ap p q ∙ e)
      ends e f (inr k) = (there (f k).0, (f k).1)

      go : Tested (p y) → (x ∈ only p ys → (x ∈ ys) × (p x ≡ true)) → (x ∈ y ∷ ys) × (p x ≡ true)
      go (passed e) f = ends e f (Memᴰ.cases_cons (rw (e, only) at m))
      go (failed e) f = let r : (x ∈ ys) × (p x ≡ true) = f (rw (e, only) at m) in (there r.0, r.1)

  pub pairwise_only : (R : A → A → Type 0) (p : A → Bool) (l : List A) → Pairwise R l → Pairwise R (only p l)
  pairwise_only R p [] w = tt
  pairwise_only R p (x ∷ xs) w = go (tested (p x)) (pairwise_only R p xs w.1)
    where
      go : Tested (p x) → Pairwise R (only p xs) → Pairwise R (only p (x ∷ xs))
      go (passed e) r = rw (e, only) (λ y m. w.0 y (only_of p xs m).0, r)
      go (failed e) r = rw (e, only) r

  -- the last entry
  pub last_not : (p : A → Bool) (x : A) (l : List A) → on_last (λ y. not (p y)) (x ∷ l) ≡ not (on_last p (x ∷ l))
  last_not p x [] = refl
  last_not p x (y ∷ ys) = last_not p y ys

  pub last_same : (p q : A → Bool) (l : List A) → ((x : A) → x ∈ l → p x ≡ q x) → on_last p l ≡ on_last q l
  last_same p q [] h = refl
  last_same p q (x ∷ []) h = h x here
  last_same p q (x ∷ y ∷ l) h = last_same p q (y ∷ l) (λ z m. h z (there m))

  -- where a list has entries, its last one is the one at its length less one
  pub last_at : (p : A → Bool) (d x : A) (l : List A) → on_last p (x ∷ l) ≡ p (get_or (x ∷ l) (length l) d)
  last_at p d x [] = refl
  last_at p d x (y ∷ ys) = last_at p d y ys

  -- a member of the first n stands at a place below n
  pub placed : (n : ℕ) (l : List A) {x : A} → x ∈ take n l → (m : ℕ) × (m < n) × (rest : List A) × (drop m l ≡ x ∷ rest)
  placed zero l m = absurd (Memᴰ.not-nil m)
  placed (suc n) [] m = absurd (Memᴰ.not-nil m)
  placed (suc n) (y ∷ ys) {x} m = go (Memᴰ.cases_cons m) (placed n ys)
    where
      go : (x ≡ y) ⊎ (x ∈ take n ys) → (x ∈ take n ys → (m : ℕ) × (m < n) × (rest : List A) × (drop m ys ≡ x ∷ rest)) → (m : ℕ) × (m < suc n) × (rest : List A) × (drop m (y ∷ ys) ≡ x ∷ rest)
      go (inl e) ih = (0, omega arith, ys, ap (λ z. z ∷ ys) (sym e))
      go (inr k) ih =
          let r = ih k in
          let h : r.0 < n = r.1 in
          (suc r.0, omega arith, r.2, r.3)

  pub inside : (n : ℕ) (l : List A) {x : A} {rest : List A} → drop n l ≡ x ∷ rest → n < length l
  inside zero [] e = absurd (nil≢cons e)
  inside zero (y ∷ ys) e = omega arith
  inside (suc n) [] e = absurd (nil≢cons e)
  inside (suc n) (y ∷ ys) e = suc-le-suc (inside n ys e)

  pub take_next : (n : ℕ) (l : List A) {x : A} {rest : List A} → drop n l ≡ x ∷ rest → take (suc n) l ≡ take n l ++ (x ∷ [])
  take_next zero [] e = absurd (nil≢cons e)
  take_next zero (y ∷ ys) e = ap (λ z. z ∷ []) (head-eq_of_cons-eq e)
  take_next (suc n) [] e = absurd (nil≢cons e)
  take_next (suc n) (y ∷ ys) e = ap (λ l. y ∷ l) (take_next n ys e)

  pub get_d_in : (d : A) (l : List A) (n : ℕ) → n < length l → get_or l n d ∈ l
  get_d_in d [] n h = absurd (not-suc-le-zero h)
  get_d_in d (x ∷ xs) zero h = here
  get_d_in d (x ∷ xs) (suc n) h = there (get_d_in d xs n (le_of_suc-le-suc h))

  -- what stands at a place begins what is left from there
  pub get_d_left : (d : A) (l : List A) (n : ℕ) {x : A} {left : List A} → drop n l ≡ x ∷ left → get_or l n d ≡ x
  get_d_left d [] zero e = absurd (nil≢cons e)
  get_d_left d [] (suc n) e = absurd (nil≢cons e)
  get_d_left d (y ∷ ys) zero e = head-eq_of_cons-eq e
  get_d_left d (y ∷ ys) (suc n) e = get_d_left d ys n e

  pub get_d_past : (d : A) (l : List A) (n : ℕ) → drop n l ≡ [] → get_or l n d ≡ d
  get_d_past d [] n e = refl
  get_d_past d (y ∷ ys) zero e = absurd (nil≢cons (sym e))
  get_d_past d (y ∷ ys) (suc n) e = get_d_past d ys n e

  -- a member has a place
  pub index_of : (d : A) (l : List A) {x : A} → x ∈ l → (n : ℕ) × (n < length l) × (get_or l n d ≡ x)
  index_of d l {x} m =
      let r = placed (length l) l (subst (λ s. x ∈ s) (sym (take-length l)) m) in
      (r.0, r.1, get_d_left d l r.0 r.3)

  pub only_yes : (p : A → Bool) (x : A) (l : List A) → p x ≡ true → only p (x ∷ l) ≡ x ∷ only p l
  only_yes p x l e = rw (e, only)

  pub only_no : (p : A → Bool) (x : A) (l : List A) → p x ≡ false → only p (x ∷ l) ≡ only p l
  only_no p x l e = rw (e, only)

  pub only-append : (p : A → Bool) (xs ys : List A) → only p (xs ++ ys) ≡ only p xs ++ only p ys
  only-append p [] ys = refl
  only-append p (x ∷ xs) ys = go (tested (p x)) (only-append p xs ys)
    where
      go : Tested (p x) → only p (xs ++ ys) ≡ only p xs ++ only p ys → only p (x ∷ (xs ++ ys)) ≡ only p (x ∷ xs) ++ only p ys
      go (passed e) ih = rw (e, only) (ap (λ l. x ∷ l) ih)
      go (failed e) ih = rw (e, only) ih

  pub only_all_fail : (p : A → Bool) (l : List A) → ((x : A) → x ∈ l → p x ≡ false) → only p l ≡ []
  only_all_fail p [] h = refl
  only_all_fail p (x ∷ xs) h =
      let e : p x ≡ false = h x here in
      rw (e, only) (only_all_fail p xs (λ y m. h y (there m)))

  pub only-all : (p : A → Bool) (l : List A) → ((x : A) → x ∈ l → p x ≡ true) → only p l ≡ l
  only-all p [] h = refl
  only-all p (x ∷ xs) h =
      let e : p x ≡ true = h x here in
      rw (e, only) (ap (λ l. x ∷ l) (only-all p xs (λ y m. h y (there m))))

  pub only-length : (p : A → Bool) (l : List A) → length (only p l) ≤ length l
  only-length p [] = omega arith
  only-length p (x ∷ xs) = go (tested (p x)) (only-length p xs)
    where
      go : Tested (p x) → length (only p xs) ≤ length xs → length (only p (x ∷ xs)) ≤ length (x ∷ xs)
      go (passed e) ih = rw (e, only) (suc-le-suc ih)
      go (failed e) ih = rw (e, only) (omega arith)

  -- one test, and then another
  pub only-only : (p q : A → Bool) (l : List A) → only p (only q l) ≡ only (λ x. q x && p x) l
  only-only p q [] = refl
  only-only p q (x ∷ xs) = go (tested (q x)) (tested (p x)) (only-only p q xs)
    where
      go : Tested (q x) → Tested (p x) → only p (only q xs) ≡ only (λ y. q y && p y) xs → only p (only q (x ∷ xs)) ≡ only (λ y. q y && p y) (x ∷ xs)
      go (passed e) (passed f) ih = rw (e, f, only) (ap (λ l. x ∷ l) ih)
      go (passed e) (failed f) ih = rw (e, f, only) ih
      go (failed e) t ih = rw (e, only) ih

  pub same-only : (p : A → Bool) (l m : List A) → Same l m → Same (only p l) (only p m)
  same-only p l m s = (over l m s.0, over m l s.1)
    where
      over : (l m : List A) → l ⊆ m → only p l ⊆ only p m
      over l m h x k = let r = only_of p l k in only_in p m (h x r.0) r.1

  -- a test told in two ways
  pub only_same : (p q : A → Bool) (l : List A) → ((x : A) → x ∈ l → p x ≡ q x) → only p l ≡ only q l
  only_same p q [] h = refl
  only_same p q (x ∷ xs) h = ap₂ (λ b m. elim b [ true ↦ x ∷ m | false ↦ m ]) (h x here) (only_same p q xs (λ y m. h y (there m)))

  -- where what passes a test comes first, as many pass as stand before the first that fails
  module _ (p : A → Bool) where
    abbrev pub First : List A → Type 0
    First l = Pairwise (λ x y. p y ≡ true → p x ≡ true) l

    none_left : (x : A) (xs : List A) → First (x ∷ xs) → p x ≡ false → only p xs ≡ []
    none_left x xs w e = only_all_fail p xs (λ y m. go y m (tested (p y)))
      where
        go : (y : A) → y ∈ xs → Tested (p y) → p y ≡ false
        go y m (passed t) = clash (w.0 y m t) e
        go y m (failed t) = t

    pub fails_left : (l : List A) → First l → (x : A) → x ∈ l → p x ≡ false → x ∈ drop (length (only p l)) l
    fails_left [] w x m e = m
    fails_left (y ∷ ys) w x m e = go (tested (p y)) (Memᴰ.cases_cons m) (λ k. fails_left ys w.1 x k e)
      where
        go : Tested (p y) → (x ≡ y) ⊎ (x ∈ ys) → (x ∈ ys → x ∈ drop (length (only p ys)) ys) → x ∈ drop (length (only p (y ∷ ys))) (y ∷ ys)
        go (passed t) (inl q) ih = clash (ap p q ∙ t) e
        go (passed t) (inr k) ih = rw (t, only) (ih k)
        go (failed t) k ih = rw (t, only) (subst (λ z. x ∈ drop (length z) (y ∷ ys)) (sym (none_left y ys w t)) m)

    pub left_fails : (l : List A) → First l → (x : A) → x ∈ drop (length (only p l)) l → p x ≡ false
    left_fails [] w x m = absurd (Memᴰ.not-nil m)
    left_fails (y ∷ ys) w x m = go (tested (p y)) (left_fails ys w.1 x)
      where
        later : p y ≡ false → (x ≡ y) ⊎ (x ∈ ys) → Tested (p x) → p x ≡ false
        later t k (failed u) = u
        later t (inl q) (passed u) = ap p q ∙ t
        later t (inr k) (passed u) = clash (w.0 x k u) t

        go : Tested (p y) → (x ∈ drop (length (only p ys)) ys → p x ≡ false) → p x ≡ false
        go (passed t) ih = ih (rw (t, only) at m)
        go (failed t) ih =
            later t (Memᴰ.cases_cons (subst (λ z. x ∈ drop (length z) (y ∷ ys)) (none_left y ys w t) (rw (t, only) at m))) (tested (p x))

-- ---- a function over a list

pub map-append : {A B : Type 0} (f : A → B) (xs ys : List A) → map f (xs ++ ys) ≡ map f xs ++ map f ys
map-append f [] ys = refl
map-append f (x ∷ xs) ys = ap (λ l. f x ∷ l) (map-append f xs ys)

pub same_map : {A B : Type 0} (f : A → B) (l m : List A) → Same l m → Same (map f l) (map f m)
same_map {A} {B} f l m s = (over l m s.0, over m l s.1)
  where
    over : (l m : List A) → l ⊆ m → map f l ⊆ map f m
    over l m h y k = let r = Memᴰ.of_map f l k in moved r.2 (Memᴰ.map f (h r.0 r.1))
