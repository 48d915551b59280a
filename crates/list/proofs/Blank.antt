-- What the tests of a list's lines and of the places past them say: a list whose rest is 0 is its lines, stored.
-- Assumes nothing.
use mathlib.Core.Path.{◌≡◌, refl, sym, ap, ap₂, ◌∙◌}
use mathlib.Core.Logic.{⊎_elim}
use mathlib.Core.Bool.{Bool, true}
use mathlib.Core.List.Memᴰ
use mathlib.Core.List.{List, [], ◌∷◌, ◌++◌, map}
use Prim.Native.Nat.{ℕ, zero, suc, min, ◌≤◌}
use native.Mathlib.Nat.{suc_inj, suc-ne-zero}
use native.Mathlib.Omega.{arith}
use borrow.Author.Tests.{eqb-true}
use lib.Dec.{eqb}
use lib.IntN.{pos}
use lib.ListN.{length, take, drop, replicate}
use Rattle.laws.specs.Lists.{◌∈◌}
use Rattle.laws.specs.Whole.{equal}
use Rattle.laws.proofs.Lists.{here, there}
use Rattle.laws.proofs.Orders.{StrictTotal}
use Rattle.laws.proofs.Tests.{and_both, and_true}
use Rattle.laws.proofs.Whole.{equal_is}
use Rattle.search.proofs.Best.{Falling}
use Rattle.ranking.specs.Standing.{Entry}
use Rattle.list.specs.declared.Lines.{Lines}
use Rattle.list.specs.Lines.{lines_of, names_of, scores_of, columns_of, lines_in, all_of, falls, blank}
use Rattle.list.proofs.Stored.{Roomy, take-replicate, length-all, length_shown, column-names, column-scores}

-- ---- tests over a list

pub all_in : {A : Type 0} (p : A → Bool) (l : List A) → all_of p l ≡ true → (x : A) → x ∈ l → p x ≡ true
all_in p [] h x m = absurd (Memᴰ.not-nil m)
all_in p (y ∷ l) h x m =
    let both = and_both (p y) (all_of p l) h in
    ⊎_elim (λ e. ap p e ∙ both.0) (all_in p l both.1 x) (Memᴰ.cases_cons m)

pub all-is : {A : Type 0} (p : A → Bool) (l : List A) → ((x : A) → x ∈ l → p x ≡ true) → all_of p l ≡ true
all-is p [] h = refl
all-is p (y ∷ l) h = and_true (h y here) (all-is p l (λ x m. h x (there m)))

module _ (above : Entry → Entry → Bool) where
  pub falling_falls : (l : List Entry) → Falling above l → falls above l ≡ true
  falling_falls [] w = refl
  falling_falls (x ∷ []) w = refl
  falling_falls (x ∷ y ∷ l) w = and_true (w.0 y here) (falling_falls (y ∷ l) w.1)

  pub falls_falling : StrictTotal above → (l : List Entry) → falls above l ≡ true → Falling above l
  falls_falling strict [] h = tt
  falls_falling strict (x ∷ []) h = (λ z m. absurd (Memᴰ.not-nil m), tt)
  falls_falling strict (x ∷ y ∷ l) h =
      let both = and_both (above x y) (falls above (y ∷ l)) h in
      go both.0 (falls_falling strict (y ∷ l) both.1)
    where
      go : above x y ≡ true → Falling above (y ∷ l) → Falling above (x ∷ y ∷ l)
      go a w = (λ z m. ⊎_elim (λ e. ap (above x) e ∙ a) (λ k. strict.transitive x y z a (w.0 z k)) (Memᴰ.cases_cons m), w)

-- ---- the places past the lines

rest-blank : (n p : ℕ) → n ≤ p → (l : List Entry) → all_of blank (drop (length l) (lines_of (take n (map (λ e. e.name) l ++ replicate p 0)) (take n (map (λ e. e.score) l ++ replicate p (pos 0))))) ≡ true
unfolding equal
rest-blank n p h [] = ap₂ (λ ns ss. all_of blank (lines_of ns ss)) (take-replicate 0 n p h) (take-replicate (pos 0) n p h) ∙ zeros n
  where
    zeros : (n : ℕ) → all_of blank (lines_of (replicate n 0) (replicate n (pos 0))) ≡ true
    zeros zero = refl
    zeros (suc n) = zeros n
rest-blank zero p h (x ∷ l) = refl
rest-blank (suc n) p h (x ∷ l) = rest-blank n p (omega arith) l

-- those of a stored list are 0
pub stored-blank : (l : List Entry) → all_of blank (drop (length l) (lines_of (names_of l) (scores_of l))) ≡ true
stored-blank l = rest-blank 16 16 (omega arith) l

module _ {A : Type 0} (f : Entry → A) (d : A) where
  alike : (l : List Entry) → ((e : Entry) → e ∈ l → f e ≡ d) → replicate (length l) d ≡ map f l
  alike [] h = refl
  alike (x ∷ l) h = ap₂ (λ a m. a ∷ m) (sym (h x here)) (alike l (λ e m. h e (there m)))

  -- a column whose rest is d is stored as its first lines
  column_back : (n p : ℕ) → n ≤ p → (len : ℕ) (l : List Entry) → length l ≡ n → ((e : Entry) → e ∈ drop len l → f e ≡ d) → take n (map f (take len l) ++ replicate p d) ≡ map f l
  column_back n p h zero l e rest = take-replicate d n p h ∙ ap (λ m. replicate m d) (sym e) ∙ alike l rest
  column_back n p h (suc len) [] e rest = take-replicate d n p h ∙ ap (λ m. replicate m d) (sym e)
  column_back zero p h (suc len) (x ∷ l) e rest = absurd (suc-ne-zero (length l) e)
  column_back (suc n) p h (suc len) (x ∷ l) e rest =
      ap (λ m. f x ∷ m) (column_back n p (omega arith) len l (suc_inj e) rest)

-- a list whose rest is 0 is its lines, stored
module _ (l : Lines) (room : Roomy l.names l.scores) (short : l.len ≤ 16) (rest : all_of blank (drop l.len (lines_of l.names l.scores)) ≡ true) where
  abbrev places : List Entry
  places = lines_of l.names l.scores

  zeros : (e : Entry) → e ∈ drop l.len places → (e.name ≡ 0) × (e.score ≡ pos 0)
  zeros e m =
      let both = and_both (eqb e.name 0) (equal e.score (pos 0)) (all_in blank (drop l.len places) rest e m) in
      (eqb-true e.name 0 both.0, equal_is e.score (pos 0) both.1)

  pub blank-stored : l ≡ columns_of (lines_in l)
  blank-stored i = record { names = names i; scores = scores i; len = len i }
    where
      long : length places ≡ 16
      long = length-all l.names l.scores room

      names : l.names ≡ names_of (lines_in l)
      names =
          sym
          (column_back (λ e. e.name) 0 16 16 (omega arith) l.len places long (λ e m. (zeros e m).0)
          ∙ column-names l.names l.scores room)

      scores : l.scores ≡ scores_of (lines_in l)
      scores =
          sym
          (column_back (λ e. e.score) (pos 0) 16 16 (omega arith) l.len places long (λ e m. (zeros e m).1)
          ∙ column-scores l.names l.scores room)

      len : l.len ≡ length (lines_in l)
      len = sym (length_shown l.names l.scores room l.len l.len all)
        where
          all : l.len ≡ min l.len 16
          all = omega arith
