-- A loop that fills a list: after n turns its first n places hold what a function makes of the first n of another.
-- Assumes nothing.
use mathlib.Core.Path.{◌≡◌, sym, ap, ◌∙◌}
use mathlib.Core.List.{List, [], ◌∷◌, ◌++◌, map}
use Prim.Native.Nat.{ℕ, ◌+◌, ◌≤◌, ◌<◌}
use native.Mathlib.Numerals.{add-one}
use native.Mathlib.Omega.{arith}
use lib.ListN.{length, take, get_or, set, length-set, length-map, get_or-map}
use lib.Seq.{take_all, take-suc, take-suc-set}

-- The first n places hold f of each.
pub record Filled {A B : Type 0} (f : A → B) (from : List A) (n : ℕ) (l : List B) : Type 0 where
  pub whole : length l ≡ length from
  pub first : take n l ≡ take n (map f from)

pub filled_none : {A B : Type 0} (f : A → B) (from : List A) (l : List B) → length l ≡ length from → Filled f from 0 l
filled_none f from l e = record { whole = e; first = none l (map f from) }
  where
    none : {A : Type 0} (l m : List A) → take 0 l ≡ take 0 m
    none [] [] = λ i. []
    none [] (x ∷ m) = λ i. []
    none (x ∷ l) [] = λ i. []
    none (x ∷ l) (y ∷ m) = λ i. []

pub filled_more : {A B : Type 0} (f : A → B) (from : List A) (n : ℕ) (l : List B) (d : A) (v : B) → n < length from → Filled f from n l → v ≡ f (get_or from n d) → Filled f from (n + 1) (set l n v)
filled_more f from n l d v h s e =
    record {
      whole = length-set l n v ∙ s.whole;
      first =
          ap (λ m. take m (set l n v)) (add-one n)
          ∙ take-suc-set l n v (omega (arith, s.whole))
          ∙ ap (λ m. m ++ (v ∷ [])) s.first
          ∙ ap (λ x. take n (map f from) ++ (x ∷ [])) (e ∙ sym (get_or-map f from n d))
          ∙ sym (take-suc (map f from) n (f d) (omega (arith, length-map from f)))
          ∙ ap (λ m. take m (map f from)) (sym (add-one n));
    }

pub filled_all : {A B : Type 0} (f : A → B) (from : List A) (n : ℕ) (l : List B) → length from ≤ n → Filled f from n l → l ≡ map f from
filled_all f from n l h s =
    sym (take_all n l (omega (arith, s.whole))) ∙ s.first ∙ take_all n (map f from) (omega (arith, length-map from f))
