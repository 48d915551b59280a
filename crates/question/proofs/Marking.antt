-- A cell of the visiting order is marked exactly where it stands before the next one; all of them are where none is left.
-- Assumes nothing.
use mathlib.Core.Path.{◌≡◌, refl, sym, ap, ◌∙◌, subst}
use mathlib.Core.Logic.{◌↔◌}
use mathlib.Core.Bool.{Bool, true, false}
use mathlib.Core.List.{List, [], ◌∷◌, ◌++◌, map, append_assoc}
use Prim.Native.Nat.{ℕ, zero, suc, ◌+◌, ◌<◌}
use native.Mathlib.Numerals.{add-one}
use native.Mathlib.Omega.{arith}
use lib.ListN.{length, take, set, length-set}
use lib.Seq.{take-suc-set, take_all, take-length}
use Rattle.laws.proofs.Lists.{take-⊆, map-append}
use Rattle.laws.specs.Lists.{◌∈◌}
use Rattle.ranking.specs.Cells.{before, numbers_below, most_steps, visiting, in_order, place_of, cell_at, steps_to}
use Rattle.laws.proofs.Tests.{Tested, passed, failed, tested, clash, if_so, if_not, one_test}
use Rattle.search.proofs.Search.{has_in, in_has}
use Rattle.ranking.proofs.Cells.{visiting_in, visiting_of, length-visiting}
use Rattle.ranking.proofs.Scan.{at_place, taken-before}
use Rattle.question.specs.declared.Question.{Question}
use Rattle.question.specs.Lines.{steps_taken, marked, is_marked, is_past, marks_of}

module _ (q : Question) where
  pub steps_left : in_order q.rule q.next ≡ true → steps_taken q ≡ place_of q.rule q.next
  unfolding steps_to
  steps_left h = if_so (place_of q.rule q.next) (most_steps q.rule) h

  pub steps_all : in_order q.rule q.next ≡ false → steps_taken q ≡ most_steps q.rule
  unfolding steps_to
  steps_all h = if_not (place_of q.rule q.next) (most_steps q.rule) h

  taken : ℕ → List ℕ
  taken n = take n (visiting q.rule)

  pub marked_left : in_order q.rule q.next ≡ true → (c : ℕ) → in_order q.rule c ≡ true → is_marked q c ≡ before q.rule c q.next
  unfolding is_marked marked taken
  marked_left h c g =
      one_test (is_marked q c) (before q.rule c q.next)
      (λ t. subst (λ d. before q.rule c d ≡ true) place.1 (is.0 (subst (λ n. c ∈ taken n) (steps_left h) (has_in c (marked q) t))))
      (λ b. in_has c (marked q) (subst (λ n. c ∈ taken n) (sym (steps_left h)) (is.1 (subst (λ d. before q.rule c d ≡ true) (sym place.1) b))))
    where
      place : (place_of q.rule q.next < most_steps q.rule) × (cell_at q.rule (place_of q.rule q.next) ≡ q.next)
      place = at_place q.rule q.next h

      is : c ∈ take (place_of q.rule q.next) (visiting q.rule) ↔ before q.rule c (cell_at q.rule (place_of q.rule q.next)) ≡ true
      is = taken-before q.rule (place_of q.rule q.next) c place.0 g

  marked_all : in_order q.rule q.next ≡ false → (c : ℕ) → in_order q.rule c ≡ true → is_marked q c ≡ true
  unfolding is_marked marked taken
  marked_all h c g = in_has c (marked q) (subst (λ l. c ∈ l) (sym all) (visiting_in q.rule c g))
    where
      all : marked q ≡ visiting q.rule
      all =
          ap taken (steps_all h ∙ sym (length-visiting q.rule))
          ∙ take-length (visiting q.rule)

  -- a cell of the order is marked exactly where the search has come past it
  pub marked_past : (c : ℕ) → in_order q.rule c ≡ true → is_marked q c ≡ is_past q c
  unfolding is_past
  marked_past c g = go (tested (in_order q.rule q.next))
    where
      go : Tested (in_order q.rule q.next) → is_marked q c ≡ is_past q c
      go (passed h) = marked_left h c g ∙ sym (if_so (before q.rule c q.next) true h)
      go (failed h) = marked_all h c g ∙ sym (if_not (before q.rule c q.next) true h)

  -- and no other
  pub marked_out : (c : ℕ) → in_order q.rule c ≡ false → is_marked q c ≡ false
  unfolding is_marked marked taken
  marked_out c g = go (tested (is_marked q c))
    where
      go : Tested (is_marked q c) → is_marked q c ≡ false
      go (passed t) = clash (visiting_of q.rule c (take-⊆ (steps_taken q) (visiting q.rule) c (has_in c (marked q) t))) g
      go (failed t) = t

count-append : (n : ℕ) (rest : List ℕ) → numbers_below n rest ≡ numbers_below n [] ++ rest
count-append zero rest = refl
count-append (suc n) rest =
    count-append n (n ∷ rest)
    ∙ sym (append_assoc (numbers_below n []) (n ∷ []) rest)
    ∙ ap (λ l. l ++ rest) (sym (count-append n (n ∷ [])))

-- the first n places of a list hold f of each number
pub record Filled (f : ℕ → Bool) (n : ℕ) (l : List Bool) : Type 0 where
  pub whole : length l ≡ 256
  pub first : take n l ≡ map f (numbers_below n [])

pub filled_more : (f : ℕ → Bool) (n : ℕ) (l : List Bool) → n < 256 → Filled f n l → Filled f (n + 1) (set l n (f n))
filled_more f n l h s =
    record {
      whole = length-set l n (f n) ∙ s.whole;
      first =
          ap (λ m. take m (set l n (f n))) (add-one n)
          ∙ take-suc-set l n (f n) (omega (arith, s.whole))
          ∙ ap (λ m. m ++ (f n ∷ [])) s.first
          ∙ sym (map-append f (numbers_below n []) (n ∷ []))
          ∙ ap (map f) (sym (count-append n (n ∷ [])))
          ∙ ap (λ m. map f (numbers_below m [])) (sym (add-one n));
    }

pub filled_all : (q : Question) (l : List Bool) → Filled (is_marked q) 256 l → l ≡ marks_of q
unfolding marks_of
filled_all q l s = sym (take_all 256 l (omega (arith, s.whole))) ∙ s.first
