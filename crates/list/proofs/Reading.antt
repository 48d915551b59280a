-- What is read of the elements of an array: of names, where the places so far have what a function makes of theirs; and what an array's map gives, by
-- what stands at each place.
-- Assumes nothing.
use Rattle.std.proofs.Common.{◌≢◌, ◌≡◌, ℕ, ◌+◌, ◌<◌, List, length, get_or, set, sym, ◌∙◌, arith, below_more, length-set, get_or-set_other, get_or-set_same}
use mathlib.Core.List.{map}
use denote.Param.Members.{Mut}
use Rattle.std.specs.Array.{IsMapOf}
use Rattle.std.specs.Fn.{Called}
use Rattle.std.proofs.lemmas.List.{ext_get_or, get_or-map, length-map}

pub record Read (f : ℕ → ℕ) (names : List ℕ) (n : ℕ) (l : List ℕ) : Type 0 where
  pub room : length names ≡ 16
  pub whole : length l ≡ 16
  pub first : (k : ℕ) → k < n → get_or l k 0 ≡ f (get_or names k 0)

pub read_more : (f : ℕ → ℕ) (names : List ℕ) (n : ℕ) (l : List ℕ) {v : ℕ} → n < 16 → v ≡ f (get_or names n 0) → Read f names n l → Read f names (n + 1) (set l n v)
read_more f names n l h is s =
    let inside : n < length l = omega (arith, s.whole) in
    record {
      room = s.room;
      whole = length-set _ _ _ ∙ s.whole;
      first = below_more _ _ (λ k b. let ne : k ≢ n = omega arith in rw get_or-set_other (s.first k b)) (rw get_or-set_same is);
    }

pub read_all : (f : ℕ → ℕ) (names l : List ℕ) → Read f names 16 l → l ≡ map f names
read_all f names l s =
    ext_get_or 0 l (map f names) (s.whole ∙ sym s.room ∙ sym (length-map names f))
    (λ i b. s.first i (omega (arith, s.whole)) ∙ sym (get_or-map f names i 0 0 (omega (arith, s.whole, s.room))))

pub mapped : {F A B : Type 0} {g : Mut F (A × Unit {0}) B} {f : F} {xs : List A} {ys : List B} {n : ℕ} (h : A → B) (d : A) → length xs ≡ n → IsMapOf g f xs ys n → ((p q : F) (x : A) (y : B) → Called g p (x, tt) y q → y ≡ h x) → ys ≡ map h xs
mapped {xs = xs} {ys = ys} h d e m says =
    ext_get_or (h d) ys (map h xs) (m.long ∙ sym e ∙ sym (length-map xs h))
    (λ i b.
    let at = m.at i d (h d) (omega (arith, m.long)) in
    says at.0 at.1 _ _ at.2 ∙ sym (get_or-map h xs i d (h d) (omega (arith, m.long))))
