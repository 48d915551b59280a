-- A number is read digit by digit, and each that is read is at most the most.
-- Assumes nothing.
use mathlib.Core.Path.{◌≡◌, refl, subst}
use mathlib.Core.Bool.{Bool, true, false, cond, ◌&&◌}
use mathlib.Core.List.{List, [], ◌∷◌}
use lib.IntN.{ℤ, pos, neg_ℤ}
use lib.Signed.{mag}
use Prim.Native.Nat.{ℕ, zero, suc, ◌+◌, ◌*◌, ◌≤◌, ◌<◌}
use native.Mathlib.Numerals.{add-one}
use native.Mathlib.Omega.{arith}
use borrow.Author.Tests.{leb-true}
use Rattle.std.proofs.lemmas.Option.{same_Some}
use Rattle.std.proofs.Common.{Option, Some, None, option_map, option_and_then}
use lib.Dec.{leb, ltb, eqb}
use lib.ListN.{length, get_or, drop}
use lib.Seq.{drop-cons}
use Rattle.lines.specs.Numbers.{digit_of, shifted, with_digit, number_on, number_in, short_in}

-- A turn of the loop.
pub number_more : (base most n : ℕ) (s : List ℕ) (i : ℕ) → i < length s
    → number_on base most n (drop i s) ≡ option_and_then (λ m. number_on base most m (drop (i + 1) s)) (with_digit base most n (get_or s i 0))
unfolding number_on
number_more base most n s i h = rw (add-one, drop-cons s i 0 h)

with_most : (base most n b : ℕ) {m : ℕ} → with_digit base most n b ≡ Some m → m ≤ most
unfolding with_digit
with_most base most n b e = by_digit (digit_of b) e
  where
    by_test : (t : Bool) (v : ℕ) (u : Bool) {m : ℕ} → leb v most ≡ u → cond (t && u) (Some v) None ≡ Some m → m ≤ most
    by_test true v true h e = subst (λ k. k ≤ most) (same_Some _ _ e) (leb-true v most h)
    by_test true v false h e = cc
    by_test false v u h e = cc

    by_digit : (d : Option ℕ) {m : ℕ} → option_and_then (shifted base most n) d ≡ Some m → m ≤ most
    by_digit None e = cc
    by_digit (Some d) e = by_test (ltb d base) (n * base + d) (leb (n * base + d) most) refl e

on_most : (base most n : ℕ) (s : List ℕ) {m : ℕ} → n ≤ most → number_on base most n s ≡ Some m → m ≤ most
unfolding number_on
on_most base most n [] h e = subst (λ k. k ≤ most) (same_Some _ _ e) h
on_most base most n (b ∷ s) h e = by_digit (with_digit base most n b) refl (λ k g. on_most base most k s g) e
  where
    by_digit : (d : Option ℕ) {m : ℕ} → with_digit base most n b ≡ d → ((k : ℕ) → k ≤ most → number_on base most k s ≡ Some m → m ≤ most)
        → option_and_then (λ k. number_on base most k s) d ≡ Some m → m ≤ most
    by_digit None f rest e = cc
    by_digit (Some k) f rest e = rest k (with_most base most n b f) e

-- A number that was read is at most `most`.
pub number_most : (base most : ℕ) (s : List ℕ) (n : ℕ) → number_in base most s ≡ Some n → n ≤ most
unfolding number_in
number_most base most s n e = by_test (eqb (length s) 0) e
  where
    by_test : (t : Bool) → cond t None (number_on base most 0 s) ≡ Some n → n ≤ most
    by_test true e = cc
    by_test false e = on_most base most 0 s (omega arith) e

-- And one with a sign fits two bytes.
pub short_most : (s : List ℕ) (z : ℤ) → short_in s ≡ Some z → mag z < 32768
unfolding short_in
short_most s z e = by_test (eqb (get_or s 0 0) 45) e
  where
    below : (n : ℕ) → n ≤ 32768 → mag (neg_ℤ (pos n)) < 32768
    below zero h = omega arith
    below (suc n) h = omega arith

    minus : (o : Option ℕ) → number_in 10 32768 (drop 1 s) ≡ o → option_map (λ n. neg_ℤ (pos n)) o ≡ Some z → mag z < 32768
    minus None f e = cc
    minus (Some n) f e = subst (λ y. mag y < 32768) (same_Some _ _ e) (below n (number_most 10 32768 (drop 1 s) n f))

    plus : (o : Option ℕ) → number_in 10 32767 s ≡ o → option_map pos o ≡ Some z → mag z < 32768
    plus None f e = cc
    plus (Some n) f e = let h : n ≤ 32767 = number_most 10 32767 s n f in subst (λ y. mag y < 32768) (same_Some _ _ e) (omega arith)

    by_test : (t : Bool) → cond t (option_map (λ n. neg_ℤ (pos n)) (number_in 10 32768 (drop 1 s))) (option_map pos (number_in 10 32767 s)) ≡ Some z → mag z < 32768
    by_test true e = minus (number_in 10 32768 (drop 1 s)) refl e
    by_test false e = plus (number_in 10 32767 s) refl e
