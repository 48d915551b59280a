-- A part of a part is a part: what is left out at the front adds up.
-- Assumes nothing.
use mathlib.Core.Path.{◌≡◌, sym, ap, ◌∙◌}
use mathlib.Core.List.{List, [], ◌∷◌}
use Prim.Native.Nat.{ℕ, zero, suc, ◌+◌, ◌-◌, ◌≤◌}
use native.Mathlib.Omega.{arith}
use lib.ListN.{take, drop}
use lib.Seq.{take-nil, take-take, drop-drop}
use Rattle.wire.specs.Bytes.{part}

pub drop-take : (a k : ℕ) (l : List ℕ) → drop a (take (a + k) l) ≡ take k (drop a l)
drop-take zero k l =
    let none : 0 + k ≡ k = omega arith in
    ap (λ (j : ℕ). take j l) none
drop-take (suc a) k [] = ap (drop (suc a)) (take-nil (suc a + k)) ∙ sym (take-nil k)
drop-take (suc a) k (x ∷ l) =
    let one : suc a + k ≡ suc (a + k) = omega arith in
    ap (λ (j : ℕ). drop (suc a) (take j (x ∷ l))) one ∙ drop-take a k l

pub part-part : (a n b m : ℕ) (l : List ℕ) → a + n ≤ m → part a n (part b m l) ≡ part (b + a) n l
part-part a n b m l h =
    let k = m - a in
    let whole : a + k ≡ m = omega arith in
    ap (λ (j : ℕ). take n (drop a (take j (drop b l)))) (sym whole) ∙ ap (take n) (drop-take a k (drop b l)) ∙ take-take n k (drop a (drop b l)) (omega arith)
    ∙ ap (take n) (drop-drop a b l)
