-- A run of stores is one store of the bytes in a row; what would fall past the end is not stored.
-- Assumes nothing.
use mathlib.Core.Path.{◌≡◌, refl, sym, ◌∙◌, ap}
use mathlib.Core.List.{List, [], ◌∷◌, ◌++◌, append_assoc}
use Prim.Native.Nat.{ℕ, zero, suc, min, ◌+◌, ◌-◌, ◌%◌, ◌≤◌}
use native.Mathlib.Numerals.{add-one}
use native.Mathlib.Omega.{arith}
use native.Mathlib.Nat.{add-suc, suc-add, add-zero}
use borrow.Rule.Slice.PartMut.{put_mid}
use lib.ListN.{length, take, set, length-set}
use lib.Seq.{sets, sets-eq, set_out, length-take-le, take-nil, take_all, drop-drop}
use Rattle.wire.specs.Bytes.{bytes, head, field}
use Rattle.wire.proofs.Numbers.{bytes_low, length-bytes}

pub sets_past : (l : List ℕ) (i : ℕ) (v : List ℕ) → length l ≤ i → sets l i v ≡ l
sets_past l i [] h = refl
sets_past l i (a ∷ v) h = rw (set_out l i a h) (sets_past l (suc i) v (omega arith))

pub sets-append : (l : List ℕ) (i : ℕ) (v w : List ℕ) → sets l i (v ++ w) ≡ sets (sets l i v) (i + length v) w
sets-append l i [] w = rw add-zero
sets-append l i (a ∷ v) w =
    sets-append (set l i a) (suc i) v w
    ∙ ap (λ (k : ℕ). sets (sets (set l i a) (suc i) v) k w) (suc-add i (length v) ∙ sym (add-suc i (length v)))

-- Where the bytes end, a value may be cut short.
pub sets_cut : (l : List ℕ) (i : ℕ) (v : List ℕ) (n : ℕ) → length l ≤ i + n → sets l i (take n v) ≡ sets l i v
sets_cut l i [] n h = rw (take-nil n)
sets_cut l i (a ∷ v) zero h = sym (sets_past l i (a ∷ v) (omega arith))
sets_cut l i (a ∷ v) (suc n) h = sets_cut (set l i a) (suc i) v n (rw length-set (omega arith))

-- A copy of as many of a value's bytes as there is room for.
pub part_copied : (l : List ℕ) (i k : ℕ) (v w : List ℕ) → i ≤ length l → k ≡ min (length v) (length l - i) → w ≡ take k v → put_mid i k l w ≡ sets l i v
part_copied l i k v w h fewer same =
    let taken : length (take k v) ≡ k = length-take-le k v (omega arith) in
    let long : i + length (take k v) ≤ length l = omega arith in
    let all : sets l i (take k v) ≡ sets l i v = grind (arith, sets_cut l i v k, take_all k v) in
    sym (rw (sets-eq (take k v) l i long, append_assoc) (rw (taken, same, drop-drop) refl)) ∙ all

pub length-head : (tag n : ℕ) → length (head tag n) ≡ 3
unfolding head
length-head tag n = ap suc (length-bytes 2 n)

-- What `put_head` and `put_field` leave: the stores of their callees, one after the other.
pub put_tag : (b : List ℕ) {b₁ b₂ : List ℕ} (at tag size : ℕ) → b₁ ≡ set b at tag → b₂ ≡ sets b₁ (at + 1) (bytes 2 size) → b₂ ≡ sets b at (head tag size)
unfolding head
put_tag b at tag size e₁ e₂ = rw (e₂, e₁, add-one)

pub put_value : (b : List ℕ) {b₁ b₂ : List ℕ} (at tag n : ℕ) (v : List ℕ) → head tag n ≡ head tag (length v)
    → b₁ ≡ sets b at (head tag n) → b₂ ≡ sets b₁ (at + 3) v → b₂ ≡ sets b at (field tag v)
unfolding field
put_value b at tag n v same e₁ e₂ = rw (e₂, e₁, same, sets-append b at (head tag (length v)) v, length-head tag (length v))

-- Of a length only its two bytes are stored.
pub head-low : (tag n : ℕ) → head tag (n % 65536) ≡ head tag n
unfolding head
head-low tag n = rw (bytes_low n)

-- A field is its head and its value in a row.
pub ruleset in_a_row = (sets-append, sets_past, length-head, head-low)
