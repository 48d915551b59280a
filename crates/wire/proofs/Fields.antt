-- A field that was written is found again, and a field that is found was written so: the three bytes before the value say its tag and length.
-- Assumes nothing.
use mathlib.Core.Path.{◌≡◌, refl, sym, ◌∙◌, ap, ap₂}
use mathlib.Core.Bool.{Bool, true, false, cond, false≢true, and-eq-true_iff}
use mathlib.Core.List.{List, [], ◌∷◌, ◌++◌, append_assoc}
use Prim.Native.Nat.{ℕ, zero, suc, ◌+◌, ◌≤◌, ◌<◌}
use native.Mathlib.Numerals.{add-one}
use native.Mathlib.Omega.{arith}
use borrow.Author.Tests.{le-leb, lt-leb, eq-eqb, eqb-true, leb-true}
use lib.Dec.{leb, eqb, lit<}
use lib.ListN.{length, get_or, take, drop, length-append, length-drop, take-append-drop}
use lib.Seq.{drop-cons, get_or-append_seam, take_at, drop-append-add, drop-drop, length-take-le, get_or-drop}
use Rattle.std.proofs.Common.{Some, None}
use Rattle.wire.specs.declared.Field.{Field}
use Rattle.wire.specs.Bytes.{number, bytes, part, head, field, field_at, is_field}
use Rattle.wire.proofs.Numbers.{Bytes, length-bytes, number-bytes, bytes-number}

-- A field by its three numbers.
abbrev pub field_of : ℕ → ℕ → ℕ → Field
field_of t start n = record { tag = t; start = start; size = n }

bytes_take : (n : ℕ) (s : List ℕ) → Bytes s → Bytes (take n s)
bytes_take zero s h i = lit< tt
bytes_take (suc n) [] h i = lit< tt
bytes_take (suc n) (b ∷ s) h zero = h zero
bytes_take (suc n) (b ∷ s) h (suc i) = bytes_take n s (λ j. h (suc j)) i

module _ (s : List ℕ) (at n : ℕ) where
  -- What stands from a place on is its next n bytes and the rest.
  pub part-split : drop at s ≡ part at n s ++ drop (at + n) s
  part-split = sym (ap (λ (r : List ℕ). part at n s ++ r) (sym (drop-drop n at s)) ∙ take-append-drop n (drop at s))

  pub length_part : at + n ≤ length s → length (part at n s) ≡ n
  length_part h = length-take-le n (drop at s) (rw length-drop (omega arith))

  pub bytes-part : Bytes s → Bytes (part at n s)
  bytes-part h = bytes_take n (drop at s) (λ i. rw get_or-drop (h (at + i)))

  -- n bytes are those of the number that they stand for.
  pub part-number : Bytes s → at + n ≤ length s → part at n s ≡ bytes n (number (part at n s))
  part-number h fits =
      sym (ap (λ (k : ℕ). bytes k (number (part at n s))) (sym (length_part fits)) ∙ bytes-number (part at n s) (bytes-part h))

module _ (s : List ℕ) (at : ℕ) where
  pub cut_short : length s < at + 3 → None ≡ field_at s at
  unfolding field_at
  cut_short h = rw (lt-leb (at + 3) (length s) h)

  pub cut_over : at + 3 ≤ length s → length s < at + 3 + number (part (at + 1) 2 s) → None ≡ field_at s at
  unfolding field_at
  cut_over h k = rw (le-leb (at + 3) (length s) h, lt-leb (at + 3 + number (part (at + 1) 2 s)) (length s) k)

  pub whole : at + 3 + number (part (at + 1) 2 s) ≤ length s → Some (record { tag = get_or s at 0; start = at + 3; size = number (part (at + 1) 2 s) }) ≡ field_at s at
  unfolding field_at
  whole h =
      rw (le-leb (at + 3) (length s) (omega arith), le-leb (at + 3 + number (part (at + 1) 2 s)) (length s) h)

pub length-field : (tag : ℕ) (v : List ℕ) → length (field tag v) ≡ 3 + length v
unfolding field head
length-field tag v = omega (arith, length-append (bytes 2 (length v)) v, length-bytes 2 (length v))

-- Behind what stands before it, a field is a tag, two bytes of length and the value.
module _ (p v q : List ℕ) (tag : ℕ) where
  all : List ℕ
  all = p ++ (field tag v ++ q)

  tag_at : get_or all (length p) 0 ≡ tag
  unfolding all field head
  tag_at = get_or-append_seam p tag _ 0

  size_at_lem : part (length p + 1) 2 all ≡ bytes 2 (length v)
  unfolding all field head
  size_at_lem = rw (drop-append-add p (field tag v ++ q) 1, append_assoc) (take_at (bytes 2 (length v)) (v ++ q) 2 (length-bytes 2 (length v)))

  room_at : length p + 3 + length v ≤ length all
  unfolding all
  room_at = simp (length-append, length-field) (omega arith)

  found : length v < 65536 → Some (record { tag = tag; start = length p + 3; size = length v }) ≡ field_at all (length p)
  found h =
      let size : number (part (length p + 1) 2 all) ≡ length v = ap number size_at_lem ∙ number-bytes 2 (length v) h in
      ap₂ (λ (t n : ℕ). Some (field_of t (length p + 3) n)) (sym tag_at) (sym size) ∙ whole all (length p) (rw size room_at)

-- What was written as a field stands there.
pub written_stands : (p v q : List ℕ) (at tag size : ℕ) → length p ≡ at → length v ≡ size → size < 65536 → is_field (field_at (p ++ (field tag v ++ q)) at) tag size ≡ true
unfolding all
written_stands p v q at tag size hp hv hs =
    rw (← hp, ← hv, ← found p v q tag (rw hv hs)) ((and-eq-true_iff _ _).1 (eq-eqb tag tag refl, eq-eqb (length v) (length v) refl))

module _ (s : List ℕ) (at tag size : ℕ) where
  stands_so : (n : ℕ) (a b : Bool) → is_field (cond a (cond b (Some (field_of (get_or s at 0) (at + 3) n)) None) None) tag size ≡ true
      → (b ≡ true) × (eqb (get_or s at 0) tag ≡ true) × (eqb n size ≡ true)
  stands_so n true true h = let e = (and-eq-true_iff (eqb (get_or s at 0) tag) (eqb n size)).0 h in (refl, e.0, e.1)
  stands_so n true false h = absurd (false≢true h)
  stands_so n false true h = absurd (false≢true h)
  stands_so n false false h = absurd (false≢true h)

  -- Where a field stands, its tag and its length do, and its value is within the bytes.
  pub stands_facts : is_field (field_at s at) tag size ≡ true
      → (at + 3 + number (part (at + 1) 2 s) ≤ length s) × (get_or s at 0 ≡ tag) × (number (part (at + 1) 2 s) ≡ size)
  unfolding field_at
  stands_facts h =
      let n = number (part (at + 1) 2 s) in
      let t = stands_so n (leb (at + 3) (length s)) (leb (at + 3 + n) (length s)) h in
      (leb-true _ _ t.0, eqb-true _ _ t.1, eqb-true _ _ t.2)

-- Where a field stands, the bytes are those that writing it gives.
pub standing-is : (s : List ℕ) (at tag size : ℕ) → Bytes s → is_field (field_at s at) tag size ≡ true
    → (at + 3 + size ≤ length s) × (drop at s ≡ field tag (part (at + 3) size s) ++ drop (at + 3 + size) s)
unfolding field head
standing-is s at tag size bs h =
    let f = stands_facts s at tag size h in
    let fits : at + 3 + size ≤ length s = rw (← f.2) f.0 in
    let two : part (at + 1) 2 s ≡ bytes 2 size =
    sym (bytes-number (part (at + 1) 2 s) (bytes-part s (at + 1) 2 bs))
    ∙ ap₂ bytes (length_part s (at + 1) 2 (omega arith)) f.2 in
    let past : at + 1 + 2 ≡ at + 3 = omega arith in
    let value : length (part (at + 3) size s) ≡ size = length_part s (at + 3) size fits in (
      fits,
      (drop-cons s at 0 (omega arith)
          ∙ ap₂ (λ (t : ℕ) (r : List ℕ). t ∷ r) f.1
          (ap (λ (k : ℕ). drop k s) (sym (add-one at))
          ∙ part-split s (at + 1) 2
          ∙ ap₂ ◌++◌ (two ∙ ap (bytes 2) (sym value))
          (ap (λ (k : ℕ). drop k s) past ∙ part-split s (at + 3) size)
          ∙ sym (append_assoc (bytes 2 (length (part (at + 3) size s))) (part (at + 3) size s) (drop (at + 3 + size) s)))),
    )
