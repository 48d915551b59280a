-- The parts of an item stand in a row: each store goes behind the last.
-- Assumes nothing.
use mathlib.Core.Path.{◌≡◌, refl, sym, ap, ◌∙◌}
use mathlib.Core.List.{List, [], ◌++◌}
use Prim.Native.Nat.{ℕ, ◌+◌, ◌%◌}
use native.Mathlib.Omega.{arith}
use lib.ListN.{length, take, set, length-append}
use lib.Seq.{sets}
use Rattle.wire.specs.Bytes.{bytes, head, field}
use Rattle.wire.proofs.Fields.{length-field}
use Rattle.wire.proofs.Numbers.{length-bytes}
use Rattle.wire.proofs.Stores.{put_tag, put_value, head-low, sets-append}
use Rattle.items.specs.declared.Setting.{Setting}
use Rattle.items.specs.Items.{setting_bytes, heat_bytes, ties_bytes}

-- As much of it as the tag has.
pub six_of : (s : Setting) → take 6 (ties_bytes s) ≡ setting_bytes s
unfolding setting_bytes heat_bytes ties_bytes bytes
six_of s = refl

pub eight_of : (s : Setting) → take 8 (ties_bytes s) ≡ heat_bytes s
unfolding setting_bytes heat_bytes ties_bytes bytes
eight_of s = refl

-- A frame's tag and length, the bytes before its identifier, the identifier and the data, each behind the last.
pub frame_stored : (b : List ℕ) (at tag : ℕ) (w : List ℕ) (id : ℕ) (d : List ℕ)
    → sets (sets (sets (sets (set b at tag) (at + 1) (bytes 2 ((length w + 4 + length d) % 65536))) (at + 3) w) (at + 3 + length w) (bytes 4 id)) (at + 3 + length w + 4) d
    ≡ sets b at (field tag (w ++ (bytes 4 id ++ d)))
frame_stored b at tag w id d =
    let value = w ++ (bytes 4 id ++ d) in
    let size = length w + 4 + length d in
    let b₂ = sets (set b at tag) (at + 1) (bytes 2 (size % 65536)) in
    let long : length value ≡ size = omega (arith, length-append w (bytes 4 id ++ d), length-append (bytes 4 id) d, length-bytes 4 id) in
    let row : sets (sets (sets b₂ (at + 3) w) (at + 3 + length w) (bytes 4 id)) (at + 3 + length w + 4) d ≡ sets b₂ (at + 3) value =
    rw (sets-append b₂ (at + 3) w (bytes 4 id ++ d), sets-append (sets b₂ (at + 3) w) (at + 3 + length w) (bytes 4 id) d, length-bytes 4 id) refl in
    put_value b at tag (size % 65536) value (head-low tag size ∙ ap (head tag) (sym long)) (put_tag b at tag (size % 65536) refl refl) row

pub row_long : (tag : ℕ) (w : List ℕ) (id : ℕ) (d : List ℕ) → length (field tag (w ++ (bytes 4 id ++ d))) ≡ 3 + (length w + 4 + length d)
row_long tag w id d =
    omega (arith, length-field tag (w ++ (bytes 4 id ++ d)), length-append w (bytes 4 id ++ d), length-append (bytes 4 id) d, length-bytes 4 id)

-- The bytes of a frame's item, without a time and with one.
pub frame_long : (id : ℕ) (d : List ℕ) → length (field 18 (bytes 4 id ++ d)) ≡ 3 + 4 + length d
frame_long id d = omega (arith, row_long 18 [] id d)

pub timed_long : (time id : ℕ) (d : List ℕ) → length (field 21 (bytes 4 time ++ (bytes 4 id ++ d))) ≡ 3 + 4 + 4 + length d
timed_long time id d = omega (arith, row_long 21 (bytes 4 time) id d, length-bytes 4 time)

pub ruleset field_long = (length-field)
