-- Items that were written one after the other are read as the same items: each is a whole field, and the next starts behind it.
-- Assumes nothing.
use mathlib.Core.Path.{◌≡◌, refl, sym, ap, ap₂, ◌∙◌}
use mathlib.Core.List.{List, [], ◌∷◌, ◌++◌}
use Prim.Native.Nat.{ℕ, zero, suc, ◌+◌, ◌≤◌, ◌<◌}
use native.Mathlib.Omega.{arith}
use lib.ListN.{length, drop, length-append}
use lib.Seq.{take_at, drop_at}
use Rattle.wire.specs.Bytes.{bytes, head, field, part, field_at}
use Rattle.std.proofs.Common.{Some}
use Rattle.wire.proofs.Fields.{field_of, length-field, written_stands, stands_facts, whole, cut_short}
use Rattle.items.specs.declared.Item.{Item}
use Rattle.items.specs.declared.Item.TheVariants.{Window, Set, Frame, Remove, Show, Timed, SetHeat, SetTies, Unknown}
use Rattle.items.specs.Items.{setting_bytes, heat_bytes, ties_bytes, tag_of, value_of}
use Rattle.items.specs.Run.{Meant, meant_by, run_bytes, first_then, items_in, read_items}
use Rattle.items.proofs.Reading.{Fits, written_back}

-- A field that bytes start with.
module _ (tag : ℕ) (v rest : List ℕ) (short : length v < 65536) where
  abbrev all : List ℕ
  all = field tag v ++ rest

  found : field_at all 0 ≡ Some (field_of tag 3 (length v))
  found =
      let f = stands_facts all 0 tag (length v) (written_stands [] v rest 0 tag (length v) refl refl short) in
      sym (whole all 0 f.0) ∙ ap₂ (λ (t n : ℕ). Some (field_of t 3 n)) f.1 f.2

  value_there : part 3 (length v) all ≡ v
  unfolding field head bytes
  value_there = take_at v rest (length v) refl

  rest_there : drop (3 + length v) all ≡ rest
  rest_there = drop_at (field tag v) rest (3 + length v) (length-field tag v)

-- A value that fits is short.
value_short : (i : Item) (ds : List ℕ) → Fits i ds → length (value_of i ds) < 65536
unfolding setting_bytes heat_bytes ties_bytes bytes
value_short (Window n) ds fits = omega arith
value_short (Set s) ds fits = omega arith
value_short (Frame id) ds fits = omega (arith, fits.1)
value_short (Remove slot) ds fits = omega arith
value_short (Show slot) ds fits = omega arith
value_short (Timed time id) ds fits = omega (arith, fits.2)
value_short (SetHeat s) ds fits = omega arith
value_short (SetTies s) ds fits = omega arith
value_short Unknown ds fits = omega arith

abbrev pub AllFit : List Meant → Type 0
AllFit [] = Unit
AllFit (m ∷ ms) = Fits m.item m.data_bytes × AllFit ms

none_back : (n : ℕ) → items_in n [] ≡ []
unfolding items_in
none_back zero = refl
none_back (suc n) = ap (first_then [] (λ r. items_in n r)) (sym (cut_short [] 0 (omega arith)))

-- The items that were written, as far as they are asked for.
run_back : (ms : List Meant) (n : ℕ) → length ms ≤ n → AllFit ms → items_in n (run_bytes ms) ≡ ms
unfolding items_in run_bytes
run_back [] n h fits = none_back n
run_back (m ∷ ms) zero h fits = absurd (omega arith)
run_back (m ∷ ms) (suc n) h fits =
    let tag = tag_of m.item in
    let v = value_of m.item m.data_bytes in
    let rest = run_bytes ms in
    let short = value_short m.item m.data_bytes fits.0 in
    ap (first_then (field tag v ++ rest) (λ r. items_in n r)) (found tag v rest short)
    ∙ ap₂ (λ (x : Meant) (l : List Meant). x ∷ l) (ap (meant_by tag) (value_there tag v rest short) ∙ written_back m.item m.data_bytes fits.0)
    (ap (items_in n) (rest_there tag v rest short) ∙ run_back ms n (omega arith) fits.1)

no_more_than_bytes : (ms : List Meant) → length ms ≤ length (run_bytes ms)
unfolding run_bytes
no_more_than_bytes [] = omega arith
no_more_than_bytes (m ∷ ms) =
    let v = value_of m.item m.data_bytes in
    omega (arith, length-append (field (tag_of m.item) v) (run_bytes ms), length-field (tag_of m.item) v, no_more_than_bytes ms)

-- What is written as items in a row is read as those items.
pub reads_back : (ms : List Meant) → AllFit ms → read_items (run_bytes ms) ≡ ms
unfolding read_items
reads_back ms fits = run_back ms (length (run_bytes ms)) (no_more_than_bytes ms) fits
