-- Both round trips: what is written for an item reads back as that item, and a known tag and value is what the writer writes for the item that it says.
-- Assumes nothing.
use mathlib.Core.Path.{◌≡◌, refl, sym, ap, ap₂, ◌∙◌, subst}
use mathlib.Core.Bool.{Bool, true, false, cond, and-eq-true_iff}
use mathlib.Core.List.{List, [], ◌∷◌, ◌++◌, append_assoc, append-nil}
use Prim.Native.Nat.{ℕ, zero, suc, ◌+◌, ◌^◌, ◌≤◌, ◌<◌}
use native.Mathlib.Omega.{arith}
use borrow.Author.Tests.{eqb-true}
use lib.Dec.{eqb}
use lib.ListN.{length, get_or, drop, replicate, length-append, length-drop, drop_of_length-le, get_or-eq_default}
use lib.Seq.{take_at, drop_at, take_all, drop-cons}
use lib.IntN.{ℤ, pos}
use lib.Signed.{mag}
use Rattle.wire.specs.Bytes.{number, bytes, part}
use Rattle.wire.proofs.Numbers.{Bytes, length-bytes, number-bytes, number_below, number_past, number_two}
use Rattle.wire.proofs.Fields.{part-number, part-split, bytes-part, length_part}
use Rattle.items.specs.declared.Setting.{Setting}
use Rattle.items.specs.declared.Item.{Item}
use Rattle.items.specs.declared.Item.TheVariants.{Window, Set, Frame, Remove, Show, Timed, SetHeat, SetTies, Unknown}
use Rattle.items.specs.Items.{signed16, unsigned16, setting_bytes, heat_bytes, ties_bytes, setting_in, tag_of, value_of, is_item, data_of, item_in}
use Rattle.items.specs.Run.{Meant, meant_by}
use Rattle.items.proofs.Signs.{unsigned_below, unsigned_signed, signed_unsigned}

-- ---- each tag

-- What is read of a tag, where the length is its own.
pub set_read : (v : List ℕ) → length v ≡ 6 → item_in 17 v ≡ Set (setting_in v)
unfolding item_in
set_read v e = rw e

pub frame_read : (v : List ℕ) → length v ≡ 12 → item_in 18 v ≡ Frame (number (part 0 4 v))
unfolding item_in
frame_read v e = rw e

pub remove_read : (slot : ℕ) → item_in 19 (slot ∷ []) ≡ Remove slot
unfolding item_in
remove_read slot = refl

pub show_read : (slot : ℕ) → item_in 20 (slot ∷ []) ≡ Show slot
unfolding item_in
show_read slot = refl

pub timed_read : (v : List ℕ) → length v ≡ 16 → item_in 21 v ≡ Timed (number (part 0 4 v)) (number (part 4 4 v))
unfolding item_in
timed_read v e = rw e

pub set_heat_read : (v : List ℕ) → length v ≡ 8 → item_in 22 v ≡ SetHeat (setting_in v)
unfolding item_in
set_heat_read v e = rw e

pub set_ties_read : (v : List ℕ) → length v ≡ 9 → item_in 23 v ≡ SetTies (setting_in v)
unfolding item_in
set_ties_read v e = rw e

-- ---- tag 17 is tag 22 with weight 0 for heat, and tag 22 is tag 23 with the tie rule 0

pub no_heat : (v : List ℕ) → length v ≡ 6 → (setting_in v).heat ≡ pos 0
unfolding signed16
no_heat v e = ap signed16 (number_past v 6 2 (omega arith))

pub no_ties : (v : List ℕ) → length v ≤ 8 → (setting_in v).ties ≡ 0
no_ties v h = get_or-eq_default v 0 h

abbrev pub with_zero : List ℕ → List ℕ
with_zero v = v ++ (0 ∷ 0 ∷ [])

abbrev pub with_newest : List ℕ → List ℕ
with_newest v = v ++ (0 ∷ [])

-- Bytes of 0 at the end are what is read there anyway.
abbrev blank : ℕ → List ℕ
blank n = replicate n 0

only_zeros : (n at : ℕ) → get_or (blank n) at 0 ≡ 0
only_zeros zero at = refl
only_zeros (suc n) zero = refl
only_zeros (suc n) (suc at) = only_zeros n at

module _ (n : ℕ) where
  zeros : (v : List ℕ) (at : ℕ) → get_or (v ++ blank n) at 0 ≡ get_or v at 0
  zeros [] at = only_zeros n at
  zeros (b ∷ v) zero = refl
  zeros (b ∷ v) (suc at) = zeros v at

  zero_weight : (v : List ℕ) (at : ℕ) → signed16 (number (part at 2 (v ++ blank n))) ≡ signed16 (number (part at 2 v))
  zero_weight v at = ap signed16 (omega (arith, number_two (v ++ blank n) at, number_two v at, zeros v at, zeros v (at + 1)))

  zeros_read : (v : List ℕ) → setting_in (v ++ blank n) ≡ setting_in v
  zeros_read v =
      λ i. record { slot = zeros v 0 i; k = zeros v 1 i; loss = zero_weight v 2 i; shake = zero_weight v 4 i; heat = zero_weight v 6 i; ties = zeros v 8 i }

pub zero_read : (v : List ℕ) → setting_in (with_zero v) ≡ setting_in v
zero_read = zeros_read 2

pub newest_read : (v : List ℕ) → setting_in (with_newest v) ≡ setting_in v
newest_read = zeros_read 1

-- Both say one question, whose weight for heat is 0.
pub set_as_heat : (v : List ℕ) → length v ≡ 6 → (item_in 17 v ≡ Set (setting_in v)) × (item_in 22 (with_zero v) ≡ SetHeat (setting_in v)) × ((setting_in v).heat ≡ pos 0)
set_as_heat v e =
    (set_read v e, set_heat_read (with_zero v) (omega (arith, length-append v (0 ∷ 0 ∷ []))) ∙ ap SetHeat (zero_read v), no_heat v e)

-- Both say one question, whose tie rule is 0.
pub heat_as_ties : (v : List ℕ) → length v ≡ 8 → (item_in 22 v ≡ SetHeat (setting_in v)) × (item_in 23 (with_newest v) ≡ SetTies (setting_in v)) × ((setting_in v).ties ≡ 0)
heat_as_ties v e =
    (set_heat_read v e, set_ties_read (with_newest v) (omega (arith, length-append v (0 ∷ []))) ∙ ap SetTies (newest_read v), no_ties v (omega arith))

-- So tag 17 is tag 23 with both 0.
pub set_as_ties : (v : List ℕ) → length v ≡ 6
    → (item_in 17 v ≡ Set (setting_in v)) × (item_in 23 (with_newest (with_zero v)) ≡ SetTies (setting_in v)) × ((setting_in v).heat ≡ pos 0) × ((setting_in v).ties ≡ 0)
set_as_ties v e =
    let long : length (with_zero v) ≡ 8 = omega (arith, length-append v (0 ∷ 0 ∷ [])) in
    (set_read v e, (heat_as_ties (with_zero v) long).1 ∙ ap SetTies (zero_read v), no_heat v e, no_ties v (omega arith))

-- ---- written, then read

-- What fits an item's bytes: numbers of their width, no weight for heat and no tie rule where there is no room for it, and 8 data bytes with a frame, none
-- with any other item.
abbrev pub Fits : Item → List ℕ → Type 0
Fits (Window n) ds = (n < 65536) × (ds ≡ [])
Fits (Set s) ds = (mag s.loss < 32768) × (mag s.shake < 32768) × (s.heat ≡ pos 0) × (s.ties ≡ 0) × (ds ≡ [])
Fits (Frame id) ds = (id < 4294967296) × (length ds ≡ 8)
Fits (Remove slot) ds = ds ≡ []
Fits (Show slot) ds = ds ≡ []
Fits (Timed time id) ds = (time < 4294967296) × (id < 4294967296) × (length ds ≡ 8)
Fits (SetHeat s) ds = (mag s.loss < 32768) × (mag s.shake < 32768) × (mag s.heat < 32768) × (s.ties ≡ 0) × (ds ≡ [])
Fits (SetTies s) ds = (mag s.loss < 32768) × (mag s.shake < 32768) × (mag s.heat < 32768) × (ds ≡ [])
Fits Unknown ds = ds ≡ []

abbrev pub meant : Item → List ℕ → Meant
meant i ds = record { item = i; data_bytes = ds }

window_back : (n : ℕ) → n < 65536 → item_in 16 (bytes 2 n) ≡ Window n
unfolding item_in
window_back n h =
    rw (length-bytes 2 n, take_all 2 (bytes 2 n) (omega (arith, length-bytes 2 n)), number-bytes 2 n h)

-- A weight's two bytes are read as that weight.
weight_back : (z : ℤ) → mag z < 32768 → {l : List ℕ} → l ≡ bytes 2 (unsigned16 z) → signed16 (number l) ≡ z
weight_back z h e = ap (λ (l : List ℕ). signed16 (number l)) e ∙ ap signed16 (number-bytes 2 (unsigned16 z) (unsigned_below z h)) ∙ signed_unsigned z h

-- A question's value, without a weight for heat, with one, and with a tie rule.
module _ (s : Setting) (a : mag s.loss < 32768) (b : mag s.shake < 32768) where
  set_back : s.heat ≡ pos 0 → s.ties ≡ 0 → item_in 17 (setting_bytes s) ≡ Set s
  unfolding setting_bytes bytes
  set_back none newest =
      let v = setting_bytes s in
      let loss : signed16 (number (part 2 2 v)) ≡ s.loss = weight_back s.loss a refl in
      let shake : signed16 (number (part 4 2 v)) ≡ s.shake = weight_back s.shake b refl in
      let heat : signed16 (number (part 6 2 v)) ≡ s.heat = no_heat v refl ∙ sym none in
      set_read v refl ∙ (λ i. Set (record { slot = s.slot; k = s.k; loss = loss i; shake = shake i; heat = heat i; ties = sym newest i }))

  module _ (c : mag s.heat < 32768) where
    set_heat_back : s.ties ≡ 0 → item_in 22 (heat_bytes s) ≡ SetHeat s
    unfolding setting_bytes heat_bytes bytes
    set_heat_back newest =
        let v = heat_bytes s in
        let loss : signed16 (number (part 2 2 v)) ≡ s.loss = weight_back s.loss a refl in
        let shake : signed16 (number (part 4 2 v)) ≡ s.shake = weight_back s.shake b refl in
        let heat : signed16 (number (part 6 2 v)) ≡ s.heat = weight_back s.heat c refl in
        set_heat_read v refl ∙ (λ i. SetHeat (record { slot = s.slot; k = s.k; loss = loss i; shake = shake i; heat = heat i; ties = sym newest i }))

    set_ties_back : item_in 23 (ties_bytes s) ≡ SetTies s
    unfolding setting_bytes heat_bytes ties_bytes bytes
    set_ties_back =
        let v = ties_bytes s in
        let loss : signed16 (number (part 2 2 v)) ≡ s.loss = weight_back s.loss a refl in
        let shake : signed16 (number (part 4 2 v)) ≡ s.shake = weight_back s.shake b refl in
        let heat : signed16 (number (part 6 2 v)) ≡ s.heat = weight_back s.heat c refl in
        set_ties_read v refl ∙ (λ i. SetTies (record { slot = s.slot; k = s.k; loss = loss i; shake = shake i; heat = heat i; ties = s.ties }))

module _ (id : ℕ) (ds : List ℕ) (eight : length ds ≡ 8) where
  twelve : length (bytes 4 id ++ ds) ≡ 12
  twelve = omega (arith, length-append (bytes 4 id) ds, length-bytes 4 id)

  data_back : part 4 8 (bytes 4 id ++ ds) ≡ ds
  data_back = rw (drop_at (bytes 4 id) ds 4 (length-bytes 4 id)) (take_all 8 ds (omega arith))

  frame_back : id < 4294967296 → item_in 18 (bytes 4 id ++ ds) ≡ Frame id
  frame_back h = frame_read (bytes 4 id ++ ds) twelve ∙ ap Frame (ap number (take_at (bytes 4 id) ds 4 (length-bytes 4 id)) ∙ number-bytes 4 id h)

  -- The same behind a time.
  module _ (time : ℕ) where
    abbrev timed : List ℕ
    timed = bytes 4 time ++ (bytes 4 id ++ ds)

    sixteen : length timed ≡ 16
    sixteen = omega (arith, length-append (bytes 4 time) (bytes 4 id ++ ds), length-bytes 4 time, twelve)

    timed_data_back : part 8 8 timed ≡ ds
    unfolding bytes
    timed_data_back = take_all 8 ds (omega arith)

    id_back : part 4 4 timed ≡ bytes 4 id
    unfolding bytes
    id_back = refl

    timed_back : time < 4294967296 → id < 4294967296 → item_in 21 timed ≡ Timed time id
    timed_back h k =
        timed_read timed sixteen
        ∙ ap₂ Timed (ap number (take_at (bytes 4 time) (bytes 4 id ++ ds) 4 (length-bytes 4 time)) ∙ number-bytes 4 time h) (ap number id_back ∙ number-bytes 4 id k)

unknown_back : meant_by 0 [] ≡ meant Unknown []
unfolding item_in
unknown_back = refl

-- What is written for an item is read as that item.
pub written_back : (i : Item) (ds : List ℕ) → Fits i ds → meant_by (tag_of i) (value_of i ds) ≡ meant i ds
written_back (Window n) ds fits = rw (window_back n fits.0, fits.1)
written_back (Set s) ds fits = rw (set_back s fits.0 fits.1 fits.2 fits.3, fits.4)
written_back (Frame id) ds fits = rw (frame_back id ds fits.1 fits.0, data_back id ds fits.1)
written_back (Remove slot) ds fits = rw (remove_read slot, fits)
written_back (Show slot) ds fits = rw (show_read slot, fits)
written_back (Timed time id) ds fits = rw (timed_back id ds fits.2 time fits.0 fits.1, timed_data_back id ds fits.2 time)
written_back (SetHeat s) ds fits = rw (set_heat_back s fits.0 fits.1 fits.2 fits.3, fits.4)
written_back (SetTies s) ds fits = rw (set_ties_back s fits.0 fits.1 fits.2, fits.3)
written_back Unknown ds fits = rw fits unknown_back

-- ---- read, then written

-- The cases of reading: P holds of what is read if it holds of each item with what led to it.
module _ (P : Item → Type 0) (tag : ℕ) (v : List ℕ) where
  case : (want size : ℕ) (x : Item) {y : Item} → (tag ≡ want → length v ≡ size → P x) → P y → P (cond (is_item tag v want size) x y)
  case want size x {y} f g = go (is_item tag v want size) refl
    where
      go : (b : Bool) → is_item tag v want size ≡ b → P (cond b x y)
      go true e = let both = (and-eq-true_iff (eqb tag want) (eqb (length v) size)).0 e in f (eqb-true _ _ both.0) (eqb-true _ _ both.1)
      go false e = g

  pub by_cases : (tag ≡ 16 → length v ≡ 2 → P (Window (number (part 0 2 v)))) → (tag ≡ 17 → length v ≡ 6 → P (Set (setting_in v)))
      → (tag ≡ 18 → length v ≡ 12 → P (Frame (number (part 0 4 v)))) → (tag ≡ 19 → length v ≡ 1 → P (Remove (get_or v 0 0)))
      → (tag ≡ 20 → length v ≡ 1 → P (Show (get_or v 0 0))) → (tag ≡ 21 → length v ≡ 16 → P (Timed (number (part 0 4 v)) (number (part 4 4 v))))
      → (tag ≡ 22 → length v ≡ 8 → P (SetHeat (setting_in v))) → (tag ≡ 23 → length v ≡ 9 → P (SetTies (setting_in v))) → P Unknown → P (item_in tag v)
  unfolding item_in
  by_cases w s f r q t h o u =
      case 16 2 (Window (number (part 0 2 v))) w
      (case 17 6 (Set (setting_in v)) s
      (case 18 12 (Frame (number (part 0 4 v))) f
      (case 19 1 (Remove (get_or v 0 0)) r
      (case 20 1 (Show (get_or v 0 0)) q
      (case 21 16 (Timed (number (part 0 4 v)) (number (part 4 4 v))) t (case 22 8 (SetHeat (setting_in v)) h (case 23 9 (SetTies (setting_in v)) o u)))))))

one_byte : (v : List ℕ) → length v ≡ 1 → get_or v 0 0 ∷ [] ≡ v
one_byte [] e = absurd (omega arith)
one_byte (b ∷ []) e = refl
one_byte (a ∷ (b ∷ v)) e = absurd (omega arith)

-- Bytes up to their end are those of the number that they stand for.
to_the_end : (v : List ℕ) (at n : ℕ) → at + n ≡ length v → part at n v ≡ drop at v
to_the_end v at n e = take_all n (drop at v) (rw length-drop (omega arith))

-- The weight in two bytes.
weight_bytes : (v : List ℕ) (at : ℕ) → Bytes v → at + 2 ≤ length v → bytes 2 (unsigned16 (signed16 (number (part at 2 v)))) ≡ part at 2 v
weight_bytes v at bs h =
    let two : length (part at 2 v) ≡ 2 = length_part v at 2 h in
    let small : number (part at 2 v) < 65536 = subst (λ (n : ℕ). number (part at 2 v) < 256 ^ n) two (number_below (part at 2 v) (bytes-part v at 2 bs)) in
    ap (bytes 2) (unsigned_signed (number (part at 2 v)) small) ∙ sym (part-number v at 2 bs h)

-- A question up to its weight for heat, and what stands behind.
setting_rest : (v : List ℕ) → Bytes v → 6 ≤ length v → setting_bytes (setting_in v) ++ drop 6 v ≡ v
unfolding setting_bytes bytes
setting_rest v bs h =
    ap₂ (λ (x y : List ℕ). get_or v 0 0 ∷ (get_or v 1 0 ∷ (x ++ (y ++ drop 6 v)))) (weight_bytes v 2 bs (omega arith)) (weight_bytes v 4 bs (omega arith))
    ∙ sym
    (drop-cons v 0 0 (omega arith)
    ∙ ap (λ (l : List ℕ). get_or v 0 0 ∷ l)
    (drop-cons v 1 0 (omega arith) ∙ ap (λ (l : List ℕ). get_or v 1 0 ∷ l) (part-split v 2 2 ∙ ap (λ (l : List ℕ). part 2 2 v ++ l) (part-split v 4 2))))

-- The same up to its tie rule.
heat-rest : (v : List ℕ) → Bytes v → 8 ≤ length v → heat_bytes (setting_in v) ++ drop 8 v ≡ v
unfolding heat_bytes
heat-rest v bs h =
    append_assoc (setting_bytes (setting_in v)) (bytes 2 (unsigned16 (setting_in v).heat)) (drop 8 v)
    ∙ ap (λ (l : List ℕ). setting_bytes (setting_in v) ++ l) (ap (λ (l : List ℕ). l ++ drop 8 v) (weight_bytes v 6 bs (omega arith)) ∙ sym (part-split v 6 2))
    ∙ setting_rest v bs (omega arith)

-- Nothing stands behind the end.
all_of : (x v : List ℕ) (n : ℕ) → length v ≡ n → x ++ drop n v ≡ v → x ≡ v
all_of x v n e h = sym (append-nil x) ∙ ap (λ (l : List ℕ). x ++ l) (sym (drop_of_length-le v {i = n} (omega arith))) ∙ h

setting_bytes_lem : (v : List ℕ) → Bytes v → length v ≡ 6 → setting_bytes (setting_in v) ≡ v
setting_bytes_lem v bs e = all_of (setting_bytes (setting_in v)) v 6 e (setting_rest v bs (omega arith))

heat-bytes : (v : List ℕ) → Bytes v → length v ≡ 8 → heat_bytes (setting_in v) ≡ v
heat-bytes v bs e = all_of (heat_bytes (setting_in v)) v 8 e (heat-rest v bs (omega arith))

ties_bytes_lem : (v : List ℕ) → Bytes v → length v ≡ 9 → ties_bytes (setting_in v) ≡ v
unfolding ties_bytes
ties_bytes_lem v bs e =
    ap (λ (l : List ℕ). heat_bytes (setting_in v) ++ l)
    (sym (drop-cons v 8 0 (omega arith) ∙ ap (λ (l : List ℕ). get_or v 8 0 ∷ l) (drop_of_length-le v {i = 9} (omega arith)))) ∙ heat-rest v bs (omega arith)

-- A frame up to the end.
frame-bytes : (v : List ℕ) (at : ℕ) → Bytes v → at + 12 ≡ length v → bytes 4 (number (part at 4 v)) ++ part (at + 4) 8 v ≡ drop at v
frame-bytes v at bs e =
    ap₂ (λ (x y : List ℕ). x ++ y) (sym (part-number v at 4 bs (omega arith))) (to_the_end v (at + 4) 8 (omega arith)) ∙ sym (part-split v at 4)

timed_bytes : (v : List ℕ) → Bytes v → length v ≡ 16 → bytes 4 (number (part 0 4 v)) ++ (bytes 4 (number (part 4 4 v)) ++ part 8 8 v) ≡ v
timed_bytes v bs e =
    ap₂ (λ (x y : List ℕ). x ++ y) (sym (part-number v 0 4 bs (omega arith))) (frame-bytes v 4 bs (omega arith)) ∙ sym (part-split v 0 4)

-- A known tag and value is what is written for the item that it says.
pub read_back : (tag : ℕ) (v : List ℕ) → Bytes v → (item_in tag v ≡ Unknown → ⊥) → (tag_of (item_in tag v) ≡ tag) × (value_of (item_in tag v) (data_of (item_in tag v) v) ≡ v)
read_back tag v bs =
    by_cases (λ i. (i ≡ Unknown → ⊥) → (tag_of i ≡ tag) × (value_of i (data_of i v) ≡ v)) tag v
    (λ t e k. (sym t, sym (part-number v 0 2 bs (omega arith)) ∙ to_the_end v 0 2 (omega arith)))
    (λ t e k. (sym t, setting_bytes_lem v bs e))
    (λ t e k. (sym t, frame-bytes v 0 bs (omega arith)))
    (λ t e k. (sym t, one_byte v e))
    (λ t e k. (sym t, one_byte v e))
    (λ t e k. (sym t, timed_bytes v bs e))
    (λ t e k. (sym t, heat-bytes v bs e))
    (λ t e k. (sym t, ties_bytes_lem v bs e))
    (λ k. absurd (k refl))

-- No value that is empty or of more than 16 bytes is known.
pub long_unknown : (tag : ℕ) (v : List ℕ) → 16 < length v → item_in tag v ≡ Unknown
long_unknown tag v h =
    by_cases (λ i. i ≡ Unknown) tag v (λ t e. absurd (omega arith)) (λ t e. absurd (omega arith)) (λ t e. absurd (omega arith)) (λ t e. absurd (omega arith)) (λ t e. absurd (omega arith)) (λ t e. absurd (omega arith)) (λ t e. absurd (omega arith)) (λ t e. absurd (omega arith)) refl

pub empty_unknown : (tag : ℕ) → item_in tag [] ≡ Unknown
empty_unknown tag =
    by_cases (λ i. i ≡ Unknown) tag [] (λ t e. absurd (omega arith)) (λ t e. absurd (omega arith)) (λ t e. absurd (omega arith)) (λ t e. absurd (omega arith)) (λ t e. absurd (omega arith)) (λ t e. absurd (omega arith)) (λ t e. absurd (omega arith)) (λ t e. absurd (omega arith)) refl
