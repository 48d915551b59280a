-- What the tests of the next item tell: it is whole, there is a window, and it is a frame or an item for a slot.
-- Assumes nothing.
use mathlib.Core.Path.{◌≡◌, refl, sym, ap, subst, ◌∙◌}
use mathlib.Core.Bool.{true, false, cond, ◌&&◌, ◌||◌, and-false, or-false, false≢true}
use mathlib.Core.Logic.{◌⊎◌, inl, inr, ⊎_elim}
use mathlib.Core.List.{List}
use Prim.Native.Nat.{ℕ, ◌+◌, ◌≤◌, ◌<◌}
use native.Mathlib.Omega.{arith}
use borrow.Author.Tests.{eqb-true, eqb-false, ne_eqb, leb-true, ltb-true, lt-leb}
use lib.Dec.{eqb, leb, ltb}
use lib.ListN.{length, get_or, drop}
use lib.Seq.{get_or-take, get_or-drop}
use Rattle.wire.specs.Bytes.{part}
use Rattle.wire.proofs.Fields.{length_part}
use Rattle.laws.proofs.Tests.{Tested, passed, failed, tested, and_both, or_either, either}
use Rattle.window.specs.Rows.{sized}
use Rattle.coming.specs.Coming.{size_at, item_comes, frame_comes, slot_comes, comes, is_frame}
use Rattle.coming.specs.Inner.{frame_size, slot_size}

-- The tag and the length of an item for a slot.
abbrev pub Known : ℕ → List ℕ → Type 0
Known tag v = ((tag ≡ 20) × (length v ≡ 1)) ⊎ (((tag ≡ 19) × (length v ≡ 1)) ⊎ (((tag ≡ 17) × (length v ≡ 6)) ⊎ (((tag ≡ 22) × (length v ≡ 8)) ⊎ ((tag ≡ 23) × (length v ≡ 9)))))

-- A whole item of that tag and length stands there.
pub record Item (bytes : List ℕ) (i tag size : ℕ) : Type 0 where
  pub there : i + (3 + size) ≤ length bytes
  pub starts : get_or bytes i 0 ≡ tag
  pub long : size_at bytes i ≡ size

item : {bytes : List ℕ} {i tag size : ℕ} → item_comes bytes i tag size ≡ true → Item bytes i tag size
unfolding item_comes
item {bytes} {i} {tag} {size} e =
    let one = and_both (leb (i + (3 + size)) (length bytes) && eqb (get_or bytes i 0) tag) (eqb (size_at bytes i) size) e in
    let two = and_both (leb (i + (3 + size)) (length bytes)) (eqb (get_or bytes i 0) tag) one.0 in
    record {
      there = leb-true (i + (3 + size)) (length bytes) two.0;
      starts = eqb-true (get_or bytes i 0) tag two.1;
      long = eqb-true (size_at bytes i) size one.1;
    }

-- An item for a slot has the length of its tag.
module _ (bytes : List ℕ) (i : ℕ) where
  other : (tag size : ℕ) → (get_or bytes i 0 ≡ tag → ⊥) → item_comes bytes i tag size ≡ false
  unfolding item_comes
  other tag size h = rw (ne_eqb (get_or bytes i 0) tag h, and-false)

  -- where the tag is this one, and its length that
  alone : (tag size : ℕ) → get_or bytes i 0 ≡ tag → slot_size (get_or bytes i 0) ≡ size → (size ≡ 0 → ⊥) → cond (eqb (slot_size (get_or bytes i 0)) 0) false (item_comes bytes i (get_or bytes i 0) (slot_size (get_or bytes i 0))) ≡ item_comes bytes i tag size
  alone tag size e is used = rw (is, ne_eqb size 0 used) (ap (λ t. item_comes bytes i t size) e)

  by_tag : item_comes bytes i 20 1 || item_comes bytes i 19 1 || item_comes bytes i 17 6 || item_comes bytes i 22 8 || item_comes bytes i 23 9
      ≡ cond (eqb (slot_size (get_or bytes i 0)) 0) false (item_comes bytes i (get_or bytes i 0) (slot_size (get_or bytes i 0)))
  unfolding slot_size
  by_tag = go (tested (eqb t 20)) (tested (eqb t 19)) (tested (eqb t 17)) (tested (eqb t 22)) (tested (eqb t 23))
    where
      t : ℕ
      t = get_or bytes i 0

      apart : (m n : ℕ) → (m ≡ n → ⊥) → t ≡ m → t ≡ n → ⊥
      apart m n h e f = h (sym e ∙ f)

      go : Tested (eqb t 20) → Tested (eqb t 19) → Tested (eqb t 17) → Tested (eqb t 22) → Tested (eqb t 23)
          → item_comes bytes i 20 1 || item_comes bytes i 19 1 || item_comes bytes i 17 6 || item_comes bytes i 22 8 || item_comes bytes i 23 9
          ≡ cond (eqb (slot_size t) 0) false (item_comes bytes i t (slot_size t))
      go (passed a) b c d f =
          let e = eqb-true t 20 a in
          rw (other 19 1 (apart 20 19 (λ q. omega arith) e), other 17 6 (apart 20 17 (λ q. omega arith) e), other 22 8 (apart 20 22 (λ q. omega arith) e), other 23 9 (apart 20 23 (λ q. omega arith) e), or-false, or-false, or-false, or-false)
          (sym (alone 20 1 e (rw a) (λ q. omega arith)))
      go (failed a) (passed b) c d f =
          let e = eqb-true t 19 b in
          rw (other 20 1 (eqb-false t 20 a), other 17 6 (apart 19 17 (λ q. omega arith) e), other 22 8 (apart 19 22 (λ q. omega arith) e), other 23 9 (apart 19 23 (λ q. omega arith) e), or-false, or-false, or-false)
          (sym (alone 19 1 e (rw (a, b)) (λ q. omega arith)))
      go (failed a) (failed b) (passed c) d f =
          let e = eqb-true t 17 c in
          rw (other 20 1 (eqb-false t 20 a), other 19 1 (eqb-false t 19 b), other 22 8 (apart 17 22 (λ q. omega arith) e), other 23 9 (apart 17 23 (λ q. omega arith) e), or-false, or-false)
          (sym (alone 17 6 e (rw (a, b, c)) (λ q. omega arith)))
      go (failed a) (failed b) (failed c) (passed d) f =
          let e = eqb-true t 22 d in
          rw (other 20 1 (eqb-false t 20 a), other 19 1 (eqb-false t 19 b), other 17 6 (eqb-false t 17 c), other 23 9 (apart 22 23 (λ q. omega arith) e), or-false)
          (sym (alone 22 8 e (rw (a, b, c, d)) (λ q. omega arith)))
      go (failed a) (failed b) (failed c) (failed d) (passed f) =
          let e = eqb-true t 23 f in
          rw (other 20 1 (eqb-false t 20 a), other 19 1 (eqb-false t 19 b), other 17 6 (eqb-false t 17 c), other 22 8 (eqb-false t 22 d))
          (sym (alone 23 9 e (rw (a, b, c, d, f)) (λ q. omega arith)))
      go (failed a) (failed b) (failed c) (failed d) (failed f) =
          rw (other 20 1 (eqb-false t 20 a), other 19 1 (eqb-false t 19 b), other 17 6 (eqb-false t 17 c), other 22 8 (eqb-false t 22 d), other 23 9 (eqb-false t 23 f), a, b, c, d, f)

  pub slot_tag : slot_comes bytes i ≡ cond (eqb (slot_size (get_or bytes i 0)) 0) false (item_comes bytes i (get_or bytes i 0) (slot_size (get_or bytes i 0))) && ltb (get_or bytes (i + 3) 0) 32
  unfolding slot_comes
  slot_tag = ap (λ b. b && ltb (get_or bytes (i + 3) 0) 32) by_tag

pub slot_small : (tag : ℕ) → slot_size tag ≤ 16
unfolding slot_size
slot_small tag =
    either (λ (n : ℕ). n ≤ 16) (eqb tag 20) (λ e. omega arith)
    (λ e. either (λ (n : ℕ). n ≤ 16) (eqb tag 19) (λ f. omega arith)
    (λ f. either (λ (n : ℕ). n ≤ 16) (eqb tag 17) (λ g. omega arith)
    (λ g. either (λ (n : ℕ). n ≤ 16) (eqb tag 22) (λ h. omega arith)
    (λ h. either (λ (n : ℕ). n ≤ 16) (eqb tag 23) (λ j. omega arith) (λ j. omega arith)))))

-- A frame stands there, without a time or with one.
pub record Framed (bytes : List ℕ) (i tag : ℕ) : Type 0 where
  pub there : i + (3 + frame_size tag) ≤ length bytes
  pub starts : get_or bytes i 0 ≡ tag
  pub long : size_at bytes i ≡ frame_size tag
  pub which : (tag ≡ 18) ⊎ (tag ≡ 21)

frame_18 : {bytes : List ℕ} {i tag : ℕ} → tag ≡ get_or bytes i 0 → Item bytes i 18 12 → Framed bytes i tag
unfolding frame_size
frame_18 {bytes} {i} {tag} is c =
    let e : tag ≡ 18 = is ∙ c.starts in
    subst (λ (n : ℕ). Framed bytes i n) (sym e) (record { there = c.there; starts = c.starts; long = c.long; which = inl refl })

frame_21 : {bytes : List ℕ} {i tag : ℕ} → tag ≡ get_or bytes i 0 → Item bytes i 21 16 → Framed bytes i tag
unfolding frame_size
frame_21 {bytes} {i} {tag} is c =
    let e : tag ≡ 21 = is ∙ c.starts in
    subst (λ (n : ℕ). Framed bytes i n) (sym e) (record { there = c.there; starts = c.starts; long = c.long; which = inr refl })

pub frame_short : (tag : ℕ) → frame_size tag ≤ 16
unfolding frame_size
frame_short tag = either (λ (n : ℕ). n ≤ 16) (eqb tag 21) (λ e. omega arith) (λ e. omega arith)

is-frame : {tag : ℕ} → (tag ≡ 18) ⊎ (tag ≡ 21) → is_frame tag ≡ true
unfolding is_frame
is-frame (inl e) = rw e
is-frame (inr e) = rw e

-- An item for a slot stands there.
pub record Slot (bytes : List ℕ) (i : ℕ) : Type 0 where
  pub there : i + (3 + size_at bytes i) ≤ length bytes
  pub known : Known (get_or bytes i 0) (part (i + 3) (size_at bytes i) bytes)
  pub few : get_or (part (i + 3) (size_at bytes i) bytes) 0 0 < 32
  pub other : is_frame (get_or bytes i 0) ≡ false

module _ (bytes : List ℕ) (i : ℕ) where
  value_long : i + (3 + size_at bytes i) ≤ length bytes → length (part (i + 3) (size_at bytes i) bytes) ≡ size_at bytes i
  value_long h = length_part bytes (i + 3) (size_at bytes i) (omega arith)

  first_byte : 1 ≤ size_at bytes i → get_or (part (i + 3) (size_at bytes i) bytes) 0 0 ≡ get_or bytes (i + 3) 0
  first_byte h =
      let at : i + 3 + 0 ≡ i + 3 = omega arith in
      get_or-take (size_at bytes i) (drop (i + 3) bytes) 0 0 h ∙ get_or-drop (i + 3) bytes 0 0 ∙ ap (λ (k : ℕ). get_or bytes k 0) at

  module _ (slot : get_or bytes (i + 3) 0 < 32) {tag size : ℕ} (c : Item bytes i tag size) (positive : 1 ≤ size) (other : is_frame tag ≡ false) where
    whole : i + (3 + size_at bytes i) ≤ length bytes
    whole = omega (arith, c.long, c.there)

    slot_item : (length (part (i + 3) (size_at bytes i) bytes) ≡ size → Known (get_or bytes i 0) (part (i + 3) (size_at bytes i) bytes)) → Slot bytes i
    slot_item k =
        record {
          there = whole;
          known = k (value_long whole ∙ c.long);
          few = omega (arith, first_byte (omega (arith, c.long)));
          other = ap is_frame c.starts ∙ other;
        }

  slot : slot_comes bytes i ≡ true → Slot bytes i
  unfolding slot_comes is_frame
  slot e =
      let both = and_both (item_comes bytes i 20 1 || item_comes bytes i 19 1 || item_comes bytes i 17 6 || item_comes bytes i 22 8 || item_comes bytes i 23 9) (ltb (get_or bytes (i + 3) 0) 32) e in
      let few = ltb-true (get_or bytes (i + 3) 0) 32 both.1 in
      ⊎_elim
      (λ r.
      ⊎_elim
      (λ s.
      ⊎_elim
      (λ t.
      ⊎_elim (λ u. let c = item u in slot_item few c (omega arith) refl (λ l. inl (c.starts, l)))
      (λ u. let c = item u in slot_item few c (omega arith) refl (λ l. inr (inl (c.starts, l))))
      (or_either (item_comes bytes i 20 1) (item_comes bytes i 19 1) t))
      (λ t. let c = item t in slot_item few c (omega arith) refl (λ l. inr (inr (inl (c.starts, l)))))
      (or_either (item_comes bytes i 20 1 || item_comes bytes i 19 1) (item_comes bytes i 17 6) s))
      (λ s. let c = item s in slot_item few c (omega arith) refl (λ l. inr (inr (inr (inl (c.starts, l))))))
      (or_either (item_comes bytes i 20 1 || item_comes bytes i 19 1 || item_comes bytes i 17 6) (item_comes bytes i 22 8) r))
      (λ r. let c = item r in slot_item few c (omega arith) refl (λ l. inr (inr (inr (inr (c.starts, l))))))
      (or_either (item_comes bytes i 20 1 || item_comes bytes i 19 1 || item_comes bytes i 17 6 || item_comes bytes i 22 8) (item_comes bytes i 23 9) both.0)

  module _ (rows : ℕ) {tag : ℕ} (e : comes rows bytes i ≡ true) (is : tag ≡ get_or bytes i 0) where
    split : (sized rows ≡ true) × (Framed bytes i tag ⊎ (slot_comes bytes i ≡ true))
    unfolding comes frame_comes
    split =
        let both = and_both (sized rows) (frame_comes bytes i || slot_comes bytes i) e in (
          both.0,
          ⊎_elim
              (λ t. inl (⊎_elim (λ u. frame_18 is (item u)) (λ u. frame_21 is (item u)) (or_either (item_comes bytes i 18 12) (item_comes bytes i 21 16) t)))
              (λ t. inr t)
              (or_either (frame_comes bytes i) (slot_comes bytes i) both.1),
        )

    pub has_window : sized rows ≡ true
    has_window = split.0

    -- Of a frame's tag it is a frame, and else for a slot.
    pub a_frame : is_frame tag ≡ true → Framed bytes i tag
    a_frame f = ⊎_elim (λ t. t) (λ t. absurd (false≢true (sym (slot t).other ∙ ap is_frame (sym is) ∙ f))) split.1

    pub for_slot : is_frame tag ≡ false → Slot bytes i
    for_slot n = ⊎_elim (λ t. absurd (false≢true (sym n ∙ is-frame t.which))) (λ t. slot t) split.1

  -- It is whole, and short.
  pub whole_there : (rows : ℕ) → comes rows bytes i ≡ true → (i + (3 + size_at bytes i) ≤ length bytes) × (size_at bytes i ≤ 16)
  whole_there rows e =
      ⊎_elim (λ (t : Framed bytes i (get_or bytes i 0)). (omega (arith, t.there, t.long), rw t.long (frame_short (get_or bytes i 0))))
      (λ t. let s = slot t in (s.there, short (value_long s.there) s.known)) (split rows e refl).1
    where
      short : length (part (i + 3) (size_at bytes i) bytes) ≡ size_at bytes i → Known (get_or bytes i 0) (part (i + 3) (size_at bytes i) bytes) → size_at bytes i ≤ 16
      short l (inl (e, n)) = omega arith
      short l (inr (inl (e, n))) = omega arith
      short l (inr (inr (inl (e, n)))) = omega arith
      short l (inr (inr (inr (inl (e, n))))) = omega arith
      short l (inr (inr (inr (inr (e, n))))) = omega arith

-- None stands behind the bytes' end.
pub none_past : (rows : ℕ) (bytes : List ℕ) (i : ℕ) → length bytes < i → comes rows bytes i ≡ false
unfolding comes frame_comes slot_comes item_comes
none_past rows bytes i h =
    let past : (size : ℕ) → leb (i + (3 + size)) (length bytes) ≡ false = λ size. lt-leb (i + (3 + size)) (length bytes) (omega arith) in
    rw (past 12, past 16, past 1, past 6, past 8, past 9, and-false)
