-- The letters of a frame's data, pair by pair: each turn of a loop stores one, and what is stored and what is left make them all.
-- Assumes nothing.
use mathlib.Core.Path.{◌≡◌, refl, ◌∙◌}
use mathlib.Core.Bool.{Bool, true, false, cond}
use mathlib.Core.List.{List, [], ◌∷◌, ◌++◌}
use Prim.Native.Nat.{ℕ, zero, suc, ◌+◌, ◌-◌, ◌*◌, ◌≤◌, ◌<◌}
use native.Mathlib.Nat.{zero-add}
use native.Mathlib.Numerals.{add-one}
use native.Mathlib.Omega.{arith}
use lib.Dec.{eqb, ltb, leb}
use borrow.Author.Tests.{eqb-true, leb-true}
use lib.ListN.{length, get_or, set, length-append}
use lib.Seq.{sets}
use Rattle.laws.proofs.Tests.{and_both}
use Rattle.wire.proofs.Stores.{sets-append}
use Rattle.lines.specs.Words.{word_at}
use Rattle.dump.specs.declared.Data.{Data}
use Rattle.dump.specs.declared.Data.TheVariants as kind
use Rattle.dump.specs.Dump.{behind_time, hash_at, fields_in, pair_of, pairs_in, data_of, mark_of, text_of, is_id, frame_of, shown_in}

-- A pair has two letters.
pub pair_two : (w : List ℕ) → length (pair_of w) ≡ 2
unfolding pair_of
pair_two w = go (eqb (length w) 2) refl
  where
    go : (t : Bool) → eqb (length w) 2 ≡ t → length (cond t w (63 ∷ 63 ∷ [])) ≡ 2
    go true e = eqb-true (length w) 2 e
    go false e = refl

pub pairs_length : (f : List ℕ) (at n : ℕ) → length (pairs_in f at n) ≡ 2 * n
unfolding pairs_in
pairs_length f at zero = refl
pairs_length f at (suc n) = rw (length-append, pair_two, pairs_length f (at + 1) n) (omega arith)

-- One pair more.
pairs_more : (f : List ℕ) (i n : ℕ) → 0 < n → pairs_in f i n ≡ pair_of (word_at i f) ++ pairs_in f (i + 1) (n - 1)
unfolding pairs_in
pairs_more f i zero h = absurd (omega arith)
pairs_more f i (suc n) h = let e : suc n - 1 ≡ n = omega arith in rw e

pub pairs_turn : (f room : List ℕ) (at i k : ℕ) {left : List ℕ} → i < k → left ≡ sets room (at + 2 * i) (pair_of (word_at (2 + i) f))
    → sets left (at + 2 * (i + 1)) (pairs_in f (2 + (i + 1)) (k - (i + 1))) ≡ sets room (at + 2 * i) (pairs_in f (2 + i) (k - i))
pairs_turn f room at i k h e =
    let p : at + 2 * (i + 1) ≡ at + 2 * i + 2 = omega arith in
    let q : 2 + (i + 1) ≡ 2 + i + 1 = omega arith in
    let r : k - (i + 1) ≡ k - i - 1 = omega arith in
    rw (pairs_more f (2 + i) (k - i) (omega arith), sets-append, pair_two, e, p, q, r)

pub mark_most : (n : ℕ) (f : List ℕ) → length (mark_of n f) ≤ 2
unfolding mark_of
mark_most n f = go (ltb 8 n) 95 (get_or (word_at 1 f) 1 0)
  where
    go : (t : Bool) (a b : ℕ) → length (cond t (a ∷ b ∷ []) []) ≤ 2
    go true a b = omega arith
    go false a b = omega arith

-- The data have at most 18 letters.
pub text_most : (d : Data) (f : List ℕ) → length (text_of d f) ≤ 18
unfolding text_of
text_most kind.Flexible f = omega arith
text_most kind.Remote f = omega arith
text_most (kind.Bytes n) f = rw (length-append, pairs_length) (omega (arith, mark_most n f))
text_most kind.Unread f = omega arith

-- ---- a frame on a screen

pub id_most : (w : List ℕ) → is_id w ≡ true → length w ≤ 8
unfolding is_id
id_most w h = leb-true (length w) 8 (and_both (leb (length w) 8) (eqb (hash_at w) (length w)) h).0

-- The identifier, #, the data, stored one behind the other.
pub stored : (room w t : List ℕ) {a b d : List ℕ} → a ≡ sets room 0 w → b ≡ set a (length w) 35 → d ≡ sets b (length w + 1) t → d ≡ sets room 0 (w ++ 35 ∷ t)
stored room w t e f g = g ∙ rw (f, e, add-one, sets-append room 0 w (35 ∷ t), zero-add)

-- Its length is at most `Text::LONGEST`.
pub shown_most : (line : List ℕ) → length (shown_in line) ≤ 27
unfolding shown_in frame_of
shown_most line = go (is_id w) refl
  where
    f : List ℕ
    f = fields_in (behind_time line)

    w : List ℕ
    w = word_at 0 f

    go : (t : Bool) → is_id w ≡ t → length (cond t (w ++ 35 ∷ text_of (data_of f) f) []) ≤ 27
    go true e = rw length-append (omega (arith, id_most w e, text_most (data_of f) f))
    go false e = omega arith
