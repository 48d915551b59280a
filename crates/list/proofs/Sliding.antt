-- An entry is put in its rank where the arrays stand: the lines from there on move one place back, each column by induction on its list.
-- Assumes nothing.
use mathlib.Core.Path.{◌≡◌, refl, sym, ap, ap₂, ◌∙◌, subst}
use mathlib.Core.Bool.{Bool, true, false}
use mathlib.Core.List.{List, [], ◌∷◌, ◌++◌, map}
use Prim.Native.Nat.{ℕ, zero, suc, min, ◌+◌, ◌-◌, ◌≤◌, ◌<◌}
use native.Mathlib.Nat.{le_of_suc-le-suc, not-suc-le-zero, suc_inj, suc-ne-zero}
use native.Mathlib.Numerals.{add-one}
use native.Mathlib.Omega.{arith}
use lib.IntN.{ℤ, pos}
use lib.ListN.{length, take, drop, get_or, set, replicate, length-append, length-take, length-drop, length-replicate, drop_of_length-le, take-append-drop}
use lib.Seq.{take-take, take_at, drop_at, length-take-le}
use borrow.Rule.Slice.PartMut.{put_mid}
use Rattle.std.proofs.lemmas.List.{append-nil}
use Rattle.std.proofs.lemmas.List.Edits.{paste_all}
use Rattle.std.proofs.lemmas.Slice.{put_mid-paste}
use Rattle.search.specs.Best.{placed}
use Rattle.ranking.specs.Standing.{Entry}
use Rattle.laws.proofs.Orders.{StrictTotal}
use Rattle.search.proofs.Best.{place_length_ge}
use Rattle.list.specs.declared.Lines.{Lines}
use Rattle.list.specs.Lines.{lines_of, names_of, scores_of, columns_of, lines_in}
use Rattle.list.specs.Inner.{rank_in, new_in, slid, Placing, wiped}
use Rattle.list.proofs.Stored.{Roomy, take-replicate, fewest, column-names, column-scores, lines_back}
use Rattle.list.proofs.Placed.{rank_le, place_new, place_old, place_over, cut_new}

-- ---- one column

module _ {A : Type 0} where
  -- what stands from i to `last` moved one place back, and the place i as it was
  abbrev pub opened : (i last : ℕ) → List A → List A
  opened i last l = take (suc i) l ++ (drop i (take last l) ++ drop (suc last) l)

  pub opened-none : (m : ℕ) (l : List A) → m < length l → opened m m l ≡ l
  opened-none m [] h = absurd (not-suc-le-zero h)
  opened-none zero (y ∷ l) h = refl
  opened-none (suc m) (y ∷ l) h = ap (λ r. y ∷ r) (opened-none m l (le_of_suc-le-suc h))

  step : (d : A) (i m : ℕ) (l : List A) → i < m → m < length l → set (opened (suc i) m l) (suc i) (get_or (opened (suc i) m l) i d) ≡ opened i m l
  step d i zero l h g = absurd (not-suc-le-zero h)
  step d i (suc m) [] h g = absurd (not-suc-le-zero g)
  step d zero (suc m) (y ∷ []) h g = absurd (not-suc-le-zero (le_of_suc-le-suc g))
  step d zero (suc m) (y ∷ z ∷ l) h g = refl
  step d (suc i) (suc m) (y ∷ l) h g = ap (λ r. y ∷ r) (step d i m l (le_of_suc-le-suc h) (le_of_suc-le-suc g))

  -- one place further to the front
  pub opened_more : (d : A) (i j m : ℕ) (l now : List A) → i ≡ suc j → i ≤ m → m < length l → now ≡ opened i m l → set now i (get_or now j d) ≡ opened j m l
  opened_more d i j m l now e h g is =
      ap₂ (λ n s. set s n (get_or s j d)) e (is ∙ ap (λ n. opened n m l) e) ∙ step d j m l (omega arith) g

  -- and x at that place
  pub closed : (x : A) (at m : ℕ) (l : List A) → at ≤ m → m < length l → set (opened at m l) at x ≡ slid at m x l
  closed x at m [] h g = absurd (not-suc-le-zero g)
  closed x zero m (y ∷ l) h g = refl
  closed x (suc a) zero (y ∷ l) h g = absurd (not-suc-le-zero h)
  closed x (suc a) (suc m) (y ∷ l) h g = ap (λ r. y ∷ r) (closed x a m l (le_of_suc-le-suc h) (le_of_suc-le-suc g))

  pub slid-front : (x : A) (at m : ℕ) (l : List A) → at ≤ m → m < length l → take (suc m) (slid at m x l) ≡ take at l ++ (x ∷ drop at (take m l))
  slid-front x at m [] h g = absurd (not-suc-le-zero g)
  slid-front x zero m (y ∷ l) h g =
      ap (λ r. x ∷ r) (take_at (take m (y ∷ l)) (drop (suc m) (y ∷ l)) m (length-take-le m (y ∷ l) (omega arith)))
  slid-front x (suc a) zero (y ∷ l) h g = absurd (not-suc-le-zero h)
  slid-front x (suc a) (suc m) (y ∷ l) h g = ap (λ r. y ∷ r) (slid-front x a m l (le_of_suc-le-suc h) (le_of_suc-le-suc g))

  pub slid_back : (x : A) (at m : ℕ) (l : List A) → at ≤ m → m < length l → drop (suc m) (slid at m x l) ≡ drop (suc m) l
  slid_back x at m [] h g = absurd (not-suc-le-zero g)
  slid_back x zero m (y ∷ l) h g =
      drop_at (take m (y ∷ l)) (drop (suc m) (y ∷ l)) m (length-take-le m (y ∷ l) (omega arith))
  slid_back x (suc a) zero (y ∷ l) h g = absurd (not-suc-le-zero h)
  slid_back x (suc a) (suc m) (y ∷ l) h g = slid_back x a m l (le_of_suc-le-suc h) (le_of_suc-le-suc g)

  pub length-slid : (x : A) (at m : ℕ) (l : List A) → at ≤ m → m < length l → length (slid at m x l) ≡ length l
  length-slid x at m [] h g = absurd (not-suc-le-zero g)
  length-slid x zero m (y ∷ l) h g = simp (length-append, length-take, length-drop) (omega arith)
  length-slid x (suc a) zero (y ∷ l) h g = absurd (not-suc-le-zero h)
  length-slid x (suc a) (suc m) (y ∷ l) h g = ap suc (length-slid x a m l (le_of_suc-le-suc h) (le_of_suc-le-suc g))

-- ---- one column, 0 past a place

module _ {A : Type 0} (d : A) where
  filled : (n p a : ℕ) (l : List A) → a ≤ n → n ≤ p → length l ≡ n → take a l ++ replicate (n - a) d ≡ take n (take a l ++ replicate p d)
  filled n p zero l a b h = let whole : n - 0 ≡ n = omega arith in ap (λ m. replicate m d) whole ∙ sym (take-replicate d n p b)
  filled zero p (suc m) l a b h = absurd (not-suc-le-zero a)
  filled (suc n) p (suc m) [] a b h = absurd (suc-ne-zero n (sym h))
  filled (suc n) p (suc m) (y ∷ l) a b h =
      let less : suc n - suc m ≡ n - m = omega arith in
      ap (λ r. y ∷ (take m l ++ replicate r d)) less ∙ ap (λ r. y ∷ r) (filled n p m l (le_of_suc-le-suc a) (omega arith) (suc_inj h))

  -- as a fill of the rest leaves it
  pub wiped_filled : (n : ℕ) (l rest : List A) → n ≤ 16 → length l ≡ 16 → rest ≡ replicate (16 - n) d → put_mid n (16 - n) l rest ≡ wiped n d l
  wiped_filled n l rest h g is =
      put_mid-paste n (16 - n) l rest (replicate (16 - n) d) (16 - n) is refl (sym (length-replicate (16 - n) d))
      ∙ paste_all l n (replicate (16 - n) d) (16 - n) (sym (length-replicate (16 - n) d))
      ∙ ap (λ r. take n l ++ (replicate (16 - n) d ++ r)) (drop_of_length-le l {i = n + (16 - n)} (omega arith))
      ∙ ap (λ r. take n l ++ r) (append-nil (replicate (16 - n) d))
      ∙ filled 16 16 n l h (omega arith) g

-- ---- both columns

lines_none : (ns : List ℕ) → lines_of ns [] ≡ []
lines_none [] = refl
lines_none (n ∷ ns) = refl

lines_cut : (m : ℕ) (ns : List ℕ) (ss : List ℤ) → lines_of (take m ns ++ drop (suc m) ns) (take m ss ++ drop (suc m) ss) ≡ take m (lines_of ns ss) ++ drop (suc m) (lines_of ns ss)
lines_cut zero [] ss = refl
lines_cut zero (n ∷ ns) [] = lines_none ns
lines_cut zero (n ∷ ns) (s ∷ ss) = refl
lines_cut (suc m) [] ss = refl
lines_cut (suc m) (n ∷ ns) [] = refl
lines_cut (suc m) (n ∷ ns) (s ∷ ss) = ap (λ l. record { name = n; score = s } ∷ l) (lines_cut m ns ss)

pub lines-slid : (at m n : ℕ) (s : ℤ) (ns : List ℕ) (ss : List ℤ) → length ns ≡ length ss → at ≤ m → m < length ns → lines_of (slid at m n ns) (slid at m s ss) ≡ slid at m (record { name = n; score = s }) (lines_of ns ss)
lines-slid zero m n s ns ss e h g = ap (λ l. record { name = n; score = s } ∷ l) (lines_cut m ns ss)
lines-slid (suc a) zero n s ns ss e h g = absurd (not-suc-le-zero h)
lines-slid (suc a) (suc m) n s [] ss e h g = absurd (not-suc-le-zero g)
lines-slid (suc a) (suc m) n s (y ∷ ns) [] e h g = absurd (not-suc-le-zero (subst (λ j. suc m < j) e g))
lines-slid (suc a) (suc m) n s (y ∷ ns) (z ∷ ss) e h g =
    ap (λ l. record { name = y; score = z } ∷ l) (lines-slid a m n s ns ss (suc_inj e) (le_of_suc-le-suc h) (le_of_suc-le-suc g))

-- ---- an entry by its rank

module _ {E : Type 0} (above : E → E → Bool) (strict : StrictTotal above) (x : E) (len room : ℕ) (old : List E) (long : length old ≡ 16) (few : len ≤ 16) where
  shown_length : length (take len old) ≡ len
  shown_length = length-take-le len old (omega arith)

  -- where nothing moves
  stays : (r : ℕ) → r ≡ min room len → take room (placed above x (take len old)) ≡ take room (take len old) → Placing above x len room old old r
  stays r e h =
      let cut : take room (placed above x (take len old)) ≡ take r old = h ∙ sym (fewest room len old) ∙ ap (λ n. take n old) (sym e) in
      record {
        count = sym (ap length cut ∙ length-take-le r old (omega arith));
        front = sym cut;
        rest = refl;
      }

  -- its rank is past the room
  pub placing_over : room ≤ rank_in above x (take len old) → Placing above x len room old old room
  placing_over h =
      stays room (omega (arith, rank_le above strict x (take len old), shown_length)) (place_over above strict x (take len old) room h)

  -- it is there already
  pub placing_old : new_in above x (take len old) ≡ false → (r : ℕ) → r ≡ min len room → Placing above x len room old old r
  placing_old t r e = stays r (omega arith) (ap (take room) (place_old above strict x (take len old) t))

  -- it is new
  module _ (small : room ≤ 16) (at : ℕ) (rank : at ≡ rank_in above x (take len old)) (below : at < room) (last : ℕ) (is : last ≡ min len (room - 1)) where
    pub at_last : at ≤ last
    at_last = omega (arith, rank, below, is, rank_le above strict x (take len old), shown_length)

    pub last_low : last < 16
    last_low = omega (arith, below, is, small)

    pub placing_new : new_in above x (take len old) ≡ true → Placing above x len room old (slid at last x old) (last + 1)
    placing_new t =
        record {
          count = sym (ap length (sym front) ∙ length-take-le (last + 1) (slid at last x old) (omega (arith, length-slid x at last old at_last under, under)));
          front = front;
          rest = rw (add-one last) (slid_back x at last old at_last under);
        }
      where
        under : last < length old
        under = omega (arith, last_low, long)

        whole : suc (room - 1) ≡ room
        whole = omega arith

        fewer : min (room - 1) len ≡ last
        fewer = omega (arith, is)

        cut : take (room - 1) (take len old) ≡ take last old
        cut = sym (fewest (room - 1) len old) ∙ ap (λ n. take n old) fewer

        front : take (last + 1) (slid at last x old) ≡ take room (placed above x (take len old))
        front =
            rw (add-one last) (slid-front x at last old at_last under)
            ∙ ap₂ (λ a b. a ++ (x ∷ drop at b)) (sym (take-take at len old (omega (arith, at_last, is)))) (sym cut)
            ∙ sym (cut_new above strict x at (room - 1) (take len old) (omega arith))
            ∙ ap₂ (λ n a. take n (take a (take len old) ++ (x ∷ drop a (take len old)))) whole rank
            ∙ ap (take room) (sym (place_new above strict x (take len old) t))

-- no more than there is room for
pub placing_few : {E : Type 0} {above : E → E → Bool} {x : E} {len room : ℕ} {old new : List E} {r : ℕ} → Placing above x len room old new r → room ≤ 16 → r ≤ 16
placing_few {E} {above} {x} {len} {room} {old} p h = omega (arith, p.count, length-take room (placed above x (take len old)))

-- the columns as the code leaves them
module _ {ns ns' : List ℕ} {ss ss' : List ℤ} (room : Roomy ns ss) (at last n : ℕ) (s : ℤ) (order : at ≤ last) (low : last < 16) (left : ns' ≡ slid at last n ns) (right : ss' ≡ slid at last s ss) where
  pub slid-roomy : Roomy ns' ss'
  slid-roomy =
      record {
        names = ap length left ∙ length-slid n at last ns order (omega (arith, room.names)) ∙ room.names;
        scores = ap length right ∙ length-slid s at last ss order (omega (arith, room.scores)) ∙ room.scores;
      }

  pub slid-lines : lines_of ns' ss' ≡ slid at last (record { name = n; score = s }) (lines_of ns ss)
  slid-lines = ap₂ lines_of left right ∙ lines-slid at last n s ns ss (room.names ∙ sym room.scores) order (omega (arith, room.names))

-- ---- the list as it is stored

abbrev blank : Entry
blank = record { name = 0; score = pos 0 }

-- a column of the lines
column : {A : Type 0} (f : Entry → A) (n p : ℕ) (l : List Entry) → map f (take n (l ++ replicate p blank)) ≡ take n (map f l ++ replicate p (f blank))
column f zero p l = refl
column f (suc n) zero [] = refl
column f (suc n) (suc p) [] = ap (λ r. f blank ∷ r) (column f n p [])
column f (suc n) p (y ∷ l) = ap (λ r. f y ∷ r) (column f n p l)

-- the lines as they are stored: unused places are 0
abbrev padded : List Entry → List Entry
padded l = take 16 (l ++ replicate 16 blank)

lines_stored : (ns : List ℕ) (ss : List ℤ) → Roomy ns ss → (l : List Entry) → lines_of ns ss ≡ padded l → (r : ℕ) → r ≡ length l → record { names = ns; scores = ss; len = r } ≡ columns_of l
lines_stored ns ss room l is r e = λ i. record { names = left i; scores = right i; len = e i }
  where
    left : ns ≡ names_of l
    left = sym (column-names ns ss room) ∙ ap (map (λ e. e.name)) is ∙ column (λ e. e.name) 16 16 l

    right : ss ≡ scores_of l
    right = sym (column-scores ns ss room) ∙ ap (map (λ e. e.score)) is ∙ column (λ e. e.score) 16 16 l

stored_lines : (n p : ℕ) (l : List Entry) → lines_of (take n (map (λ e. e.name) l ++ replicate p 0)) (take n (map (λ e. e.score) l ++ replicate p (pos 0))) ≡ take n (l ++ replicate p blank)
stored_lines zero p l = refl
stored_lines (suc n) zero [] = refl
stored_lines (suc n) (suc p) [] = ap (λ r. blank ∷ r) (stored_lines n p [])
stored_lines (suc n) p (y ∷ l) = ap (λ r. y ∷ r) (stored_lines n p l)

-- a longer list over a shorter one
over : (n p q : ℕ) (l m : List Entry) → length l ≤ length m → length m ≤ n → n ≤ p → n ≤ q → m ++ drop (length m) (take n (l ++ replicate p blank)) ≡ take n (m ++ replicate q blank)
over n p q [] [] h g a b = take-replicate blank n p a ∙ sym (take-replicate blank n q b)
over n p q (z ∷ l) [] h g a b = absurd (not-suc-le-zero h)
over zero p q l (y ∷ m) h g a b = absurd (not-suc-le-zero g)
over (suc n) zero q [] (y ∷ m) h g a b = absurd (not-suc-le-zero a)
over (suc n) (suc p) q [] (y ∷ m) h g a b =
    ap (λ r. y ∷ r) (over n p q [] m (omega arith) (le_of_suc-le-suc g) (le_of_suc-le-suc a) (omega arith))
over (suc n) p q (z ∷ l) (y ∷ m) h g a b =
    ap (λ r. y ∷ r) (over n p q l m (le_of_suc-le-suc h) (le_of_suc-le-suc g) (omega arith) (omega arith))

-- an entry put in its rank in the arrays of a stored list is stored with it
module _ (above : Entry → Entry → Bool) (strict : StrictTotal above) (k : ℕ) (small : k ≤ 16) (ns ns' : List ℕ) (ss ss' : List ℤ) (len r : ℕ) (l : List Entry) (x : Entry) (is : record { names = ns; scores = ss; len = len } ≡ columns_of l) (few : length l ≤ k) (room : Roomy ns' ss') (placing : Placing above x len k (lines_of ns ss) (lines_of ns' ss') r) where
  abbrev new : List Entry
  new = take k (placed above x l)

  front : take len (lines_of ns ss) ≡ l
  front = ap lines_in is ∙ lines_back l (omega arith)

  count : r ≡ length new
  count = placing.count ∙ ap (λ m. length (take k (placed above x m))) front

  more : length l ≤ length new
  more = simp length-take (omega (arith, place_length_ge above strict x l))

  most : length new ≤ 16
  most = simp length-take (omega arith)

  lines_now : lines_of ns' ss' ≡ padded new
  lines_now =
      sym (take-append-drop r (lines_of ns' ss'))
      ∙ ap₂ (λ a b. a ++ b) (placing.front ∙ ap (λ m. take k (placed above x m)) front)
      (placing.rest ∙ ap₂ drop count (ap (λ (q : Lines). lines_of q.names q.scores) is ∙ stored_lines 16 16 l))
      ∙ over 16 16 16 l new more most (omega arith) (omega arith)

  pub placed-stored : record { names = ns'; scores = ss'; len = r } ≡ columns_of (take k (placed above x l))
  placed-stored = lines_stored ns' ss' room new lines_now r count
