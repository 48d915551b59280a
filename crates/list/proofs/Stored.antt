-- The lines of two columns, and a list as its columns store it: each by induction on the columns or the list.
-- Assumes nothing.
use mathlib.Core.Path.{◌≡◌, refl, sym, ap, ◌∙◌}
use mathlib.Core.Bool.{Bool}
use mathlib.Core.List.{List, [], ◌∷◌, ◌++◌, map}
use Prim.Native.Nat.{ℕ, zero, suc, ◌+◌, min, ◌≤◌, ◌<◌}
use native.Mathlib.Nat.{le_of_suc-le-suc, not-suc-le-zero, suc_inj, suc-ne-zero}
use native.Mathlib.Numerals.{add-one}
use native.Mathlib.Omega.{arith}
use borrow.Author.Tests.{leb-true, leb-false}
use lib.Dec.{leb}
use lib.IntN.{ℤ, pos}
use lib.ListN.{length, take, drop, get_or, replicate, length-take, length-append, length-replicate, drop_of_length-le}
use lib.Seq.{take_all, take-take, take-suc, length-take-le, drop-cons, get_or-take}
use Rattle.laws.specs.Lists.{on_last}
use Rattle.ranking.specs.Standing.{Entry}
use Rattle.laws.proofs.Lists.{last_at}
use Rattle.laws.proofs.Tests.{Tested, passed, failed, tested}
use Rattle.list.specs.declared.Lines.{Lines}
use Rattle.list.specs.Lines.{lines_of, names_of, scores_of, columns_of, lines_in}
pub use Rattle.list.specs.Inner.{Roomy}
use Rattle.list.specs.Inner.{wiped}

-- ---- lists

module _ {A : Type 0} (d : A) where
  pub take-replicate : (n p : ℕ) → n ≤ p → take n (replicate p d) ≡ replicate n d
  take-replicate zero p h = refl
  take-replicate (suc n) zero h = absurd (not-suc-le-zero h)
  take-replicate (suc n) (suc p) h = ap (λ l. d ∷ l) (take-replicate n p (le_of_suc-le-suc h))

-- the first of the first
pub fewest : {A : Type 0} (m n : ℕ) (l : List A) → take (min m n) l ≡ take m (take n l)
fewest m n l = go (tested (leb m n))
  where
    go : Tested (leb m n) → take (min m n) l ≡ take m (take n l)
    go (passed t) =
        let h = leb-true m n t in
        let e : min m n ≡ m = omega arith in
        ap (λ j. take j l) e ∙ sym (take-take m n l h)
    go (failed t) =
        let h = leb-false m n t in
        let e : min m n ≡ n = omega arith in
        ap (λ j. take j l) e ∙ sym (take_all m (take n l) (simp length-take (omega arith)))

-- the first of more than there are
pub take_min : {A : Type 0} (n : ℕ) (l : List A) → take n l ≡ take (min n (length l)) l
take_min n l = sym (fewest n (length l) l ∙ ap (take n) (take_all (length l) l (omega arith)))

map-take : {A B : Type 0} (f : A → B) (n : ℕ) (l : List A) → take n (map f l) ≡ map f (take n l)
map-take f zero l = refl
map-take f (suc n) [] = refl
map-take f (suc n) (y ∷ l) = ap (λ r. f y ∷ r) (map-take f n l)

-- ---- a list as it is stored

read_back : (n p : ℕ) (l : List Entry) → length l ≤ n → take (length l) (lines_of (take n (map (λ e. e.name) l ++ replicate p 0)) (take n (map (λ e. e.score) l ++ replicate p (pos 0)))) ≡ l
read_back n p [] h = refl
read_back zero p (x ∷ l) h = absurd (not-suc-le-zero h)
read_back (suc n) p (x ∷ l) h = ap (λ m. x ∷ m) (read_back n p l (le_of_suc-le-suc h))

-- what is stored is read back
pub lines_back : (l : List Entry) → length l ≤ 16 → lines_in (columns_of l) ≡ l
lines_back l h = read_back 16 16 l h

-- a stored list has its room
pub roomy_stored : (l : List Entry) → Roomy (names_of l) (scores_of l)
roomy_stored l = record { names = long (λ e. e.name) 0; scores = long (λ e. e.score) (pos 0) }
  where
    long : {A : Type 0} (f : Entry → A) (d : A) → length (take 16 (map f l ++ replicate 16 d)) ≡ 16
    long f d = simp (length-take, length-append, length-replicate) (omega arith)

-- as a function knows it of the arrays of a struct that is handed in
pub roomy_known : (ns : List ℕ) (ss : List ℤ) → length ns ≡ 16 → length ss ≡ 16 → Roomy ns ss
roomy_known ns ss n s = record { names = n; scores = s }

-- ---- the lines of two columns

-- the line that stands at a place
get_d_lines : (ns : List ℕ) (ss : List ℤ) (i : ℕ) → i < length ns → i < length ss → get_or (lines_of ns ss) i (record { name = 0; score = pos 0 }) ≡ record { name = get_or ns i 0; score = get_or ss i (pos 0) }
get_d_lines [] ss i h g = absurd (not-suc-le-zero h)
get_d_lines (n ∷ ns) [] i h g = absurd (not-suc-le-zero g)
get_d_lines (n ∷ ns) (s ∷ ss) zero h g = refl
get_d_lines (n ∷ ns) (s ∷ ss) (suc i) h g = get_d_lines ns ss i (le_of_suc-le-suc h) (le_of_suc-le-suc g)

length_of : (ns : List ℕ) (ss : List ℤ) → length ns ≡ length ss → length (lines_of ns ss) ≡ length ns
length_of [] ss e = refl
length_of (n ∷ ns) [] e = sym e
length_of (n ∷ ns) (s ∷ ss) e = ap suc (length_of ns ss (suc_inj e))

names_of_lem : (ns : List ℕ) (ss : List ℤ) → length ns ≡ length ss → map (λ e. e.name) (lines_of ns ss) ≡ ns
names_of_lem [] ss h = refl
names_of_lem (n ∷ ns) [] h = absurd (suc-ne-zero (length ns) h)
names_of_lem (n ∷ ns) (s ∷ ss) h = ap (λ l. n ∷ l) (names_of_lem ns ss (suc_inj h))

scores_of_lem : (ns : List ℕ) (ss : List ℤ) → length ns ≡ length ss → map (λ e. e.score) (lines_of ns ss) ≡ ss
scores_of_lem [] [] h = refl
scores_of_lem [] (s ∷ ss) h = absurd (suc-ne-zero (length ss) (sym h))
scores_of_lem (n ∷ ns) [] h = absurd (suc-ne-zero (length ns) h)
scores_of_lem (n ∷ ns) (s ∷ ss) h = ap (λ l. s ∷ l) (scores_of_lem ns ss (suc_inj h))

-- the line that the columns have at a place
abbrev pub line_at : List ℕ → List ℤ → ℕ → Entry
line_at ns ss i = record { name = get_or ns i 0; score = get_or ss i (pos 0) }

module _ (ns : List ℕ) (ss : List ℤ) (r : Roomy ns ss) where
  even : length ns ≡ length ss
  even = r.names ∙ sym r.scores

  pub length-all : length (lines_of ns ss) ≡ 16
  length-all = length_of ns ss even ∙ r.names

  -- the columns say no more than the lines
  pub column-names : map (λ e. e.name) (lines_of ns ss) ≡ ns
  column-names = names_of_lem ns ss even

  pub column-scores : map (λ e. e.score) (lines_of ns ss) ≡ ss
  column-scores = scores_of_lem ns ss even

  module _ (n : ℕ) (h : n ≤ 16) where
    pub length_front : length (take n (lines_of ns ss)) ≡ n
    length_front = length-take-le n (lines_of ns ss) (rw length-all h)

    pub line_at_lem : (i : ℕ) → i < n → get_or (take n (lines_of ns ss)) i (record { name = 0; score = pos 0 }) ≡ line_at ns ss i
    line_at_lem i g =
        get_or-take n (lines_of ns ss) i (record { name = 0; score = pos 0 }) g
        ∙ get_d_lines ns ss i (omega (arith, r.names)) (omega (arith, r.scores))

    pub drop_line : (i : ℕ) → i < n → drop i (take n (lines_of ns ss)) ≡ line_at ns ss i ∷ drop (i + 1) (take n (lines_of ns ss))
    drop_line i g =
        drop-cons (take n (lines_of ns ss)) i (record { name = 0; score = pos 0 }) (rw length_front g) ∙ rw (line_at_lem i g, ← add-one i)

    pub none_left : (i : ℕ) → i ≡ n → drop i (take n (lines_of ns ss)) ≡ []
    none_left i e = drop_of_length-le (take n (lines_of ns ss)) {i = i} (rw length_front (omega arith))

    pub take_line : (i : ℕ) → i < n → take (i + 1) (take n (lines_of ns ss)) ≡ take i (take n (lines_of ns ss)) ++ (line_at ns ss i ∷ [])
    take_line i g =
        rw (add-one i)
        (take-suc (take n (lines_of ns ss)) i (record { name = 0; score = pos 0 }) (rw length_front g) ∙ rw (line_at_lem i g))

  -- the first m lines, 0 past them
  pub wiped-stored : {ns' : List ℕ} {ss' : List ℤ} (m : ℕ) → m ≤ 16 → ns' ≡ wiped m 0 ns → ss' ≡ wiped m (pos 0) ss → record { names = ns'; scores = ss'; len = m } ≡ columns_of (take m (lines_of ns ss))
  wiped-stored m h left right = λ i.
      record {
        names = (left ∙ ap (λ l. take 16 (l ++ replicate 16 0)) (front (λ e. e.name) column-names)) i;
        scores = (right ∙ ap (λ l. take 16 (l ++ replicate 16 (pos 0))) (front (λ e. e.score) column-scores)) i;
        len = sym (length_front m h) i;
      }
    where
      front : {A : Type 0} (f : Entry → A) {l : List A} → map f (lines_of ns ss) ≡ l → take m l ≡ map f (take m (lines_of ns ss))
      front f e = ap (take m) (sym e) ∙ map-take f m (lines_of ns ss)

  -- a length over the room counts as the room
  module _ (len n : ℕ) (is : n ≡ min len 16) where
    pub take_shown : take n (lines_of ns ss) ≡ take len (lines_of ns ss)
    take_shown =
        ap (λ m. take m (lines_of ns ss)) (is ∙ ap (min len) (sym length-all)) ∙ sym (take_min len (lines_of ns ss))

    pub length_shown : length (take len (lines_of ns ss)) ≡ n
    length_shown = ap length (sym take_shown) ∙ length_front n (omega arith)

    -- what stands past them
    pub drop_shown : drop n (take 16 (lines_of ns ss)) ≡ drop len (lines_of ns ss)
    drop_shown = ap (drop n) (take_all 16 (lines_of ns ss) (omega (arith, length-all))) ∙ go (tested (leb len 16))
      where
        go : Tested (leb len 16) → drop n (lines_of ns ss) ≡ drop len (lines_of ns ss)
        go (passed t) =
            let h = leb-true len 16 t in
            let same : n ≡ len = omega arith in
            ap (λ m. drop m (lines_of ns ss)) same
        go (failed t) =
            let h = leb-false len 16 t in
            drop_of_length-le (lines_of ns ss) {i = n} (omega (arith, length-all))
            ∙ sym (drop_of_length-le (lines_of ns ss) {i = len} (omega (arith, length-all)))

    -- the last of them
    pub last_shown : (i : ℕ) → i + 1 ≡ n → (p : Entry → Bool) → on_last p (take len (lines_of ns ss)) ≡ p (line_at ns ss i)
    last_shown i e p = go (take len (lines_of ns ss)) refl
      where
        line_is : (l : List Entry) → length l ≡ i → get_or (take len (lines_of ns ss)) (length l) (record { name = 0; score = pos 0 }) ≡ line_at ns ss i
        line_is l h =
            ap (λ m. get_or m (length l) (record { name = 0; score = pos 0 })) (sym take_shown)
            ∙ ap (λ m. get_or (take n (lines_of ns ss)) m (record { name = 0; score = pos 0 })) h
            ∙ line_at_lem n (omega arith) i (omega arith)

        go : (l : List Entry) → take len (lines_of ns ss) ≡ l → on_last p (take len (lines_of ns ss)) ≡ p (line_at ns ss i)
        go [] h = absurd (empty n length_shown (ap length h))
          where
            empty : (m : ℕ) → length (take len (lines_of ns ss)) ≡ m → length (take len (lines_of ns ss)) ≡ 0 → ⊥
            empty m a b = omega (arith, length_shown)
        go (x ∷ l) h =
            ap (on_last p) h
            ∙ last_at p (record { name = 0; score = pos 0 }) x l
            ∙ ap (λ m. p (get_or m (length l) (record { name = 0; score = pos 0 }))) (sym h)
            ∙ ap p (line_is l (fewer (length l) (sym (ap length h) ∙ length_shown)))
          where
            fewer : (m : ℕ) → suc m ≡ n → m ≡ i
            fewer m a = omega arith

-- ---- a list of any length

module _ (l : Lines) (r : Roomy l.names l.scores) where
  -- the first n lines, as many as there are
  pub front-lines : (n : ℕ) → n ≡ min l.len 16 → take n (lines_of l.names l.scores) ≡ lines_in l
  front-lines n e = take_shown l.names l.scores r l.len n e

  -- all of them
  pub all_lines : (n : ℕ) → n ≡ min l.len 16 → (m : ℕ) → m ≡ n → take m (take n (lines_of l.names l.scores)) ≡ lines_in l
  all_lines n e m f =
      take_all m (take n (lines_of l.names l.scores)) (omega (arith, length_front l.names l.scores r n (omega arith)))
      ∙ front-lines n e

  -- and cut
  pub cut_lines : (n m : ℕ) → n ≡ min m (min l.len 16) → take n (lines_of l.names l.scores) ≡ take m (lines_in l)
  cut_lines n m e =
      ap (λ j. take j (lines_of l.names l.scores)) e
      ∙ fewest m (min l.len 16) (lines_of l.names l.scores)
      ∙ ap (take m) (front-lines (min l.len 16) refl)

pub no_lines : (l : Lines) → min l.len 16 ≡ 0 → lines_in l ≡ []
no_lines l e = let none : l.len ≡ 0 = omega arith in ap (λ m. take m (lines_of l.names l.scores)) none
