-- What one question does with a report that enters: the tests of the definitions, read off the stored lines.
-- Assumes nothing.
use mathlib.Core.Path.{◌≡◌, refl, sym, ap, ap₂, ◌∙◌}
use mathlib.Core.Bool.{true, false, not, ◌&&◌}
use mathlib.Core.List.{List, [], ◌∷◌, map}
use Prim.Native.Nat.{ℕ, zero, suc, ◌+◌, ◌/◌, min, ◌≤◌, ◌<◌}
use native.Mathlib.Numerals.{add-one}
use native.Mathlib.Omega.{arith}
use borrow.Author.Tests.{lt-ltb, le-ltb, ltb-true, ltb-false}
use lib.Dec.{ltb}
use lib.IntN.{ℤ}
use lib.ListN.{length, take, drop, get_or, drop_of_length-le}
use lib.Seq.{drop-cons}
use Rattle.laws.proofs.Tests.{Tested, passed, failed, tested, and_after, and_stops, and_no, and_true as both_true}
use Rattle.values.specs.declared.Values.{Values}
use Rattle.ranking.specs.Cells.{cell, score, is_scored, points}
use Rattle.ranking.specs.Standing.{Held, Entry, is_counted, entry}
use Rattle.question.specs.declared.Question.{Question}
use Rattle.list.specs.Lines.{lines_of, all_of}
use Rattle.question.specs.Lines.{lines, with_entry, cut_to_k, is_marked}
use Rattle.question.specs.Inner.{line_count}
use Rattle.list.proofs.Stored.{Roomy, take_min}
use Rattle.slot.specs.Turn.{place_on, takes, listed, later, lists}
use Rattle.slot.specs.Gauges.{last_name}

module _ (q : Question) (v : Values) where
  pub takes_out : is_scored (score q.rule v) ≡ false → takes q v ≡ false
  unfolding takes
  takes_out c = and_stops (place_on q (points (score q.rule v))) (and_stops (is_marked q (cell v)) c)

  pub takes_unmarked : is_marked q (cell v) ≡ false → takes q v ≡ false
  unfolding takes
  takes_unmarked m = and_stops (place_on q (points (score q.rule v))) (and_no (is_scored (score q.rule v)) m)

  pub takes_no_place : place_on q (points (score q.rule v)) ≡ false → takes q v ≡ false
  unfolding takes
  takes_no_place p = and_no (is_scored (score q.rule v) && is_marked q (cell v)) p

  -- a report that counts is taken by its mark and its place
  pub takes_both : is_scored (score q.rule v) ≡ true → takes q v ≡ is_marked q (cell v) && place_on q (points (score q.rule v))
  unfolding takes
  takes_both c = ap (λ b. b && place_on q (points (score q.rule v))) (and_after (is_marked q (cell v)) c)

module _ (q : Question) (h : Held) where
  pub listed-taking : takes q h.values ≡ true → listed q h ≡ cut_to_k (with_entry q (entry q.rule h))
  unfolding listed
  listed-taking t = rw t

  pub listed_not : takes q h.values ≡ false → listed q h ≡ q
  unfolding listed
  listed_not t = rw t

module _ (q : Question) (h : Held) (counts : is_counted q.rule h ≡ true) where
  pub listed-taken : is_marked q (cell h.values) ≡ true → place_on q (entry q.rule h).score ≡ true → listed q h ≡ cut_to_k (with_entry q (entry q.rule h))
  listed-taken m p = listed-taking q h (takes_both q h.values counts ∙ both_true m p)

  pub listed_unmarked : is_marked q (cell h.values) ≡ false → listed q h ≡ q
  listed_unmarked m = listed_not q h (takes_unmarked q h.values m)

  pub listed_no_place : place_on q (entry q.rule h).score ≡ false → listed q h ≡ q
  listed_no_place p = listed_not q h (takes_no_place q h.values p)

-- a report that doesn't count changes nothing
pub listed_out : (q : Question) (h : Held) → is_counted q.rule h ≡ false → listed q h ≡ q
listed_out q h c = listed_not q h (takes_out q h.values c)

-- ---- whether a list has one that has gone

-- a name past the last one of a number is that of a later number
name-later : (gone n : ℕ) → ltb gone (n / 4097) ≡ ltb (last_name gone) n
name-later gone n = go (tested (ltb (last_name gone) n))
  where
    go : Tested (ltb (last_name gone) n) → ltb gone (n / 4097) ≡ ltb (last_name gone) n
    go (passed t) = let past = ltb-true (last_name gone) n t in lt-ltb gone (n / 4097) (omega arith) ∙ sym t
    go (failed t) = let up_to = ltb-false (last_name gone) n t in le-ltb gone (n / 4097) (omega arith) ∙ sym t

names_of_lem : (ns : List ℕ) (ss : List ℤ) (n : ℕ) → length ns ≡ length ss → map (λ e. e.name) (take n (lines_of ns ss)) ≡ take n ns
names_of_lem [] ss zero e = refl
names_of_lem [] ss (suc n) e = refl
names_of_lem (x ∷ ns) [] n e = absurd (omega arith)
names_of_lem (x ∷ ns) (y ∷ ss) zero e = refl
names_of_lem (x ∷ ns) (y ∷ ss) (suc n) e = let same : length ns ≡ length ss = omega arith in ap (λ l. x ∷ l) (names_of_lem ns ss n same)

-- the names of the lines stand at the front of their array
pub front-names : (q : Question) → Roomy q.names q.scores → (n : ℕ) → n ≡ line_count q → map (λ e. e.name) (lines q) ≡ take n q.names
front-names q r n e =
    names_of_lem q.names q.scores q.len (r.names ∙ sym r.scores)
    ∙ sym (ap (λ m. take m q.names) e ∙ ap (λ m. take (min q.len m) q.names) (sym r.names) ∙ sym (take_min q.len q.names))

pub later-names : (gone : ℕ) (l : List Entry) → all_of (later gone) l ≡ all_of (ltb (last_name gone)) (map (λ e. e.name) l)
later-names gone [] = refl
later-names gone (x ∷ l) = ap₂ (λ a b. a && b) (name-later gone x.name) (later-names gone l)

pub lists-names : (q : Question) (gone last : ℕ) → last ≡ last_name gone → Roomy q.names q.scores → (n : ℕ) → n ≡ line_count q → not (all_of (ltb last) (take n q.names)) ≡ lists q gone
unfolding lists
lists-names q gone last is r n e =
    ap not (ap (λ m. all_of (ltb m) (take n q.names)) is ∙ sym (later-names gone (lines q) ∙ ap (all_of (ltb (last_name gone))) (front-names q r n e)))

module _ (l : List ℕ) (i : ℕ) (inside : i < length l) where
  name_left : drop i l ≡ get_or l i 0 ∷ drop (i + 1) l
  name_left = drop-cons l i 0 inside ∙ ap (λ m. get_or l i 0 ∷ drop m l) (sym (add-one i))

  pub gone_here : (last : ℕ) → get_or l i 0 ≤ last → all_of (ltb last) (drop i l) ≡ false
  gone_here last h = ap (all_of (ltb last)) name_left ∙ ap (λ b. b && all_of (ltb last) (drop (i + 1) l)) (le-ltb last (get_or l i 0) h)

  pub gone_later : (last : ℕ) → last < get_or l i 0 → all_of (ltb last) (drop i l) ≡ all_of (ltb last) (drop (i + 1) l)
  gone_later last h = ap (all_of (ltb last)) name_left ∙ ap (λ b. b && all_of (ltb last) (drop (i + 1) l)) (lt-ltb last (get_or l i 0) h)

pub gone_nowhere : (last : ℕ) (l : List ℕ) (i : ℕ) → length l ≤ i → all_of (ltb last) (drop i l) ≡ true
gone_nowhere last l i h = ap (all_of (ltb last)) (drop_of_length-le l {i = i} h)
