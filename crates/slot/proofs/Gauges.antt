-- A report that passes no gauge touches no question: below the last line's score there is no place, and no report of a number whose last name is below the lowest is listed.
-- Assumes nothing.
use mathlib.Core.Path.{◌≡◌, refl, sym, ap, ◌∙◌}
use mathlib.Core.Bool.{Bool, true, false, not, ◌||◌}
use mathlib.Core.List.{List, [], ◌∷◌, ◌++◌, map}
use Prim.Native.Nat.{ℕ, zero, suc, ◌+◌, ◌-◌, min, ◌≤◌, ◌<◌}
use native.Mathlib.Nat.{not-suc-le-zero, le_of_suc-le-suc}
use mathlib.Core.Logic.{⊎_elim}
use native.Mathlib.Numerals.{add-one}
use native.Mathlib.Omega.{arith}
use borrow.Author.Tests.{lt-ltb, le-ltb, ltb-true, eqb-true, eqb-false, not-true}
use lib.Dec.{ltb, eqb}
use lib.IntN.{ℤ, pos}
use lib.ListN.{length, get_or, take}
use lib.Seq.{take-suc}
use Rattle.laws.specs.Lists.{on_last}
use Rattle.values.specs.declared.Values.{Values}
use Rattle.ranking.specs.Cells.{sum, score, is_scored, points}
use Rattle.ranking.specs.Standing.{Entry, passes, has_place, place_by, might_pass}
use Rattle.ranking.specs.declared.Rule.{Rule}
use Rattle.ranking.proofs.Cells.{points-sum}
use Rattle.ranking.proofs.Entries.{might_not, no_place, place_none, place_last}
use Rattle.laws.proofs.Lists.{lt_or_eq}
use Rattle.laws.proofs.Tests.{Tested, passed, failed, tested, and_both, and_true, if_so, if_not}
use Rattle.question.specs.declared.Question.{Question}
use Rattle.list.specs.Lines.{lines_of, all_of}
use Rattle.question.specs.Lines.{lines}
use Rattle.question.specs.Inner.{line_count}
use Rattle.list.proofs.Stored.{Roomy, line_at, take_line}
use Rattle.question.proofs.Stored.{all_lines, last_line, no_lines}
use Rattle.slot.specs.Turn.{place_on, takes, lists}
use Rattle.slot.specs.Gauges.{last_score, least_of, lowest, lowest_of, gauge_of, last_name, is_quiet, is_idle, up_to_last}
use Rattle.slot.proofs.Listing.{takes_out, takes_no_place, front-names, later-names}

-- ---- what the gauge is read off

last_score_lem : (l : List Entry) (x : Entry) → last_score (l ++ x ∷ []) ≡ x.score
last_score_lem [] x = refl
last_score_lem (y ∷ []) x = refl
last_score_lem (y ∷ z ∷ l) x = last_score_lem (z ∷ l) x

nonzero : (n : ℕ) → (n ≡ 0 → ⊥) → 1 ≤ n
nonzero zero h = absurd (h refl)
nonzero (suc n) h = omega arith

module _ (q : Question) where
  pub least-none : line_count q ≡ 0 → least_of q ≡ pos 2147483647
  unfolding least_of
  least-none e = ap last_score (no_lines q e)

  pub least_last : Roomy q.names q.scores → (i : ℕ) → i + 1 ≡ line_count q → least_of q ≡ get_or q.scores i (pos 0)
  unfolding least_of
  least_last r i e =
      ap last_score (sym (all_lines q r (line_count q) refl (i + 1) e) ∙ take_line q.names q.scores r (line_count q) (omega arith) i (omega arith))
      ∙ last_score_lem (take i (take (line_count q) (lines_of q.names q.scores))) (line_at q.names q.scores i)

  -- A place on the list, by its last score.
  pub place_by_lem : Roomy q.names q.scores → (s : ℤ) → place_by q.rule q.k q.len (least_of q) s ≡ place_on q s
  place_by_lem r s = go (tested (eqb q.len 0))
    where
      go : Tested (eqb q.len 0) → place_by q.rule q.k q.len (least_of q) s ≡ place_on q s
      go (passed t) =
          let none = eqb-true q.len 0 t in
          let empty : line_count q ≡ 0 = omega arith in
          sym (ap (λ l. has_place q.rule q.k q.len l s) (no_lines q empty) ∙ place_none q.rule q.k q.len s (least_of q) none)
      go (failed t) =
          let positive = eqb-false q.len 0 t in
          let last : line_count q - 1 + 1 ≡ line_count q = omega (arith, nonzero q.len positive) in
          sym
          (place_last q.rule q.k q.len s (lines q) (line_at q.names q.scores (line_count q - 1)) (nonzero q.len positive) (last_line q r (line_count q - 1) last)
          ∙ ap (λ z. place_by q.rule q.k q.len z s) (sym (least_last r (line_count q - 1) last)))

  pub low_room : q.len < q.k → lowest_of q ≡ 0
  unfolding lowest_of
  low_room h = rw (lt-ltb q.len q.k h)

  pub low-names : q.k ≤ q.len → Roomy q.names q.scores → (n : ℕ) → n ≡ line_count q → lowest_of q ≡ lowest (take n q.names)
  unfolding lowest_of
  low-names full r n e = rw (le-ltb q.len q.k full) (ap lowest (front-names q r n e))

low_last : (l : List ℕ) (n : ℕ) → lowest (l ++ n ∷ []) ≡ min (lowest l) n
low_last [] n = omega arith
low_last (x ∷ l) n = omega (arith, low_last l n)

pub take_zero : (l : List ℕ) → take 0 l ≡ []
take_zero [] = refl
take_zero (x ∷ l) = refl

-- one name more
pub low_more : (l : List ℕ) (i : ℕ) → i < length l → lowest (take (i + 1) l) ≡ min (lowest (take i l)) (get_or l i 0)
low_more l i h = ap (λ m. lowest (take m l)) (add-one i) ∙ ap lowest (take-suc l i 0 h) ∙ low_last (take i l) (get_or l i 0)

-- ---- what it tells

no_last : (rule : Rule) (l : List Entry) (s : ℤ) → passes rule s (last_score l) ≡ false → on_last (λ e. passes rule s e.score) l ≡ false
no_last rule [] s h = refl
no_last rule (x ∷ []) s h = h
no_last rule (x ∷ y ∷ l) s h = no_last rule (y ∷ l) s h

below_all : (n : ℕ) (l : List ℕ) → n < lowest l → all_of (ltb n) l ≡ true
below_all n [] h = refl
below_all n (x ∷ l) h = and_true (lt-ltb n x (omega arith)) (below_all n l (omega arith))

full_there : (q : Question) (n : ℕ) → n < lowest_of q → (ltb q.len q.k ≡ false) × (n < lowest (map (λ e. e.name) (lines q)))
unfolding lowest_of
full_there q n h = go (tested (ltb q.len q.k))
  where
    go : Tested (ltb q.len q.k) → (ltb q.len q.k ≡ false) × (n < lowest (map (λ e. e.name) (lines q)))
    go (passed t) = absurd (not-suc-le-zero (rw t at h))
    go (failed t) = (t, rw t at h)

-- A question whose gauge a report doesn't pass neither takes it nor lists one that has gone.
pub quiet_untouched : (q : Question) (gone : ℕ) (v : Values) → is_quiet (gauge_of q) gone v ≡ true → takes q v || lists q gone ≡ false
unfolding is_quiet least_of lists
quiet_untouched q gone v e =
    let s = sum q.rule v in
    let both = and_both (not (might_pass q.rule.weights v (least_of q))) (ltb (last_name gone) (lowest_of q)) e in
    let there = full_there q (last_name gone) (ltb-true (last_name gone) (lowest_of q) both.1) in
    let none = no_place q.rule q.k q.len s (lines q) there.0 (no_last q.rule (lines q) s (might_not q.rule v (least_of q) (not-true _ both.0))) in
    rw (untaken (tested (is_scored (score q.rule v))) none, later-names gone (lines q) ∙ below_all (last_name gone) (map (λ x. x.name) (lines q)) there.1)
  where
    untaken : Tested (is_scored (score q.rule v)) → place_on q (sum q.rule v) ≡ false → takes q v ≡ false
    untaken (failed c) none = takes_out q v c
    untaken (passed c) none = takes_no_place q v (ap (place_on q) (points-sum q.rule v c) ∙ none)

-- A slot with no k and no lines takes no report, and lists none.
pub idle_untouched : (q : Question) (gone : ℕ) (v : Values) → is_idle q ≡ true → takes q v || lists q gone ≡ false
unfolding lists
idle_untouched q gone v e =
    let both = and_both (eqb q.k 0) (eqb q.len 0) e in
    let k = eqb-true q.k 0 both.0 in
    let empty : line_count q ≡ 0 = omega (arith, eqb-true q.len 0 both.1) in
    let s = points (score q.rule v) in
    let none = no_place q.rule q.k q.len s (lines q) (le-ltb q.len q.k (omega arith)) (ap (on_last (λ e. passes q.rule s e.score)) (no_lines q empty)) in
    rw (takes_no_place q v none, no_lines q empty)

-- ---- the places in use

module _ {A : Type 0} (blank : A → Bool) (d : A) where
  pub none-used : (l : List A) (n : ℕ) → n ≡ 0 → up_to_last blank d n l ≡ 0
  unfolding up_to_last
  none-used l zero e = refl
  none-used l (suc n) e = absurd (omega arith)

  pub used_here : (l : List A) (n m : ℕ) → n ≡ suc m → blank (get_or l m d) ≡ false → up_to_last blank d n l ≡ n
  unfolding up_to_last
  used_here l n m e t = ap (λ k. up_to_last blank d k l) e ∙ if_not (up_to_last blank d m l) (suc m) t ∙ sym e

  pub used_below : (l : List A) (n m : ℕ) → n ≡ suc m → blank (get_or l m d) ≡ true → up_to_last blank d n l ≡ up_to_last blank d m l
  unfolding up_to_last
  used_below l n m e t = ap (λ k. up_to_last blank d k l) e ∙ if_so (up_to_last blank d m l) (suc m) t

  pub used_few : (n : ℕ) (l : List A) → up_to_last blank d n l ≤ n
  unfolding up_to_last
  used_few zero l = omega arith
  used_few (suc n) l = go (tested (blank (get_or l n d))) (used_few n l)
    where
      go : Tested (blank (get_or l n d)) → up_to_last blank d n l ≤ n → up_to_last blank d (suc n) l ≤ suc n
      go (passed t) ih = rw t (omega arith)
      go (failed t) ih = rw t (omega arith)

  -- A place from the bound on is blank.
  pub used-blank : (n : ℕ) (l : List A) (i : ℕ) → up_to_last blank d n l ≤ i → i < n → blank (get_or l i d) ≡ true
  unfolding up_to_last
  used-blank zero l i h below = absurd (not-suc-le-zero below)
  used-blank (suc n) l i h below = go (tested (blank (get_or l n d))) (λ more less. used-blank n l i more less)
    where
      go : Tested (blank (get_or l n d)) → (up_to_last blank d n l ≤ i → i < n → blank (get_or l i d) ≡ true) → blank (get_or l i d) ≡ true
      go (passed t) ih = ⊎_elim (λ less. ih (rw t at h) less) (λ last. ap (λ m. blank (get_or l m d)) last ∙ t) (lt_or_eq (le_of_suc-le-suc below))
      go (failed t) ih = let over : suc n ≤ i = rw t at h in absurd (omega arith)
