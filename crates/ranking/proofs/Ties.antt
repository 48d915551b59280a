-- The tie rules differ in ties alone: a tie rule is asked where scores are equal, so where the scores of all reports that count differ it is never asked.
-- Assumes nothing.
use mathlib.Core.Path.{◌≡◌, refl, sym, ap, ap₂, ◌∙◌, subst}
use mathlib.Core.Bool.{true, false}
use mathlib.Core.Logic.{inl, ⊎_elim}
use mathlib.Core.List.Memᴰ
use mathlib.Core.List.{List, ◌∷◌}
use Prim.Native.Nat.{ℕ, min, ◌≤◌}
use native.Mathlib.Omega.{arith}
use borrow.Author.Tests.{eqb-true, eqb-false}
use lib.Dec.{eqb}
use lib.IntN.{ℤ}
use lib.ListN.{length, take, drop}
use lib.Signed.{lt_z}
use Rattle.laws.specs.Lists.{◌∈◌, only}
use Rattle.laws.proofs.Tests.{Tested, passed, failed, tested, clash}
use Rattle.laws.proofs.Lists.{◌⊆◌, Pairwise, here, moved, only_of}
use Rattle.laws.proofs.Whole.{lt_z_strict}
use Rattle.search.specs.Best.{best}
use Rattle.search.specs.Search.{has, least, list_after, stops, ended, steps, found, marks}
use Rattle.search.proofs.Best.{Lowest, best_falling, best_of, falling_distinct, lowest_some, best_below, length-best, best_in_part, Agree, best_agree}
use Rattle.search.proofs.Least.{least-same}
use Rattle.search.proofs.Search.{All}
use Rattle.ranking.specs.Cells.{tied_by, counts, sum, score, cell, cell_counts, best_score, before, most_steps, visiting, reaching}
use Rattle.ranking.specs.Standing.{Held, Entry, above, is_counted, entry, entries, top, search_of, Permitted}
use Rattle.ranking.specs.declared.Rule.{Rule}
use Rattle.ranking.proofs.Cells.{more, less, equal, Numbers, numbers}
use Rattle.ranking.proofs.Entries.{above_strict, score-above, score_below, above-score, entries_of_lem, length-top}
use Rattle.ranking.proofs.Standing.{steps_all, steps-full}

-- Two of the reports that count and have the same score are one: the scores of all that count differ.
abbrev pub ScoresDiffer : Rule → List Held → Type 0
ScoresDiffer rule hs =
    (g h : Held) → g ∈ hs → h ∈ hs → is_counted rule g ≡ true → is_counted rule h ≡ true → (entry rule g).score ≡ (entry rule h).score → g ≡ h

module _ (rule : Rule) (ties : ℕ) where
  -- the same question with another tie rule
  abbrev other : Rule
  other = tied_by ties rule

  -- what doesn't ask for it
  same_entries : (hs : List Held) → entries other hs ≡ entries rule hs
  unfolding entries score counts sum
  same_entries hs = refl

  same-order : visiting other ≡ visiting rule
  unfolding visiting before best_score cell_counts sum
  same-order = refl

  agree : (hs : List Held) → ScoresDiffer rule hs → Agree (above rule) (above other) (above_strict rule) (above_strict other) (entries rule hs)
  agree hs differ x y m n = go (numbers x.score y.score)
    where
      go : Numbers x.score y.score → above other x y ≡ above rule x y
      go (more p) = score-above other x y p ∙ sym (score-above rule x y p)
      go (less p) = score_below other x y p ∙ sym (score_below rule x y p)
      go (equal p) =
          let g = entries_of_lem rule hs m in
          let h = entries_of_lem rule hs n in
          let one = differ g.0 h.0 g.1 h.1 g.3 h.3 (ap (λ (e : Entry). e.score) g.2 ∙ p ∙ sym (ap (λ (e : Entry). e.score) h.2)) in
          let is : x ≡ y = sym g.2 ∙ ap (entry rule) one ∙ h.2 in
          subst (λ z. above other x z ≡ above rule x z) is ((above_strict other).irreflexive x ∙ sym ((above_strict rule).irreflexive x))

  pub same-top : (k : ℕ) (hs : List Held) → ScoresDiffer rule hs → top other k hs ≡ top rule k hs
  same-top k hs differ =
      ap (best (above other) k) (same_entries hs)
      ∙ best_agree (above rule) (above other) (above_strict rule) (above_strict other) k (entries rule hs) (agree hs differ)

  module _ (k : ℕ) (hs : List Held) (differ : ScoresDiffer rule hs) where
    some : (n : ℕ) → List Held
    some n = only (λ (h : Held). has (cell h.values) (take n (visiting rule))) hs

    same_after : (n : ℕ) → list_after (search_of other) k hs n ≡ list_after (search_of rule) k hs n
    unfolding entries some
    same_after n =
        ap (λ (cs : List ℕ). top other k (only (λ (h : Held). has (cell h.values) (take n cs)) hs)) same-order
        ∙ same-top k (some n) (λ g h m l. differ g h (only_of _ hs m).0 (only_of _ hs l).0)

    same_ended : (n : ℕ) → ended (search_of other) k hs n ≡ ended (search_of rule) k hs n
    unfolding best_score sum
    same_ended n = ap₂ (λ (l : List Entry) (cs : List ℕ). stops (search_of rule) k l (drop n cs)) (same_after n) same-order

    same-steps : steps (search_of other) k hs ≡ steps (search_of rule) k hs
    unfolding steps
    same-steps =
        ap (λ (cs : List ℕ). least (ended (search_of other) k hs) (length cs) 0) same-order
        ∙ least-same (ended (search_of other) k hs) (ended (search_of rule) k hs) (length (visiting rule)) 0 (λ n h. same_ended n)

    same-found : found (search_of other) k hs ≡ found (search_of rule) k hs
    same-found = ap (list_after (search_of other) k hs) same-steps ∙ same_after (steps (search_of rule) k hs)

    same-marks : marks (search_of other) k hs ≡ marks (search_of rule) k hs
    same-marks = ap₂ (λ n (cs : List ℕ). take n cs) same-steps same-order

-- Under any two tie rules the list is the same, and so are the search's list, marks and steps, where no two reports that count have one score.
pub record TiesAlone (rule : Rule) (ties k : ℕ) (hs : List Held) : Type 0 where
  pub list : top (tied_by ties rule) k hs ≡ top rule k hs
  pub steps-same : steps (search_of (tied_by ties rule)) k hs ≡ steps (search_of rule) k hs
  pub found-same : found (search_of (tied_by ties rule)) k hs ≡ found (search_of rule) k hs
  pub marks-same : marks (search_of (tied_by ties rule)) k hs ≡ marks (search_of rule) k hs

pub ties_alone : (rule : Rule) (ties k : ℕ) (hs : List Held) → ScoresDiffer rule hs → TiesAlone rule ties k hs
ties_alone rule ties k hs differ =
    record {
      list = same-top rule ties k hs differ;
      steps-same = same-steps rule ties k hs differ;
      found-same = same-found rule ties k hs differ;
      marks-same = same-marks rule ties k hs differ;
    }

-- ---- the last score, and so the search

-- two full lists of the same entries by different rules
module _ (r t : Rule) (k : ℕ) (positive : 1 ≤ k) (l : List Entry) (full : length (best (above t) k l) ≡ k)
    (a : Lowest (above r) (best (above r) k l)) (b : Lowest (above t) (best (above t) k l)) where
  abbrev others : List Entry
  others = best (above t) k l

  whole : length (best (above r) k others) ≡ k
  whole =
      length-best (above r) (above_strict r) k others (falling_distinct (above t) (above_strict t) others (best_falling (above t) (above_strict t) k l))
      ∙ ap (min k) full
      ∙ omega arith

  module _ (h : lt_z a.entry.score b.entry.score ≡ true) where
    -- all of the other list would rank above the last of this one
    over : (z : Entry) → z ∈ others → above r z a.entry ≡ true
    over z m =
        score-above r z a.entry
        (⊎_elim (λ e. subst (λ (y : Entry). lt_z a.entry.score y.score ≡ true) (sym e) h)
        (λ e. ⊎_elim (λ p. lt_z_strict.transitive a.entry.score b.entry.score z.score h p) (λ p. subst (λ s. lt_z a.entry.score s ≡ true) (sym p) h) (above-score t z b.entry e))
        (b.rest z m))

    none : ⊥
    none =
        let low = lowest_some (above r) (above_strict r) (best (above r) k others) (best_falling (above r) (above_strict r) k others) (omega (arith, whole, positive)) in
        let in-others = best_of (above r) (above_strict r) k others in
        let unchanged = best_below (above r) (above_strict r) k a.entry others whole (low.is_last (λ z. above r z a.entry) ∙ over low.entry (in-others low.entry low.listed)) in
        let part : a.entry ∷ others ⊆ l = λ z m. ⊎_elim (λ e. moved (sym e) (best_of (above r) (above_strict r) k l a.entry a.listed)) (best_of (above t) (above_strict t) k l z) (Memᴰ.cases_cons m) in
        let m = best_in_part (above r) (above_strict r) k (a.entry ∷ others) l part a.entry here a.listed in
        clash (over a.entry (in-others a.entry (subst (λ y. a.entry ∈ y) unchanged m))) ((above_strict r).irreflexive a.entry)

  -- the last score of the one isn't below that of the other
  last_not_below : lt_z a.entry.score b.entry.score ≡ false
  last_not_below = go (tested (lt_z a.entry.score b.entry.score))
    where
      go : Tested (lt_z a.entry.score b.entry.score) → lt_z a.entry.score b.entry.score ≡ false
      go (passed h) = absurd (none h)
      go (failed h) = h

-- Rule 18.3: the tie rule changes neither the steps of a search nor its marks.
module _ (rule : Rule) (ties k : ℕ) (positive : 1 ≤ k) (hs : List Held) (good : All Permitted hs) (distinct : Pairwise (λ (g h : Held). g.number ≡ h.number → ⊥) hs) where
  abbrev tied : Rule
  tied = tied_by ties rule

  as_long : length (top tied k hs) ≡ length (top rule k hs)
  unfolding score counts sum
  as_long = length-top tied k hs distinct ∙ sym (length-top rule k hs distinct)

  as_many : most_steps tied ≡ most_steps rule
  unfolding most_steps cell_counts
  as_many = refl

  as_far : (s : ℤ) → reaching tied s ≡ reaching rule s
  unfolding reaching cell_counts best_score sum
  as_far s = refl

  same_last : (full : length (top rule k hs) ≡ k) (a : Lowest (above rule) (top rule k hs)) (b : Lowest (above tied) (top tied k hs)) → b.entry.score ≡ a.entry.score
  unfolding entries score counts sum
  same_last full a b =
      lt_z_strict.total b.entry.score a.entry.score
      (last_not_below tied rule k positive (entries rule hs) full b a)
      (last_not_below rule tied k positive (entries rule hs) (as_long ∙ full) a b)

  pub any_ties_steps : steps (search_of tied) k hs ≡ steps (search_of rule) k hs
  any_ties_steps = go (tested (eqb (length (top rule k hs)) k))
    where
      go : Tested (eqb (length (top rule k hs)) k) → steps (search_of tied) k hs ≡ steps (search_of rule) k hs
      go (failed e) =
          let short = eqb-false (length (top rule k hs)) k e in
          steps_all tied hs good k (inl (λ f. short (sym as_long ∙ f))) ∙ as_many ∙ sym (steps_all rule hs good k (inl short))
      go (passed e) =
          let full = eqb-true (length (top rule k hs)) k e in
          let full' = as_long ∙ full in
          let a = lowest_some (above rule) (above_strict rule) (top rule k hs) (best_falling (above rule) (above_strict rule) k (entries rule hs)) (omega (arith, full, positive)) in
          let b = lowest_some (above tied) (above_strict tied) (top tied k hs) (best_falling (above tied) (above_strict tied) k (entries tied hs)) (omega (arith, full', positive)) in
          steps-full tied hs good k positive full' b.entry b.is_last
          ∙ as_far b.entry.score
          ∙ ap (reaching rule) (same_last full a b)
          ∙ sym (steps-full rule hs good k positive full a.entry a.is_last)

  pub any_ties_marks : marks (search_of tied) k hs ≡ marks (search_of rule) k hs
  any_ties_marks = ap₂ (λ n (cs : List ℕ). take n cs) any_ties_steps (same-order rule ties)
