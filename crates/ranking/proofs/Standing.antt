-- The search of a question finds the best k of the window, and its marks are the wanted cells: reports and cells meet what the search's laws ask.
-- Assumes nothing.
use mathlib.Core.Path.{◌≡◌, refl, sym, ap, ap₂, ◌∙◌, subst}
use mathlib.Core.Logic.{◌⊎◌, inl, inr, ◌↔◌}
use mathlib.Core.Bool.{Bool, true, false, not, cond, ◌||◌}
use mathlib.Core.List.{List, ◌∷◌}
use Prim.Native.Nat.{ℕ, ◌+◌, ◌≤◌, ◌<◌}
use native.Mathlib.Omega.{arith}
use borrow.Author.Tests.{not-true, not-false, lt-ltb, le-ltb}
use lib.Dec.{ltb}
use lib.ListN.{length}
use lib.IntN.{ℤ}
use lib.Signed.{lt_z}
use Rattle.laws.specs.Lists.{◌∈◌, on_last, only}
use Rattle.laws.proofs.Tests.{Tested, passed, failed, tested, clash}
use Rattle.laws.proofs.Lists.{Distinct, pairwise_map, pairwise_take, Same, Other, only_in, only_of, only_same, only-only, pairwise_only, take-⊆}
use Rattle.laws.proofs.Orders.{ahead, ltb_strict}
use Rattle.laws.proofs.Whole.{lt_z_strict}
use Rattle.search.specs.Best.{best}
use Rattle.search.specs.Search.{counted_in, steps, found, marks}
use Rattle.search.proofs.Best.{length-same}
use Rattle.search.proofs.Search.{All, Sound, Foremost, found-is, steps_open, steps-count, steps_le, wanted, local_found, local_marks, local_steps, length-marks}
use Rattle.search.specs.Inner.{matters}
use Rattle.values.specs.Names.{named}
use Rattle.values.specs.declared.Edition.{Edition}
use Rattle.values.proofs.Names.{name_rises}
use Rattle.ranking.specs.Cells.{counts, sum, cell, cell_counts, corner_of, best_score, before, cells, counted_cells, most_steps, visiting, in_order, reaching}
use Rattle.ranking.specs.Standing.{Held, Entry, later_first, goes_first, above, is_counted, entry, entries, top, reaches, search_of, Permitted, foremost, Wanted}
use Rattle.ranking.specs.declared.Rule.{Rule}
use Rattle.ranking.proofs.Cells.{more, less, equal, Numbers, numbers, visiting_in, visiting_of, visiting-same, visiting_falling, visiting_distinct, length-visiting, counted_distinct, in_order_lem, before-best, score_bound, counts-order, scored_counts, points-sum, corner-cell, corner_in, corner-counts, corner-best, cells_distinct, cells_in, cells_of}
use Rattle.ranking.proofs.Entries.{first_strict, above_strict, score-above, score_tie, above-score, entries_cons, entries_of_lem}

-- The reports held are numbered from 1 to the last one entered.
abbrev pub Numbered : ℕ → List Held → Type 0
Numbered entered hs = (h : Held) → h ∈ hs → (1 ≤ h.number) × (h.number ≤ entered)

module _ (rule : Rule) where
  -- lt_z a b is "a is below b": the chain of three, with the middle step not strict
  kept : (c d : ℕ) → before rule c d ≡ true → (s : ℤ) → not (lt_z (best_score rule d) s) ≡ true → not (lt_z (best_score rule c) s) ≡ true
  kept c d h s r = go (tested (lt_z (best_score rule c) s))
    where
      go : Tested (lt_z (best_score rule c) s) → not (lt_z (best_score rule c) s) ≡ true
      go (failed f) = ap not f
      go (passed f) =
          clash (ahead lt_z lt_z_strict (best_score rule d) (best_score rule c) s (before-best rule c d h) f)
          (not-true (lt_z (best_score rule d) s) r)

  later : (c d : ℕ) → before rule c d ≡ true → (e : Entry) → reaches rule d e ≡ true → reaches rule c e ≡ true
  later c d h e r = kept c d h _ r

  -- a report counts as its values do
  pub held_counts : (h : Held) → is_counted rule h ≡ true → counts rule h.values ≡ true
  held_counts h t = sym (scored_counts rule h.values) ∙ t

  under : (h : Held) → Permitted h → is_counted rule h ≡ true → (e : Entry) → reaches rule (cell h.values) e ≡ false → above rule e (entry rule h) ≡ true
  under h p counts e t =
      let c = cell h.values in
      score-above rule e (entry rule h)
      (subst (λ s. lt_z s e.score ≡ true) (sym (points-sum rule h.values counts))
      (ahead lt_z lt_z_strict (sum rule h.values) (best_score rule c) e.score (score_bound rule h.values p (held_counts h counts)) (not-false (lt_z (best_score rule c) e.score) t)))

  -- what the search's laws ask
  pub sound : Sound (search_of rule) Permitted
  sound =
      record {
        strict = above_strict rule;
        distinct = visiting_distinct rule;
        covers = λ h p counts. visiting_in rule (cell h.values) (counts-order rule h.values p (held_counts h counts));
        falling = pairwise_map later (visiting rule) (visiting_falling rule);
        bound = under;
      }

  -- the report that is added goes before all others of its score, whatever the editions
  pub foremost-first : (entered n : ℕ) (d e : Edition) → 1 ≤ n → n ≤ entered → goes_first rule (named (foremost rule entered) d) (named n e) ≡ true
  unfolding goes_first foremost
  foremost-first entered n d e positive h = go (later_first rule)
    where
      go : (later : Bool) → cond later (ltb (named n e) (named (cond later (entered + 1) 0) d)) (ltb (named (cond later (entered + 1) 0) d) (named n e)) ≡ true
      go true = lt-ltb (named n e) (named (entered + 1) d) (name_rises n (entered + 1) e d (omega arith))
      go false = lt-ltb (named 0 d) (named n e) (name_rises 0 n d e positive)

  module _ (hs : List Held) (entered : ℕ) (known : Numbered entered hs) where
    -- the entry of permitted values of the cell c that count, added as that report
    record New (c : ℕ) (e : Entry) : Type 0 where
      added : Held
      numbered : added.number ≡ foremost rule entered
      permitted : Permitted added
      counted : is_counted rule added ≡ true
      in_cell : cell added.values ≡ c
      stands : entry rule added ≡ e

    first : (d : Edition) (e : Entry) → e ∈ entries rule hs → goes_first rule (named (foremost rule entered) d) e.name ≡ true
    first d e m =
        let r = entries_of_lem rule hs m in
        let k = known r.0 r.1 in
        subst (λ (z : Entry). goes_first rule (named (foremost rule entered) d) z.name ≡ true) r.2 (foremost-first entered r.0.number d r.0.values.edition k.0 k.1)

    -- that report at the cell's corner
    at_corner : ℕ → Held
    at_corner c = record { number = foremost rule entered; values = corner_of rule c }

    corner-counted : (c : ℕ) → in_order rule c ≡ true → is_counted rule (at_corner c) ≡ true
    unfolding at_corner
    corner-counted c h = scored_counts rule (corner_of rule c) ∙ corner-counts rule c (in_order_lem rule c h).1

    corner-score : (c : ℕ) → in_order rule c ≡ true → (entry rule (at_corner c)).score ≡ best_score rule c
    unfolding at_corner
    corner-score c h = points-sum rule (corner_of rule c) (corner-counted c h) ∙ corner-best rule c

    tops : (c : ℕ) → in_order rule c ≡ true → (x : Entry) → x ∈ entries rule hs → reaches rule c x ≡ true → above rule (entry rule (at_corner c)) x ≡ true
    unfolding at_corner
    tops c at x m h = go (numbers (best_score rule c) x.score)
      where
        go : Numbers (best_score rule c) x.score → above rule (entry rule (at_corner c)) x ≡ true
        go (more e) = score-above rule (entry rule (at_corner c)) x (ap (lt_z x.score) (corner-score c at) ∙ e)
        go (less e) = clash e (not-true (lt_z (best_score rule c) x.score) h)
        go (equal e) = score_tie rule (entry rule (at_corner c)) x (corner-score c at ∙ e) ∙ first (corner_of rule c).edition x m

    corner_new : (c : ℕ) → in_order rule c ≡ true → New c (entry rule (at_corner c))
    unfolding at_corner
    corner_new c h =
        record {
          added = at_corner c;
          numbered = refl;
          permitted = corner_in rule c (in_order_lem rule c h).0;
          counted = corner-counted c h;
          in_cell = corner-cell rule c;
          stands = refl;
        }

    new_facts : Foremost (search_of rule) hs New
    unfolding entries
    new_facts =
        record {
          attains = λ c m. let h = visiting_of rule c m in (entry rule (at_corner c), corner_new c h, tops c h);
          bounded = λ c e f x h.
              subst (λ z. above rule x z ≡ true) f.stands
              (under f.added f.permitted f.counted x (subst (λ d. reaches rule d x ≡ false) (sym f.in_cell) h));
          fresh = λ c e f m.
              let edition = f.added.values.edition in
              clash (first edition e m)
              (subst (λ n. goes_first rule (named (foremost rule entered) edition) n ≡ false) (ap (λ n. named n edition) (sym f.numbered) ∙ ap (λ (z : Entry). z.name) f.stands) ((first_strict rule).irreflexive (named (foremost rule entered) edition)));
        }

    module _ (good : All Permitted hs) (k : ℕ) (positive : 1 ≤ k) where
      Stands : ℕ → Type 0
      Stands c = (e : Entry) × New c e × (e ∈ best (above rule) k (e ∷ entries rule hs))

      to : (c : ℕ) → Stands c → Wanted rule k hs entered c
      unfolding Stands
      to c (e, f, m) =
          record {
            added = f.added;
            numbered = f.numbered;
            permitted = f.permitted;
            counted = f.counted;
            in_cell = f.in_cell;
            listed = rw (entries_cons rule f.added hs f.counted) (subst (λ z. z ∈ best (above rule) k (z ∷ entries rule hs)) (sym f.stands) m);
          }

      from : (c : ℕ) → Wanted rule k hs entered c → Stands c
      unfolding Stands
      from c v = (
        entry rule v.added,
        record {
          added = v.added;
          numbered = v.numbered;
          permitted = v.permitted;
          counted = v.counted;
          in_cell = v.in_cell;
          stands = refl;
        },
        subst (λ l. entry rule v.added ∈ best (above rule) k l) (entries_cons rule v.added hs v.counted) v.listed,
      )

      -- a wanted cell has values that count
      wanted-order : (c : ℕ) → Wanted rule k hs entered c → in_order rule c ≡ true
      wanted-order c v =
          subst (λ d. in_order rule d ≡ true) v.in_cell (counts-order rule v.added.values v.permitted (held_counts v.added v.counted))

      -- Demand 3: the marked cells are the wanted ones.
      pub marks-wanted : (c : ℕ) → c ∈ marks (search_of rule) k hs ↔ Wanted rule k hs entered c
      unfolding entries Stands
      marks-wanted c = (
        λ m. to c ((is (take-⊆ (steps (search_of rule) k hs) (visiting rule) c m)).0 m),
        λ v. (is (visiting_in rule c (wanted-order c v))).1 (from c v),
      )
        where
          is : c ∈ visiting rule → c ∈ marks (search_of rule) k hs ↔ Stands c
          is m = wanted (search_of rule) sound hs good k positive New new_facts c m

  module _ (hs : List Held) (good : All Permitted hs) where
    -- Demand 2 at a search's end: its list is the best k of the window's reports that count.
    pub found-best : (k : ℕ) → found (search_of rule) k hs ≡ top rule k hs
    unfolding entries
    found-best k = found-is (search_of rule) sound hs good k

    -- The number of steps is the number of cells of the order that could matter, which are the wanted ones.
    pub steps-wanted : (k : ℕ) → 1 ≤ k → steps (search_of rule) k hs ≡ length (only (matters (search_of rule) k hs) (counted_cells rule))
    steps-wanted k positive = steps-count (search_of rule) sound hs good k positive (counted_cells rule) (counted_distinct rule) (visiting-same rule)

    -- a list that isn't full, or has no entry, takes all cells of the order
    pub steps_all : (k : ℕ) → (length (top rule k hs) ≡ k → ⊥) ⊎ (length (top rule k hs) ≡ 0) → steps (search_of rule) k hs ≡ most_steps rule
    unfolding entries
    steps_all k room = steps_open (search_of rule) sound hs good k room ∙ length-visiting rule

    -- a full one takes as many as reach its last score
    pub steps-full : (k : ℕ) → 1 ≤ k → length (top rule k hs) ≡ k → (last : Entry) → ((p : Entry → Bool) → on_last p (top rule k hs) ≡ p last) → steps (search_of rule) k hs ≡ reaching rule last.score
    unfolding reaching entries
    steps-full k positive full last is =
        steps-wanted k positive
        ∙ ap length
        (only_same (matters (search_of rule) k hs) (λ c. reaches rule c last) (counted_cells rule)
        (λ c m. ap₂ (λ a b. a || b) (le-ltb (length (top rule k hs)) k (omega arith)) (is (reaches rule c)))
        ∙ only-only (λ c. reaches rule c last) (cell_counts rule) cells)

  -- no search runs more steps than there are cells in the order
  pub steps_bounded : (k : ℕ) (hs : List Held) → steps (search_of rule) k hs ≤ most_steps rule
  steps_bounded k hs = subst (λ n. steps (search_of rule) k hs ≤ n) (length-visiting rule) (steps_le (search_of rule) k hs)

  -- no cell is marked twice
  pub marks_distinct : (k : ℕ) (hs : List Held) → Distinct (marks (search_of rule) k hs)
  marks_distinct k hs = pairwise_take Other (steps (search_of rule) k hs) (visiting rule) (visiting_distinct rule)

  -- Locality: any window with the same numbered reports that count in the marked cells, whatever else it has there or elsewhere, gives the same list, marks and steps.
  pub record Alike (k : ℕ) (hs hs' : List Held) : Type 0 where
    pub same-steps : steps (search_of rule) k hs ≡ steps (search_of rule) k hs'
    pub same_list : found (search_of rule) k hs ≡ found (search_of rule) k hs'
    pub same-marks : marks (search_of rule) k hs ≡ marks (search_of rule) k hs'

  pub local : (k : ℕ) (hs hs' : List Held) → Same (counted_in (search_of rule) (marks (search_of rule) k hs) hs) (counted_in (search_of rule) (marks (search_of rule) k hs) hs') → Alike k hs hs'
  local k hs hs' h =
      record {
        same-steps = local_steps (search_of rule) (above_strict rule) k hs hs' h;
        same_list = local_found (search_of rule) (above_strict rule) k hs hs' h;
        same-marks = local_marks (search_of rule) (above_strict rule) k hs hs' h;
      }

  -- a cell that doesn't reach an entry reaches none that ranks above it
  pub reach_rises : (c : ℕ) (e f : Entry) → above rule e f ≡ true → reaches rule c f ≡ false → reaches rule c e ≡ false
  reach_rises c e f a h = ap not (go (above-score rule e f a))
    where
      low : lt_z (best_score rule c) f.score ≡ true
      low = not-false (lt_z (best_score rule c) f.score) h

      go : (lt_z f.score e.score ≡ true) ⊎ (e.score ≡ f.score) → lt_z (best_score rule c) e.score ≡ true
      go (inl p) = lt_z_strict.transitive (best_score rule c) f.score e.score low p
      go (inr p) = subst (λ z. lt_z (best_score rule c) z ≡ true) (sym p) low

-- Demand 3, whole: a search's list is that of demand 2, its marks are the wanted cells, each once, and its steps are their number, however they are told.
pub record Exact (rule : Rule) (k : ℕ) (hs : List Held) (entered : ℕ) : Type 0 where
  pub list : found (search_of rule) k hs ≡ top rule k hs
  pub cells-only : (c : ℕ) → c ∈ marks (search_of rule) k hs → in_order rule c ≡ true
  pub once : Distinct (marks (search_of rule) k hs)
  pub marks_are : (c : ℕ) → c ∈ marks (search_of rule) k hs ↔ Wanted rule k hs entered c
  pub steps_are : steps (search_of rule) k hs ≡ length (marks (search_of rule) k hs)
  pub number : (t : ℕ → Bool) → ((c : ℕ) → c < 256 → (t c ≡ true) ↔ Wanted rule k hs entered c) → steps (search_of rule) k hs ≡ length (only t cells)

pub demand_3 : (rule : Rule) (k : ℕ) → 1 ≤ k → (hs : List Held) → All Permitted hs → (entered : ℕ) → Numbered entered hs → Exact rule k hs entered
demand_3 rule k positive hs good entered known =
    record {
      list = found-best rule hs good k;
      cells-only = in_visiting;
      once = marks_distinct rule k hs;
      marks_are = is;
      steps_are = sym (length-marks (search_of rule) k hs);
      number = λ t decides.
          sym (length-marks (search_of rule) k hs)
          ∙ length-same ltb ltb_strict (marks (search_of rule) k hs) (only t cells) (marks_distinct rule k hs) (pairwise_only Other t cells cells_distinct) (
            λ c m. let h = (in_order_lem rule c (in_visiting c m)).0 in only_in t cells (cells_in c h) ((decides c h).1 ((is c).0 m)),
            λ c m. let r = only_of t cells m in (is c).1 ((decides c (cells_of c r.0)).0 r.1),
          );
    }
  where
    in_visiting : (c : ℕ) → c ∈ marks (search_of rule) k hs → in_order rule c ≡ true
    in_visiting c m = visiting_of rule c (take-⊆ (steps (search_of rule) k hs) (visiting rule) c m)

    is : (c : ℕ) → c ∈ marks (search_of rule) k hs ↔ Wanted rule k hs entered c
    is = marks-wanted rule hs entered known good k positive
