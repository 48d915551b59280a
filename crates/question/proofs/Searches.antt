-- What steps and searches of a question come to: one step, n steps from the beginning, the end, and what other windows give the same, each by the search's laws.
-- Assumes nothing.
use mathlib.Core.Path.{◌≡◌, refl, sym, ap, ap₂, ◌∙◌, subst}
use mathlib.Core.Logic.{⊎_elim, ◌↔◌}
use mathlib.Core.Bool.{Bool, true, false}
use mathlib.Core.List.{List, [], ◌∷◌, ◌++◌, map}
use Prim.Native.Nat.{ℕ, zero, suc, ◌+◌, min, ◌≤◌, ◌<◌}
use native.Mathlib.Nat.{le_of_eq}
use native.Mathlib.Numerals.{add-one}
use native.Mathlib.Omega.{arith}
use borrow.Author.Tests.{le-leb}
use lib.ListN.{length, take}
use lib.Seq.{take-suc}
use Rattle.laws.specs.Lists.{◌∈◌, only}
use Rattle.laws.proofs.Lists.{Same, moved, lt_or_eq, get_d_past, only_of, only-length, same-only, pairwise_only}
use Rattle.laws.proofs.Tests.{Tested, passed, failed, tested, if_so}
use Rattle.search.specs.Best.{best}
use Rattle.search.specs.Search.{held_in, counted_in, list_after, steps, marks, has}
use Rattle.search.proofs.Best.{Falling, best_falling, length_best_le}
use Rattle.search.proofs.Search.{has_in, in_has, ends, goes_on}
use Rattle.ranking.specs.declared.Rule.{Rule}
use Rattle.ranking.specs.Cells.{fit_rule, cell, cells, most_steps, visiting, in_order, place_of, cell_at, cell_after}
use Rattle.ranking.specs.Standing.{Held, Entry, above, is_counted, counted, entry, entries, top, search_of, Wanted}
use Rattle.ranking.proofs.Cells.{length-visiting, no_order}
use Rattle.ranking.proofs.Entries.{above_strict, entries_in, top_of, length-top, top_short}
use Rattle.ranking.proofs.Scan.{place_at, at_place, cell_at_lem, left_none, next_at}
use Rattle.ranking.proofs.Standing.{steps_bounded, local, Alike, Numbered, demand_3, Exact}
use Rattle.window.specs.declared.Window.{Window}
use Rattle.window.specs.Rows.{standing, held_reports, fit_window}
use Rattle.window.proofs.Fitness as window
use Rattle.window.proofs.Reports.{length_held, held_distinct, held_latest}
use Rattle.window.proofs.Standing.{held_permitted}
use Rattle.question.specs.declared.Question.{Question}
use Rattle.question.specs.declared.Searched.{Searched}
use Rattle.question.specs.Lines.{lines, asked, steps_taken, marked, is_marked, finished, begun, in_cell, stepped_lines, stepped, after_steps, searched, searched_in, in_rows, searched_on, searched_first}
use Rattle.question.specs.Calls.{next_fits, fit_question, step_call}
use Rattle.question.proofs.Stored.{lines-asked}
use Rattle.question.proofs.Marking.{steps_left, steps_all}
use Rattle.question.proofs.Steps.{reached, reached_lines, reached_none, reached_more, reached_end, after-top}
use Rattle.question.proofs.Doors.{rows_held, step-ended, step_goes, step_held}
use Rattle.question.proofs.Listed.{next_in, next-none, fit-asked}

-- ---- one step

-- no question has taken more steps than there are cells in its order
pub steps_few : (q : Question) → steps_taken q ≤ most_steps q.rule
steps_few q = go (tested (in_order q.rule q.next))
  where
    below : {n : ℕ} → n < most_steps q.rule → n ≤ most_steps q.rule
    below l = omega arith

    go : Tested (in_order q.rule q.next) → steps_taken q ≤ most_steps q.rule
    go (passed h) = rw (steps_left q h) (below (at_place q.rule q.next h).0)
    go (failed h) = le_of_eq (steps_all q h)

-- a question whose next cell is at the place n has taken n steps
pub steps_at : (q : Question) (n : ℕ) → n ≤ most_steps q.rule → q.next ≡ cell_at q.rule n → steps_taken q ≡ n
steps_at q n h e = ⊎_elim some_left none (lt_or_eq h)
  where
    some_left : n < most_steps q.rule → steps_taken q ≡ n
    some_left l =
        steps_left q (subst (λ c. in_order q.rule c ≡ true) (sym e) (cell_at_lem q.rule n l))
        ∙ ap (place_of q.rule) e
        ∙ place_at q.rule n l

    none : n ≡ most_steps q.rule → steps_taken q ≡ n
    none l = steps_all q (ap (in_order q.rule) (e ∙ get_d_past 256 (visiting q.rule) n (left_none q.rule n (le_of_eq (sym l)))) ∙ no_order q.rule) ∙ sym l

-- Rule 7.7, for every question with a cell left: the next cell is marked, and the list is the best k of the lines it had and of that cell's reports.
pub record Step (q : Question) (hs : List Held) : Type 0 where
  pub list : lines (stepped q hs) ≡ stepped_lines q hs
  pub each_once : Falling (above q.rule) (lines (stepped q hs))
  pub next-marked : marked (stepped q hs) ≡ marked q ++ (q.next ∷ [])
  pub counted : steps_taken (stepped q hs) ≡ steps_taken q + 1

pub one_step : (q : Question) (hs : List Held) → q.k ≤ 16 → in_order q.rule q.next ≡ true → Step q hs
unfolding stepped marked
one_step q hs small left =
    record {
      list = listed;
      each_once = subst (Falling (above q.rule)) (sym listed) (best_falling (above q.rule) (above_strict q.rule) q.k l);
      next-marked = then_marked;
      counted = then;
    }
  where
    w : Rule
    w = q.rule

    n : ℕ
    n = place_of w q.next

    place : (n < most_steps w) × (cell_at w n ≡ q.next)
    place = at_place w q.next left

    l : List Entry
    l = lines q ++ entries w (only (in_cell q.next) hs)

    listed : lines (stepped q hs) ≡ best (above q.rule) q.k l
    listed = lines-asked q.k w (best (above q.rule) q.k l) (cell_after w q.next) (omega (arith, length_best_le (above q.rule) (above_strict q.rule) q.k l))

    then : steps_taken (stepped q hs) ≡ steps_taken q + 1
    then = steps_at (stepped q hs) (n + 1) (more place.0) (next_at w q.next left) ∙ ap (λ m. m + 1) (sym (steps_left q left))
      where
        more : {m : ℕ} → m < most_steps w → m + 1 ≤ most_steps w
        more h = omega arith

    then_marked : marked (stepped q hs) ≡ marked q ++ (q.next ∷ [])
    then_marked =
        ap (λ m. take m (visiting w)) (then ∙ ap (λ m. m + 1) (steps_left q left) ∙ add-one n)
        ∙ take-suc (visiting w) n 256 (rw (length-visiting w) place.0)
        ∙ ap₂ (λ m c. take m (visiting w) ++ (c ∷ [])) (sym (steps_left q left)) place.1

-- Rule 7.8: a search begun has no line, no mark, and no step taken.
pub record Beginning (q : Question) : Type 0 where
  pub no_lines : lines (begun q) ≡ []
  pub no_marks : marked (begun q) ≡ []
  pub no_steps : steps_taken (begun q) ≡ 0

pub beginning : (q : Question) → Beginning q
unfolding marked
beginning q =
    let none = steps_at (begun q) 0 (omega arith) refl in
    record { no_lines = refl; no_marks = ap (λ n. take n (visiting q.rule)) none; no_steps = none }

-- ---- n steps

-- Rule 7.5: what the list and the marks are after n steps.
pub record After (q : Question) (hs : List Held) (n : ℕ) (p : Question) : Type 0 where
  pub list : lines p ≡ list_after (search_of q.rule) q.k hs n
  pub marks_are : marked p ≡ take n (visiting q.rule)
  pub counted : steps_taken p ≡ n
  pub stored : p ≡ asked q.k q.rule (lines p) (cell_at q.rule n)

module _ (q : Question) (small : q.k ≤ 16) (hs : List Held) where
  abbrev w : Rule
  w = q.rule

  pub takes_reached : (n : ℕ) → n ≤ most_steps w → after_steps n (begun q) hs ≡ reached q.k w hs n
  unfolding after_steps
  takes_reached zero h = reached_none q.k small w hs
  takes_reached (suc n) h =
      ap (λ b. stepped b hs) (takes_reached n (omega arith)) ∙ reached_more q.k small w hs n h

  pub after_reached : (n : ℕ) → n ≤ most_steps w → After q hs n (reached q.k w hs n)
  unfolding reached marked
  after_reached n h =
      let back = reached_lines q.k small w hs n in
      let count = steps_at (reached q.k w hs n) n h refl in
      record {
        list = back;
        marks_are = ap (λ m. take m (visiting w)) count;
        counted = count;
        stored = ap (λ l. asked q.k w l (cell_at w n)) (sym back);
      }

  -- From the beginning, by steps alone.
  pub n_steps : (n : ℕ) → n ≤ most_steps w → After q hs n (after_steps n (begun q) hs)
  n_steps n h = subst (After q hs n) (sym (takes_reached n h)) (after_reached n h)

  -- ---- the end

  pub searched-is : searched q hs ≡ reached q.k w hs (steps (search_of w) q.k hs)
  unfolding searched reached
  searched-is = refl

  -- A search is stepping until it has ended, and it has not ended before.
  pub record Whole : Type 0 where
    pub by_steps : searched q hs ≡ after_steps (steps (search_of w) q.k hs) (begun q) hs
    pub has_ended : finished (searched q hs) ≡ true
    pub not_before : (n : ℕ) → n < steps (search_of w) q.k hs → finished (after_steps n (begun q) hs) ≡ false
    pub few : steps (search_of w) q.k hs ≤ most_steps w
    pub come_to : After q hs (steps (search_of w) q.k hs) (searched q hs)

  pub whole_search : Whole
  whole_search =
      let few = steps_bounded w q.k hs in
      record {
        by_steps = searched-is ∙ sym (takes_reached (steps (search_of w) q.k hs) few);
        has_ended = ap finished searched-is ∙ reached_end q.k small w hs (steps (search_of w) q.k hs) few ∙ ends (search_of w) q.k hs;
        not_before = λ n l. before n (less l) l;
        few = few;
        come_to = subst (After q hs (steps (search_of w) q.k hs)) (sym searched-is) (after_reached (steps (search_of w) q.k hs) few);
      }
    where
      less : {n : ℕ} → n < steps (search_of w) q.k hs → n ≤ most_steps w
      less l = omega (arith, steps_bounded w q.k hs)

      before : (n : ℕ) → n ≤ most_steps w → n < steps (search_of w) q.k hs → finished (after_steps n (begun q) hs) ≡ false
      before n h l = ap finished (takes_reached n h) ∙ reached_end q.k small w hs n h ∙ goes_on (search_of w) q.k hs n l

-- ---- in one pass

-- What a search that is begun comes to by single steps: the first of the questions after 0, 1, 2 and more of them whose search has ended, and how many they are.
pub record BySteps (q : Question) (hs : List Held) (r : Searched) : Type 0 where
  pub stepped_to : r.question ≡ after_steps r.steps (begun q) hs
  pub has_ended : finished r.question ≡ true
  pub not_before : (n : ℕ) → n < r.steps → finished (after_steps n (begun q) hs) ≡ false

-- `Question::searched` and `searched_in` hand back what single steps lead to, whatever the rows hold.
module _ (q : Question) (small : q.k ≤ 16) (w : Window) where
  pub rows_by_steps : (n : ℕ) → BySteps q (standing w n) (searched_first q w n)
  unfolding searched_first
  rows_by_steps n =
      let whole = whole_search q small (standing w n) in
      subst (BySteps q (standing w n)) (sym (if_so (searched_in q (standing w n)) (record { steps = 0; question = q }) (le-leb q.k 16 small)))
      (record { stepped_to = whole.by_steps; has_ended = whole.has_ended; not_before = whole.not_before })

  pub searched_by_steps : BySteps q (in_rows w) (searched_on q w)
  unfolding searched_first searched_on in_rows
  searched_by_steps = rows_by_steps 1024

-- ---- of a fit window

-- Demands 2 and 3 at the end of a search, for a fit window: the list is the best k of all that is held and counts, a cell is marked exactly where it is wanted, and the steps are the number of the marked cells.
pub record Found (w : Window) (q p : Question) : Type 0 where
  pub list : lines p ≡ top q.rule q.k (held_reports w)
  pub length-is : length (lines p) ≡ min q.k (length (counted q.rule (held_reports w)))
  pub marks_are : (c : ℕ) → is_marked p c ≡ true ↔ Wanted q.rule q.k (held_reports w) w.counts.entered c
  pub steps_are : steps_taken p ≡ length (only (is_marked p) cells)

pub search_finds : (w : Window) → fit_window w ≡ true → (q : Question) → 1 ≤ q.k → q.k ≤ 16 → Found w q (searched q (held_reports w))
unfolding is_marked
search_finds w fit q positive small =
    record {
      list = list;
      length-is = ap length list ∙ length-top q.rule q.k hs (held_distinct w);
      marks_are = is;
      steps_are = come.counted ∙ exact.number (is_marked p) (λ c h. is c);
    }
  where
    hs : List Held
    hs = held_reports w

    p : Question
    p = searched q hs

    known : Numbered w.counts.entered hs
    known r m =
        let ranges = (window.fit_facts w fit).ranges in
        let late = held_latest w ranges r m in
        (omega (arith, late.0, ranges.ring.were_entered), late.1)

    exact : Exact q.rule q.k hs w.counts.entered
    exact = demand_3 q.rule q.k positive hs (held_permitted w fit) w.counts.entered known

    come : After q hs (steps (search_of q.rule) q.k hs) p
    come = (whole_search q small hs).come_to

    list : lines p ≡ top q.rule q.k hs
    list = come.list ∙ exact.list

    is : (c : ℕ) → is_marked p c ≡ true ↔ Wanted q.rule q.k hs w.counts.entered c
    is c = (
      λ t. (exact.marks_are c).0 (subst (λ l. c ∈ l) come.marks_are (has_in c (marked p) t)),
      λ v. in_has c (marked p) (subst (λ l. c ∈ l) (sym come.marks_are) ((exact.marks_are c).1 v)),
    )

-- ---- which windows give the same

-- Locality: any reports of which the same count in the marked cells, whatever the others are, give the same search.
pub same_search : (q : Question) (hs hs' : List Held) → Same (counted_in (search_of q.rule) (marks (search_of q.rule) q.k hs) hs) (counted_in (search_of q.rule) (marks (search_of q.rule) q.k hs) hs') → searched_in q hs ≡ searched_in q hs'
unfolding searched
same_search q hs hs' same =
    ap₂ (λ n l. record { steps = n; question = asked q.k q.rule l (cell_at q.rule n) }) alike.same-steps alike.same_list
  where
    alike : Alike q.rule q.k hs hs'
    alike = local q.rule q.k hs hs' same

-- What stands in the rows of a fit window is searched as what it holds.
pub searched_held : (w : Window) → fit_window w ≡ true → (q : Question) → q.k ≤ 16 → searched_on q w ≡ searched_in q (held_reports w)
unfolding searched_on
searched_held w fit q small =
    if_so (searched_in q (in_rows w)) (record { steps = 0; question = q }) (le-leb q.k 16 small)
    ∙ same_search q (in_rows w) (held_reports w) both
  where
    same : Same (in_rows w) (held_reports w)
    same = rows_held w fit

    marked_in : Held → Bool
    marked_in h = has (cell h.values) (marks (search_of q.rule) q.k (in_rows w))

    both : Same (counted_in (search_of q.rule) (marks (search_of q.rule) q.k (in_rows w)) (in_rows w)) (counted_in (search_of q.rule) (marks (search_of q.rule) q.k (in_rows w)) (held_reports w))
    both =
        same-only (is_counted q.rule) (only marked_in (in_rows w)) (only marked_in (held_reports w))
        (same-only marked_in (in_rows w) (held_reports w) same)

-- ---- by calls alone

-- A question after n steps is fit, so its next step is not refused before the search's end, and is then.
module _ (w : Window) (fit : fit_window w ≡ true) (q : Question) (positive : 1 ≤ q.k) (small : q.k ≤ 16) (fits : fit_rule q.rule ≡ true) where
  abbrev hs : List Held
  hs = held_reports w

  pub reached_fit : (n : ℕ) → n ≤ most_steps q.rule → fit_question w (reached q.k q.rule hs n) ≡ true
  unfolding reached
  reached_fit n h =
      fit-asked w fit q.k q.rule l (cell_at q.rule n)
      (record {
        positive = positive;
        small = small;
        rule_fits = fits;
        cell_fits = ⊎_elim near last (lt_or_eq h);
        short = short;
      })
      (λ e m.
      let r = top_of q.rule q.k inside (subst (λ z. e ∈ z) after m) in
      moved r.2 (entries_in q.rule (only_of (λ (h : Held). has (cell h.values) stepped_lines) hs r.1).0 r.3))
      (best_falling (above q.rule) (above_strict q.rule) q.k (map (entry q.rule) (counted q.rule inside)))
    where
      stepped_lines : List ℕ
      stepped_lines = take n (visiting q.rule)

      inside : List Held
      inside = held_in (search_of q.rule) stepped_lines hs

      l : List Entry
      l = list_after (search_of q.rule) q.k hs n

      after : l ≡ top q.rule q.k inside
      after = after-top q.k small q.rule hs n

      short : length l ≤ min q.k w.counts.held
      short =
          omega (
            arith,
            ap length after,
            top_short q.rule q.k inside (pairwise_only (λ (a b : Held). a.number ≡ b.number → ⊥) (λ r. has (cell r.values) stepped_lines) hs (held_distinct w)),
            only-length (λ (r : Held). has (cell r.values) stepped_lines) hs,
            length_held w,
          )

      near : n < most_steps q.rule → next_fits q.rule (cell_at q.rule n) ≡ true
      near g = next_in q.rule (cell_at q.rule n) (cell_at_lem q.rule n g)

      last : n ≡ most_steps q.rule → next_fits q.rule (cell_at q.rule n) ≡ true
      last e = next-none q.rule (cell_at q.rule n) (get_d_past 256 (visiting q.rule) n (left_none q.rule n (le_of_eq (sym e))))

  -- every step before the end is answered, and comes to the question after one step more
  pub calls_step : (n : ℕ) → n < steps (search_of q.rule) q.k hs → step_call w (after_steps n (begun q) hs) ≡ record { refusal = 0; question = after_steps (suc n) (begun q) hs }
  unfolding after_steps
  calls_step n l =
      ap (step_call w) at
      ∙ step_goes w here fit fit_here going
      ∙ ap (λ b. record { refusal = 0; question = b }) (step_held w here fit fit_here going ∙ ap (λ b. stepped b hs) (sym at))
    where
      within : n ≤ most_steps q.rule
      within = omega (arith, steps_bounded q.rule q.k hs)

      here : Question
      here = reached q.k q.rule hs n

      at : after_steps n (begun q) hs ≡ here
      at = takes_reached q small hs n within

      fit_here : fit_question w here ≡ true
      fit_here = reached_fit n within

      going : finished here ≡ false
      going = reached_end q.k small q.rule hs n within ∙ goes_on (search_of q.rule) q.k hs n l

  -- and one more is refused 25
  pub calls_end : step_call w (searched q hs) ≡ record { refusal = 25; question = searched q hs }
  calls_end =
      step-ended w (searched q hs) fit
      (ap (fit_question w) (searched-is q small hs) ∙ reached_fit (steps (search_of q.rule) q.k hs) (steps_bounded q.rule q.k hs))
      (whole_search q small hs).has_ended
