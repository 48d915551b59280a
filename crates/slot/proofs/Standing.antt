-- What stands in a slot, over the reports held: nothing, a question with its true list and marks that guard it, or one in the middle of its search. A search
-- comes to such a list, and an entry keeps it: a mark decides whether the report can count, and a listed report that leaves has the question searched.
-- Assumes nothing.
use mathlib.Core.Path.{◌≡◌, refl, sym, ap, ◌∙◌, subst}
use mathlib.Core.Logic.{◌⊎◌, inl, inr, ⊎_elim}
use mathlib.Core.Bool.{true, false, not, ◌&&◌, and-false}
use mathlib.Core.List.{List, [], ◌∷◌}
use Prim.Native.Nat.{ℕ, suc, ◌≤◌, ◌<◌}
use native.Mathlib.Omega.{arith}
use borrow.Author.Tests.{eqb-true, eq-eqb}
use lib.Dec.{eqb}
use lib.ListN.{length}
use Rattle.laws.specs.Lists.{◌∈◌, on_last}
use Rattle.laws.specs.Whole.{equal}
use Rattle.ranking.specs.Cells.{is_none, fit_rule, cell, cell_counts, in_order, cell_at}
use Rattle.search.specs.Search.{steps}
use Rattle.ranking.specs.Standing.{Held, Entry, Permitted, above, is_counted, entry, entries, top, has_place, reaches, search_of}
use Rattle.ranking.specs.declared.Rule.{Rule}
use Rattle.laws.proofs.Tests.{Tested, passed, failed, tested, clash, and_both, and_true, or_either, or_right, if_not}
use Rattle.ranking.proofs.Cells.{before_strict, visiting_in}
use Rattle.ranking.proofs.Scan.{cell_at_lem, fit_some}
use Rattle.laws.proofs.Lists.{last_not, lt_or_eq}
use Rattle.search.proofs.Best.{best_of, best_falling, length_best_le}
use Rattle.search.proofs.Search.{in_has, goes_on}
use Rattle.ranking.proofs.Entries.{above_strict, top_short, top_cons, top_out, top_enters, is-none}
use Rattle.ranking.proofs.Standing.{steps_bounded}
use Rattle.search.proofs.Guard.{Guarded}
use Rattle.window.specs.declared.Window.{Window}
use Rattle.window.specs.Rows.{held_reports, fit_window}
use Rattle.window.proofs.Reports.{held_distinct, length_held}
use Rattle.window.proofs.Standing.{held_permitted}
use Rattle.question.specs.declared.Question.{Question}
use Rattle.list.specs.Lines.{lines_of, all_of, blank}
use Rattle.question.specs.Lines.{asked, lines, marked, is_marked, finished, empty_slot, searched, begun, stepped}
use Rattle.question.specs.Calls.{next_fits, fit_question, ranges_fit, step_call, begin_call}
use Rattle.question.proofs.Stored.{lines-asked}
use Rattle.question.proofs.Steps.{reached, reached_more, reached_none, reached_end, goes_further}
use Rattle.question.proofs.Taking.{joined-asked}
use Rattle.question.proofs.Doors.{fit_facts, step_unfit, step-ended, step_goes, step_held, begin_unfit, begin_goes}
use Rattle.question.proofs.Ending.{finished-none, finished_other}
use Rattle.question.proofs.Marking.{marked_left}
use Rattle.question.proofs.Listed.{fit-asked}
use Rattle.question.proofs.Searches.{search_finds, whole_search, searched-is, reached_fit}
use Rattle.slot.specs.Turn.{place_on, listed}
use Rattle.slot.specs.Fitness.{is_empty, slot_fit}
use Rattle.slot.proofs.Guards.{marks_guard, unmarked_same, guard_kept}
use Rattle.slot.proofs.Listing.{listed_out, listed-taken, listed_unmarked, listed_no_place}

-- The cells before the next one.
abbrev pub taken : Rule → ℕ → List ℕ
taken rule next = marked (asked 0 rule [] next)

-- What can be asked.
pub record Asks (k : ℕ) (rule : Rule) : Type 0 where
  pub positive : 1 ≤ k
  pub small : k ≤ 16
  pub rule_fits : fit_rule rule ≡ true

-- A question whose search has ended: its list is the true one of these reports, and no cell without a mark can change it.
pub record Stands (hs : List Held) (q : Question) : Type 0 where
  pub k : ℕ
  pub rule : Rule
  pub next : ℕ
  pub asks : Asks k rule
  pub cell_fits : next_fits rule next ≡ true
  pub is : q ≡ asked k rule (top rule k hs) next
  pub guarded : Guarded (search_of rule) k (taken rule next) (top rule k hs)

-- A question in the middle of its search, after n steps.
pub record Searches (w : Window) (q : Question) : Type 0 where
  pub k : ℕ
  pub rule : Rule
  pub n : ℕ
  pub asks : Asks k rule
  pub before-end : n < steps (search_of rule) k (held_reports w)
  pub is : q ≡ reached k rule (held_reports w) n

pub data Slot (w : Window) (q : Question) : Type 0 where
  empty : q ≡ empty_slot → Slot w q
  stands : Stands (held_reports w) q → Slot w q
  searches : Searches w q → Slot w q

-- ---- a search

pub search_stands : (w : Window) → fit_window w ≡ true → (q : Question) → Asks q.k q.rule → Stands (held_reports w) (searched q (held_reports w))
unfolding searched reached marked
search_stands w fit q asks =
    let hs = held_reports w in
    let n = steps (search_of q.rule) q.k hs in
    let come = (whole_search q asks.small hs).come_to in
    record {
      k = q.k;
      rule = q.rule;
      next = cell_at q.rule n;
      asks = asks;
      cell_fits = (fit_facts w (reached q.k q.rule hs n) (reached_fit w fit q asks.positive asks.small asks.rule_fits n (steps_bounded q.rule q.k hs))).numbers.cell_fits;
      is = come.stored ∙ ap (λ l. asked q.k q.rule l (cell_at q.rule n)) (search_finds w fit q asks.positive asks.small).list;
      guarded = subst (λ m. Guarded (search_of q.rule) q.k m (top q.rule q.k hs)) (sym come.marks_are) (marks_guard q.rule q.k asks.positive hs (held_permitted w fit));
    }

-- ---- a report is added

module _ (hs : List Held) (k : ℕ) (rule : Rule) (next : ℕ) (asks : Asks k rule) (guarded : Guarded (search_of rule) k (taken rule next) (top rule k hs))
    (h : Held) (permitted : Permitted h) (newest : (r : Held) → r ∈ hs → r.number < h.number) where
  room : length (top rule k hs) ≤ 16
  room = omega (arith, length_best_le (above rule) (above_strict rule) k (entries rule hs), asks.small)

  place_list : place_on (asked k rule (top rule k hs) next) (entry rule h).score ≡ has_place rule k (length (top rule k hs)) (top rule k hs) (entry rule h).score
  place_list = ap (λ l. has_place rule k (length (top rule k hs)) l (entry rule h).score) (lines-asked k rule (top rule k hs) next room)

  -- Whether it counts, whether its cell is marked, and whether it has a place on the list, comes to the best k of one report more.
  pub listed-is : listed (asked k rule (top rule k hs) next) h ≡ asked k rule (top rule k (h ∷ hs)) next
  unfolding marked is_marked
  listed-is = go (tested (is_counted rule h)) (tested (is_marked q (cell h.values))) (tested (place_on q (entry rule h).score))
    where
      q : Question
      q = asked k rule (top rule k hs) next

      same : top rule k hs ≡ top rule k (h ∷ hs) → q ≡ asked k rule (top rule k (h ∷ hs)) next
      same e = ap (λ l. asked k rule l next) e

      go : Tested (is_counted rule h) → Tested (is_marked q (cell h.values)) → Tested (place_on q (entry rule h).score) → listed q h ≡ asked k rule (top rule k (h ∷ hs)) next
      go (failed out) t u = listed_out q h out ∙ same (sym (top_out rule k h hs out))
      go (passed counts) (failed off) t =
          listed_unmarked q h counts off
          ∙ same (sym (unmarked_same rule k asks.positive (taken rule next) hs guarded h permitted (λ m. clash (in_has (cell h.values) (marked q) m) off)))
      go (passed counts) (passed on) (passed p) =
          listed-taken q h counts on p
          ∙ joined-asked k rule (top rule k hs) next (entry rule h) asks.small room
          ∙ ap (λ l. asked k rule l next) (sym (top_cons rule k h hs counts))
      go (passed counts) (passed on) (failed p) =
          listed_no_place q h counts p
          ∙ same (sym (top_enters rule k h hs newest counts ∙ if_not _ _ (sym place_list ∙ p)))

  -- The marks go on guarding the list.
  pub guard_more : Guarded (search_of rule) k (taken rule next) (top rule k (h ∷ hs))
  guard_more = guard_kept rule k asks.positive (taken rule next) hs guarded h

-- ---- fitness

module _ (w : Window) (fit : fit_window w ≡ true) where
  pub stands_fit : (q : Question) → Stands (held_reports w) q → fit_question w q ≡ true
  stands_fit q s =
      subst (λ p. fit_question w p ≡ true) (sym s.is)
      (fit-asked w fit s.k s.rule (top s.rule s.k (held_reports w)) s.next
      (record {
        positive = s.asks.positive;
        small = s.asks.small;
        rule_fits = s.asks.rule_fits;
        cell_fits = s.cell_fits;
        short = omega (arith, top_short s.rule s.k (held_reports w) (held_distinct w), length_held w);
      })
      (best_of (above s.rule) (above_strict s.rule) s.k (entries s.rule (held_reports w)))
      (best_falling (above s.rule) (above_strict s.rule) s.k (entries s.rule (held_reports w))))

  -- Its search has ended: the next cell has no mark, so it can't change the list.
  pub stands_ended : (q : Question) → Stands (held_reports w) q → finished q ≡ true
  unfolding marked is_marked finished
  stands_ended q s = ap finished s.is ∙ go (tested (in_order s.rule s.next))
    where
      p : Question
      p = asked s.k s.rule (top s.rule s.k (held_reports w)) s.next

      off : (h : in_order s.rule s.next ≡ true) → s.next ∈ taken s.rule s.next → ⊥
      off h m = clash (in_has s.next (taken s.rule s.next) m) (marked_left p h s.next h ∙ (before_strict s.rule).irreflexive s.next)

      last : (m : List Entry) → 1 ≤ length m → on_last (reaches s.rule s.next) m ≡ false → on_last (λ e. not (reaches s.rule s.next e)) m ≡ true
      last [] h e = absurd (omega arith)
      last (y ∷ m) h e = last_not (reaches s.rule s.next) y m ∙ ap not e

      ended : (h : in_order s.rule s.next ≡ true) → finished p ≡ true
      ended h =
          let g = s.guarded s.next (visiting_in s.rule s.next h) (off h) in
          let room : length (top s.rule s.k (held_reports w)) ≤ 16 = omega (arith, g.0, s.asks.small) in
          or_right (not (in_order s.rule s.next)) (eqb p.len p.k && on_last (λ e. not (reaches s.rule s.next e)) (lines p))
          (and_true (eq-eqb p.len p.k g.0)
          (ap (on_last (λ e. not (reaches s.rule s.next e))) (lines-asked s.k s.rule (top s.rule s.k (held_reports w)) s.next room)
          ∙ last (top s.rule s.k (held_reports w)) (omega (arith, g.0, s.asks.positive)) g.1))

      go : Tested (in_order s.rule s.next) → finished p ≡ true
      go (passed t) = ended t
      go (failed t) = finished-none p t

  pub searches_fit : (q : Question) → Searches w q → fit_question w q ≡ true
  searches_fit q s =
      ap (fit_question w) s.is
      ∙ reached_fit w fit (asked s.k s.rule [] 0) s.asks.positive s.asks.small s.asks.rule_fits s.n (omega (arith, s.before-end, steps_bounded s.rule s.k (held_reports w)))

  pub searches_on : (q : Question) → Searches w q → finished q ≡ false
  searches_on q s =
      ap finished s.is
      ∙ reached_end s.k s.asks.small s.rule (held_reports w) s.n (omega (arith, s.before-end, steps_bounded s.rule s.k (held_reports w)))
      ∙ goes_on (search_of s.rule) s.k (held_reports w) s.n s.before-end

-- ---- a step and a beginning

module _ (w : Window) (fit : fit_window w ≡ true) where
  empty_unfit : fit_question w empty_slot ≡ false
  unfolding fit_question ranges_fit
  empty_unfit = refl

  -- A step of a search under way is answered, and comes to one step more.
  pub step_further : (q : Question) (s : Searches w q) → step_call w q ≡ record { refusal = 0; question = reached s.k s.rule (held_reports w) (suc s.n) }
  step_further q s =
      step_goes w q fit (searches_fit w fit q s) (searches_on w fit q s)
      ∙ ap (λ p. record { refusal = 0; question = p })
      (step_held w q fit (searches_fit w fit q s) (searches_on w fit q s)
      ∙ ap (λ p. stepped p (held_reports w)) s.is
      ∙ reached_more s.k s.asks.small s.rule (held_reports w) s.n (omega (arith, s.before-end, steps_bounded s.rule s.k (held_reports w))))

  -- An empty slot is unfit for it, and a question whose search has ended is refused.
  pub step-none : step_call w empty_slot ≡ record { refusal = 24; question = empty_slot }
  step-none = step_unfit w empty_slot (ap (λ b. fit_window w && b) empty_unfit ∙ and-false (fit_window w))

  pub step_no_more : (q : Question) → Stands (held_reports w) q → step_call w q ≡ record { refusal = 25; question = q }
  step_no_more q s = step-ended w q fit (stands_fit w fit q s) (stands_ended w fit q s)

  pub step_slot : (q : Question) → Slot w q → Slot w (step_call w q).question
  step_slot q (empty e) = empty (ap (λ p. (step_call w p).question) e ∙ ap (λ r. r.question) step-none)
  step_slot q (stands s) = subst (Slot w) (sym (ap (λ r. r.question) (step_no_more q s))) (stands s)
  step_slot q (searches s) = subst (Slot w) (sym (ap (λ r. r.question) (step_further q s))) (go (lt_or_eq s.before-end))
    where
      go : (suc s.n < steps (search_of s.rule) s.k (held_reports w)) ⊎ (suc s.n ≡ steps (search_of s.rule) s.k (held_reports w)) → Slot w (reached s.k s.rule (held_reports w) (suc s.n))
      go (inl l) = searches (record { k = s.k; rule = s.rule; n = suc s.n; asks = s.asks; before-end = l; is = refl })
      go (inr e) =
          subst (Slot w)
          (searched-is (asked s.k s.rule [] 0) s.asks.small (held_reports w) ∙ ap (reached s.k s.rule (held_reports w)) (sym e))
          (stands (search_stands w fit (asked s.k s.rule [] 0) s.asks))

  pub begin_slot : (q : Question) → Slot w q → Slot w (begin_call w q).question
  begin_slot q (empty e) = empty (ap (λ p. (begin_call w p).question) e ∙ ap (λ r. r.question) (begin_unfit w empty_slot (ap (λ b. fit_window w && b && finished empty_slot) empty_unfit ∙ ap (λ b. b && finished empty_slot) (and-false (fit_window w)))))
  begin_slot q (searches s) = subst (Slot w) (sym (ap (λ r. r.question) (begin_unfit w q (ap (λ b. fit_window w && fit_question w q && b) (searches_on w fit q s) ∙ and-false (fit_window w && fit_question w q))))) (searches s)
  begin_slot q (stands s) =
      subst (Slot w) (sym (ap (λ r. r.question) (begin_goes w q fit (stands_fit w fit q s) (stands_ended w fit q s)) ∙ ap begun s.is ∙ reached_none s.k s.asks.small s.rule (held_reports w)))
      (searches (record { k = s.k; rule = s.rule; n = 0; asks = s.asks; before-end = goes_further s.k s.asks.small s.rule (held_reports w) 0 (omega arith) unfinished; is = refl }))
    where
      unfinished : finished (reached s.k s.rule (held_reports w) 0) ≡ false
      unfinished = ap finished (sym (reached_none s.k s.asks.small s.rule (held_reports w))) ∙ finished_other (asked s.k s.rule [] (cell_at s.rule 0)) (cell_at_lem s.rule 0 (fit_some s.rule s.asks.rule_fits)) (λ e. none e)
        where
          none : 0 ≡ s.k → ⊥
          none e = omega (arith, s.asks.positive)

-- ---- a fit slot

pub empty-is : is_empty empty_slot ≡ true
unfolding is_empty equal
empty-is = rw is-none

pub empty-waits : finished empty_slot ≡ false
unfolding finished in_order cell_counts
empty-waits = refl

empty_k : (q : Question) → is_empty q ≡ true → q.k ≡ 0
unfolding is_empty
empty_k q e =
    let a = eqb q.k 0 in
    let b = is_none q.rule in
    let c = eqb q.len 0 in
    let d = eqb q.next 0 in
    let r = (and_both (a && b && c && d) (all_of blank (lines_of q.names q.scores)) e).0 in
    eqb-true q.k 0 (and_both a b (and_both (a && b) c (and_both (a && b && c) d r).0).0).0

module _ (w : Window) (fit : fit_window w ≡ true) (q : Question) where
  -- No question in the middle of its search stands in one.
  pub not_searching : slot_fit w q ≡ true → Searches w q → ⊥
  unfolding slot_fit reached
  not_searching t s = ⊎_elim full ended (or_either (is_empty q) (fit_question w q && finished q) t)
    where
      full : is_empty q ≡ true → ⊥
      full e = let none : s.k ≡ 0 = sym (ap (λ p. p.k) s.is) ∙ empty_k q e in omega (arith, s.asks.positive)

      ended : fit_question w q && finished q ≡ true → ⊥
      ended e = clash (and_both (fit_question w q) (finished q) e).1 (searches_on w fit q s)

  -- One with its true list passes.
  pub stands_passes : Stands (held_reports w) q → slot_fit w q ≡ true
  unfolding slot_fit
  stands_passes s = or_right (is_empty q) (fit_question w q && finished q) (and_true (stands_fit w fit q s) (stands_ended w fit q s))

-- And so does an empty one.
pub empty-passes : (w : Window) → slot_fit w empty_slot ≡ true
unfolding slot_fit
empty-passes w = rw empty-is
