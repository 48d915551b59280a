-- One question's turn: what it answers, and that it leaves the true list of the reports that are left. The report is added where it can count; a list without one that has gone is the
-- best k of those left too, and any other is searched afresh.
-- Assumes nothing.
use mathlib.Core.Path.{◌≡◌, refl, sym, ap, ◌∙◌, subst}
use mathlib.Core.Logic.{◌↔◌}
use mathlib.Core.Bool.{Bool, true, false, not, cond, ◌&&◌, ◌||◌}
use mathlib.Core.List.{List, [], ◌∷◌}
use Prim.Native.Nat.{ℕ, zero, suc, ◌≤◌, ◌<◌}
use native.Mathlib.Omega.{arith}
use borrow.Author.Tests.{ltb-true, ltb-false, le-ltb, not-true, not-false}
use lib.Dec.{eqb, leb}
use lib.ListN.{take}
use Rattle.laws.specs.Lists.{◌∈◌}
use Rattle.values.proofs.Names.{name-number}
use Rattle.ranking.specs.Cells.{cell, visiting, steps_to}
use Rattle.ranking.specs.Standing.{Held, Entry, Permitted, above, entries, top, search_of}
use Rattle.ranking.specs.declared.Rule.{Rule}
use Rattle.laws.proofs.Tests.{Tested, passed, failed, tested, clash, or_neither, if_so, if_not}
use Rattle.laws.proofs.Lists.{◌⊆◌, here, there, moved}
use Rattle.search.proofs.Best.{best-part, length_best_le}
use Rattle.ranking.proofs.Cells.{most_cells}
use Rattle.ranking.proofs.Entries.{above_strict, entries_in, entries_of_lem, top_of}
use Rattle.ranking.proofs.Standing.{steps_bounded}
use Rattle.search.proofs.Guard.{Guarded}
use Rattle.window.specs.declared.Window.{Window}
use Rattle.window.specs.Rows.{number_in, held_reports, fit_window, report_in, standing}
use Rattle.question.specs.declared.Question.{Question}
use Rattle.question.specs.declared.Searched.{Searched}
use Rattle.list.specs.Rows.{rows_in}
use Rattle.question.specs.Lines.{asked, lines, marked, is_marked, empty_slot, searched_in, in_rows, searched_on, searched_first}
use Rattle.list.specs.Lines.{all_of}
use Rattle.question.proofs.Stored.{lines-asked}
use Rattle.list.proofs.Blank.{all_in}
use Rattle.question.proofs.Searches.{searched_held}
use Rattle.slot.specs.Asking.{searched_among}
use Rattle.slot.specs.Turn.{takes, listed, number_named, later, lists, turn}
use Rattle.slot.specs.Turn.{Turned}
use Rattle.slot.proofs.Listing.{listed_not, takes_unmarked}
use Rattle.slot.proofs.Gauges.{idle_untouched}
use Rattle.slot.proofs.Standing.{taken, Stands, search_stands, listed-is, guard_more}

-- ---- a search of some reports

pub first_among : (q : Question) (w : Window) (n : ℕ) → searched_first q w n ≡ searched_among q (standing w n)
unfolding searched_first
first_among q w n = refl

-- The arrays are all that a search reads of a window.
pub rows_alone : (w : Window) (n : ℕ) → standing (rows_in w.rows) n ≡ standing w n
rows_alone w zero = refl
rows_alone w (suc n) = ap (λ l. cond (eqb (number_in w n) 0) l (report_in w n ∷ l)) (rows_alone w n)

pub among_held : (w : Window) → fit_window w ≡ true → (q : Question) → q.k ≤ 16 → searched_among q (in_rows w) ≡ searched_in q (held_reports w)
unfolding searched_on
among_held w fit q small = searched_held w fit q small

pub among_few : (q : Question) (reports : List Held) → (searched_among q reports).steps ≤ 256
among_few q reports = go (tested (leb q.k 16))
  where
    go : Tested (leb q.k 16) → (searched_among q reports).steps ≤ 256
    go (passed t) = rw t (omega (arith, steps_bounded q.rule q.k reports, most_cells q.rule))
    go (failed t) = rw t (omega arith)

-- ---- whether a list has one that has gone

some_fails : {A : Type 0} (p : A → Bool) (l : List A) → all_of p l ≡ false → (x : A) × (x ∈ l) × (p x ≡ false)
some_fails p [] e = clash {b = true} refl e
some_fails {A} p (x ∷ l) e = go (tested (p x)) (some_fails p l)
  where
    go : Tested (p x) → (all_of p l ≡ false → (y : A) × (y ∈ l) × (p y ≡ false)) → (y : A) × (y ∈ x ∷ l) × (p y ≡ false)
    go (failed t) rest = (x, here, t)
    go (passed t) rest = let r = rest (sym (ap (λ b. b && all_of p l) t) ∙ e) in (r.0, there r.1, r.2)

-- The list names a report of a number up to that.
pub lists_when : (q : Question) (gone : ℕ) → lists q gone ≡ true ↔ ((e : Entry) × (e ∈ lines q) × (number_named e ≤ gone))
unfolding lists
lists_when q gone = (to, from)
  where
    to : not (all_of (later gone) (lines q)) ≡ true → (e : Entry) × (e ∈ lines q) × (number_named e ≤ gone)
    to t =
        let r = some_fails (later gone) (lines q) (not-true _ t) in
        (r.0, r.1, ltb-false gone (number_named r.0) r.2)

    from : (e : Entry) × (e ∈ lines q) × (number_named e ≤ gone) → not (all_of (later gone) (lines q)) ≡ true
    from r = go (tested (all_of (later gone) (lines q)))
      where
        go : Tested (all_of (later gone) (lines q)) → not (all_of (later gone) (lines q)) ≡ true
        go (passed t) = clash (all_in (later gone) (lines q) t r.0 r.1) (le-ltb gone (number_named r.0) r.2)
        go (failed t) = ap not t

pub none_gone : (q : Question) (gone : ℕ) → lists q gone ≡ false → (e : Entry) → e ∈ lines q → gone < number_named e
unfolding lists
none_gone q gone t e m = ltb-true gone (number_named e) (all_in (later gone) (lines q) (not-false _ t) e m)

-- ---- an added report changes the list only

module _ (q : Question) (h : Held) where
  pub record Same-but-list (p : Question) : Type 0 where
    pub same_k : p.k ≡ q.k
    pub same_rule : p.rule ≡ q.rule
    pub same_next : p.next ≡ q.next

  pub listed_keeps : Same-but-list (listed q h)
  unfolding listed
  listed_keeps = go (tested (takes q h.values))
    where
      go : Tested (takes q h.values) → Same-but-list (listed q h)
      go (passed t) = subst Same-but-list (sym (if_so _ _ t)) (record { same_k = refl; same_rule = refl; same_next = refl })
      go (failed t) = subst Same-but-list (sym (if_not _ _ t)) (record { same_k = refl; same_rule = refl; same_next = refl })

-- ---- what a turn answers

module _ (q : Question) (h : Held) (gone : ℕ) (reports : List Held) where
  pub turn-searched : lists (listed q h) gone ≡ true
      → turn q h gone reports ≡ record { searched = true; steps = (searched_among (listed q h) reports).steps; question = (searched_among (listed q h) reports).question }
  unfolding turn
  turn-searched e = if_so _ _ e

  pub turn_kept : lists (listed q h) gone ≡ false → turn q h gone reports ≡ record { searched = false; steps = 0; question = listed q h }
  unfolding turn
  turn_kept e = if_not _ _ e

  -- Searched exactly when one that has gone is on the list after the addition.
  pub turn_when : (turn q h gone reports).searched ≡ lists (listed q h) gone
  turn_when = go (tested (lists (listed q h) gone))
    where
      go : Tested (lists (listed q h) gone) → (turn q h gone reports).searched ≡ lists (listed q h) gone
      go (passed t) = ap (λ (r : Turned). r.searched) (turn-searched t) ∙ sym t
      go (failed t) = ap (λ (r : Turned). r.searched) (turn_kept t) ∙ sym t

  pub turn_few : (turn q h gone reports).steps ≤ 256
  turn_few = go (tested (lists (listed q h) gone))
    where
      go : Tested (lists (listed q h) gone) → (turn q h gone reports).steps ≤ 256
      go (passed t) = subst (λ (r : Turned). r.steps ≤ 256) (sym (turn-searched t)) (among_few (listed q h) reports)
      go (failed t) = subst (λ (r : Turned). r.steps ≤ 256) (sym (turn_kept t)) (omega arith)

  -- A question that takes no report and loses none stays.
  pub turn_still : takes q h.values || lists q gone ≡ false → turn q h gone reports ≡ record { searched = false; steps = 0; question = q }
  turn_still e =
      let both = or_neither (takes q h.values) (lists q gone) e in
      let same = listed_not q h both.0 in
      turn_kept (ap (λ p. lists p gone) same ∙ both.1) ∙ ap (λ p. record { searched = false; steps = 0; question = p }) same

  -- An entry changes no question without a mark on its cell, unless it lists one that has gone.
  pub turn_untouched : is_marked q (cell h.values) ≡ false → lists q gone ≡ false → turn q h gone reports ≡ record { searched = false; steps = 0; question = q }
  turn_untouched off un = turn_still (rw (takes_unmarked q h.values off, un))

  module _ (e : (turn q h gone reports).searched ≡ false) where
    left_kept : turn q h gone reports ≡ record { searched = false; steps = 0; question = listed q h }
    left_kept = turn_kept (sym turn_when ∙ e)

    -- A question that is not searched takes no steps.
    pub no_steps : (turn q h gone reports).steps ≡ 0
    no_steps = ap (λ (r : Turned). r.steps) left_kept

    -- Rule 8.4: between searches no mark changes.
    pub marks_stay : marked (turn q h gone reports).question ≡ marked q
    unfolding marked
    marks_stay =
        let s = listed_keeps q h in
        ap (λ (r : Turned). marked r.question) left_kept
        ∙ (λ i. take (steps_to (s.same_rule i) (s.same_next i)) (visiting (s.same_rule i)))

pub empty_stays : (h : Held) (gone : ℕ) (reports : List Held) → turn empty_slot h gone reports ≡ record { searched = false; steps = 0; question = empty_slot }
empty_stays h gone reports = turn_still empty_slot h gone reports (idle_untouched empty_slot gone h.values refl)

-- ---- the law

-- Those of a number up to `gone` have gone: who is left was there or is new, and none of a number past it is missing.
pub record Leaves (hs : List Held) (h : Held) (gone : ℕ) (left : List Held) : Type 0 where
  pub among : left ⊆ h ∷ hs
  pub stays : (r : Held) → r ∈ h ∷ hs → gone < r.number → r ∈ left

entries-⊆ : (rule : Rule) (l m : List Held) → l ⊆ m → entries rule l ⊆ entries rule m
entries-⊆ rule l m h e k = let r = entries_of_lem rule l k in moved r.2 (entries_in rule (h r.0 r.1) r.3)

-- A report enters where these stood, and some leave; a window holds what is left.
module _ (hs : List Held) (h : Held) (permitted : Permitted h) (newest : (r : Held) → r ∈ hs → r.number < h.number) (q : Question) (s : Stands hs q) where
  -- The question with the report added.
  pub added_is : listed q h ≡ asked s.k s.rule (top s.rule s.k (h ∷ hs)) s.next
  added_is = ap (λ p. listed p h) s.is ∙ listed-is hs s.k s.rule s.next s.asks s.guarded h permitted newest

  -- Its list.
  pub added-lines : lines (listed q h) ≡ top s.rule s.k (h ∷ hs)
  added-lines =
      ap lines added_is
      ∙ lines-asked s.k s.rule (top s.rule s.k (h ∷ hs)) s.next (omega (arith, s.asks.small, length_best_le (above s.rule) (above_strict s.rule) s.k (entries s.rule (h ∷ hs))))

  module _ (gone : ℕ) (left : List Held) (leaves : Leaves hs h gone left) where
    -- A list without one that has gone is the true list of those left.
    pub kept_list : lists (listed q h) gone ≡ false → top s.rule s.k (h ∷ hs) ≡ top s.rule s.k left
    kept_list none =
        sym
        (best-part (above s.rule) (above_strict s.rule) s.k (entries s.rule left) (entries s.rule (h ∷ hs)) (entries-⊆ s.rule left (h ∷ hs) leaves.among)
        (λ e m.
        let r = top_of s.rule s.k (h ∷ hs) m in
        let after : gone < number_named e = none_gone (listed q h) gone none e (subst (λ l. e ∈ l) (sym added-lines) m) in
        let stays = leaves.stays r.0 r.1 (subst (λ n. gone < n) (ap number_named (sym r.2) ∙ name-number r.0.number r.0.values.edition) after) in
        moved r.2 (entries_in s.rule stays r.3)))

  module _ (w : Window) (fit : fit_window w ≡ true) (gone : ℕ) (leaves : Leaves hs h gone (held_reports w)) where
    -- What a turn leaves has the true list of the reports that the window holds, and marks that guard it.
    pub turn_stands : Stands (held_reports w) (turn q h gone (in_rows w)).question
    turn_stands = go (tested (lists (listed q h) gone))
      where
        p : Question
        p = asked s.k s.rule (top s.rule s.k (h ∷ hs)) s.next

        go : Tested (lists (listed q h) gone) → Stands (held_reports w) (turn q h gone (in_rows w)).question
        go (passed t) =
            subst (Stands (held_reports w))
            (sym (ap (λ (r : Turned). r.question) (turn-searched q h gone (in_rows w) t) ∙ ap (λ x. (searched_among x (in_rows w)).question) added_is ∙ ap (λ (r : Searched). r.question) (among_held w fit p s.asks.small)))
            (search_stands w fit p s.asks)
        go (failed t) =
            let same = kept_list gone (held_reports w) leaves t in
            subst (Stands (held_reports w)) (sym (ap (λ (r : Turned). r.question) (turn_kept q h gone (in_rows w) t) ∙ added_is))
            (record {
              k = s.k;
              rule = s.rule;
              next = s.next;
              asks = s.asks;
              cell_fits = s.cell_fits;
              is = ap (λ l. asked s.k s.rule l s.next) same;
              guarded = subst (Guarded (search_of s.rule) s.k (taken s.rule s.next)) same (guard_more hs s.k s.rule s.next s.asks s.guarded h permitted newest);
            })
