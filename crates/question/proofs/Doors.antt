-- What a step and a beginning answer, case by case in the order of refusals, and that the rows of a fit window serve as its held reports.
-- Assumes nothing.
use mathlib.Core.Path.{◌≡◌, refl, sym, ap, ◌∙◌, subst}
use mathlib.Core.Bool.{true, false, ◌&&◌, and-false}
use mathlib.Core.List.{List, ◌++◌}
use Prim.Native.Nat.{ℕ, min, ◌≤◌}
use native.Mathlib.Omega.{arith}
use borrow.Author.Tests.{leb-true}
use lib.Dec.{leb}
use lib.ListN.{drop}
use Rattle.laws.specs.Lists.{only}
use Rattle.laws.proofs.Lists.{◌⊆◌, Same, only_in, only_of}
use Rattle.laws.proofs.Tests.{Tested, passed, failed, tested, clash, and_both}
use Rattle.search.proofs.Best.{best-same}
use Rattle.ranking.specs.Cells.{fit_rule, in_order, cell_after}
use Rattle.ranking.specs.Standing.{Held, Entry, above, entries}
use Rattle.ranking.proofs.Entries.{above_strict, entries-same}
use Rattle.window.specs.declared.Window.{Window}
use Rattle.window.specs.Rows.{held_reports, fit_window}
use Rattle.window.proofs.Standing.{standing_held}
use Rattle.list.specs.Lines.{lines_of, all_of, falls, blank}
use Rattle.question.specs.declared.Question.{Question}
use Rattle.question.specs.Lines.{lines, asked, in_cell, finished, begun, stepped, in_rows, step_on}
use Rattle.question.specs.Calls.{held_as, next_fits, ranges_fit, fit_question, step_call, begin_call}
use Rattle.question.proofs.Taking.{same-behind, step_is}
use Rattle.question.proofs.Ending.{finished-none}

-- ---- fitness

module _ (w : Window) (q : Question) where
  pub unfit_ranges : ranges_fit q w.counts.held ≡ false → fit_question w q ≡ false
  unfolding fit_question
  unfit_ranges e = rw e

  pub unfit_lines : ranges_fit q w.counts.held ≡ true → all_of (held_as w q.rule) (lines q) ≡ false → fit_question w q ≡ false
  unfolding fit_question
  unfit_lines e f = rw (e, f)

  pub unfit_fall : ranges_fit q w.counts.held ≡ true → all_of (held_as w q.rule) (lines q) ≡ true → falls (above q.rule) (lines q) ≡ false → fit_question w q ≡ false
  unfolding fit_question
  unfit_fall e f g = rw (e, f, g)

  pub fit-rest : ranges_fit q w.counts.held ≡ true → all_of (held_as w q.rule) (lines q) ≡ true → falls (above q.rule) (lines q) ≡ true → fit_question w q ≡ all_of blank (drop q.len (lines_of q.names q.scores))
  unfolding fit_question
  fit-rest e f g = rw (e, f, g)

-- what fitness says of the numbers
pub record Ranges (q : Question) (held : ℕ) : Type 0 where
  pub positive : 1 ≤ q.k
  pub small : q.k ≤ 16
  pub rule_fits : fit_rule q.rule ≡ true
  pub cell_fits : next_fits q.rule q.next ≡ true
  pub short : q.len ≤ min q.k held

pub ranges : (q : Question) (held : ℕ) → ranges_fit q held ≡ true → Ranges q held
unfolding ranges_fit
ranges q held h =
    let a = and_both (leb 1 q.k && leb q.k 16 && fit_rule q.rule && next_fits q.rule q.next) (leb q.len (min q.k held)) h in
    let b = and_both (leb 1 q.k && leb q.k 16 && fit_rule q.rule) (next_fits q.rule q.next) a.0 in
    let c = and_both (leb 1 q.k && leb q.k 16) (fit_rule q.rule) b.0 in
    let d = and_both (leb 1 q.k) (leb q.k 16) c.0 in
    record {
      positive = leb-true 1 q.k d.0;
      small = leb-true q.k 16 d.1;
      rule_fits = c.1;
      cell_fits = b.1;
      short = leb-true q.len (min q.k held) a.1;
    }

-- and of the list
pub record Fit (w : Window) (q : Question) : Type 0 where
  pub numbers : Ranges q w.counts.held
  pub listed : all_of (held_as w q.rule) (lines q) ≡ true
  pub falling : falls (above q.rule) (lines q) ≡ true
  pub rest : all_of blank (drop q.len (lines_of q.names q.scores)) ≡ true

pub fit_facts : (w : Window) (q : Question) → fit_question w q ≡ true → Fit w q
unfolding fit_question
fit_facts w q h =
    let A = ranges_fit q w.counts.held in
    let B = all_of (held_as w q.rule) (lines q) in
    let C = falls (above q.rule) (lines q) in
    let a = and_both (A && B && C) (all_of blank (drop q.len (lines_of q.names q.scores))) h in
    let b = and_both (A && B) C a.0 in
    let c = and_both A B b.0 in
    record { numbers = ranges q w.counts.held c.0; listed = c.1; falling = b.1; rest = a.1 }

-- ---- a step depends on which reports there are

pub stepped_same : (q : Question) (hs hs' : List Held) → Same hs hs' → stepped q hs ≡ stepped q hs'
unfolding stepped
stepped_same q hs hs' s =
    ap (λ l. asked q.k q.rule l (cell_after q.rule q.next))
    (best-same (above q.rule) (above_strict q.rule) q.k (lines q ++ new hs) (lines q ++ new hs') (same-behind (lines q) (new hs) (new hs') both))
  where
    new : List Held → List Entry
    new rs = entries q.rule (only (in_cell q.next) rs)

    here : (rs rs' : List Held) → rs ⊆ rs' → only (in_cell q.next) rs ⊆ only (in_cell q.next) rs'
    here rs rs' f h m = let o = only_of (in_cell q.next) rs m in only_in (in_cell q.next) rs' (f h o.0) o.1

    both : Same (new hs) (new hs')
    both =
        entries-same q.rule (only (in_cell q.next) hs) (only (in_cell q.next) hs')
        (here hs hs' s.0, here hs' hs s.1)

pub rows_held : (w : Window) → fit_window w ≡ true → Same (in_rows w) (held_reports w)
unfolding in_rows
rows_held w fit = standing_held w fit

-- a search that has not ended has a cell left
pub cell_left : (q : Question) → finished q ≡ false → in_order q.rule q.next ≡ true
cell_left q f = go (tested (in_order q.rule q.next))
  where
    go : Tested (in_order q.rule q.next) → in_order q.rule q.next ≡ true
    go (passed t) = t
    go (failed t) = clash (finished-none q t) f

pub step_held : (w : Window) (q : Question) → fit_window w ≡ true → fit_question w q ≡ true → finished q ≡ false → step_on q w ≡ stepped q (held_reports w)
step_held w q fits fit f =
    step_is q w (fit_facts w q fit).numbers.small (cell_left q f) ∙ stepped_same q (in_rows w) (held_reports w) (rows_held w fits)

-- ---- the answers

module _ (w : Window) (q : Question) where
  pub step_unfit : fit_window w && fit_question w q ≡ false → step_call w q ≡ record { refusal = 24; question = q }
  unfolding step_call
  step_unfit e = rw e

  pub step-ended : fit_window w ≡ true → fit_question w q ≡ true → finished q ≡ true → step_call w q ≡ record { refusal = 25; question = q }
  unfolding step_call
  step-ended e f g = rw (e, f, g)

  pub step_goes : fit_window w ≡ true → fit_question w q ≡ true → finished q ≡ false → step_call w q ≡ record { refusal = 0; question = step_on q w }
  unfolding step_call
  step_goes e f g = rw (e, f, g) (ap (λ b. record { refusal = 0; question = b }) (sym (step_held w q e f g)))

  pub begin_unfit : fit_window w && fit_question w q && finished q ≡ false → begin_call w q ≡ record { refusal = 24; question = q }
  unfolding begin_call
  begin_unfit e = rw e

  pub begin_goes : fit_window w ≡ true → fit_question w q ≡ true → finished q ≡ true → begin_call w q ≡ record { refusal = 0; question = begun q }
  unfolding begin_call
  begin_goes e f g = rw (e, f, g)
