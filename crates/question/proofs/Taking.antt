-- What a step does to a list: the rows' reports of its cell are put in their rank one after the other and the list is cut, which is the best k of them all.
-- Assumes nothing.
use mathlib.Core.Path.{◌≡◌, sym, ap, ap₂, ◌∙◌}
use mathlib.Core.Logic.{⊎_elim}
use mathlib.Core.Bool.{true, false}
use mathlib.Core.List.Memᴰ
use mathlib.Core.List.{List, ◌∷◌, ◌++◌, append-nil}
use Prim.Native.Nat.{ℕ, suc, ◌+◌, min, ◌≤◌, ◌<◌}
use native.Mathlib.Numerals.{add-one}
use native.Mathlib.Omega.{arith}
use borrow.Author.Tests.{lt-leb, le-leb}
use lib.Dec.{eqb, leb}
use lib.ListN.{length, take, length-take}
use lib.Seq.{take-take}
use Rattle.laws.specs.Lists.{only}
use Rattle.laws.proofs.Lists.{◌⊆◌, Same, there, only_yes, only_no}
use Rattle.laws.proofs.Tests.{Tested, passed, failed, tested, and_true, and_stops, and_no, if_so, if_not}
use Rattle.search.specs.Best.{best, placed}
use Rattle.search.proofs.Best.{best_cons, best-append, best-same, length_best_le}
use Rattle.ranking.specs.declared.Rule.{Rule}
use Rattle.ranking.specs.Cells.{in_order, cell_after}
use Rattle.ranking.specs.Standing.{Held, Entry, above, is_counted, entry, entries}
use Rattle.ranking.proofs.Entries.{above_strict, entries_none, entries_cons, entries_out}
use Rattle.window.specs.declared.Window.{Window}
use Rattle.window.specs.Rows.{number_in, report_in, standing}
use Rattle.list.proofs.Stored.{fewest, lines_back}
use Rattle.question.specs.declared.Question.{Question}
use Rattle.question.specs.Lines.{lines, asked, with_list, cut_to_k, in_cell, stepped, step_on, in_rows, with_next, cut_with}
use Rattle.question.specs.Inner.{taking, list_taken}
use Rattle.question.proofs.Stored.{lines-asked}

-- the same behind others
pub same-behind : {A : Type 0} (l m n : List A) → Same m n → Same (l ++ m) (l ++ n)
same-behind {A} l m n s = (over m n s.0, over n m s.1)
  where
    over : (a b : List A) → a ⊆ b → (l ++ a) ⊆ (l ++ b)
    over a b f e k = ⊎_elim (λ h. Memᴰ.append_left b h) (λ h. Memᴰ.append_right l (f e h)) (Memᴰ.append_cases l k)

-- ---- one row

module _ (q : Question) (h : Held) where
  pub taking-none : eqb h.number 0 ≡ true → taking q h ≡ q
  unfolding taking
  taking-none e = if_so _ _ e

  pub taking_other : eqb h.number 0 ≡ false → in_cell q.next h ≡ false → taking q h ≡ q
  unfolding taking
  taking_other e f = if_not _ _ e ∙ if_not _ _ f

  pub taking_out : eqb h.number 0 ≡ false → in_cell q.next h ≡ true → is_counted q.rule h ≡ false → taking q h ≡ q
  unfolding taking
  taking_out e f g = if_not _ _ e ∙ if_so _ _ f ∙ if_not _ _ g

  pub taking_here : eqb h.number 0 ≡ false → in_cell q.next h ≡ true → is_counted q.rule h ≡ true → taking q h ≡ cut_with q (entry q.rule h)
  unfolding taking
  taking_here e f g = if_not _ _ e ∙ if_so _ _ f ∙ if_so _ _ g

-- ---- one entry

-- one entry put in its rank, and the list cut
pub joined-asked : (k : ℕ) (w : Rule) (l : List Entry) (next : ℕ) (e : Entry) → k ≤ 16 → length l ≤ 16 → cut_with (asked k w l next) e ≡ asked k w (take k (placed (above w) e l)) next
joined-asked k w l next e small r =
    ap (λ m. cut_to_k (asked k w (take 16 (placed (above w) e m)) next)) (lines-asked k w l next r)
    ∙ ap (λ m. asked k w (take k m) next) (lines-asked k w (take 16 (placed (above w) e l)) next (rw length-take (omega arith)))
    ∙ ap (λ m. asked k w m next) (take-take k 16 (placed (above w) e l) small)

-- so the best k of some entries becomes the best k of one more
pub joined-best : (k : ℕ) (w : Rule) (l : List Entry) (next : ℕ) (e : Entry) → k ≤ 16 → cut_with (asked k w (best (above w) k l) next) e ≡ asked k w (best (above w) k (e ∷ l)) next
joined-best k w l next e small =
    joined-asked k w (best (above w) k l) next e small (omega (arith, length_best_le (above w) (above_strict w) k l))
    ∙ ap (λ m. asked k w m next) (sym (best_cons (above w) (above_strict w) k e l))

-- room for k lines, or for 16, is the list with the entry cut to k
pub within-joined : (q : Question) (x : Entry) → with_list q (take (min q.k 16) (placed (above q.rule) x (lines q))) ≡ cut_with q x
within-joined q x = ap (with_list q) (fewest q.k 16 whole ∙ ap (take q.k) (sym (lines_back (take 16 whole) (rw length-take (omega arith)))))
  where
    whole : List Entry
    whole = placed (above q.rule) x (lines q)

-- ---- the rows

module _ (q : Question) (small : q.k ≤ 16) (w : Window) where
  -- one row more
  pub taken_more : (row : ℕ) → taking (list_taken q w row) (report_in w row) ≡ list_taken q w (row + 1)
  taken_more row = go (tested (eqb (number_in w row) 0)) (tested (in_cell q.next (report_in w row))) (tested (is_counted q.rule (report_in w row))) ∙ ap (list_taken q w) (sym (add-one row))
    where
      e : Entry
      e = entry q.rule (report_in w row)

      old : List Entry
      old = entries q.rule (only (in_cell q.next) (standing w row))

      listing : List Entry → Question
      listing l = with_list q (best (above q.rule) q.k l)

      rows : List Held → Question
      rows hs = listing (lines q ++ entries q.rule (only (in_cell q.next) hs))

      middle : best (above q.rule) q.k (lines q ++ (e ∷ old)) ≡ best (above q.rule) q.k (e ∷ (lines q ++ old))
      middle =
          best-same (above q.rule) (above_strict q.rule) q.k (lines q ++ (e ∷ old)) (e ∷ (lines q ++ old)) (to, from)
        where
          to : (lines q ++ (e ∷ old)) ⊆ (e ∷ (lines q ++ old))
          to z m =
              ⊎_elim (λ h. there (Memᴰ.append_left old h))
              (λ h. ⊎_elim (λ p. Memᴰ.head p) (λ t. there (Memᴰ.append_right (lines q) t)) (Memᴰ.cases_cons h))
              (Memᴰ.append_cases (lines q) m)

          from : (e ∷ (lines q ++ old)) ⊆ (lines q ++ (e ∷ old))
          from z m =
              ⊎_elim (λ p. Memᴰ.append_right (lines q) (Memᴰ.head p))
              (λ h. ⊎_elim (λ t. Memᴰ.append_left (e ∷ old) t) (λ t. Memᴰ.append_right (lines q) (there t)) (Memᴰ.append_cases (lines q) h))
              (Memᴰ.cases_cons m)

      go : Tested (eqb (number_in w row) 0) → Tested (in_cell q.next (report_in w row)) → Tested (is_counted q.rule (report_in w row)) → taking (list_taken q w row) (report_in w row) ≡ list_taken q w (suc row)
      go (passed z) t u = taking-none (list_taken q w row) (report_in w row) z ∙ ap rows (sym (if_so (standing w row) (report_in w row ∷ standing w row) z))
      go (failed z) (failed t) u =
          taking_other (list_taken q w row) (report_in w row) z t
          ∙ ap (λ hs. listing (lines q ++ entries q.rule hs)) (sym (only_no (in_cell q.next) (report_in w row) (standing w row) t))
          ∙ ap rows (sym (if_not (standing w row) (report_in w row ∷ standing w row) z))
      go (failed z) (passed t) (failed u) =
          taking_out (list_taken q w row) (report_in w row) z t u
          ∙ ap (λ l. listing (lines q ++ l)) (sym (entries_out q.rule (report_in w row) (only (in_cell q.next) (standing w row)) u))
          ∙ ap (λ hs. listing (lines q ++ entries q.rule hs)) (sym (only_yes (in_cell q.next) (report_in w row) (standing w row) t))
          ∙ ap rows (sym (if_not (standing w row) (report_in w row ∷ standing w row) z))
      go (failed z) (passed t) (passed u) =
          taking_here (list_taken q w row) (report_in w row) z t u
          ∙ joined-best q.k q.rule (lines q ++ old) q.next e small
          ∙ ap (with_list q) (sym middle)
          ∙ ap (λ l. listing (lines q ++ l)) (sym (entries_cons q.rule (report_in w row) (only (in_cell q.next) (standing w row)) u))
          ∙ ap (λ hs. listing (lines q ++ entries q.rule hs)) (sym (only_yes (in_cell q.next) (report_in w row) (standing w row) t))
          ∙ ap rows (sym (if_not (standing w row) (report_in w row ∷ standing w row) z))

  -- before the first row
  pub taken_none : with_list q (best (above q.rule) q.k (lines q)) ≡ list_taken q w 0
  taken_none = ap (λ l. with_list q (best (above q.rule) q.k l)) (sym (ap (λ l. lines q ++ l) (entries_none q.rule) ∙ append-nil (lines q)))

-- ---- a step

module _ (q : Question) (w : Window) where
  pub step_wide : 16 < q.k → step_on q w ≡ q
  unfolding step_on
  step_wide h = if_not (stepped q (in_rows w)) q (and_stops (in_order q.rule q.next) (lt-leb q.k 16 h))

  pub step-none : in_order q.rule q.next ≡ false → step_on q w ≡ q
  unfolding step_on
  step-none h = if_not (stepped q (in_rows w)) q (and_no (leb q.k 16) h)

  module _ (small : q.k ≤ 16) (left : in_order q.rule q.next ≡ true) where
    pub step_is : step_on q w ≡ stepped q (in_rows w)
    unfolding step_on
    step_is = if_so (stepped q (in_rows w)) q (and_true (le-leb q.k 16 small) left)

    pub step-taken : step_on q w ≡ with_next (list_taken q w 1024) (cell_after q.rule q.next)
    unfolding stepped in_rows
    step-taken = step_is
