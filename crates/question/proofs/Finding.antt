-- The list that one pass over the rows finds says where its search ended: a full list's last score decides which cells were taken.
-- Assumes nothing.
use mathlib.Core.Path.{◌≡◌, refl, sym, ap, ap₂, ◌∙◌, subst}
use mathlib.Core.Logic.{◌⊎◌, inl, inr, ⊎_elim}
use mathlib.Core.Bool.{true, false, cond}
use mathlib.Core.List.Memᴰ
use mathlib.Core.List.{List, ◌∷◌}
use Prim.Native.Nat.{ℕ, zero, suc, ◌≤◌, ◌<◌}
use native.Mathlib.Omega.{arith}
use borrow.Author.Tests.{eqb-true, eqb-false, le-leb, lt-leb}
use lib.Dec.{eqb, leb}
use lib.ListN.{length, get_or}
use Rattle.laws.specs.Lists.{◌∈◌, on_last}
use Rattle.laws.proofs.Lists.{get_d_past}
use Rattle.laws.proofs.Tests.{Tested, passed, failed, tested, if_so, if_not}
use Rattle.search.specs.Search.{steps, found}
use Rattle.search.proofs.Search.{All}
use Rattle.values.proofs.Facts.{low_in}
use Rattle.ranking.specs.declared.Reach.{Reach}
use Rattle.ranking.specs.Cells.{most_steps, cell_at, visiting, reaching, reach_of}
use Rattle.ranking.specs.Standing.{Held, Entry, above, entries, top, search_of, Permitted}
use Rattle.ranking.proofs.Entries.{above_strict}
use Rattle.ranking.proofs.Scan.{left_none}
use Rattle.ranking.proofs.Standing.{found-best, steps_all, steps-full}
use Rattle.window.specs.declared.Window.{Window}
use Rattle.window.specs.Rows.{number_in, values_in, report_at, report_in, standing}
use Rattle.list.specs.declared.Bar.{Bar}
use Rattle.list.specs.Lines.{columns_of}
use Rattle.list.specs.Rows.{rows_in}
use Rattle.list.proofs.Stored.{roomy_stored, length_shown}
use Rattle.list.proofs.Placing.{best_back}
use Rattle.list.proofs.Bars.{bar_full, bar_open}
use Rattle.question.specs.declared.Question.{Question}
use Rattle.question.specs.declared.Searched.{Searched}
use Rattle.question.specs.Lines.{lines, asked, with_list, searched, searched_in, in_rows, searched_on, searched_first, ended_of, bar_of, with_next}
use Rattle.question.specs.Inner.{line_count}

-- ---- the end

-- what stands in rows is permitted
standing-permitted : (w : Window) (n : ℕ) → All Permitted (standing w n)
standing-permitted w zero r m = absurd (Memᴰ.not-nil m)
standing-permitted w (suc n) r m = go (tested (eqb (number_in w n) 0)) (standing-permitted w n r)
  where
    go : Tested (eqb (number_in w n) 0) → (r ∈ standing w n → Permitted r) → Permitted r
    go (passed z) ih = ih (subst (λ l. r ∈ l) (if_so (standing w n) (report_in w n ∷ standing w n) z) m)
    go (failed z) ih =
        ⊎_elim
        (λ e. subst Permitted (sym e) (low_in (values_in w n))) ih
        (Memᴰ.cases_cons (subst (λ l. r ∈ l) (if_not (standing w n) (report_in w n ∷ standing w n) z) m))

module _ (q : Question) (small : q.k ≤ 16) (w : Window) (n : ℕ) where
  abbrev hs : List Held
  hs = standing w n

  abbrev list : List Entry
  list = top q.rule q.k (standing w n)

  -- the question with the list that was found
  abbrev with_it : Question
  with_it = with_list q (top q.rule q.k (standing w n))

  back : lines (with_list q (top q.rule q.k (standing w n))) ≡ top q.rule q.k (standing w n)
  back = best_back (above q.rule) (above_strict q.rule) q.k small (entries q.rule (standing w n))

  all_found : found (search_of q.rule) q.k hs ≡ list
  all_found = found-best q.rule hs (standing-permitted w n) q.k

  ending : ℕ → Searched
  ending m = record { steps = m; question = with_next with_it (cell_at q.rule m) }

  -- a search by its number of steps
  by_steps : (m : ℕ) → steps (search_of q.rule) q.k hs ≡ m → ending m ≡ searched_in q hs
  unfolding ending searched
  by_steps m e =
      ap₂ (λ j l. record { steps = j; question = asked q.k q.rule l (cell_at q.rule j) }) (sym e) (sym all_found)

  all-taken : cell_at q.rule (most_steps q.rule) ≡ 256
  all-taken = get_d_past 256 (visiting q.rule) (most_steps q.rule) (left_none q.rule (most_steps q.rule) (omega arith))

  -- the list says where its search ended
  pub ended-searched : ended_of (with_list q (top q.rule q.k (standing w n))) ≡ searched_in q (standing w n)
  unfolding ended_of ending
  ended-searched = go (tested (bar_of with_it).full)
    where
      few_lines : line_count with_it ≡ length list
      few_lines = sym (length_shown with_it.names with_it.scores (roomy_stored list) (length list) (line_count with_it) refl) ∙ ap length back

      go : Tested (bar_of with_it).full → ended_of with_it ≡ searched_in q hs
      go (passed t) =
          let full = bar_full (columns_of list) q.k (roomy_stored list) t in
          let bar = bar_of with_it in
          if_so _ _ t
          ∙ by_steps (reaching q.rule bar.score)
          (steps-full q.rule hs (standing-permitted w n) q.k full.positive full.as_many (record { name = bar.name; score = bar.score })
          (λ p. ap (on_last p) (sym back) ∙ full.last p))
      go (failed t) =
          if_not _ _ t
          ∙ ap (λ c. record { steps = most_steps q.rule; question = with_next with_it c }) (sym all-taken)
          ∙ by_steps (most_steps q.rule) (steps_all q.rule hs (standing-permitted w n) q.k (open_list (tested (eqb (length list) q.k))))
        where
          open_list : Tested (eqb (length list) q.k) → (length list ≡ q.k → ⊥) ⊎ (length list ≡ 0)
          open_list (passed m) = inr (sym few_lines ∙ bar_open (columns_of list) q.k t (eqb-true (length list) q.k m))
          open_list (failed m) = inl (eqb-false (length list) q.k m)

-- as the code tells it
module _ (q : Question) (bar : Bar) (is : bar ≡ bar_of q) where
  pub ended-full : bar.full ≡ true → (r : Reach) → r ≡ reach_of q.rule bar.score → record { steps = r.cells; question = with_next q r.next } ≡ ended_of q
  unfolding ended_of reach_of
  ended-full t r e =
      ap (λ (z : Reach). record { steps = z.cells; question = with_next q z.next }) e
      ∙ ap (λ s. record { steps = reaching q.rule s; question = with_next q (cell_at q.rule (reaching q.rule s)) }) (ap (λ (b : Bar). b.score) is)
      ∙ sym (if_so _ _ (sym (ap (λ (b : Bar). b.full) is) ∙ t))

  pub ended_open : bar.full ≡ false → record { steps = most_steps q.rule; question = with_next q 256 } ≡ ended_of q
  unfolding ended_of
  ended_open t = sym (if_not _ _ (sym (ap (λ (b : Bar). b.full) is) ∙ t))

-- ---- the search of a window's rows

module _ (q : Question) (w : Window) where
  pub first_wide : 16 < q.k → (n : ℕ) → searched_first q w n ≡ record { steps = 0; question = q }
  unfolding searched_first
  first_wide h n = if_not (searched_in q (standing w n)) (record { steps = 0; question = q }) (lt-leb q.k 16 h)

  pub first_small : q.k ≤ 16 → (n : ℕ) → ended_of (with_list q (top q.rule q.k (standing w n))) ≡ searched_first q w n
  unfolding searched_first
  first_small h n = ended-searched q h w n ∙ sym (if_so (searched_in q (standing w n)) (record { steps = 0; question = q }) (le-leb q.k 16 h))

  -- some rows are enough, where what stands in them is all that stands
  pub searched_rows : (n : ℕ) → standing w n ≡ standing w 1024 → searched_first q w n ≡ searched_on q w
  unfolding searched_first searched_on in_rows
  searched_rows n e = ap (λ hs. cond (leb q.k 16) (searched_in q hs) (record { steps = 0; question = q })) e

-- the arrays are all that a search reads of a window
standing-same : (w v : Window) → w.rows.losses ≡ v.rows.losses → w.rows.shakes ≡ v.rows.shakes → w.rows.names ≡ v.rows.names → (n : ℕ) → standing w n ≡ standing v n
standing-same w v a b c zero = refl
standing-same w v a b c (suc n) =
    ap₂ (λ (h : Held) l. cond (eqb h.number 0) l (h ∷ l)) (λ i. report_at (record { loss = get_or (a i) n 0; shake = get_or (b i) n 0; name = get_or (c i) n 0 }))
    (standing-same w v a b c n)

pub searched_arrays : (q : Question) (w : Window) → searched_on q (rows_in w.rows) ≡ searched_on q w
unfolding searched_on in_rows
searched_arrays q w =
    ap (λ hs. cond (leb q.k 16) (searched_in q hs) (record { steps = 0; question = q }))
    (standing-same (rows_in w.rows) w refl refl refl 1024)
