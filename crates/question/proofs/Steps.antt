-- Stepping from the beginning: after n steps the list is the best k of the first n cells, and the next cell is the one at place n, by the search's laws for one step.
-- Assumes nothing.
use mathlib.Core.Path.{◌≡◌, sym, ap, ◌∙◌}
use mathlib.Core.Logic.{⊎_elim}
use mathlib.Core.Bool.{Bool, false, not, ◌&&◌, ◌||◌}
use mathlib.Core.List.{List, [], ◌∷◌, ◌++◌, map}
use Prim.Native.Nat.{ℕ, suc, ◌+◌, ◌≤◌, ◌<◌}
use native.Mathlib.Numerals.{add-one}
use native.Mathlib.Omega.{arith}
use lib.Dec.{eqb}
use lib.ListN.{length, take, drop}
use Rattle.laws.specs.Lists.{on_last, only}
use Rattle.laws.proofs.Lists.{Same, get_d_past, lt_or_eq, only_same}
use Rattle.laws.proofs.Tests.{Tested, passed, failed, tested, clash, if_so}
use Rattle.search.specs.Best.{best}
use Rattle.search.specs.Search.{has, held_in, list_after, stops, ended, steps}
use Rattle.search.proofs.Best.{length_best_le, best-same}
use Rattle.search.proofs.Search.{list_zero, list_suc, ends}
use Rattle.ranking.specs.declared.Rule.{Rule}
use Rattle.ranking.specs.Cells.{cell, most_steps, visiting, in_order, place_of, cell_at, cell_after}
use Rattle.ranking.specs.Standing.{Held, Entry, above, counted, entry, entries, top, reaches, search_of}
use Rattle.ranking.proofs.Cells.{no_order}
use Rattle.ranking.proofs.Entries.{above_strict}
use Rattle.ranking.proofs.Scan.{place_at, cell_at_lem, left_at, left_none}
use Rattle.ranking.proofs.Standing.{steps_bounded}
use Rattle.question.specs.declared.Question.{Question}
use Rattle.question.specs.Lines.{lines, asked, in_cell, finished, stepped}
use Rattle.question.proofs.Stored.{lines-asked}
use Rattle.question.proofs.Taking.{same-behind}

-- what reports bring to a list is what a search takes them for
pub entries_search : (rule : Rule) (hs : List Held) → Same (entries rule hs) (map (entry rule) (counted rule hs))
unfolding entries
entries_search rule hs = (λ e m. m, λ e m. m)

-- a question after n steps of its search
unfoldable pub reached : ℕ → Rule → List Held → ℕ → Question
reached k w hs n = asked k w (list_after (search_of w) k hs n) (cell_at w n)

module _ (k : ℕ) (small : k ≤ 16) (w : Rule) (hs : List Held) where
  list_room : (n : ℕ) → length (list_after (search_of w) k hs n) ≤ 16
  list_room n = omega (arith, length_best_le (above w) (above_strict w) k (map (entry w) (counted w (held_in (search_of w) (take n (visiting w)) hs))))

  pub reached_lines : (n : ℕ) → lines (reached k w hs n) ≡ list_after (search_of w) k hs n
  unfolding reached
  reached_lines n = lines-asked k w (list_after (search_of w) k hs n) (cell_at w n) (list_room n)

  -- no step
  pub reached_none : asked k w [] (cell_at w 0) ≡ reached k w hs 0
  unfolding reached
  reached_none = ap (λ l. asked k w l (cell_at w 0)) (sym (list_zero (search_of w) k hs))

  -- the list after n steps, by what the reports bring to it
  pub after-top : (n : ℕ) → list_after (search_of w) k hs n ≡ top w k (held_in (search_of w) (take n (visiting w)) hs)
  after-top n =
      let inside = held_in (search_of w) (take n (visiting w)) hs in
      let same = entries_search w inside in
      best-same (above w) (above_strict w) k (map (entry w) (counted w inside)) (entries w inside) (same.1, same.0)

  -- one step more
  pub reached_more : (n : ℕ) → n < most_steps w → stepped (reached k w hs n) hs ≡ reached k w hs (suc n)
  unfolding reached stepped cell_after
  reached_more n h =
      ap (λ l. asked k w (best (above w) k (l ++ entries w (only (in_cell (cell_at w n)) hs))) after) (reached_lines n)
      ∙ ap (λ r. asked k w (best (above w) k (list_after (search_of w) k hs n ++ entries w r)) after)
      (only_same (in_cell (cell_at w n)) (λ r. has (cell r.values) (cell_at w n ∷ [])) hs (λ r m. one (cell r.values)))
      ∙ ap (λ l. asked k w l after)
      (best-same (above w) (above_strict w) k (old ++ entries w new) (old ++ map (entry w) (counted w new)) (same-behind old (entries w new) (map (entry w) (counted w new)) (entries_search w new))
      ∙ sym (list_suc (search_of w) (above_strict w) k hs n (cell_at w n) (drop (suc n) (visiting w)) (left_at w n h)))
      ∙ ap (asked k w (list_after (search_of w) k hs (suc n))) (then ∙ ap (cell_at w) (ap (λ m. m + 1) (place_at w n h) ∙ add-one n))
    where
      old : List Entry
      old = list_after (search_of w) k hs n

      new : List Held
      new = held_in (search_of w) (cell_at w n ∷ []) hs

      after : ℕ
      after = cell_after w (cell_at w n)

      then : cell_after w (cell_at w n) ≡ cell_at w (place_of w (cell_at w n) + 1)
      then = if_so (cell_at w (place_of w (cell_at w n) + 1)) 256 (cell_at_lem w n h)

      one : (c : ℕ) → eqb c (cell_at w n) ≡ has c (cell_at w n ∷ [])
      one c = go (tested (eqb c (cell_at w n)))
        where
          go : Tested (eqb c (cell_at w n)) → eqb c (cell_at w n) ≡ has c (cell_at w n ∷ [])
          go (passed e) = rw (e, has)
          go (failed e) = rw (e, has)

  -- it has ended when the search has
  pub reached_end : (n : ℕ) → n ≤ most_steps w → finished (reached k w hs n) ≡ ended (search_of w) k hs n
  unfolding reached finished
  reached_end n h = ⊎_elim some_left none (lt_or_eq h)
    where
      l : List Entry
      l = list_after (search_of w) k hs n

      short : List Entry → Bool
      short m = eqb (length l) k && on_last (λ e. not (reaches w (cell_at w n) e)) m

      some_left : n < most_steps w → finished (reached k w hs n) ≡ ended (search_of w) k hs n
      some_left g =
          ap (λ b. not b || short (lines (reached k w hs n))) (cell_at_lem w n g)
          ∙ ap short (reached_lines n)
          ∙ sym (ap (stops (search_of w) k l) (left_at w n g))

      none : n ≡ most_steps w → finished (reached k w hs n) ≡ ended (search_of w) k hs n
      none e =
          let left = left_none w n (omega arith) in
          ap (λ b. not b || short (lines (reached k w hs n))) (ap (in_order w) (get_d_past 256 (visiting w) n left) ∙ no_order w)
          ∙ sym (ap (stops (search_of w) k l) left)

  within : (n : ℕ) → n ≤ steps (search_of w) k hs → n ≤ most_steps w
  within n h = omega (arith, steps_bounded w k hs)

  -- a search that has not ended has not taken all its steps
  pub goes_further : (n : ℕ) → n ≤ steps (search_of w) k hs → finished (reached k w hs n) ≡ false → n < steps (search_of w) k hs
  goes_further n h f = ⊎_elim (λ l. l) (λ e. clash (ap (ended (search_of w) k hs) e ∙ ends (search_of w) k hs) (sym (reached_end n (within n h)) ∙ f)) (lt_or_eq h)
