-- The examples P23 to P28, of tie rules: by computing the definitions, and through the calls as P9 to P11 are.
-- Assumes nothing.
use mathlib.Core.Path.{◌≡◌, refl, sym, ap, ◌∙◌}
use mathlib.Core.Bool.{true, false}
use mathlib.Core.List.{List, [], ◌∷◌}
use Prim.Native.Nat.{ℕ}
use lib.IntN.{pos}
use lib.ListN.{length, get_or, replicate}
use Rattle.laws.specs.Whole.{equal}
use Rattle.search.specs.Search.{steps, marks}
use Rattle.search.proofs.Search.{length-marks}
use Rattle.values.specs.declared.Values.{Values}
use Rattle.values.specs.declared.Edition.TheVariants.{First}
use Rattle.values.specs.Range.{in_range}
use Rattle.values.specs.Names.{named}
use Rattle.ranking.specs.declared.Rule.{Rule}
use Rattle.ranking.specs.Cells.{rule_of, tied_by, weights_fit, ranges_proper, ties_known, counts, sum, score, cell, cell_counts, best_score, before, visiting}
use Rattle.ranking.specs.Standing.{Held, Entry, goes_first, above, entries, top, passes, place_by, search_of}
use Rattle.question.specs.Lines.{lines}
use Rattle.board.specs.Work.{slot_at, leaving, enter_refusal}
use Rattle.board.proofs.Examples.{third, third_says}

-- weights 1 and 1: newest, and first-come
abbrev newest : Rule
newest = rule_of (record { loss = pos 1; shake = pos 1; heat = pos 0 })

abbrev first-come : Rule
first-come = tied_by 1 newest

abbrev pair : ℕ → ℕ → Values
pair loss shake = record { loss = loss; shake = shake; edition = First }

abbrev report : ℕ → ℕ → ℕ → Held
report number loss shake = record { number = number; values = pair loss shake }

abbrev line : ℕ → ℕ → Entry
line number score = record { name = named number First; score = pos score }

-- both 7934: 1 is the corner of cell 254, and 2 lies in cell 255
abbrev two_cells : List Held
two_cells = report 1 3839 4095 ∷ report 2 3900 4034 ∷ []

-- all 4
abbrev fours : List Held
fours = report 1 2 2 ∷ report 2 1 3 ∷ report 3 3 1 ∷ []

-- In P23 to P25 and P28: N 2, and a question set first, k 1; three entries, what the third answers, and the list after it.
pub record Examples : Type 0 where
  -- P23 and P24: P9 and P10 under first-come, where no scores are equal: the same answers
  pub p23_searches : (third first-come (pair 10 10) (pair 5 5) (pair 1 1)).searched ≡ true ∷ replicate 31 false
  pub p23_steps : get_or (third first-come (pair 10 10) (pair 5 5) (pair 1 1)).steps 0 0 ≡ 256
  pub p23_list : lines (slot_at (third first-come (pair 10 10) (pair 5 5) (pair 1 1)).board 0) ≡ line 2 10 ∷ []
  pub p24_searches : (third first-come (pair 1 1) (pair 5 5) (pair 1 2)).searched ≡ replicate 32 false
  pub p24_list : lines (slot_at (third first-come (pair 1 1) (pair 5 5) (pair 1 2)).board 0) ≡ line 2 10 ∷ []
  -- P25: P11 under first-come: the third isn't above the first, which is still listed when it leaves: a search of all cells finds the third
  pub p25_searches : (third first-come (pair 9 9) (pair 1 1) (pair 9 9)).searched ≡ true ∷ replicate 31 false
  pub p25_steps : get_or (third first-come (pair 9 9) (pair 1 1) (pair 9 9)).steps 0 0 ≡ 256
  pub p25_list : lines (slot_at (third first-come (pair 9 9) (pair 1 1) (pair 9 9)).board 0) ≡ line 3 18 ∷ []
  -- P26: equal scores in two cells: cell 255 can reach 8190, and cells 239 and 254 reach 7934, the last score, so all three are taken, and the older report in the third belongs under first-come
  pub p26_first : top first-come 1 two_cells ≡ line 1 7934 ∷ []
  pub p26_newest : top newest 1 two_cells ≡ line 2 7934 ∷ []
  pub p26_cells : marks (search_of first-come) 1 two_cells ≡ 255 ∷ 239 ∷ 254 ∷ []
  pub p26_steps : steps (search_of first-come) 1 two_cells ≡ 3
  -- P27: a full list of equal scores has no place for one more of them under first-come, and it has one under newest
  pub p27_first : (place_by first-come 2 2 (pos 4) (pos 4) ≡ false) × (top first-come 2 fours ≡ line 1 4 ∷ line 2 4 ∷ [])
  pub p27_newest : (place_by newest 2 2 (pos 4) (pos 4) ≡ true) × (top newest 2 fours ≡ line 3 4 ∷ line 2 4 ∷ [])
  -- P28: three equal reports, first-come: the second takes the place of the first, which leaves, and under newest the third has it
  pub p28_searches : (third first-come (pair 5 5) (pair 5 5) (pair 5 5)).searched ≡ true ∷ replicate 31 false
  pub p28_steps : get_or (third first-come (pair 5 5) (pair 5 5) (pair 5 5)).steps 0 0 ≡ 256
  pub p28_list : lines (slot_at (third first-come (pair 5 5) (pair 5 5) (pair 5 5)).board 0) ≡ line 2 10 ∷ []
  pub p28_newest : ((third newest (pair 5 5) (pair 5 5) (pair 5 5)).searched ≡ replicate 32 false) × (lines (slot_at (third newest (pair 5 5) (pair 5 5) (pair 5 5)).board 0) ≡ line 3 10 ∷ [])

p26_marks : marks (search_of first-come) 1 two_cells ≡ 255 ∷ 239 ∷ 254 ∷ []
unfolding steps visiting before best_score sum score counts cell_counts cell above goes_first entries equal
p26_marks = refl

pub examples : Examples
unfolding steps visiting before best_score sum score counts cell_counts cell above goes_first entries passes place_by leaving enter_refusal in_range weights_fit ranges_proper ties_known equal
examples =
    let p23 = third_says first-come refl refl refl (pair 10 10) (pair 5 5) (pair 1 1) refl refl refl in
    let p24 = third_says first-come refl refl refl (pair 1 1) (pair 5 5) (pair 1 2) refl refl refl in
    let p25 = third_says first-come refl refl refl (pair 9 9) (pair 1 1) (pair 9 9) refl refl refl in
    let p28 = third_says first-come refl refl refl (pair 5 5) (pair 5 5) (pair 5 5) refl refl refl in
    let last-season = third_says newest refl refl refl (pair 5 5) (pair 5 5) (pair 5 5) refl refl refl in
    record {
      p23_searches = p23.searched-is;
      p23_steps = p23.steps_are refl;
      p23_list = p23.list_is;
      p24_searches = p24.searched-is;
      p24_list = p24.list_is;
      p25_searches = p25.searched-is;
      p25_steps = p25.steps_are refl;
      p25_list = p25.list_is;
      p26_first = refl;
      p26_newest = refl;
      p26_cells = p26_marks;
      p26_steps = sym (length-marks (search_of first-come) 1 two_cells) ∙ ap (λ (l : List ℕ). length l) p26_marks;
      p27_first = (refl, refl);
      p27_newest = (refl, refl);
      p28_searches = p28.searched-is;
      p28_steps = p28.steps_are refl;
      p28_list = p28.list_is;
      p28_newest = (last-season.searched-is, last-season.list_is);
    }
