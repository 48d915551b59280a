-- Reports, how they stand on a list by a question's rule, and the search of a question.
use Rattle.std.specs.Prelude.{◌≡◌, Bool, true, not, cond, ◌&&◌, ◌||◌, List, ◌∷◌, map, ℕ, ◌+◌, ltb, eqb, ℤ}
use Rattle.std.specs.Int.Signed.{lt_z, le_z}
use Rattle.laws.specs.Lists.{◌∈◌, on_last, only}
use Rattle.search.specs.Best.{best}
use Rattle.search.specs.Search.{Search}
use Rattle.values.specs.declared.Values.{Values}
use Rattle.values.specs.Range.{in_range}
use Rattle.values.specs.Names.{named}
use Rattle.ranking.specs.Cells.{weighed, score, is_scored, points, cell, best_score, greater, visiting}
use Rattle.ranking.specs.declared.Weights.{Weights}
use Rattle.ranking.specs.declared.Rule.{Rule}

-- a report that a window holds
pub record Held : Type 0 where
  pub number : ℕ
  pub values : Values

-- a line of a list: a report by its number and its edition in one (rule 17.6), and its score
pub record Entry : Type 0 where
  pub name : ℕ
  pub score : ℤ

-- ---- the rank order

-- Rule 18.1: of two reports of equal scores the later one goes first: it does under newest, and under first-come the earlier one, as under any other number.
abbrev pub later_first : Rule → Bool
later_first rule = eqb rule.ties 0

-- Rules 6.3 and 18.1: of two reports of equal scores the one of the name m goes before the one of the name n; the later report has the greater name.
unfoldable pub goes_first : Rule → (m n : ℕ) → Bool
goes_first rule m n = cond (later_first rule) (ltb n m) (ltb m n)

-- Rule 6.3: a greater score ranks above, and of equal ones the one that goes first.
unfoldable pub above : Rule → Entry → Entry → Bool
above rule e f = greater e.score f.score (goes_first rule e.name f.name)

-- Rules 16.2 and 17.3: the report counts for the question.
abbrev pub is_counted : Rule → Held → Bool
is_counted rule h = is_scored (score rule h.values)

-- those of some reports that do
abbrev pub counted : Rule → List Held → List Held
counted rule hs = only (is_counted rule) hs

-- how a report that counts stands on a list
abbrev pub entry : Rule → Held → Entry
entry rule h = record { name = named h.number h.values.edition; score = points (score rule h.values) }

-- what some reports bring to a list: each that counts its entry
unfoldable pub entries : Rule → List Held → List Entry
entries rule hs = map (entry rule) (counted rule hs)

-- Rule 6.4: the list of some reports.
abbrev pub top : Rule → ℕ → List Held → List Entry
top rule k hs = best (above rule) k (entries rule hs)

-- ---- entering

-- Rules 8.1 and 18.2: a report that enters with the score s, after all others, ranks above one of that other score: it is greater, or equal where the later goes first.
unfoldable pub passes : Rule → (s other : ℤ) → Bool
passes rule s other = greater s other (later_first rule)

-- Rule 8.1: a list has a place for that score if it has fewer than k entries, or the score passes its last: a list l of which len are counted.
unfoldable pub has_place : Rule → (k len : ℕ) → List Entry → ℤ → Bool
has_place rule k len l s = ltb len k || on_last (λ e. passes rule s e.score) l

-- The same by the last entry's score, of a list of len entries.
unfoldable pub place_by : Rule → (k len : ℕ) → (last s : ℤ) → Bool
place_by rule k len last s = ltb len k || (not (eqb len 0) && passes rule s last)

-- Values of that sum could pass that score, whatever else the rule says.
unfoldable pub might_pass : Weights → Values → ℤ → Bool
might_pass w v s = le_z s (weighed w v)

-- ---- the search

-- the cell's best possible score is not below the entry's
abbrev pub reaches : Rule → ℕ → Entry → Bool
reaches rule c e = not (lt_z (best_score rule c) e.score)

abbrev pub search_of : Rule → Search Entry Held
search_of rule =
    record {
      above = above rule;
      counts = is_counted rule;
      entry = entry rule;
      cell_of = λ h. cell h.values;
      reaches = reaches rule;
      order = visiting rule;
    }

-- ---- demand 3

-- Rules 4.2 and 17.1: values that a report can have.
abbrev pub Permitted : Held → Type 0
Permitted h = in_range h.values ≡ true

-- Rule 18.4: the number of a report that is added to a window with that many entered, with nothing dropped, and goes before all others of its score: the newest, or under first-come the oldest, whose number is below
-- all held.
unfoldable pub foremost : Rule → ℕ → ℕ
foremost rule entered = cond (later_first rule) (entered + 1) 0

-- Rules 12.3, 16.5, 17.5 and 18.4, demand 3: some permitted values of the cell c that count, a loss and a shake with a heat or without, added to the window as that report, stand on the best-k list of
-- that larger window.
pub record Wanted (rule : Rule) (k : ℕ) (hs : List Held) (entered c : ℕ) : Type 0 where
  pub added : Held
  pub numbered : added.number ≡ foremost rule entered
  pub permitted : Permitted added
  pub counted : is_counted rule added ≡ true
  pub in_cell : cell added.values ≡ c
  pub listed : entry rule added ∈ top rule k (added ∷ hs)
