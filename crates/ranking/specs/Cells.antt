-- A question's rule, the scores that it gives, the grid's cells, and the order in which a search takes them.
use Rattle.std.specs.Prelude.{Bool, true, false, not, cond, ◌&&◌, List, [], ◌∷◌, ℕ, zero, suc, ◌+◌, ◌*◌, ◌/◌, ◌%◌, min, max, ltb, leb, eqb, length, get_or, ℤ, pos, negsuc, ◌+ℤ◌, ◌*ℤ◌, Option, Some, None, is_some, unwrap_or}
use Rattle.std.specs.Int.Signed.{lt_z, le_z}
use Rattle.std.specs.Int.{w32}
use Rattle.std.proofs.Common.{SFits}
use Rattle.laws.specs.Lists.{only}
use Rattle.laws.specs.Whole.{equal}
use Rattle.search.specs.Best.{rank}
use Rattle.values.specs.declared.Values.{Values}
use Rattle.values.specs.declared.Edition.{Edition}
use Rattle.values.specs.declared.Edition.TheVariants.{First, Second}
use Rattle.values.specs.Range.{largest_value}
use Rattle.values.specs.Names.{editions, edition_of}
use Rattle.ranking.specs.declared.Weights.{Weights}
use Rattle.ranking.specs.declared.Range.{Range}
use Rattle.ranking.specs.declared.Ranges.{Ranges}
use Rattle.ranking.specs.declared.Rule.{Rule}
use Rattle.ranking.specs.declared.Reach.{Reach}

-- The grid: 16 columns by 16 rows of cells, each of 256 by 256 values.
abbrev pub side : ℕ
side = 256

abbrev pub columns : ℕ
columns = 16

abbrev pub cell_count : ℕ
cell_count = 256

-- ---- the rule

-- Rule 16.1: the values from the low end to the high end, both included.
abbrev pub inside : Range → ℕ → Bool
inside range v = leb range.low v && leb v range.high

-- Rule 16.1: where no range is given: every value that a report can have.
abbrev pub whole_range : Range
whole_range = record { low = 0; high = largest_value }

abbrev pub whole_ranges : Ranges
whole_ranges = record { loss = whole_range; shake = whole_range }

-- A question goes by its weights, its ranges and its tie rule, and by nothing else. Rule 18.1: where no tie rule is given it is 0, newest.
abbrev pub rule_within : Weights → Ranges → Rule
rule_within w ranges = record { weights = w; ranges = ranges; ties = 0 }

abbrev pub rule_of : Weights → Rule
rule_of w = rule_within w whole_ranges

-- The same question with another tie rule.
abbrev pub tied_by : ℕ → Rule → Rule
tied_by ties rule = record { weights = rule.weights; ranges = rule.ranges; ties = ties }

-- The rule of an empty slot.
abbrev pub no_range : Range
no_range = record { low = 0; high = 0 }

abbrev pub no_rule : Rule
no_rule = rule_within (record { loss = pos 0; shake = pos 0; heat = pos 0 }) (record { loss = no_range; shake = no_range })

-- All of it is 0.
abbrev pub is_no_range : Range → Bool
is_no_range range = eqb range.low 0 && eqb range.high 0

abbrev pub no_weights : Weights → Bool
no_weights w = equal w.loss (pos 0) && equal w.shake (pos 0) && equal w.heat (pos 0)

unfoldable pub is_none : Rule → Bool
is_none rule = no_weights rule.weights && eqb rule.ties 0 && (is_no_range rule.ranges.loss && is_no_range rule.ranges.shake)

-- Rule 6.1: a weight is from -1,000 to 1,000.
abbrev pub weight_fits : ℤ → Bool
weight_fits weight = le_z (negsuc 999) weight && le_z weight (pos 1000)

unfoldable pub weights_fit : Rule → Bool
weights_fit rule = weight_fits rule.weights.loss && weight_fits rule.weights.shake && weight_fits rule.weights.heat

-- Rule 16.1: a range's low end isn't above its high end, and neither is over 4095.
abbrev pub is_proper : Range → Bool
is_proper range = leb range.low range.high && leb range.high largest_value

unfoldable pub ranges_proper : Rule → Bool
ranges_proper rule = is_proper rule.ranges.loss && is_proper rule.ranges.shake

-- Rule 18.1: a tie rule is 0, newest, or 1, first-come.
unfoldable pub ties_known : Rule → Bool
ties_known rule = leb rule.ties 1

-- Every number of the rule is as it should be.
unfoldable pub fit_rule : Rule → Bool
fit_rule rule = weights_fit rule && ranges_proper rule && ties_known rule

-- ---- scores

-- Rule 17.3: a report without heat counts only where heat has no weight.
abbrev pub heat_counts : ℤ → Edition → Bool
heat_counts weight First = equal weight (pos 0)
heat_counts weight (Second heat) = true

-- Rules 16.2 and 17.3: the values count: loss and shake lie inside their ranges, and there is a heat where it has a weight.
unfoldable pub counts : Rule → Values → Bool
counts rule v =
    inside rule.ranges.loss v.loss
    && inside rule.ranges.shake v.shake
    && heat_counts rule.weights.heat v.edition

-- the heat, where there is one
abbrev pub heat_of : Edition → ℕ
heat_of First = 0
heat_of (Second heat) = heat

-- Rules 6.2 and 17.3: the weighted sum of some values.
abbrev pub weighed : Weights → Values → ℤ
weighed w v = w.loss *ℤ pos v.loss +ℤ w.shake *ℤ pos v.shake +ℤ w.heat *ℤ pos (heat_of v.edition)

unfoldable pub sum : Rule → Values → ℤ
sum rule v = weighed rule.weights v

-- Rules 6.2, 16.2 and 17.3: a report's score, where it counts.
unfoldable pub score : Rule → Values → Option ℤ
score rule v = cond (counts rule v) (Some (sum rule v)) None

-- What the answer says: whether the report counts, and its score, 0 where it doesn't.
abbrev pub is_scored : Option ℤ → Bool
is_scored answer = is_some answer

abbrev pub points : Option ℤ → ℤ
points answer = unwrap_or answer (pos 0)

-- Rule 6.2: it is one that an `i32` holds.
abbrev pub ScoreFits : Rule → Values → Type 0
ScoreFits rule v = SFits w32 (points (score rule v))

-- A score that is at least `least`; else none.
abbrev pub from_least : ℤ → Option ℤ → Option ℤ
from_least least (Some s) = cond (lt_z s least) None (Some s)
from_least least None = None

-- Rule 17.6: the values of a report whose edition is in its name.
abbrev pub values_named : ℕ → ℕ → ℕ → Values
values_named loss shake name = record { loss = loss; shake = shake; edition = edition_of (name % editions) }

-- ---- the grid

-- Rule 7.2: the cell in which a report lies.
unfoldable pub cell : Values → ℕ
cell v = columns * (v.shake / side) + v.loss / side

-- Rule 16.3: some value of a column or row lies inside the range: it isn't empty, and it neither starts behind them nor ends before them.
abbrev pub meets : Range → ℕ → Bool
meets range index =
    leb range.low range.high && leb range.low (side * index + 255) && leb (side * index) range.high

-- Rule 16.3: some values of the cell count.
unfoldable pub cell_counts : Rule → ℕ → Bool
cell_counts rule c = meets rule.ranges.loss (c % columns) && meets rule.ranges.shake (c / columns)

-- the value of a column or row that is nearest to v
abbrev pub nearest : ℕ → ℕ → ℕ
nearest v index = min (max v (side * index)) (side * index + 255)

-- Rules 7.3 and 16.4: for a weight above 0 the largest value inside column or row and range, for any other the smallest.
abbrev pub corner : ℤ → Range → ℕ → ℕ
corner weight range index =
    elim (lt_z (pos 0) weight) [ true ↦ nearest range.high index | false ↦ nearest range.low index ]

-- Rule 17.4: for a weight above 0 the largest heat, for any other the smallest.
abbrev pub corner_heat : ℤ → ℕ
corner_heat weight = elim (lt_z (pos 0) weight) [ true ↦ largest_value | false ↦ 0 ]

-- the values of a cell that count for most
abbrev pub corner_of : Rule → ℕ → Values
corner_of rule c =
    record {
      loss = corner rule.weights.loss rule.ranges.loss (c % columns);
      shake = corner rule.weights.shake rule.ranges.shake (c / columns);
      edition = Second (corner_heat rule.weights.heat);
    }

-- Rules 7.3, 16.4 and 17.4: a cell's best possible score.
unfoldable pub best_score : Rule → ℕ → ℤ
best_score rule c = sum rule (corner_of rule c)

-- ---- the order

-- a is greater than b, or they are equal and the tie holds
abbrev pub greater : ℤ → ℤ → Bool → Bool
greater a b tie = elim (lt_z b a) [ true ↦ true | false ↦ elim (lt_z a b) [ true ↦ false | false ↦ tie ] ]

-- Rule 7.4: from the greatest best possible score down; of equal ones the lower cell number first.
unfoldable pub before : Rule → ℕ → ℕ → Bool
before rule c d = greater (best_score rule c) (best_score rule d) (ltb c d)

-- the numbers below n, and then the rest
abbrev pub numbers_below : ℕ → List ℕ → List ℕ
numbers_below zero rest = rest
numbers_below (suc n) rest = numbers_below n (n ∷ rest)

-- the cells 0 to 255
abbrev pub cells : List ℕ
cells = numbers_below cell_count []

-- Rule 16.3: those of them that a search can take.
abbrev pub counted_cells : Rule → List ℕ
counted_cells rule = only (cell_counts rule) cells

-- how many they are
unfoldable pub most_steps : Rule → ℕ
most_steps rule = length (counted_cells rule)

-- these cells, in the order in which they are taken
unfoldable pub visiting : Rule → List ℕ
visiting rule = rank (before rule) (counted_cells rule)

-- c is one of them
unfoldable pub in_order : Rule → ℕ → Bool
in_order rule c = ltb c cell_count && cell_counts rule c

-- how many of them stand before c in that order
abbrev pub place_of : Rule → ℕ → ℕ
place_of rule c = length (only (λ d. cell_counts rule d && before rule d c) cells)

-- the cell that is taken after n steps; 256, where none is left
abbrev pub cell_at : Rule → ℕ → ℕ
cell_at rule n = get_or (visiting rule) n cell_count

-- the cell that is taken after c; 256, where none is left, or c isn't in the order
unfoldable pub cell_after : Rule → ℕ → ℕ
cell_after rule c = cond (in_order rule c) (cell_at rule (place_of rule c + 1)) cell_count

-- the steps of a search that takes c next: the cells before it, all of them where c isn't in the order
unfoldable pub steps_to : Rule → ℕ → ℕ
steps_to rule c = cond (in_order rule c) (place_of rule c) (most_steps rule)

-- how many cells of the order have a best possible score that is not below s
unfoldable pub reaching : Rule → ℤ → ℕ
reaching rule s = length (only (λ c. cell_counts rule c && not (lt_z (best_score rule c) s)) cells)

-- that number, and the cell that is taken after as many
unfoldable pub reach_of : Rule → ℤ → Reach
reach_of rule s = record { cells = reaching rule s; next = cell_at rule (reaching rule s) }
