-- What the inner functions of the scan over the cells answer; no public contract cites it. A number from 256 on is no cell.
use Rattle.std.specs.Prelude.{Bool, true, false, ◌&&◌, cond, ◌≡◌, List, ℕ, suc, ◌+◌, ◌-◌, zero, ◌*◌, ◌/◌, ◌%◌, ◌<◌, min, ltb, leb, length, get_or, ℤ, pos, negsuc, ◌+ℤ◌, ◌*ℤ◌}
use Rattle.std.specs.Int.Signed.{lt_z}
use Rattle.std.specs.Int.{w16}
use Rattle.std.proofs.Common.{SFits}
use Rattle.laws.specs.Whole.{equal}
use Rattle.values.specs.declared.Values.{Values}
use Rattle.values.specs.declared.Edition.{Edition}
use Rattle.values.specs.declared.Edition.TheVariants.{First, Second}
use Rattle.values.specs.Range.{largest_value}
use Rattle.values.specs.Names.{editions, edition_of}
use Rattle.ranking.specs.Cells.{side, columns, cell_count, cell_counts, corner, corner_heat, best_score, before, place_of}
use Rattle.ranking.specs.Standing.{later_first}
use Rattle.ranking.specs.declared.Weights.{Weights}
use Rattle.ranking.specs.declared.Range.{Range}
use Rattle.ranking.specs.declared.Stripes.{Stripes}
use Rattle.ranking.specs.declared.Rule.{Rule}
use Rattle.ranking.specs.declared.Sought.{Sought}

-- c stands before d, if both are cells
abbrev pub leads : Rule → ℕ → ℕ → Bool
leads rule c d = elim (ltb c cell_count) [ true ↦ elim (ltb d cell_count) [ true ↦ before rule c d | false ↦ true ] | false ↦ true ]

-- d is in the order, and stands behind `from`, if that is a cell
abbrev pub follows : Rule → ℕ → ℕ → Bool
follows rule from d = cell_counts rule d && leads rule from d

-- of the cell found so far and d, the one that follows `from` sooner
abbrev pub nearer : Rule → ℕ → ℕ → ℕ → ℕ
nearer rule from found d = elim (follows rule from d && leads rule d found) [ true ↦ d | false ↦ found ]

-- the place after that of `from`; the first, where `from` is no cell
abbrev pub place_after : Rule → ℕ → ℕ
place_after rule from = elim (ltb from cell_count) [ true ↦ suc (place_of rule from) | false ↦ 0 ]

-- of two names that a `u32` holds the one with the greater such number goes first
unfoldable pub key_of : Rule → ℕ → ℕ
key_of rule name = cond (later_first rule) name (4294967295 - name)

-- a best score that none is below
abbrev pub no_best : ℤ
no_best = negsuc 2147483647

-- one cell more, of a greater number than those before: it counts, or it is below the score s and taken sooner than the others that are, or not
unfoldable pub met : Sought → ℕ → ℤ → ℤ → Sought
met at c best s =
    cond (lt_z best s)
    (cond (lt_z at.best best) (record { cells = at.cells; next = c; best = best }) at)
    (record { cells = at.cells + 1; next = at.next; best = at.best })

-- what the best loss of a column, the best heat, and the best shake of a row with it, count for
unfoldable pub loss_part : Rule → ℕ → ℤ
loss_part rule column = rule.weights.loss *ℤ pos (corner rule.weights.loss rule.ranges.loss column)

abbrev pub heat_part : ℤ → ℤ
heat_part weight = weight *ℤ pos (corner_heat weight)

unfoldable pub row_part : Rule → ℕ → ℤ
row_part rule row = rule.weights.shake *ℤ pos (corner rule.weights.shake rule.ranges.shake row) +ℤ heat_part rule.weights.heat

-- what a loss and a shake count for, and the values with the heat that counts for most
abbrev pub pair_part : Weights → Values → ℤ
pair_part w v = w.loss *ℤ pos v.loss +ℤ w.shake *ℤ pos v.shake

abbrev pub hottest : Weights → Values → Values
hottest w v = record { loss = v.loss; shake = v.shake; edition = Second (corner_heat w.heat) }

-- the edition in a name; where heat has no weight it is all one, and the first
abbrev pub edition_by : Weights → ℕ → Edition
edition_by w name = cond (equal w.heat (pos 0)) First (edition_of (name % editions))

-- the weights have 16 bits
pub record Words (w : Weights) : Type 0 where
  pub loss : SFits w16 w.loss
  pub shake : SFits w16 w.shake
  pub heat : SFits w16 w.heat

-- an array of what the best loss of each column counts for
pub record Across (rule : Rule) (parts : List ℤ) : Type 0 where
  pub words : Words rule.weights
  pub whole : length parts ≡ columns
  pub each : (column : ℕ) → column < columns → get_or parts column (pos 0) ≡ loss_part rule column

-- those of the first n cells of a row that are in the order, one after the other
unfoldable pub met_row : Rule → ℤ → Sought → ℕ → ℕ → Sought
met_row rule s at row zero = at
met_row rule s at row (suc n) =
    cond (cell_counts rule (columns * row + n))
    (met (met_row rule s at row n) (columns * row + n) (best_score rule (columns * row + n)) s)
    (met_row rule s at row n)

-- the columns or rows that have a value inside the range: from the first up to the end; none of them, where there is no such value
unfoldable pub stripes_of : Range → Stripes
stripes_of range =
    cond (leb range.low range.high && leb range.low largest_value)
    (record { first = range.low / side; end = min (range.high / side) 15 + 1 })
    (record { first = 0; end = 0 })

-- of such columns the one whose best loss counts for most, the first of several such
abbrev pub edge_of : ℤ → Stripes → ℕ
edge_of weight at = cond (lt_z (pos 0) weight) (at.end - 1) at.first

-- the cell c of a row is in the order, and stands there before the others of the row
pub record FirstOf (rule : Rule) (row c : ℕ) : Type 0 where
  pub column : ℕ
  pub within : column < columns
  pub is : c ≡ columns * row + column
  pub counts : cell_counts rule c ≡ true
  pub sooner : (i : ℕ) → i < column → cell_counts rule (columns * row + i) ≡ true → lt_z (best_score rule (columns * row + i)) (best_score rule c) ≡ true
  pub later : (i : ℕ) → column < i → i < columns → cell_counts rule (columns * row + i) ≡ true → lt_z (best_score rule c) (best_score rule (columns * row + i)) ≡ false
