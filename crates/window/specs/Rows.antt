-- A window of the latest reports, stored as a ring of rows (docs/RULES.md, section 5).
use Rattle.std.specs.Prelude.{ℕ, zero, suc, ◌+◌, ◌-◌, ◌/◌, ◌%◌, min, Bool, true, false, cond, ◌&&◌, List, [], ◌∷◌, get_or, set, replicate, leb, ltb, eqb, Result, Ok, Err}
use Rattle.refusal.specs.declared.Refusal.{Refusal}
use Rattle.refusal.specs.declared.Refusal.TheVariants.{WindowOutOfRange}
use Rattle.refusal.specs.Numbers.{number_of}
use Rattle.values.specs.declared.Values.{Values}
use Rattle.values.specs.declared.Edition.{Edition}
use Rattle.values.specs.declared.Edition.TheVariants.{First, Second}
use Rattle.values.specs.Range.{in_range, low}
use Rattle.values.specs.Names.{editions, named}
use Rattle.ranking.specs.Cells.{values_named}
use Rattle.ranking.specs.Standing.{Held}
use Rattle.window.specs.declared.Counts.{Counts}
use Rattle.window.specs.declared.Window.{Window}
use Rattle.window.specs.declared.Row.{Row}
use Rattle.window.specs.declared.Rows.{Rows}
use Rattle.window.specs.declared.Place.{Place}

-- The rows of each array: the largest N.
abbrev pub row_count : ℕ
row_count = 1024

-- Rule 5.2: so many reports can enter.
abbrev pub report_limit : ℕ
report_limit = 1000000

-- Rule 5.1: a size that a window can have.
abbrev pub sized : ℕ → Bool
sized size = leb 1 size && leb size row_count

-- Rows that hold nothing: every one is 0.
abbrev pub no_rows : Rows
no_rows = record { losses = replicate row_count 0; shakes = replicate row_count 0; names = replicate row_count 0 }

-- A window of that size with nothing entered.
abbrev pub empty : ℕ → Window
empty size = record { rows = no_rows; counts = record { size = size; entered = 0; held = 0 } }

-- Refusal 18, where N is no such size.
unfoldable pub fresh_window : ℕ → Result Window Refusal
fresh_window size = cond (sized size) (Ok (empty size)) (Err WindowOutOfRange)

-- What that comes to in numbers: the refusal's, 0 for none (rule 9.1), and the window, which is one of no rows where it is refused.
abbrev pub refusal_in : Result Window Refusal → ℕ
refusal_in (Ok w) = 0
refusal_in (Err e) = number_of e

abbrev pub window_in : Result Window Refusal → Window
window_in (Ok w) = w
window_in (Err e) = empty 0

-- ---- what a window holds

-- Report m lies in row (m - 1) mod N.
abbrev pub row_of : ℕ → ℕ → ℕ
row_of size m = (m - 1) % size

-- A row as it stands, the number in it, and the values: a row keeps a report's number and edition in one (rule 17.6).
abbrev pub row_in : Rows → ℕ → Row
row_in rows row = record { loss = get_or rows.losses row 0; shake = get_or rows.shakes row 0; name = get_or rows.names row 0 }

-- The rows with another in its place.
abbrev pub rows_with : Rows → ℕ → Row → Rows
rows_with rows at row = record { losses = set rows.losses at row.loss; shakes = set rows.shakes at row.shake; names = set rows.names at row.name }

abbrev pub row_at : Window → ℕ → Row
row_at w row = row_in w.rows row

abbrev pub number_at : Row → ℕ
number_at row = row.name / editions

abbrev pub values_at : Row → Values
values_at row = values_named row.loss row.shake row.name

abbrev pub number_in : Window → ℕ → ℕ
number_in w row = number_at (row_at w row)

abbrev pub values_in : Window → ℕ → Values
values_in w row = values_at (row_at w row)

-- The report of number m, as its row has it.
abbrev pub report_of : Window → ℕ → Held
report_of w m = record { number = m; values = values_in w (row_of w.counts.size m) }

-- The `n` reports from number m on.
abbrev pub reports_from : Window → ℕ → ℕ → List Held
reports_from w m zero = []
reports_from w m (suc n) = report_of w m ∷ reports_from w (m + 1) n

-- The oldest number that is held: the held ones are the latest, without a gap (rule 9.5).
abbrev pub oldest : Counts → ℕ
oldest c = c.entered - c.held + 1

-- The held reports, oldest first.
unfoldable pub held_reports : Window → List Held
held_reports w = reports_from w (oldest w.counts) w.counts.held

-- ---- fitness

-- How many reports came after the latest one that lies in a row of the ring.
abbrev pub age : (size entered row : ℕ) → ℕ
age size entered row = (entered + size - 1 - row) % size

-- The number that a row must hold: that of the latest report that lies there, if it is still held; 0 for none.
abbrev pub due : Counts → ℕ → ℕ
due c row = cond (ltb row c.size && ltb (age c.size c.entered row) c.held) (c.entered - age c.size c.entered row) 0

-- A row that holds nothing is 0: its edition is the first.
abbrev pub without_heat : Edition → Bool
without_heat First = true
without_heat (Second heat) = false

abbrev pub no_values : Values → Bool
no_values v = eqb v.loss 0 && eqb v.shake 0 && without_heat v.edition

-- A row holds the number that is due, with permitted values.
abbrev pub holds : (due number : ℕ) → Values → Bool
holds due number v = eqb number due && cond (eqb due 0) (no_values v) (in_range v)

-- A row of the window holds what is due there.
abbrev pub row_fit : Window → ℕ → Bool
row_fit w row = holds (due w.counts row) (number_in w row) (values_in w row)

-- The first `n` rows are fit.
unfoldable pub rows_fit : Window → ℕ → Bool
rows_fit w zero = true
rows_fit w (suc n) = rows_fit w n && row_fit w n

-- The counts are in their ranges (rules 5.1 and 5.2), and no more are held than there are rows or were entered.
abbrev pub counts_fit : Counts → Bool
counts_fit c = sized c.size && leb c.entered report_limit && leb c.held c.size && leb c.held c.entered

-- Rules 9.5 and 9.6: every stored number is in its range, the held numbers are the latest ones without a gap, and a row that holds nothing is 0.
unfoldable pub fit_window : Window → Bool
fit_window w = counts_fit w.counts && rows_fit w row_count

-- ---- entering

-- The counts with one report more.
abbrev pub grown_counts : Counts → Counts
grown_counts c = record { size = c.size; entered = c.entered + 1; held = min c.size (c.held + 1) }

-- Where the next report goes: its row, and how many are held with it.
unfoldable pub place_for : Counts → Place
place_for c = cond (sized c.size) (record { row = row_of c.size (c.entered + 1); held = (grown_counts c).held }) (record { row = 0; held = 0 })

-- The window with the next report in its row; where N are held, that row was the oldest's.
abbrev pub grown : Window → Values → Window
grown w v =
    record {
      rows =
          rows_with w.rows (row_of w.counts.size (w.counts.entered + 1))
          (record { loss = v.loss; shake = v.shake; name = named (w.counts.entered + 1) v.edition });
      counts = grown_counts w.counts;
    }

-- The window with one report more; one that can take none (rules 5.1 and 5.2) stays.
unfoldable pub added : Window → Values → Window
added w v = cond (sized w.counts.size && ltb w.counts.entered report_limit) (grown w v) w

-- ---- what stands in the rows of any window

-- What stands in a row: its number, and the low 12 bits of its values.
abbrev pub report_at : Row → Held
report_at row = record { number = number_at row; values = low (values_at row) }

abbrev pub report_in : Window → ℕ → Held
report_in w row = report_at (row_at w row)

-- The reports that stand in the first `n` rows, last row first: those of a number that isn't 0. Of a fit window they are the held ones.
abbrev pub standing : Window → ℕ → List Held
standing w zero = []
standing w (suc row) = cond (eqb (number_in w row) 0) (standing w row) (report_in w row ∷ standing w row)
