-- The examples P5 to P8, P12 to P15 and P17 to P20 of the definitions: by computing them, and P8 since all scores and bounds are 0.
-- Assumes nothing.
use mathlib.Core.Path.{◌≡◌, refl, sym, ap, ◌∙◌}
use mathlib.Core.Bool.{true, not}
use mathlib.Core.List.{List, [], ◌∷◌}
use Prim.Native.Nat.{ℕ, ◌*◌}
use lib.ListN.{length}
use lib.IntN.{ℤ, pos, negsuc, ◌+ℤ◌, ◌*ℤ◌, zero-*ℤ}
use lib.Signed.{lt_z}
use Rattle.laws.specs.Lists.{◌∈◌}
use Rattle.laws.specs.Whole.{equal}
use Rattle.search.specs.Search.{steps, marks}
use Rattle.search.proofs.Search.{all-steps, length-marks}
use Rattle.values.specs.declared.Values.{Values}
use Rattle.values.specs.declared.Edition.TheVariants.{First, Second}
use Rattle.values.specs.Names.{named}
use Rattle.ranking.specs.Cells.{counts, sum, score, cell, cell_counts, best_score, before, corner_of, most_steps, visiting, whole_range, rule_of, rule_within}
use Rattle.ranking.specs.Standing.{Held, Entry, goes_first, above, entries, top, search_of, reaches}
use Rattle.ranking.specs.Inner.{stripes_of}
use Rattle.ranking.specs.declared.Range.{Range}
use Rattle.ranking.specs.declared.Rule.{Rule}
use Rattle.std.specs.Prelude.{Some, None}
use Rattle.ranking.proofs.Cells.{length-visiting, corner-best, points-sum, sum_pair}
use Rattle.ranking.proofs.Columns.{width, most_steps_lem}
use Rattle.ranking.proofs.Entries.{above_strict, entries_of_lem}

abbrev weighing : ℤ → ℤ → Rule
weighing a b = rule_of (record { loss = a; shake = b; heat = pos 0 })

abbrev report : ℕ → ℕ → ℕ → Held
report number loss shake = record { number = number; values = record { loss = loss; shake = shake; edition = First } }

-- weights 0 and 0, and all values
abbrev evenly : Rule
evenly = weighing (pos 0) (pos 0)

nothing : (v : Values) → sum evenly v ≡ pos 0
nothing v =
    sum_pair evenly refl v ∙ ap (λ z. z +ℤ pos 0 *ℤ pos v.shake) (zero-*ℤ (pos v.loss)) ∙ ap (λ z. pos 0 +ℤ z) (zero-*ℤ (pos v.shake))

every_cell : (k : ℕ) (hs : List Held) → steps (search_of evenly) k hs ≡ 256
unfolding entries width stripes_of
every_cell k hs = all-steps (search_of evenly) (above_strict evenly) k hs reached ∙ length-visiting evenly ∙ most_steps_lem evenly ∙ all-columns
  where
    all-columns : width whole_range * width whole_range ≡ 256
    all-columns = refl

    reached : (c : ℕ) (e : Entry) → e ∈ entries evenly hs → reaches evenly c e ≡ true
    reached c e m =
        let r = entries_of_lem evenly hs m in
        let high = sym (corner-best evenly c) ∙ nothing (corner_of evenly c) in
        let its : e.score ≡ pos 0 = sym (ap (λ (z : Entry). z.score) r.2) ∙ points-sum evenly r.0.values r.3 ∙ nothing r.0.values in
        ap (λ z. not (lt_z z e.score)) high ∙ ap (λ z. not (lt_z (pos 0) z)) its

abbrev line : ℕ → ℕ → Entry
line number score = record { name = named number First; score = pos score }

abbrev from_to : ℕ → ℕ → Range
from_to low high = record { low = low; high = high }

abbrev within : ℤ → ℤ → Range → Range → Rule
within a b losses shakes = rule_within (record { loss = a; shake = b; heat = pos 0 }) (record { loss = losses; shake = shakes })

-- the worst shake among reports with loss from 500 to 900
abbrev threshing : Rule
threshing = within (pos 0) (pos 1) (from_to 500 900) whole_range

abbrev threshed : List Held
threshed = report 1 700 1000 ∷ report 2 400 3000 ∷ report 3 900 1500 ∷ report 4 901 2000 ∷ []

-- three cells of each row from 15 down to 5
abbrev three_columns : List ℕ
three_columns =
    241 ∷ 242 ∷ 243 ∷ 225 ∷ 226 ∷ 227 ∷ 209 ∷ 210 ∷ 211 ∷ 193 ∷ 194 ∷ 195 ∷ 177 ∷ 178 ∷ 179 ∷ 161 ∷ 162 ∷ 163
    ∷ 145 ∷ 146 ∷ 147 ∷ 129 ∷ 130 ∷ 131 ∷ 113 ∷ 114 ∷ 115 ∷ 97 ∷ 98 ∷ 99 ∷ 81 ∷ 82 ∷ 83 ∷ []

-- loss 500 and shake 300, and nothing else
abbrev one_value : Rule
one_value = within (pos 1) (pos 2) (from_to 500 500) (from_to 300 300)

-- loss 260 to 300 and shake 520 to 600, all of them in cell 33
abbrev one_cell : Rule
one_cell = within (pos 1) (pos 2) (from_to 260 300) (from_to 520 600)

-- loss 1,000 to 1,100
abbrev unmet : Rule
unmet = within (pos 1) (pos 0) (from_to 1000 1100) whole_range

-- weights for loss and heat
abbrev with_heat : ℤ → ℤ → Rule
with_heat a c = rule_of (record { loss = a; shake = pos 0; heat = c })

abbrev heated : ℕ → ℕ → ℕ → ℕ → Held
heated number loss shake heat = record { number = number; values = record { loss = loss; shake = shake; edition = Second heat } }

abbrev heat_line : ℕ → ℕ → ℕ → Entry
heat_line number heat score = record { name = named number (Second heat); score = pos score }

-- by loss alone 1 heads them, which is of the first edition; by loss and heat 2 has 3840 + 4095 = 7935, 3 has 100 + 3000 = 3100, and 1 would have 4095 if its heat were taken for 0
abbrev mixed : List Held
mixed = report 1 4095 9 ∷ heated 2 3840 9 4095 ∷ heated 3 100 9 3000 ∷ []

-- column 15
abbrev last_column : List ℕ
last_column = 15 ∷ 31 ∷ 47 ∷ 63 ∷ 79 ∷ 95 ∷ 111 ∷ 127 ∷ 143 ∷ 159 ∷ 175 ∷ 191 ∷ 207 ∷ 223 ∷ 239 ∷ 255 ∷ []

-- by loss less heat 3 has 3839 - 0 = 3839, 2 has 3900 - 100 = 3800, and 1 would have 4095
abbrev cooled : List Held
cooled = report 1 4095 9 ∷ heated 2 3900 9 100 ∷ heated 3 3839 9 0 ∷ []

pub record Examples : Type 0 where
  -- P5: 4 steps, cells 255, 254, 239, 253
  pub p5_steps : steps (search_of (weighing (pos 1) (pos 2))) 1 (report 1 3840 3840 ∷ []) ≡ 4
  pub p5_cells : marks (search_of (weighing (pos 1) (pos 2))) 1 (report 1 3840 3840 ∷ []) ≡ 255 ∷ 254 ∷ 239 ∷ 253 ∷ []
  -- P6: 16 steps
  pub p6 : steps (search_of (weighing (negsuc 0) (pos 0))) 1 (report 1 255 7 ∷ []) ≡ 16
  -- P7: 32 steps, for a cell that equals the last score is still taken
  pub p7 : steps (search_of (weighing (negsuc 0) (pos 0))) 1 (report 1 256 7 ∷ []) ≡ 32
  -- P8: weights 0 and 0, 256 steps whatever the window holds
  pub p8 : (k : ℕ) (hs : List Held) → steps (search_of evenly) k hs ≡ 256
  -- P12: 3:1500, though 2 and 4 shake more: 33 steps
  pub p12_list : top threshing 1 threshed ≡ line 3 1500 ∷ []
  pub p12_steps : steps (search_of threshing) 1 threshed ≡ 33
  pub p12_cells : marks (search_of threshing) 1 threshed ≡ three_columns
  -- P13: a range of one value: the list is short, and its one cell is taken
  pub p13_list : top one_value 2 (report 1 500 300 ∷ report 2 500 301 ∷ []) ≡ line 1 1100 ∷ []
  pub p13_cells : marks (search_of one_value) 2 (report 1 500 300 ∷ report 2 500 301 ∷ []) ≡ 17 ∷ []
  -- P14: ranges inside one cell: its best possible score is that of 300 and 600, not of 511 and 767
  pub p14_best : best_score one_cell 33 ≡ pos 1500
  pub p14_list : top one_cell 1 (report 1 300 600 ∷ report 2 301 600 ∷ []) ≡ line 1 1500 ∷ []
  pub p14_cells : marks (search_of one_cell) 1 (report 1 300 600 ∷ report 2 301 600 ∷ []) ≡ 33 ∷ []
  -- P15: no report lies inside: an empty list, and all 32 cells of the order
  pub p15_list : top unmet 1 (report 1 10 10 ∷ report 2 2000 5 ∷ []) ≡ []
  pub p15_order : most_steps unmet ≡ 32
  pub p15_steps : steps (search_of unmet) 1 (report 1 10 10 ∷ report 2 2000 5 ∷ []) ≡ 32
  -- P17: weights 1, 0, 1 pass over 1, which has no heat: a cell of column i has the best possible score 256 i + 255 + 4095, 8190 in column 15 and 7934 in column 14, so 16 steps take column 15
  pub p17_out : score (with_heat (pos 1) (pos 1)) (report 1 4095 9).values ≡ None
  pub p17_list : top (with_heat (pos 1) (pos 1)) 1 mixed ≡ heat_line 2 4095 7935 ∷ []
  pub p17_both : top (with_heat (pos 1) (pos 1)) 3 mixed ≡ heat_line 2 4095 7935 ∷ heat_line 3 3000 3100 ∷ []
  pub p17_best : (best_score (with_heat (pos 1) (pos 1)) 15 ≡ pos 8190) × (best_score (with_heat (pos 1) (pos 1)) 14 ≡ pos 7934)
  pub p17_steps : steps (search_of (with_heat (pos 1) (pos 1))) 1 mixed ≡ 16
  pub p17_cells : marks (search_of (with_heat (pos 1) (pos 1))) 1 mixed ≡ last_column
  -- P18: the same reports by weights 1, 0, 0: 1 counts, and no heat is looked at
  pub p18_in : score (with_heat (pos 1) (pos 0)) (report 1 4095 9).values ≡ Some (pos 4095)
  pub p18_list : top (with_heat (pos 1) (pos 0)) 3 mixed ≡ line 1 4095 ∷ heat_line 2 4095 3840 ∷ heat_line 3 3000 100 ∷ []
  -- P19: weights 1, 0, -1 take heat 0 for the best: 256 i + 255, 3839 in column 14, which equals the last score, so 32 steps take columns 15 and 14
  pub p19_list : top (with_heat (pos 1) (negsuc 0)) 3 cooled ≡ heat_line 3 0 3839 ∷ heat_line 2 100 3800 ∷ []
  pub p19_best : (best_score (with_heat (pos 1) (negsuc 0)) 15 ≡ pos 4095) × (best_score (with_heat (pos 1) (negsuc 0)) 14 ≡ pos 3839)
  pub p19_steps : steps (search_of (with_heat (pos 1) (negsuc 0))) 1 cooled ≡ 32
  -- P20: ranges stay on loss and shake: 300 + 2 x 600 + 3 x 4095 is the best of cell 33
  pub p20_best : best_score (rule_within (record { loss = pos 1; shake = pos 2; heat = pos 3 }) one_cell.ranges) 33 ≡ pos 13785

-- as many steps as cells that a search marks
told : (rule : Rule) (k : ℕ) (hs : List Held) {cs : List ℕ} → marks (search_of rule) k hs ≡ cs → steps (search_of rule) k hs ≡ length cs
told rule k hs e = sym (length-marks (search_of rule) k hs) ∙ ap (λ (l : List ℕ). length l) e

p5_marks : marks (search_of (weighing (pos 1) (pos 2))) 1 (report 1 3840 3840 ∷ []) ≡ 255 ∷ 254 ∷ 239 ∷ 253 ∷ []
unfolding steps visiting before best_score sum score counts cell_counts cell above goes_first entries equal
p5_marks = refl

p12_marks : marks (search_of threshing) 1 threshed ≡ three_columns
unfolding steps visiting before best_score sum score counts cell_counts cell above goes_first entries equal
p12_marks = refl

p17_marks : marks (search_of (with_heat (pos 1) (pos 1))) 1 mixed ≡ last_column
unfolding steps visiting before best_score sum score counts cell_counts cell above goes_first entries equal
p17_marks = refl

pub examples : Examples
unfolding steps visiting before best_score sum score counts cell_counts cell above goes_first entries most_steps equal
examples =
    record {
      p5_steps = told (weighing (pos 1) (pos 2)) 1 (report 1 3840 3840 ∷ []) p5_marks;
      p5_cells = p5_marks;
      p6 = refl;
      p7 = refl;
      p8 = every_cell;
      p12_list = refl;
      p12_steps = told threshing 1 threshed p12_marks;
      p12_cells = p12_marks;
      p13_list = refl;
      p13_cells = refl;
      p14_best = refl;
      p14_list = refl;
      p14_cells = refl;
      p15_list = refl;
      p15_order = refl;
      p15_steps = refl;
      p17_out = refl;
      p17_list = refl;
      p17_both = refl;
      p17_best = (refl, refl);
      p17_steps = told (with_heat (pos 1) (pos 1)) 1 mixed p17_marks;
      p17_cells = p17_marks;
      p18_in = refl;
      p18_list = refl;
      p19_list = refl;
      p19_best = (refl, refl);
      p19_steps = refl;
      p20_best = refl;
    }
