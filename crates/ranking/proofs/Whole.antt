-- Without ranges and a weight for heat a question is what one of two weights alone was: every permitted report counts, whatever its edition, every cell is in the order, and each corner is the cell's own.
-- Assumes nothing.
use mathlib.Core.Path.{◌≡◌, refl, sym, ap, ap₂, ◌∙◌}
use mathlib.Core.Logic.{◌↔◌}
use mathlib.Core.Bool.{Bool, true, false, ◌&&◌}
use mathlib.Core.List.{List, ◌∷◌, map}
use Prim.Native.Nat.{ℕ, ◌+◌, ◌*◌, ◌/◌, ◌%◌, ◌<◌, min}
use native.Mathlib.Omega.{arith}
use borrow.Author.Tests.{ltb-true}
use lib.Dec.{ltb}
use lib.IntN.{ℤ, pos, ◌+ℤ◌, ◌*ℤ◌}
use lib.ListN.{length}
use lib.Signed.{lt_z, le_z}
use Rattle.laws.specs.Lists.{◌∈◌}
use Rattle.laws.proofs.Lists.{Pairwise, Same, only-all, same-only}
use Rattle.laws.proofs.Tests.{Tested, passed, failed, tested, and_true, and_stops, and_so}
use Rattle.search.specs.Best.{rank}
use Rattle.search.specs.Search.{held_in, marks}
use Rattle.search.proofs.Search.{All}
use Rattle.values.specs.declared.Values.{Values}
use Rattle.values.specs.Range.{in_range}
use Rattle.values.specs.Names.{named}
use Rattle.values.proofs.Facts.{range_facts}
use Rattle.ranking.specs.Cells.{side, columns, whole_range, rule_of, weight_fits, weights_fit, ranges_proper, ties_known, fit_rule, greater, points, counts, score, cell, cell_counts, nearest, corner, corner_of, best_score, before, cells, counted_cells, most_steps, visiting, in_order}
use Rattle.ranking.specs.Standing.{Held, Entry, goes_first, above, is_counted, counted, entry, entries, top, passes, search_of, Permitted, foremost, Wanted}
use Rattle.ranking.specs.declared.Rule.{Rule}
use Rattle.std.specs.Prelude.{Option, Some}
use Rattle.ranking.proofs.Cells.{inside_is, meets-is, corner_high, corner-low, column, row, cells_of, scored_counts, score-counted, counts_pair, sum_pair}
use Rattle.ranking.proofs.Editions.{as_first, Apart, AnyEdition, any_edition}
use Rattle.ranking.proofs.Entries.{passes-least, length-top}
use Rattle.ranking.proofs.Standing.{Alike, local}

-- ---- what was said of a question before it had ranges and a weight for heat

-- the weighted sum of a loss and a shake
abbrev pub weighed_pair : (a b : ℤ) → (loss shake : ℕ) → ℤ
weighed_pair a b loss shake = a *ℤ pos loss +ℤ b *ℤ pos shake

-- for a weight above 0 the largest value in a cell, for any other the smallest
abbrev pub cell_corner : ℤ → ℕ → ℕ
cell_corner weight index = elim (lt_z (pos 0) weight) [ true ↦ side * index + 255 | false ↦ side * index ]

-- a cell's best possible score
abbrev pub cell_best : (a b : ℤ) → ℕ → ℤ
cell_best a b c = weighed_pair a b (cell_corner a (c % columns)) (cell_corner b (c / columns))

-- some permitted values of the cell, added as that report, stand on the list
pub record WantedOfAll (rule : Rule) (k : ℕ) (hs : List Held) (entered c : ℕ) : Type 0 where
  pub added : Held
  pub numbered : added.number ≡ foremost rule entered
  pub permitted : Permitted added
  pub in_cell : cell added.values ≡ c
  pub listed : entry rule added ∈ top rule k (added ∷ hs)

-- the question of two weights
abbrev pub rule_of_two : (a b : ℤ) → Rule
rule_of_two a b = rule_of (record { loss = a; shake = b; heat = pos 0 })

-- ---- it follows

corner-whole : (weight : ℤ) (index : ℕ) → index < 16 → corner weight whole_range index ≡ cell_corner weight index
corner-whole weight index h = go (tested (lt_z (pos 0) weight))
  where
    chosen : Bool → ℕ
    chosen b = elim b [ true ↦ side * index + 255 | false ↦ side * index ]

    largest : nearest 4095 index ≡ 256 * index + 255
    largest = omega arith

    smallest : nearest 0 index ≡ 256 * index
    smallest = omega arith

    go : Tested (lt_z (pos 0) weight) → corner weight whole_range index ≡ cell_corner weight index
    go (passed e) = corner_high weight whole_range index e ∙ largest ∙ sym (ap chosen e)
    go (failed e) = corner-low weight whole_range index e ∙ smallest ∙ sym (ap chosen e)

module _ (a b : ℤ) where
  abbrev rule : Rule
  rule = rule_of_two a b

  all-count : (v : Values) → in_range v ≡ true → counts rule v ≡ true
  all-count v e =
      let f = range_facts v e in
      counts_pair rule refl v
      ∙ and_true (inside_is whole_range v.loss (record { from_low = omega arith; to_high = f.loss_fits }))
      (inside_is whole_range v.shake (record { from_low = omega arith; to_high = f.shake_fits }))

  scored : (v : Values) → in_range v ≡ true → score rule v ≡ Some (weighed_pair a b v.loss v.shake)
  scored v e = score-counted rule v (all-count v e) ∙ ap Some (sum_pair rule refl v)

  all-counted : (hs : List Held) → All Permitted hs → counted rule hs ≡ hs
  all-counted hs p = only-all (is_counted rule) hs (λ h m. scored_counts rule h.values ∙ all-count h.values (p h m))

  all-cells : (c : ℕ) → c < 256 → cell_counts rule c ≡ true
  unfolding cell_counts
  all-cells c h =
      and_true (meets-is whole_range (c % 16) (record { in_order_lem = omega arith; starts = omega arith; ends = omega (arith, column c) }))
      (meets-is whole_range (c / 16) (record { in_order_lem = omega arith; starts = omega arith; ends = omega (arith, row c h) }))

  every_cell : counted_cells rule ≡ cells
  every_cell = only-all (cell_counts rule) cells (λ c m. all-cells c (cells_of c m))

  as_many : most_steps rule ≡ 256
  unfolding most_steps
  as_many = ap (λ (l : List ℕ). length l) every_cell

  in_turn : visiting rule ≡ rank (before rule) cells
  unfolding visiting
  in_turn = ap (rank (before rule)) every_cell

  best-is : (c : ℕ) → c < 256 → best_score rule c ≡ cell_best a b c
  unfolding best_score
  best-is c h =
      sum_pair rule refl (corner_of rule c)
      ∙ ap₂ (weighed_pair a b) (corner-whole a (c % 16) (column c)) (corner-whole b (c / 16) (row c h))

  earlier_is : (c d : ℕ) → c < 256 → d < 256 → before rule c d ≡ greater (cell_best a b c) (cell_best a b d) (ltb c d)
  unfolding before
  earlier_is c d h l = ap₂ (λ x y. greater x y (ltb c d)) (best-is c h) (best-is d l)

  entry-is : (h : Held) → Permitted h → entry rule h ≡ record { name = named h.number h.values.edition; score = weighed_pair a b h.values.loss h.values.shake }
  entry-is h p = ap (λ (s : Option ℤ). record { name = named h.number h.values.edition; score = points s }) (scored h.values p)

  all-entries : (hs : List Held) → All Permitted hs → entries rule hs ≡ map (entry rule) hs
  unfolding entries
  all-entries hs p = ap (map (entry rule)) (all-counted hs p)

  as_wanted : (k : ℕ) (hs : List Held) (entered c : ℕ) → Wanted rule k hs entered c ↔ WantedOfAll rule k hs entered c
  as_wanted k hs entered c = (
    λ x. record { added = x.added; numbered = x.numbered; permitted = x.permitted; in_cell = x.in_cell; listed = x.listed },
    λ x. record {
      added = x.added;
      numbered = x.numbered;
      permitted = x.permitted;
      counted = scored_counts rule x.added.values ∙ all-count x.added.values x.permitted;
      in_cell = x.in_cell;
      listed = x.listed;
    },
  )

-- A question with those weights for loss and shake, none for heat, and no range, whose ties go to the newest.
pub record AsBefore (a b : ℤ) : Type 0 where
  pub proper : ranges_proper (rule_of_two a b) ≡ true
  pub fits : fit_rule (rule_of_two a b) ≡ weight_fits a && weight_fits b
  pub scores : (v : Values) → in_range v ≡ true → score (rule_of_two a b) v ≡ Some (weighed_pair a b v.loss v.shake)
  pub best-scores : (c : ℕ) → c < 256 → best_score (rule_of_two a b) c ≡ cell_best a b c
  pub ranked : (e f : Entry) → above (rule_of_two a b) e f ≡ greater e.score f.score (ltb f.name e.name)
  pub passed_by : (s other : ℤ) → passes (rule_of_two a b) s other ≡ le_z other s
  pub newest : (entered : ℕ) → foremost (rule_of_two a b) entered ≡ entered + 1
  pub earlier : (c d : ℕ) → c < 256 → d < 256 → before (rule_of_two a b) c d ≡ greater (cell_best a b c) (cell_best a b d) (ltb c d)
  pub order : visiting (rule_of_two a b) ≡ rank (before (rule_of_two a b)) cells
  pub ordered : (c : ℕ) → in_order (rule_of_two a b) c ≡ ltb c 256
  pub most : most_steps (rule_of_two a b) ≡ 256
  pub enters : (h : Held) → Permitted h → entry (rule_of_two a b) h ≡ record { name = named h.number h.values.edition; score = weighed_pair a b h.values.loss h.values.shake }
  pub brought : (hs : List Held) → All Permitted hs → entries (rule_of_two a b) hs ≡ map (entry (rule_of_two a b)) hs
  pub list_length : (k : ℕ) (hs : List Held) → All Permitted hs → Pairwise (λ (g h : Held). g.number ≡ h.number → ⊥) hs → length (top (rule_of_two a b) k hs) ≡ min k (length hs)
  pub wanted : (k : ℕ) (hs : List Held) (entered c : ℕ) → Wanted (rule_of_two a b) k hs entered c ↔ WantedOfAll (rule_of_two a b) k hs entered c
  pub same-marked : (k : ℕ) (hs hs' : List Held) → Same (held_in (search_of (rule_of_two a b)) (marks (search_of (rule_of_two a b)) k hs) hs) (held_in (search_of (rule_of_two a b)) (marks (search_of (rule_of_two a b)) k hs) hs') → Alike (rule_of_two a b) k hs hs'
  -- whatever the editions
  pub editions : (k : ℕ) (hs hs' : List Held) → Apart hs → map as_first hs ≡ map as_first hs' → AnyEdition (rule_of_two a b) k hs hs'

pub as_before : (a b : ℤ) → AsBefore a b
unfolding fit_rule weights_fit ranges_proper ties_known above goes_first foremost in_order
as_before a b =
    record {
      proper = refl;
      fits = and_so (weight_fits a && weight_fits b && true && true) ∙ and_so (weight_fits a && weight_fits b && true) ∙ and_so (weight_fits a && weight_fits b);
      scores = scored a b;
      best-scores = best-is a b;
      ranked = λ e f. refl;
      passed_by = passes-least (rule_of_two a b) refl;
      newest = λ entered. refl;
      earlier = earlier_is a b;
      order = in_turn a b;
      ordered = λ c. ordered c (tested (ltb c 256));
      most = as_many a b;
      enters = entry-is a b;
      brought = all-entries a b;
      list_length = λ k hs p distinct. length-top (rule_of_two a b) k hs distinct ∙ ap (λ (l : List Held). min k (length l)) (all-counted a b hs p);
      wanted = as_wanted a b;
      same-marked = λ k hs hs' same. local (rule_of_two a b) k hs hs' (same-only (is_counted (rule_of_two a b)) (held_in (search_of (rule_of_two a b)) (marks (search_of (rule_of_two a b)) k hs) hs) (held_in (search_of (rule_of_two a b)) (marks (search_of (rule_of_two a b)) k hs) hs') same);
      editions = any_edition (rule_of_two a b) refl;
    }
  where
    ordered : (c : ℕ) → Tested (ltb c 256) → ltb c 256 && cell_counts (rule_of_two a b) c ≡ ltb c 256
    ordered c (passed e) = ap (λ t. ltb c 256 && t) (all-cells a b c (ltb-true c 256 e)) ∙ and_so (ltb c 256)
    ordered c (failed e) = and_stops (cell_counts (rule_of_two a b) c) e ∙ sym e
