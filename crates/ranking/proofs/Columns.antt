-- The columns and rows that have a value inside a range are those from the range's first to its last, so a search can take as many cells as the one times the other.
-- Assumes nothing.
use mathlib.Core.Path.{◌≡◌, refl, sym, ap, ap₂, ◌∙◌, subst}
use mathlib.Core.Bool.{Bool, true, false, ◌&&◌}
use mathlib.Core.List.{List, []}
use Prim.Native.Nat.{ℕ, zero, suc, ◌+◌, ◌*◌, ◌-◌, ◌/◌, ◌%◌, ◌≤◌, ◌<◌, min}
use native.Mathlib.Nat.{add-zero, suc-mul, zero-mul, mul_comm, mul-le-mul, mod-eq_of_lt}
use native.Mathlib.Numerals.{add-one}
use native.Mathlib.Omega.{arith}
use borrow.Author.Tests.{le-leb, leb-true, lt-ltb, le-ltb, ltb-true, ltb-false}
use lib.Dec.{leb, ltb}
use lib.IntN.{ℤ, pos, negsuc, ◌+ℤ◌, ◌*ℤ◌, +ℤ_assoc}
use lib.Signed.{lt_z}
use lib.ListN.{length, get_or}
use mir.Syntax.{w32}
use mir.Val.{SFits}
use Rattle.laws.specs.Lists.{only}
use Rattle.laws.proofs.Whole.{up_le, up_lt, up_sum, up_times, down_times}
use Rattle.laws.proofs.Tests.{Tested, passed, failed, tested, clash, and_both, and_true, and_stops, and_no, and_so, if_so, if_not}
use Rattle.ranking.specs.Cells.{side, sum, meets, cell_counts, nearest, corner, corner_heat, best_score, numbers_below, most_steps}
use Rattle.ranking.specs.Inner.{stripes_of, edge_of, FirstOf, loss_part, heat_part, row_part, Words, Across}
use Rattle.ranking.specs.declared.Range.{Range}
use Rattle.ranking.specs.declared.Rule.{Rule}
use Rattle.ranking.specs.declared.Stripes.{Stripes}
use Rattle.ranking.proofs.Cells.{Meets, meets_facts, meets-is, corner_high, corner-low, corner_small, up_same, heat_small, part_fits, two_fit}
use Rattle.ranking.proofs.Scan.{counted_yes, counted_no}

-- what is known of the columns or rows of a range
pub record Striped (range : Range) (at : Stripes) : Type 0 where
  pub rises : at.first ≤ at.end
  pub within : at.end ≤ 16
  pub has : (i : ℕ) → at.first ≤ i → i < at.end → meets range i ≡ true
  pub before : (i : ℕ) → i < at.first → meets range i ≡ false
  pub behind : (i : ℕ) → at.end ≤ i → i < 16 → meets range i ≡ false

abbrev some : Range → Stripes
some range = record { first = range.low / side; end = min (range.high / side) 15 + 1 }

abbrev none : Stripes
none = record { first = 0; end = 0 }

not_met : (range : Range) (i : ℕ) → (Meets range i → ⊥) → meets range i ≡ false
not_met range i fails = go (tested (meets range i))
  where
    go : Tested (meets range i) → meets range i ≡ false
    go (passed e) = absurd (fails (meets_facts range i e))
    go (failed e) = e

pub striped : (range : Range) → Striped range (stripes_of range)
unfolding stripes_of
striped range = go (tested (leb range.low range.high && leb range.low 4095))
  where
    go : Tested (leb range.low range.high && leb range.low 4095) → Striped range (stripes_of range)
    go (passed e) =
        let both = and_both (leb range.low range.high) (leb range.low 4095) e in
        let order = leb-true range.low range.high both.0 in
        let low = leb-true range.low 4095 both.1 in
        subst (Striped range) (sym (if_so (some range) none e))
        (record {
          rises = omega arith;
          within = omega arith;
          has = λ i h l. meets-is range i (record { in_order_lem = order; starts = omega arith; ends = omega arith });
          before = λ i h. not_met range i (λ m. let f = m.starts in absurd (omega arith));
          behind = λ i h l. not_met range i (λ m. let f = m.ends in absurd (omega arith));
        })
    go (failed e) =
        subst (Striped range) (sym (if_not (some range) none e))
        (record {
          rises = omega arith;
          within = omega arith;
          has = λ i h l. absurd (omega arith);
          before = λ i h. absurd (omega arith);
          behind = λ i h l. not_met range i (λ m. clash (both m l) e);
        })
      where
        both : {i : ℕ} → Meets range i → i < 16 → leb range.low range.high && leb range.low 4095 ≡ true
        both m l = let f = m in and_true (le-leb range.low range.high m.in_order_lem) (le-leb range.low 4095 (omega arith))

-- how many of the first n have a value inside the range
pub below : Range → ℕ → ℕ
below range n = length (only (meets range) (numbers_below n []))

unfoldable pub width : Range → ℕ
width range = (stripes_of range).end - (stripes_of range).first

below_yes : (range : Range) (n : ℕ) → meets range n ≡ true → below range (n + 1) ≡ below range n + 1
unfolding below
below_yes range n e = counted_yes (meets range) n e

below_no : (range : Range) (n : ℕ) → meets range n ≡ false → below range (n + 1) ≡ below range n
unfolding below
below_no range n e = counted_no (meets range) n e

below_none : (range : Range) → below range 0 ≡ 0
unfolding below
below_none range = refl

module _ (range : Range) (at : Stripes) (s : Striped range at) where
  below_is : (n : ℕ) → n ≤ 16 → below range n ≡ min n at.end - at.first
  below_is zero h = below_none range ∙ nought at.end at.first
    where
      nought : (e f : ℕ) → 0 ≡ min 0 e - f
      nought e f = omega arith
  below_is (suc n) h =
      ap (below range) (sym (add-one n)) ∙ go (tested (ltb n at.first)) (tested (ltb n at.end)) (below_is n (omega arith))
    where
      early : (e f : ℕ) → n < f → min n e - f ≡ min (suc n) e - f
      early e f h = omega arith

      late : (e f : ℕ) → e ≤ n → min n e - f ≡ min (suc n) e - f
      late e f h = omega arith

      amid : (e f : ℕ) → f ≤ n → n < e → min n e - f + 1 ≡ min (suc n) e - f
      amid e f h l = omega arith

      go : Tested (ltb n at.first) → Tested (ltb n at.end) → below range n ≡ min n at.end - at.first → below range (n + 1) ≡ min (suc n) at.end - at.first
      go (passed e) t ih =
          let h = ltb-true n at.first e in
          below_no range n (s.before n h) ∙ ih ∙ early at.end at.first h
      go (failed e) (failed f) ih =
          let l = ltb-false n at.end f in
          below_no range n (s.behind n l (omega arith)) ∙ ih ∙ late at.end at.first l
      go (failed e) (passed f) ih =
          let h = ltb-false n at.first e in
          let l = ltb-true n at.end f in
          below_yes range n (s.has n h l) ∙ ap (λ m. m + 1) ih ∙ amid at.end at.first h l

below_all : (range : Range) → below range 16 ≡ width range
unfolding width
below_all range =
    let s = striped range in
    below_is range (stripes_of range) s 16 (omega arith) ∙ all (stripes_of range).end (stripes_of range).first s.within
  where
    all : (e f : ℕ) → e ≤ 16 → min 16 e - f ≡ e - f
    all e f h = omega arith

-- no more columns or rows than there are
pub width_small : (range : Range) → width range ≤ 16
unfolding width
width_small range = let s = striped range in omega (arith, s.within)

-- ---- the cells of a row, and then the rows

across : (row column : ℕ) → column < 16 → (16 * row + column) % 16 ≡ column
across row column h = omega arith

down : (row column : ℕ) → column < 16 → (16 * row + column) / 16 ≡ row
down row column h = omega arith

module _ (rule : Rule) where
  -- a cell by its row and column
  pub cell-meets : (row column : ℕ) → column < 16 → cell_counts rule (16 * row + column) ≡ meets rule.ranges.loss column && meets rule.ranges.shake row
  unfolding cell_counts
  cell-meets row column h =
      ap₂ (λ i j. meets rule.ranges.loss i && meets rule.ranges.shake j) (across row column h) (down row column h)

  -- the best possible score of a cell by its column's part and its row's, which has the heat's
  pub best_parts : (row column : ℕ) → column < 16 → best_score rule (16 * row + column) ≡ loss_part rule column +ℤ row_part rule row
  unfolding best_score sum loss_part row_part
  best_parts row column h =
      ap₂ (λ i j. loss i +ℤ shake j +ℤ heat_part rule.weights.heat) (across row column h) (down row column h)
      ∙ +ℤ_assoc (loss column) (shake row) (heat_part rule.weights.heat)
    where
      loss : ℕ → ℤ
      loss i = rule.weights.loss *ℤ pos (corner rule.weights.loss rule.ranges.loss i)

      shake : ℕ → ℤ
      shake j = rule.weights.shake *ℤ pos (corner rule.weights.shake rule.ranges.shake j)

  cells_below : ℕ → ℕ
  cells_below n = length (only (cell_counts rule) (numbers_below n []))

  cell_yes : (n : ℕ) → cell_counts rule n ≡ true → cells_below (n + 1) ≡ cells_below n + 1
  unfolding cells_below
  cell_yes n e = counted_yes (cell_counts rule) n e

  cell_no : (n : ℕ) → cell_counts rule n ≡ false → cells_below (n + 1) ≡ cells_below n
  unfolding cells_below
  cell_no n e = counted_no (cell_counts rule) n e

  -- a row that has no value inside the range adds none
  row_out : (row : ℕ) → meets rule.ranges.shake row ≡ false → (n : ℕ) → n ≤ 16 → cells_below (16 * row + n) ≡ cells_below (16 * row)
  row_out row e zero h = ap cells_below (add-zero (16 * row))
  row_out row e (suc n) h =
      ap cells_below (up (16 * row))
      ∙ cell_no (16 * row + n) (cell-meets row n (omega arith) ∙ and_no (meets rule.ranges.loss n) e)
      ∙ row_out row e n (omega arith)
    where
      up : (m : ℕ) → m + suc n ≡ m + n + 1
      up m = omega arith

  -- any other one for each such column
  row_in : (row : ℕ) → meets rule.ranges.shake row ≡ true → (n : ℕ) → n ≤ 16 → cells_below (16 * row + n) ≡ cells_below (16 * row) + below rule.ranges.loss n
  row_in row e zero h = ap cells_below (add-zero (16 * row)) ∙ sym (ap (λ m. cells_below (16 * row) + m) (below_none rule.ranges.loss) ∙ add-zero (cells_below (16 * row)))
  row_in row e (suc n) h =
      ap cells_below (up (16 * row))
      ∙ go (tested (meets rule.ranges.loss n)) (row_in row e n (omega arith))
      ∙ ap (λ m. cells_below (16 * row) + below rule.ranges.loss m) (add-one n)
    where
      up : (m : ℕ) → m + suc n ≡ m + n + 1
      up m = omega arith

      one_more : (a b c d : ℕ) → a ≡ b + c → d ≡ c + 1 → a + 1 ≡ b + d
      one_more a b c d p q = omega arith

      counted : (t : Bool) → meets rule.ranges.loss n ≡ t → cell_counts rule (16 * row + n) ≡ t
      counted t f = cell-meets row n (omega arith) ∙ ap₂ (λ a b. a && b) f e ∙ and_so t

      go : Tested (meets rule.ranges.loss n) → cells_below (16 * row + n) ≡ cells_below (16 * row) + below rule.ranges.loss n → cells_below (16 * row + n + 1) ≡ cells_below (16 * row) + below rule.ranges.loss (n + 1)
      go (passed f) ih =
          cell_yes (16 * row + n) (counted true f)
          ∙ one_more (cells_below (16 * row + n)) (cells_below (16 * row)) (below rule.ranges.loss n) (below rule.ranges.loss (n + 1)) ih (below_yes rule.ranges.loss n f)
      go (failed f) ih =
          cell_no (16 * row + n) (counted false f) ∙ ih ∙ ap (λ m. cells_below (16 * row) + m) (sym (below_no rule.ranges.loss n f))

  rows_to : (r : ℕ) → r ≤ 16 → cells_below (16 * r) ≡ below rule.ranges.shake r * width rule.ranges.loss
  unfolding cells_below
  rows_to zero h = sym (ap (λ m. m * width rule.ranges.loss) (below_none rule.ranges.shake) ∙ zero-mul (width rule.ranges.loss))
  rows_to (suc r) h =
      ap cells_below (next r)
      ∙ go (tested (meets rule.ranges.shake r)) (rows_to r (omega arith))
      ∙ ap (λ m. below rule.ranges.shake m * width rule.ranges.loss) (add-one r)
    where
      next : (r : ℕ) → 16 * suc r ≡ 16 * r + 16
      next r = omega arith

      go : Tested (meets rule.ranges.shake r) → cells_below (16 * r) ≡ below rule.ranges.shake r * width rule.ranges.loss → cells_below (16 * r + 16) ≡ below rule.ranges.shake (r + 1) * width rule.ranges.loss
      go (passed e) ih =
          row_in r e 16 (omega arith)
          ∙ ap₂ (λ a b. a + b) ih (below_all rule.ranges.loss)
          ∙ sym (ap (λ m. m * width rule.ranges.loss) (below_yes rule.ranges.shake r e ∙ add-one (below rule.ranges.shake r)) ∙ suc-mul (below rule.ranges.shake r) (width rule.ranges.loss))
      go (failed e) ih =
          row_out r e 16 (omega arith) ∙ ih ∙ ap (λ m. m * width rule.ranges.loss) (sym (below_no rule.ranges.shake r e))

  pub most_steps_lem : most_steps rule ≡ width rule.ranges.loss * width rule.ranges.shake
  unfolding most_steps cells_below
  most_steps_lem =
      rows_to 16 (omega arith)
      ∙ ap (λ m. m * width rule.ranges.loss) (below_all rule.ranges.shake)
      ∙ mul_comm (width rule.ranges.shake) (width rule.ranges.loss)

-- ---- the first cell of a row

nearest_rises : (v i j : ℕ) → i ≤ j → nearest v i ≤ nearest v j
nearest_rises v i j h = omega arith

nearest_differs : (v i j : ℕ) → i < j → nearest v i < nearest v j
nearest_differs v i j h = omega arith

-- by a weight above 0 a greater value counts for more
rises : (a : ℤ) (m n : ℕ) (x : ℤ) → lt_z (pos 0) a ≡ true → m < n → lt_z (a *ℤ pos m +ℤ x) (a *ℤ pos n +ℤ x) ≡ true
unfolding up_sum up_times up_same
rises (pos zero) m n x e h = clash e (le-ltb 0 0 (omega arith))
rises (negsuc k) m n x e h = clash {b = false} e refl
rises (pos (suc k)) m n x e h =
    subst (λ d. lt_z (pos (suc k) *ℤ pos m +ℤ x) (pos (suc k) *ℤ pos d +ℤ x) ≡ true) up
    (up_lt (up_sum (up_times (suc k) m (n - m)) (up_same x)) (omega (arith, grows)))
  where
    one : 1 ≤ suc k
    one = omega arith

    some_more : 1 ≤ n - m
    some_more = omega arith

    grows : 1 * 1 ≤ suc k * (n - m)
    grows = mul-le-mul one some_more

    up : m + (n - m) ≡ n
    up = omega arith

-- by any other it counts for no more
falls : (a : ℤ) (m n : ℕ) (x : ℤ) → lt_z (pos 0) a ≡ false → m ≤ n → lt_z (a *ℤ pos m +ℤ x) (a *ℤ pos n +ℤ x) ≡ false
falls (pos zero) m n x e h = up_le (up_sum {a = pos 0 *ℤ pos n} {b = pos 0 *ℤ pos m} (record { gap = 0; is = ap pos nought }) (up_same x))
  where
    nought : 0 * n + 0 ≡ 0 * m
    nought = omega arith
falls (pos (suc k)) m n x e h = clash (lt-ltb 0 (suc k) (omega arith)) e
falls (negsuc k) m n x e h =
    subst (λ d. lt_z (negsuc k *ℤ pos m +ℤ x) (negsuc k *ℤ pos d +ℤ x) ≡ false) up (up_le (up_sum (down_times k m (n - m)) (up_same x)))
  where
    up : m + (n - m) ≡ n
    up = omega arith

module _ (rule : Rule) (row : ℕ) (met : meets rule.ranges.shake row ≡ true) where
  abbrev a : ℤ
  a = rule.weights.loss

  abbrev at : Stripes
  at = stripes_of rule.ranges.loss

  s : Striped rule.ranges.loss (stripes_of rule.ranges.loss)
  s = striped rule.ranges.loss

  counts_in : (i : ℕ) → at.first ≤ i → i < at.end → cell_counts rule (16 * row + i) ≡ true
  counts_in i h l = cell-meets rule row i (omega (arith, s.within)) ∙ and_true (s.has i h l) met

  out : {X : Type 0} (i : ℕ) → i < 16 → meets rule.ranges.loss i ≡ false → cell_counts rule (16 * row + i) ≡ true → X
  out i h e c = clash c (cell-meets rule row i h ∙ and_stops (meets rule.ranges.shake row) e)

  parts : (i j : ℕ) (t : Bool) → i < 16 → j < 16 → lt_z (loss_part rule i +ℤ row_part rule row) (loss_part rule j +ℤ row_part rule row) ≡ t → lt_z (best_score rule (16 * row + i)) (best_score rule (16 * row + j)) ≡ t
  parts i j t h l e = ap₂ lt_z (best_parts rule row i h) (best_parts rule row j l) ∙ e

  pub edge_first : at.first < at.end → FirstOf rule row (16 * row + edge_of a at)
  unfolding loss_part
  edge_first h = go (tested (lt_z (pos 0) a))
    where
      go : Tested (lt_z (pos 0) a) → FirstOf rule row (16 * row + edge_of a at)
      go (passed e) =
          subst (λ n. FirstOf rule row (16 * row + n)) (sym (if_so (at.end - 1) at.first e))
          (record {
            column = at.end - 1;
            within = omega (arith, s.within);
            is = refl;
            counts = counts_in (at.end - 1) (omega arith) (omega arith);
            sooner = λ i l c.
                parts i (at.end - 1) true (omega (arith, s.within)) (omega (arith, s.within))
                (subst (λ m. lt_z (a *ℤ pos m +ℤ row_part rule row) (a *ℤ pos (corner a rule.ranges.loss (at.end - 1)) +ℤ row_part rule row) ≡ true) (sym (corner_high a rule.ranges.loss i e))
                (subst (λ n. lt_z (a *ℤ pos (nearest rule.ranges.loss.high i) +ℤ row_part rule row) (a *ℤ pos n +ℤ row_part rule row) ≡ true) (sym (corner_high a rule.ranges.loss (at.end - 1) e))
                (rises a _ _ (row_part rule row) e (nearest_differs rule.ranges.loss.high i (at.end - 1) l))));
            later = λ i l m c. out i m (s.behind i (omega arith) m) c;
          })
      go (failed e) =
          subst (λ n. FirstOf rule row (16 * row + n)) (sym (if_not (at.end - 1) at.first e))
          (record {
            column = at.first;
            within = omega (arith, s.within);
            is = refl;
            counts = counts_in at.first (omega arith) h;
            sooner = λ i l c. out i (omega (arith, s.within)) (s.before i l) c;
            later = λ i l m c.
                parts at.first i false (omega (arith, s.within)) m
                (subst (λ m. lt_z (a *ℤ pos m +ℤ row_part rule row) (a *ℤ pos (corner a rule.ranges.loss i) +ℤ row_part rule row) ≡ false) (sym (corner-low a rule.ranges.loss at.first e))
                (subst (λ n. lt_z (a *ℤ pos (nearest rule.ranges.loss.low at.first) +ℤ row_part rule row) (a *ℤ pos n +ℤ row_part rule row) ≡ false) (sym (corner-low a rule.ranges.loss i e))
                (falls a _ _ (row_part rule row) e (nearest_rises rule.ranges.loss.low at.first i (omega arith)))));
          })

-- what is read for a corner counts for what the corner does: it has 12 bits
pub part_read : {a z : ℤ} (range : Range) (i : ℕ) {v : ℕ} → i < 16 → z ≡ a → v ≡ corner z range i → z *ℤ pos (v % 4096) ≡ a *ℤ pos (corner a range i)
part_read {a} range i h e f =
    ap₂ (λ b u. b *ℤ pos (u % 4096)) e (f ∙ ap (λ b. corner b range i) e) ∙ ap (λ u. a *ℤ pos u) (mod-eq_of_lt (omega (arith, corner_small a range i h)))

-- what the cells of a row are looked at by, from its first column in the order to the end
pub record Along (row : ℕ) (across : List ℤ) (part : ℤ) (first end : ℕ) (rule : Rule) : Type 0 where
  pub parts : Across rule across
  pub down : part ≡ row_part rule row
  pub met : meets rule.ranges.shake row ≡ true
  pub stripes : stripes_of rule.ranges.loss ≡ record { first = first; end = end }

module _ (row : ℕ) (across : List ℤ) (part : ℤ) (first end : ℕ) (rule : Rule) (along : Along row across part first end rule) where
  stripe : Striped rule.ranges.loss (record { first = first; end = end })
  stripe = subst (Striped rule.ranges.loss) along.stripes (striped rule.ranges.loss)

  pub along_in : (i : ℕ) → first ≤ i → i < end → cell_counts rule (16 * row + i) ≡ true
  along_in i h l = cell-meets rule row i (omega (arith, stripe.within)) ∙ and_true (stripe.has i h l) along.met

  pub along_before : (i : ℕ) → i < first → cell_counts rule (16 * row + i) ≡ false
  along_before i h = cell-meets rule row i (omega (arith, stripe.within, stripe.rises)) ∙ and_stops (meets rule.ranges.shake row) (stripe.before i h)

  pub along_behind : (i : ℕ) → end ≤ i → i < 16 → cell_counts rule (16 * row + i) ≡ false
  along_behind i h l = cell-meets rule row i l ∙ and_stops (meets rule.ranges.shake row) (stripe.behind i h l)

  pub along_best : (i : ℕ) → i < 16 → get_or across i (pos 0) +ℤ part ≡ best_score rule (16 * row + i)
  along_best i h = ap₂ (λ a b. a +ℤ b) (along.parts.each i h) along.down ∙ sym (best_parts rule row i h)

  pub along_ends : (first ≤ end) × (end ≤ 16)
  along_ends = (stripe.rises, stripe.within)

pub part_word : (rule : Rule) → Words rule.weights → (i : ℕ) → i < 16 → SFits w32 (loss_part rule i)
unfolding loss_part
part_word rule w i h =
    part_fits rule.weights.loss (corner rule.weights.loss rule.ranges.loss i) w.loss (corner_small rule.weights.loss rule.ranges.loss i h)

pub row_word : (rule : Rule) → Words rule.weights → (i : ℕ) → i < 16 → SFits w32 (row_part rule i)
unfolding row_part
row_word rule w i h =
    two_fit rule.weights.shake (corner rule.weights.shake rule.ranges.shake i) w.shake (corner_small rule.weights.shake rule.ranges.shake i h)
    rule.weights.heat (corner_heat rule.weights.heat) w.heat (heat_small rule.weights.heat)

-- a row that has no value inside the range is passed over whole
pub row_out_all : (rule : Rule) (row : ℕ) → meets rule.ranges.shake row ≡ false → (i : ℕ) → i < 16 → cell_counts rule (16 * row + i) ≡ false
row_out_all rule row e i h = cell-meets rule row i h ∙ and_no (meets rule.ranges.loss i) e
