-- What a fit window is known to have, row by row, and that a report more keeps it: only the new report's row changes, and only that row had to.
-- Assumes nothing.
use mathlib.Core.Path.{◌≡◌, refl, sym, ap, ap₂, ◌∙◌, subst}
use mathlib.Core.Logic.{⊎_elim}
use mathlib.Core.Bool.{Bool, true, false, cond, ◌&&◌}
use Prim.Native.Nat.{ℕ, zero, suc, ◌+◌, ◌-◌, ◌/◌, ◌%◌, ◌≤◌, ◌<◌, zero-le}
use native.Mathlib.Nat.{not-suc-le-zero, le_of_suc-le-suc, mod-lt}
use native.Mathlib.Omega.{arith}
use borrow.Author.Tests.{leb-true, eqb-true, le-leb, lt-ltb, le-ltb, eq-eqb, ne_eqb, eqb-false}
use lib.Dec.{leb, ltb, eqb}
use lib.ListN.{length, get_or, set, length-set, replicate, length-replicate, get_or-replicate}
use lib.Seq.{get_or-set_same, get_or-set_other}
use Rattle.laws.proofs.Tests.{Tested, passed, failed, tested, clash, and_both, and_true}
use Rattle.laws.proofs.Lists.{lt_or_eq}
use Rattle.values.specs.declared.Values.{Values}
use Rattle.values.specs.declared.Edition.{Edition}
use Rattle.values.specs.declared.Edition.TheVariants.{First, Second}
use Rattle.values.specs.Range.{heat_in_range, in_range}
use Rattle.values.specs.Names.{edition_of, named}
use Rattle.values.proofs.Facts.{range_facts, range_is, low_edition_same}
use Rattle.values.proofs.Names.{name-number, name_edition}
use Rattle.window.specs.Rows.{sized, empty, row_of, number_in, values_in, age, due, without_heat, no_values, holds, row_fit, rows_fit, counts_fit, fit_window, grown, added}
use Rattle.window.specs.declared.Counts.{Counts}
use Rattle.window.specs.declared.Window.{Window}
use Rattle.window.proofs.Ring.{Ring, counting, next_ring, due_new, due-later}

-- ---- each test as a fact

pub size_range : (n : ℕ) → sized n ≡ true → (1 ≤ n) × (n ≤ 1024)
size_range n h = let both = and_both (leb 1 n) (leb n 1024) h in (leb-true 1 n both.0, leb-true n 1024 both.1)

pub is-sized : (n : ℕ) → 1 ≤ n → n ≤ 1024 → sized n ≡ true
is-sized n positive within = and_true (le-leb 1 n positive) (le-leb n 1024 within)

-- The counts are in their ranges.
pub record Ranges (c : Counts) : Type 0 where
  pub ring : Ring c.size c.entered c.held
  pub within : c.size ≤ 1024
  pub at_most : c.entered ≤ 1000000

pub ranges_of : (c : Counts) → counts_fit c ≡ true → Ranges c
ranges_of c h =
    let x = and_both (sized c.size && leb c.entered 1000000 && leb c.held c.size) (leb c.held c.entered) h in
    let y = and_both (sized c.size && leb c.entered 1000000) (leb c.held c.size) x.0 in
    let z = and_both (sized c.size) (leb c.entered 1000000) y.0 in
    record {
      ring = record {
        positive = (size_range c.size z.0).0;
        has_rows = leb-true c.held c.size y.1;
        were_entered = leb-true c.held c.entered x.1;
      };
      within = (size_range c.size z.0).1;
      at_most = leb-true c.entered 1000000 z.1;
    }

in_ranges : (c : Counts) → Ranges c → counts_fit c ≡ true
in_ranges c k =
    and_true
    (and_true (and_true (is-sized c.size k.ring.positive k.within) (le-leb c.entered 1000000 k.at_most)) (le-leb c.held c.size k.ring.has_rows))
    (le-leb c.held c.entered k.ring.were_entered)

first_in : (e : Edition) → without_heat e ≡ true → heat_in_range e ≡ true
first_in First h = refl
first_in (Second heat) h = clash h refl

-- What a row holds that passes its test.
pub record Held-in (due number : ℕ) (v : Values) : Type 0 where
  pub as_due : number ≡ due
  pub permitted : in_range v ≡ true

pub row_holds : (due number : ℕ) (v : Values) → holds due number v ≡ true → Held-in due number v
row_holds due number v h = record { as_due = eqb-true number due both.0; permitted = go (tested (eqb due 0)) }
  where
    both : (eqb number due ≡ true) × (cond (eqb due 0) (no_values v) (in_range v) ≡ true)
    both = and_both (eqb number due) (cond (eqb due 0) (no_values v) (in_range v)) h

    go : Tested (eqb due 0) → in_range v ≡ true
    go (passed t) =
        let none = and_both (eqb v.loss 0 && eqb v.shake 0) (without_heat v.edition) (rw t at both.1) in
        let pair = and_both (eqb v.loss 0) (eqb v.shake 0) none.0 in
        range_is v (omega (arith, eqb-true v.loss 0 pair.0)) (omega (arith, eqb-true v.shake 0 pair.1)) (first_in v.edition none.1)
    go (failed f) = rw f at both.1

module _ (w : Window) where
  pub every_row : (n : ℕ) → rows_fit w n ≡ true → (r : ℕ) → r < n → row_fit w r ≡ true
  unfolding rows_fit
  every_row zero h r l = absurd (not-suc-le-zero l)
  every_row (suc n) h r l =
      let both = and_both (rows_fit w n) (row_fit w n) h in
      ⊎_elim (λ k. every_row n both.0 r k) (λ e. subst (λ m. row_fit w m ≡ true) (sym e) both.1) (lt_or_eq (le_of_suc-le-suc l))

  pub rows_fit_lem : (n : ℕ) → ((r : ℕ) → r < n → row_fit w r ≡ true) → rows_fit w n ≡ true
  unfolding rows_fit
  rows_fit_lem zero h = refl
  rows_fit_lem (suc n) h = and_true (rows_fit_lem n (λ r l. h r (omega arith))) (h n (omega arith))

  pub unfit_row : (n r : ℕ) → r < n → row_fit w r ≡ false → rows_fit w n ≡ false
  unfit_row n r l e = go (tested (rows_fit w n))
    where
      go : Tested (rows_fit w n) → rows_fit w n ≡ false
      go (failed f) = f
      go (passed f) = clash (every_row n f r l) e

  -- A fit window, by its facts.
  pub record Fit : Type 0 where
    pub ranges : Ranges w.counts
    pub rows : (r : ℕ) → r < 1024 → row_fit w r ≡ true

  pub fit_facts : fit_window w ≡ true → Fit
  unfolding fit_window
  fit_facts h =
      let both = and_both (counts_fit w.counts) (rows_fit w 1024) h in
      record { ranges = ranges_of w.counts both.0; rows = every_row 1024 both.1 }

  pub fit_is : Fit → fit_window w ≡ true
  unfolding fit_window
  fit_is f = and_true (in_ranges w.counts f.ranges) (rows_fit_lem 1024 f.rows)

  -- The arrays have their 1,024 places, as those of every stored window do.
  pub record Whole : Type 0 where
    pub losses-whole : length w.rows.losses ≡ 1024
    pub shakes-whole : length w.rows.shakes ≡ 1024
    pub names-whole : length w.rows.names ≡ 1024

-- ---- a fresh window

pub empty-whole : (n : ℕ) → Whole (empty n)
empty-whole n =
    let zeros = length-replicate {A = ℕ} 1024 0 in
    record { losses-whole = zeros; shakes-whole = zeros; names-whole = zeros }

pub empty-fit : (n : ℕ) → sized n ≡ true → fit_window (empty n) ≡ true
empty-fit n h =
    let range = size_range n h in
    fit_is (empty n) (record {
      ranges = record {
        ring = record { positive = range.0; has_rows = omega arith; were_entered = omega arith };
        within = range.1;
        at_most = omega arith;
      };
      rows = λ r l. unused r (get_or-replicate 1024 r 0 0 l);
    })
  where
    no_and : (a : Bool) → a && false ≡ false
    no_and true = refl
    no_and false = refl

    none : (r : ℕ) → due (counting n 0 0) r ≡ 0
    none r = rw (le-ltb (age n 0 r) 0 zero-le, no_and)

    unused : (r : ℕ) → ◌≡◌ {A = ℕ} (get_or (replicate 1024 0) r 0) 0 → row_fit (empty n) r ≡ true
    unused r e = rw (none r, e)

-- ---- a report more

module _ (w : Window) (v : Values) where
  pub added-taken : sized w.counts.size ≡ true → w.counts.entered < 1000000 → added w v ≡ grown w v
  unfolding added
  added-taken h l = rw (h, lt-ltb w.counts.entered 1000000 l)

  grown-whole : Whole w → Whole (grown w v)
  grown-whole k =
      record {
        losses-whole = length-set w.rows.losses _ v.loss ∙ k.losses-whole;
        shakes-whole = length-set w.rows.shakes _ v.shake ∙ k.shakes-whole;
        names-whole = length-set w.rows.names _ (named (w.counts.entered + 1) v.edition) ∙ k.names-whole;
      }

  pub added-whole : Whole w → Whole (added w v)
  unfolding added
  added-whole k = go (tested (sized w.counts.size && ltb w.counts.entered 1000000))
    where
      go : Tested (sized w.counts.size && ltb w.counts.entered 1000000) → Whole (added w v)
      go (passed t) = rw t (grown-whole k)
      go (failed f) = rw f k

  module _ (ranges : Ranges w.counts) (whole : Whole w) where
    -- the row that the report takes
    abbrev pub place : ℕ
    place = row_of w.counts.size (w.counts.entered + 1)

    pub placed : place < 1024
    placed = omega (arith, mod-lt (w.counts.entered + 1 - 1) ranges.ring.positive)

    pub loss_there : get_or (set w.rows.losses place v.loss) place 0 ≡ v.loss
    loss_there = get_or-set_same w.rows.losses place v.loss 0 (rw whole.losses-whole placed)

    pub shake_there : get_or (set w.rows.shakes place v.shake) place 0 ≡ v.shake
    shake_there = get_or-set_same w.rows.shakes place v.shake 0 (rw whole.shakes-whole placed)

    pub name_there : get_or (set w.rows.names place (named (w.counts.entered + 1) v.edition)) place 0 ≡ named (w.counts.entered + 1) v.edition
    name_there = get_or-set_same w.rows.names place (named (w.counts.entered + 1) v.edition) 0 (rw whole.names-whole placed)

    -- the new report's row has its number and, of a heat in its range, its edition
    pub number_there : number_in (grown w v) place ≡ w.counts.entered + 1
    number_there = ap (λ n. n / 4097) name_there ∙ name-number (w.counts.entered + 1) v.edition

    pub values_there : in_range v ≡ true → values_in (grown w v) place ≡ v
    values_there may =
        let edition = ap (λ n. edition_of (n % 4097)) name_there ∙ name_edition (w.counts.entered + 1) v.edition ∙ low_edition_same v.edition (range_facts v may).heat_fits in
        ap₂ (λ l s. record { loss = l; shake = s; edition = (values_in (grown w v) place).edition }) loss_there shake_there
        ∙ ap (λ e. record { loss = v.loss; shake = v.shake; edition = e }) edition

    new_row : in_range v ≡ true → row_fit (grown w v) place ≡ true
    new_row may =
        let now-due = due_new ranges.ring in
        let positive : w.counts.entered + 1 ≡ 0 → ⊥ = λ e. omega arith in
        rw (now-due, number_there, values_there may, eq-eqb (w.counts.entered + 1) (w.counts.entered + 1) refl, ne_eqb (w.counts.entered + 1) 0 positive) may

    old_row : (r : ℕ) → (r ≡ place → ⊥) → row_fit (grown w v) r ≡ row_fit w r
    old_row r other =
        let still = due-later ranges.ring r other in
        rw (
          still,
          get_or-set_other w.rows.names place r (named (w.counts.entered + 1) v.edition) 0 other,
          get_or-set_other w.rows.losses place r v.loss 0 other,
          get_or-set_other w.rows.shakes place r v.shake 0 other,
        )

  -- A fit window stays fit with a report of permitted values more.
  pub added-fit : fit_window w ≡ true → Whole w → w.counts.entered < 1000000 → in_range v ≡ true → fit_window (added w v) ≡ true
  added-fit fit whole room may =
      subst (λ u. fit_window u ≡ true) (sym (added-taken (is-sized w.counts.size k.ring.positive k.within) room))
      (fit_is (grown w v) (record {
        ranges = record { ring = next_ring k.ring; within = k.within; at_most = omega arith };
        rows = λ r below. go r below (tested (eqb r (place k whole)));
      }))
    where
      f : Fit w
      f = fit_facts w fit

      k : Ranges w.counts
      k = f.ranges

      go : (r : ℕ) → r < 1024 → Tested (eqb r (place k whole)) → row_fit (grown w v) r ≡ true
      go r below (passed t) = subst (λ n. row_fit (grown w v) n ≡ true) (sym (eqb-true r (place k whole) t)) (new_row k whole may)
      go r below (failed e) = old_row k whole r (eqb-false r (place k whole) e) ∙ f.rows r below
