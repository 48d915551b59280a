-- The visiting order holds each cell that counts once, by falling best possible score; a score is at most its cell's best, which the corner in cell and ranges attains; scores fit 32 bits.
-- Assumes nothing.
use mathlib.Core.Path.{◌≡◌, refl, sym, ap, ap₂, ◌∙◌, subst}
use mathlib.Core.Logic.{◌⊎◌, inl, inr, ⊎_elim}
use mathlib.Core.Bool.{Bool, true, false, cond, ◌&&◌}
use mathlib.Core.List.Memᴰ
use mathlib.Core.List.{List, [], ◌∷◌}
use Prim.Native.Nat.{ℕ, zero, suc, ◌+◌, ◌*◌, ◌-◌, ◌/◌, ◌%◌, ◌≤◌, ◌<◌}
use native.Mathlib.Nat.{le_of_suc-le-suc, mul-le-mul, not-suc-le-zero}
use native.Mathlib.Omega.{arith}
use borrow.Author.Tests.{lt-ltb, ltb-true, le-leb, leb-true}
use lib.Dec.{ltb, leb}
use lib.ListN.{length}
use lib.IntN.{ℤ, pos, negsuc, nat_abs, ◌+ℤ◌, ◌*ℤ◌, +ℤ_idr, zero-*ℤ}
use lib.Signed.{lt_z, mag, nat_abs-le}
use mir.Syntax.{w16, w32}
use mir.Val.{SFits}
use Rattle.laws.specs.Lists.{◌∈◌, only}
use Rattle.laws.specs.Whole as whole
use Rattle.values.specs.declared.Values.{Values}
use Rattle.values.specs.declared.Edition.{Edition}
use Rattle.values.specs.declared.Edition.TheVariants.{First, Second}
use Rattle.values.specs.Range.{heat_in_range, in_range, low}
use Rattle.values.specs.Names.{edition_of}
use Rattle.values.proofs.Facts.{range_facts, range_is}
use Rattle.ranking.specs.Cells.{inside, weight_fits, weights_fit, is_proper, ranges_proper, ties_known, fit_rule, heat_counts, counts, heat_of, weighed, sum, score, is_scored, points, ScoreFits, from_least, values_named, cell, meets, cell_counts, nearest, corner, corner_heat, corner_of, best_score, greater, before, numbers_below, cells, counted_cells, most_steps, visiting, in_order}
use Rattle.ranking.specs.Inner.{pair_part, hottest, edition_by, Words}
use Rattle.ranking.specs.declared.Range.{Range}
use Rattle.ranking.specs.declared.Rule.{Rule}
use Rattle.std.specs.Prelude.{Option, Some, None}
use Rattle.laws.proofs.Tests.{Tested, passed, failed, tested, clash, and_both, and_true, and_so, if_so, if_not}
use Rattle.laws.proofs.Lists.{Pairwise, Distinct, Other, Same, there, pairwise_map, pairwise_only, only_in, only_of, only-only, only-length, same-only, lt_or_eq}
use Rattle.laws.proofs.Orders.{StrictTotal, one_way, ahead, ltb_strict}
use Rattle.search.proofs.Best.{Falling, rank_in_lem, rank_of, rank_falling, falling_distinct, length-rank, length-same}
use Rattle.laws.proofs.Whole.{lt_z_strict, Up, up_le, up_sum, up_times, down_times, mag_le, abs_times, abs_sum, equal-same, equal_is}

-- ---- by a number, and then by a tie

pub greater_by : (a b : ℤ) (t : Bool) → lt_z b a ≡ true → greater a b t ≡ true
greater_by a b t e = rw (e, greater)

pub greater_tie : (a b : ℤ) (t : Bool) → a ≡ b → greater a b t ≡ t
greater_tie a b t e =
    let no : lt_z b a ≡ false = subst (λ z. lt_z b z ≡ false) (sym e) (lt_z_strict.irreflexive b) in
    let no' : lt_z a b ≡ false = subst (λ z. lt_z z b ≡ false) (sym e) (lt_z_strict.irreflexive b) in
    rw (no, no', greater)

pub less_by : (a b : ℤ) (t : Bool) → lt_z a b ≡ true → greater a b t ≡ false
less_by a b t e = go (tested (lt_z b a))
  where
    go : Tested (lt_z b a) → greater a b t ≡ false
    go (passed f) = clash (lt_z_strict.transitive a b a e f) (lt_z_strict.irreflexive a)
    go (failed f) = rw (f, e, greater)

-- the three ways two numbers stand
pub data Numbers (a b : ℤ) : Type 0 where
  more : lt_z b a ≡ true → Numbers a b
  less : lt_z a b ≡ true → Numbers a b
  equal : a ≡ b → Numbers a b

pub numbers : (a b : ℤ) → Numbers a b
numbers a b = go (tested (lt_z b a)) (tested (lt_z a b))
  where
    go : Tested (lt_z b a) → Tested (lt_z a b) → Numbers a b
    go (passed e) t = more e
    go (failed e) (passed f) = less f
    go (failed e) (failed f) = equal (lt_z_strict.total a b f e)

-- it holds by the number or by the tie
pub greater_of : (a b : ℤ) (t : Bool) → greater a b t ≡ true → (lt_z b a ≡ true) ⊎ ((a ≡ b) × (t ≡ true))
greater_of a b t h = go (numbers a b)
  where
    go : Numbers a b → (lt_z b a ≡ true) ⊎ ((a ≡ b) × (t ≡ true))
    go (more e) = inl e
    go (less e) = clash h (less_by a b t e)
    go (equal e) = inr (e, sym (greater_tie a b t e) ∙ h)

module _ {A : Type 0} (key : A → ℤ) (tie : A → A → Bool) where
  abbrev pub Ranks : A → A → Bool
  Ranks x y = greater (key x) (key y) (tie x y)

  -- what the order asks of the tie
  pub record Ties : Type 0 where
    pub none : (x : A) → tie x x ≡ false
    pub chain : (x y z : A) → tie x y ≡ true → tie y z ≡ true → tie x z ≡ true
    pub only-equal : (x y : A) → key x ≡ key y → tie x y ≡ false → tie y x ≡ false → x ≡ y

  -- one law for reports and for cells
  pub greater_strict : Ties → StrictTotal Ranks
  greater_strict ties =
      record {
        irreflexive = λ x. greater_tie (key x) (key x) (tie x x) refl ∙ ties.none x;
        transitive = chained;
        total = same;
      }
    where
      linked : (x y z : A) → (lt_z (key y) (key x) ≡ true) ⊎ ((key x ≡ key y) × (tie x y ≡ true)) → (lt_z (key z) (key y) ≡ true) ⊎ ((key y ≡ key z) × (tie y z ≡ true)) → Ranks x z ≡ true
      linked x y z (inl p) (inl q) = greater_by (key x) (key z) (tie x z) (lt_z_strict.transitive (key z) (key y) (key x) q p)
      linked x y z (inl p) (inr q) = greater_by (key x) (key z) (tie x z) (subst (λ n. lt_z n (key x) ≡ true) q.0 p)
      linked x y z (inr p) (inl q) = greater_by (key x) (key z) (tie x z) (subst (λ n. lt_z (key z) n ≡ true) (sym p.0) q)
      linked x y z (inr p) (inr q) = greater_tie (key x) (key z) (tie x z) (p.0 ∙ q.0) ∙ ties.chain x y z p.1 q.1

      chained : (x y z : A) → Ranks x y ≡ true → Ranks y z ≡ true → Ranks x z ≡ true
      chained x y z p q = linked x y z (greater_of (key x) (key y) (tie x y) p) (greater_of (key y) (key z) (tie y z) q)

      decided : (x y : A) → Numbers (key x) (key y) → Ranks x y ≡ false → Ranks y x ≡ false → x ≡ y
      decided x y (more e) p q = clash (greater_by (key x) (key y) (tie x y) e) p
      decided x y (less e) p q = clash (greater_by (key y) (key x) (tie y x) e) q
      decided x y (equal e) p q =
          ties.only-equal x y e (sym (greater_tie (key x) (key y) (tie x y) e) ∙ p) (sym (greater_tie (key y) (key x) (tie y x) (sym e)) ∙ q)

      same : (x y : A) → Ranks x y ≡ false → Ranks y x ≡ false → x ≡ y
      same x y p q = decided x y (numbers (key x) (key y)) p q

pub before_strict : (rule : Rule) → StrictTotal (before rule)
unfolding before
before_strict rule =
    greater_strict (best_score rule) ltb
    (record {
      none = ltb_strict.irreflexive;
      chain = ltb_strict.transitive;
      only-equal = λ x y e p q. ltb_strict.total x y p q;
    })

-- ---- the cells

count_in_lem : (n : ℕ) (rest : List ℕ) (c : ℕ) → (c < n) ⊎ (c ∈ rest) → c ∈ numbers_below n rest
count_in_lem zero rest c (inl h) = absurd (not-suc-le-zero h)
count_in_lem zero rest c (inr m) = m
count_in_lem (suc n) rest c t = count_in_lem n (n ∷ rest) c (⊎_elim small (λ m. inr (there m)) t)
  where
    small : c < suc n → (c < n) ⊎ (c ∈ n ∷ rest)
    small h = ⊎_elim (λ l. inl l) (λ e. inr (Memᴰ.head e)) (lt_or_eq (le_of_suc-le-suc h))

count_of : (n : ℕ) (rest : List ℕ) (c : ℕ) → c ∈ numbers_below n rest → (c < n) ⊎ (c ∈ rest)
count_of zero rest c m = inr m
count_of (suc n) rest c m = ⊎_elim (λ h. inl (below h)) (λ k. ⊎_elim (λ e. inl (at e)) (λ j. inr j) (Memᴰ.cases_cons k)) (count_of n (n ∷ rest) c m)
  where
    below : c < n → c < suc n
    below h = omega arith

    at : c ≡ n → c < suc n
    at e = omega arith

-- the numbers rise
count_rises : (n : ℕ) (rest : List ℕ) → ((c : ℕ) → c ∈ rest → n ≤ c) → Pairwise (λ a b. a < b) rest → Pairwise (λ a b. a < b) (numbers_below n rest)
count_rises zero rest h w = w
count_rises (suc n) rest h w =
    count_rises n (n ∷ rest) (λ c m. ⊎_elim (λ e. at c e) (λ k. below c (h c k)) (Memᴰ.cases_cons m)) (h, w)
  where
    at : (c : ℕ) → c ≡ n → n ≤ c
    at c e = omega arith

    below : (c : ℕ) → suc n ≤ c → n ≤ c
    below c h = omega arith

pub cells_in : (c : ℕ) → c < 256 → c ∈ cells
cells_in c h = count_in_lem 256 [] c (inl h)

pub cells_of : (c : ℕ) → c ∈ cells → c < 256
cells_of c m = ⊎_elim (λ h. h) (λ k. absurd (Memᴰ.not-nil k)) (count_of 256 [] c m)

pub cells_distinct : Distinct cells
cells_distinct = pairwise_map apart cells (count_rises 256 [] (λ c m. absurd (Memᴰ.not-nil m)) tt)
  where
    apart : (a b : ℕ) → a < b → a ≡ b → ⊥
    apart a b h e = omega arith

-- ---- the visiting order

module _ (rule : Rule) where
  pub in_order_lem : (c : ℕ) → in_order rule c ≡ true → (c < 256) × (cell_counts rule c ≡ true)
  unfolding in_order
  in_order_lem c h = let both = and_both (ltb c 256) (cell_counts rule c) h in (ltb-true c 256 both.0, both.1)

  pub order_in : (c : ℕ) → c < 256 → cell_counts rule c ≡ true → in_order rule c ≡ true
  unfolding in_order
  order_in c h t = and_true (lt-ltb c 256 h) t

  -- 256 is no cell
  pub no_order : in_order rule 256 ≡ false
  unfolding in_order
  no_order = refl

  counted_in_lem : (c : ℕ) → in_order rule c ≡ true → c ∈ counted_cells rule
  counted_in_lem c h = let both = in_order_lem c h in only_in (cell_counts rule) cells (cells_in c both.0) both.1

  counted_of : (c : ℕ) → c ∈ counted_cells rule → in_order rule c ≡ true
  counted_of c m = let r = only_of (cell_counts rule) cells m in order_in c (cells_of c r.0) r.1

  pub counted_distinct : Distinct (counted_cells rule)
  counted_distinct = pairwise_only Other (cell_counts rule) cells cells_distinct

  pub visiting_in : (c : ℕ) → in_order rule c ≡ true → c ∈ visiting rule
  unfolding visiting
  visiting_in c h = rank_in_lem (before rule) (before_strict rule) (counted_cells rule) c (counted_in_lem c h)

  pub visiting_of : (c : ℕ) → c ∈ visiting rule → in_order rule c ≡ true
  unfolding visiting
  visiting_of c m = counted_of c (rank_of (before rule) (before_strict rule) (counted_cells rule) c m)

  pub visiting-same : Same (counted_cells rule) (visiting rule)
  visiting-same = (λ c m. visiting_in c (counted_of c m), λ c m. counted_in_lem c (visiting_of c m))

  pub visiting_falling : Falling (before rule) (visiting rule)
  unfolding visiting
  visiting_falling = rank_falling (before rule) (before_strict rule) (counted_cells rule)

  pub visiting_distinct : Distinct (visiting rule)
  visiting_distinct = falling_distinct (before rule) (before_strict rule) (visiting rule) visiting_falling

  pub length-visiting : length (visiting rule) ≡ most_steps rule
  unfolding visiting most_steps
  length-visiting = length-rank (before rule) (before_strict rule) (counted_cells rule) counted_distinct

  pub most_cells : most_steps rule ≤ 256
  unfolding most_steps
  most_cells = only-length (cell_counts rule) cells

  -- as many of the cells pass a test as of the order
  pub counted-order : (p : ℕ → Bool) → length (only (λ c. cell_counts rule c && p c) cells) ≡ length (only p (visiting rule))
  counted-order p =
      ap length (sym (only-only p (cell_counts rule) cells))
      ∙ length-same ltb ltb_strict (only p (counted_cells rule)) (only p (visiting rule))
      (pairwise_only Other p (counted_cells rule) counted_distinct) (pairwise_only Other p (visiting rule) visiting_distinct)
      (same-only p (counted_cells rule) (visiting rule) visiting-same)

  -- what is taken later has no greater best possible score
  pub before-best : (c d : ℕ) → before rule c d ≡ true → lt_z (best_score rule c) (best_score rule d) ≡ false
  unfolding before
  before-best c d h =
      ⊎_elim (λ p. one_way lt_z lt_z_strict (best_score rule d) (best_score rule c) p)
      (λ p. subst (λ z. lt_z (best_score rule c) z ≡ false) p.0 (lt_z_strict.irreflexive (best_score rule c)))
      (greater_of (best_score rule c) (best_score rule d) (ltb c d) h)

-- ---- corners and bounds

-- what it means that a value lies inside a range, and that some value of a column or row does
pub record Inside (range : Range) (v : ℕ) : Type 0 where
  pub from_low : range.low ≤ v
  pub to_high : v ≤ range.high

pub record Meets (range : Range) (i : ℕ) : Type 0 where
  pub in_order_lem : range.low ≤ range.high
  pub starts : range.low ≤ 256 * i + 255
  pub ends : 256 * i ≤ range.high

module _ (range : Range) where
  pub inside_facts : (v : ℕ) → inside range v ≡ true → Inside range v
  inside_facts v h =
      let both = and_both (leb range.low v) (leb v range.high) h in
      record { from_low = leb-true range.low v both.0; to_high = leb-true v range.high both.1 }

  pub inside_is : (v : ℕ) → Inside range v → inside range v ≡ true
  inside_is v f = and_true (le-leb range.low v f.from_low) (le-leb v range.high f.to_high)

  pub meets_facts : (i : ℕ) → meets range i ≡ true → Meets range i
  meets_facts i h =
      let one = and_both (leb range.low range.high && leb range.low (256 * i + 255)) (leb (256 * i) range.high) h in
      let two = and_both (leb range.low range.high) (leb range.low (256 * i + 255)) one.0 in
      record {
        in_order_lem = leb-true range.low range.high two.0;
        starts = leb-true range.low (256 * i + 255) two.1;
        ends = leb-true (256 * i) range.high one.1;
      }

  pub meets-is : (i : ℕ) → Meets range i → meets range i ≡ true
  meets-is i f =
      and_true (and_true (le-leb range.low range.high f.in_order_lem) (le-leb range.low (256 * i + 255) f.starts))
      (le-leb (256 * i) range.high f.ends)

  -- the column or row of a value inside the range has one
  pub inside-meets : (v : ℕ) → inside range v ≡ true → meets range (v / 256) ≡ true
  inside-meets v h =
      let f = inside_facts v h in
      meets-is (v / 256) (record { in_order_lem = omega arith; starts = omega arith; ends = omega arith })

pub corner_high : (a : ℤ) (range : Range) (i : ℕ) → lt_z (pos 0) a ≡ true → corner a range i ≡ nearest range.high i
corner_high a range i e = rw (e, corner)

pub corner-low : (a : ℤ) (range : Range) (i : ℕ) → lt_z (pos 0) a ≡ false → corner a range i ≡ nearest range.low i
corner-low a range i e = rw (e, corner)

nearest_index : (v i : ℕ) → nearest v i / 256 ≡ i
nearest_index v i = omega arith

-- a corner lies in its cell
pub corner_index : (a : ℤ) (range : Range) (i : ℕ) → corner a range i / 256 ≡ i
corner_index a range i = go (tested (lt_z (pos 0) a))
  where
    go : Tested (lt_z (pos 0) a) → corner a range i / 256 ≡ i
    go (passed e) = rw (corner_high a range i e) (nearest_index range.high i)
    go (failed e) = rw (corner-low a range i e) (nearest_index range.low i)

-- what lies in a cell of the grid is permitted
pub in_grid : (v : ℕ) → v / 256 < 16 → v ≤ 4095
in_grid v h = omega arith

pub corner_small : (a : ℤ) (range : Range) (i : ℕ) → i < 16 → corner a range i ≤ 4095
corner_small a range i h = in_grid (corner a range i) (rw (corner_index a range i) h)

-- and inside the range, where some value of its column or row does
pub corner-inside : (a : ℤ) (range : Range) (i : ℕ) → meets range i ≡ true → inside range (corner a range i) ≡ true
corner-inside a range i h = go (tested (lt_z (pos 0) a))
  where
    f : Meets range i
    f = meets_facts range i h

    high : Inside range (nearest range.high i)
    high = let g = f in record { from_low = omega arith; to_high = omega arith }

    low : Inside range (nearest range.low i)
    low = let g = f in record { from_low = omega arith; to_high = omega arith }

    go : Tested (lt_z (pos 0) a) → inside range (corner a range i) ≡ true
    go (passed e) = rw (corner_high a range i e) (inside_is range (nearest range.high i) high)
    go (failed e) = rw (corner-low a range i e) (inside_is range (nearest range.low i) low)

pub column : (c : ℕ) → c % 16 < 16
column c = omega arith

pub row : (c : ℕ) → c < 256 → c / 16 < 16
row c h = omega arith

-- each cell by its column and row
pub cell_index : (v : Values) (c : ℕ) → v.loss / 256 ≡ c % 16 → v.shake / 256 ≡ c / 16 → cell v ≡ c
unfolding cell
cell_index v c p q = omega arith

pub cell-column : (v : Values) → v.loss ≤ 4095 → cell v % 16 ≡ v.loss / 256
unfolding cell
cell-column v h = omega arith

pub cell_row : (v : Values) → v.loss ≤ 4095 → cell v / 16 ≡ v.shake / 256
unfolding cell
cell_row v h = omega arith

pub cell_fits : (v : Values) → in_range v ≡ true → cell v < 256
unfolding cell
cell_fits v h = let f = range_facts v h in omega (arith, f.loss_fits, f.shake_fits)

-- no value of a cell's column or row inside the range counts for more than the corner
pub corner_up : (a : ℤ) (range : Range) (v : ℕ) → inside range v ≡ true → Up (a *ℤ pos v) (a *ℤ pos (corner a range (v / 256)))
corner_up (pos zero) range v h = record { gap = 0; is = ap pos nought }
  where
    nought : 0 * v + 0 ≡ 0 * nearest range.low (v / 256)
    nought = omega arith
corner_up (pos (suc n)) range v h =
    rw (corner_high (pos (suc n)) range (v / 256) (lt-ltb 0 (suc n) (omega arith)))
    (subst (λ u. Up (pos (suc n) *ℤ pos v) (pos (suc n) *ℤ pos u)) top (up_times (suc n) v (nearest range.high (v / 256) - v)))
  where
    top : v + (nearest range.high (v / 256) - v) ≡ nearest range.high (v / 256)
    top = let f = inside_facts range v h in omega arith
corner_up (negsuc n) range v h =
    subst (λ u. Up (negsuc n *ℤ pos u) (negsuc n *ℤ pos (nearest range.low (v / 256)))) bottom
    (down_times n (nearest range.low (v / 256)) (v - nearest range.low (v / 256)))
  where
    bottom : nearest range.low (v / 256) + (v - nearest range.low (v / 256)) ≡ v
    bottom = let f = inside_facts range v h in omega arith

-- ---- heat

unfoldable pub up_same : (x : ℤ) → Up x x
up_same x = record { gap = 0; is = +ℤ_idr x }

pub heat_hot : (c : ℤ) → lt_z (pos 0) c ≡ true → corner_heat c ≡ 4095
heat_hot c e = rw (e, corner_heat)

pub heat_cold : (c : ℤ) → lt_z (pos 0) c ≡ false → corner_heat c ≡ 0
heat_cold c e = rw (e, corner_heat)

pub heat_small : (c : ℤ) → corner_heat c ≤ 4095
heat_small c = go (tested (lt_z (pos 0) c))
  where
    go : Tested (lt_z (pos 0) c) → corner_heat c ≤ 4095
    go (passed e) = rw (heat_hot c e) (omega arith)
    go (failed e) = rw (heat_cold c e) (omega arith)

-- where heat has no weight every edition counts
pub heat_counts_cold : (c : ℤ) (e : Edition) → whole.equal c (pos 0) ≡ true → heat_counts c e ≡ true
heat_counts_cold c First h = h
heat_counts_cold c (Second heat) h = refl

heat_fits : (e : Edition) → heat_in_range e ≡ true → heat_of e ≤ 4095
heat_fits First h = omega arith
heat_fits (Second heat) h = leb-true heat 4095 h

-- no permitted heat counts for more than the best, nor does none
heat_up : (c : ℤ) (h : ℕ) → h ≤ 4095 → Up (c *ℤ pos h) (c *ℤ pos (corner_heat c))
heat_up (pos zero) h l = record { gap = 0; is = ap pos nought }
  where
    nought : 0 * h + 0 ≡ 0 * 0
    nought = omega arith
heat_up (pos (suc n)) h l =
    rw (heat_hot (pos (suc n)) (lt-ltb 0 (suc n) (omega arith)))
    (subst (λ u. Up (pos (suc n) *ℤ pos h) (pos (suc n) *ℤ pos u)) top (up_times (suc n) h (4095 - h)))
  where
    top : h + (4095 - h) ≡ 4095
    top = omega arith
heat_up (negsuc n) h l = subst (λ u. Up (negsuc n *ℤ pos u) (negsuc n *ℤ pos 0)) bottom (down_times n 0 h)
  where
    bottom : 0 + h ≡ h
    bottom = omega arith

-- a weight times a permitted value
part-within : (most : ℕ) (a : ℤ) (v : ℕ) → nat_abs a ≤ most → v ≤ 4095 → nat_abs (a *ℤ pos v) ≤ most * 4095
part-within most a v h g = rw (abs_times a v) (mul-le-mul h g)

-- a weight of 16 bits
part_small : (a : ℤ) (v : ℕ) → SFits w16 a → v ≤ 4095 → nat_abs (a *ℤ pos v) ≤ 134184960
part_small a v h g = part-within 32768 a v (nat_abs-le a h.sfits) g

pub part_fits : (a : ℤ) (v : ℕ) → SFits w16 a → v ≤ 4095 → SFits w32 (a *ℤ pos v)
part_fits a v h g = record { sfits = omega (arith, mag_le (a *ℤ pos v), part_small a v h g) }

-- and two of them
pub two_fit : (a : ℤ) (u : ℕ) → SFits w16 a → u ≤ 4095 → (b : ℤ) (v : ℕ) → SFits w16 b → v ≤ 4095 → SFits w32 (a *ℤ pos u +ℤ b *ℤ pos v)
two_fit a u f g b v h i =
    record { sfits = omega (arith, mag_le (a *ℤ pos u +ℤ b *ℤ pos v), abs_sum (a *ℤ pos u) (b *ℤ pos v), part_small a u f g, part_small b v h i) }

weight_most : (z : ℤ) → weight_fits z ≡ true → nat_abs z ≤ 1000
weight_most (pos n) t = leb-true n 1000 (and_both true (leb n 1000) t).1
weight_most (negsuc n) t = omega (arith, leb-true n 999 (and_both (leb n 999) true t).0)

weight_word : (z : ℤ) → weight_fits z ≡ true → SFits w16 z
weight_word z t = record { sfits = omega (arith, mag_le z, weight_most z t) }

module _ (rule : Rule) where
  abbrev losses : Range
  losses = rule.ranges.loss

  abbrev shakes : Range
  shakes = rule.ranges.shake

  pub counts_facts : (v : Values) → counts rule v ≡ true → (inside losses v.loss ≡ true) × (inside shakes v.shake ≡ true) × (heat_counts rule.weights.heat v.edition ≡ true)
  unfolding counts
  counts_facts v h =
      let both = and_both (inside losses v.loss && inside shakes v.shake) (heat_counts rule.weights.heat v.edition) h in
      let pair = and_both (inside losses v.loss) (inside shakes v.shake) both.0 in
      (pair.0, pair.1, both.1)

  -- the cell of values that count has some
  pub counts-cell : (v : Values) → in_range v ≡ true → counts rule v ≡ true → cell_counts rule (cell v) ≡ true
  unfolding cell_counts
  counts-cell v h t =
      let f = range_facts v h in
      let g = counts_facts v t in
      rw (cell-column v f.loss_fits, cell_row v f.loss_fits) (and_true (inside-meets losses v.loss g.0) (inside-meets shakes v.shake g.1))

  pub counts-order : (v : Values) → in_range v ≡ true → counts rule v ≡ true → in_order rule (cell v) ≡ true
  counts-order v h t = order_in rule (cell v) (cell_fits v h) (counts-cell v h t)

  -- the sum of values that count is at most the best possible score of their cell
  pub score_bound : (v : Values) → in_range v ≡ true → counts rule v ≡ true → lt_z (best_score rule (cell v)) (sum rule v) ≡ false
  unfolding best_score sum
  score_bound v h t =
      let f = range_facts v h in
      let g = counts_facts v t in
      rw (cell-column v f.loss_fits, cell_row v f.loss_fits)
      (up_le
      (up_sum (up_sum (corner_up rule.weights.loss losses v.loss g.0) (corner_up rule.weights.shake shakes v.shake g.1))
      (heat_up rule.weights.heat (heat_of v.edition) (heat_fits v.edition f.heat_fits))))

  -- the best possible score is the score of the cell's corner, which is permitted
  pub corner-cell : (c : ℕ) → cell (corner_of rule c) ≡ c
  corner-cell c =
      cell_index (corner_of rule c) c (corner_index rule.weights.loss losses (c % 16)) (corner_index rule.weights.shake shakes (c / 16))

  pub corner-loss : (c : ℕ) → (corner_of rule c).loss ≤ 4095
  corner-loss c = corner_small rule.weights.loss losses (c % 16) (column c)

  pub corner-shake : (c : ℕ) → c < 256 → (corner_of rule c).shake ≤ 4095
  corner-shake c h = corner_small rule.weights.shake shakes (c / 16) (row c h)

  pub corner_in : (c : ℕ) → c < 256 → in_range (corner_of rule c) ≡ true
  corner_in c h = range_is (corner_of rule c) (corner-loss c) (corner-shake c h) (le-leb (corner_heat rule.weights.heat) 4095 (heat_small rule.weights.heat))

  -- and counts, where some values of the cell do
  pub corner-counts : (c : ℕ) → cell_counts rule c ≡ true → counts rule (corner_of rule c) ≡ true
  unfolding counts cell_counts
  corner-counts c h =
      let both = and_both (meets losses (c % 16)) (meets shakes (c / 16)) h in
      and_true (and_true (corner-inside rule.weights.loss losses (c % 16) both.0) (corner-inside rule.weights.shake shakes (c / 16) both.1)) refl

  pub corner-best : (c : ℕ) → sum rule (corner_of rule c) ≡ best_score rule c
  unfolding best_score
  corner-best c = refl

  -- ---- what scoring answers

  pub score-counted : (v : Values) → counts rule v ≡ true → score rule v ≡ Some (sum rule v)
  unfolding score
  score-counted v h = if_so (Some (sum rule v)) None h

  pub score_out : (v : Values) → counts rule v ≡ false → score rule v ≡ None
  unfolding score
  score_out v h = if_not (Some (sum rule v)) None h

  pub scored_counts : (v : Values) → is_scored (score rule v) ≡ counts rule v
  scored_counts v = go (tested (counts rule v))
    where
      go : Tested (counts rule v) → is_scored (score rule v) ≡ counts rule v
      go (passed e) = ap is_scored (score-counted v e) ∙ sym e
      go (failed e) = ap is_scored (score_out v e) ∙ sym e

  -- the same from a least score on
  pub from_counted : (v : Values) (least : ℤ) → counts rule v ≡ true → lt_z (sum rule v) least ≡ false → from_least least (score rule v) ≡ Some (sum rule v)
  from_counted v least h e = ap (from_least least) (score-counted v h) ∙ if_not None (Some (sum rule v)) e

  pub from_out : (v : Values) (least : ℤ) → counts rule v ≡ false → from_least least (score rule v) ≡ None
  from_out v least h = ap (from_least least) (score_out v h)

  pub from_low : (v : Values) (least : ℤ) → lt_z (sum rule v) least ≡ true → from_least least (score rule v) ≡ None
  from_low v least e = go (tested (counts rule v))
    where
      go : Tested (counts rule v) → from_least least (score rule v) ≡ None
      go (passed h) = ap (from_least least) (score-counted v h) ∙ if_so None (Some (sum rule v)) e
      go (failed h) = from_out v least h

  -- no heat makes more of a loss and a shake than the best, so what is below the least with that is below it
  pub from_hottest : (v : Values) (least : ℤ) → in_range v ≡ true → lt_z (weighed rule.weights (hottest rule.weights v)) least ≡ true → from_least least (score rule v) ≡ None
  unfolding sum
  from_hottest v least h e =
      let most = weighed rule.weights (hottest rule.weights v) in
      let f = range_facts v h in
      from_low v least
      (ahead lt_z lt_z_strict (sum rule v) most least
      (up_le (up_sum (up_same (pair_part rule.weights v)) (heat_up rule.weights.heat (heat_of v.edition) (heat_fits v.edition f.heat_fits)))) e)

  pub hottest_in : (v : Values) → in_range v ≡ true → in_range (hottest rule.weights v) ≡ true
  hottest_in v h =
      let f = range_facts v h in
      range_is (hottest rule.weights v) f.loss_fits f.shake_fits (le-leb (corner_heat rule.weights.heat) 4095 (heat_small rule.weights.heat))

  pub points-sum : (v : Values) → is_scored (score rule v) ≡ true → points (score rule v) ≡ sum rule v
  points-sum v h = ap points (score-counted v (sym (scored_counts v) ∙ h))

  -- where heat has no weight no edition is looked at: what counts, and the sum, are those of loss and shake
  module _ (none : rule.weights.heat ≡ pos 0) where
    pub counts_pair : (v : Values) → counts rule v ≡ inside losses v.loss && inside shakes v.shake
    unfolding counts
    counts_pair v =
        ap (λ b. inside losses v.loss && inside shakes v.shake && b) (heat_counts_cold rule.weights.heat v.edition (equal-same rule.weights.heat (pos 0) none))
        ∙ and_so (inside losses v.loss && inside shakes v.shake)

    pub sum_pair : (v : Values) → sum rule v ≡ rule.weights.loss *ℤ pos v.loss +ℤ rule.weights.shake *ℤ pos v.shake
    unfolding sum
    sum_pair v =
        let pair = rule.weights.loss *ℤ pos v.loss +ℤ rule.weights.shake *ℤ pos v.shake in
        let heat = pos (heat_of v.edition) in
        ap (λ z. pair +ℤ z) (ap (λ z. z *ℤ heat) none ∙ zero-*ℤ heat) ∙ +ℤ_idr pair

    -- values of the same loss and shake have the same score, whatever their editions
    pub score_pair : (v w : Values) → v.loss ≡ w.loss → v.shake ≡ w.shake → score rule v ≡ score rule w
    unfolding score
    score_pair v w p q =
        ap₂ (λ t s. cond t (Some s) None)
        (counts_pair v ∙ ap₂ (λ l s. inside losses l && inside shakes s) p q ∙ sym (counts_pair w))
        (sum_pair v ∙ ap₂ (λ l s. rule.weights.loss *ℤ pos l +ℤ rule.weights.shake *ℤ pos s) p q ∙ sym (sum_pair w))

  -- so there the first edition will do for any
  pub score-named : (loss shake name : ℕ) → score rule (low (record { loss = loss; shake = shake; edition = edition_by rule.weights name })) ≡ score rule (low (values_named loss shake name))
  score-named loss shake name = go (tested (whole.equal rule.weights.heat (pos 0)))
    where
      having : Edition → Values
      having e = record { loss = loss; shake = shake; edition = e }

      go : Tested (whole.equal rule.weights.heat (pos 0)) → score rule (low (having (edition_by rule.weights name))) ≡ score rule (low (values_named loss shake name))
      go (passed e) = score_pair (equal_is rule.weights.heat (pos 0) e) (low (having (edition_by rule.weights name))) (low (values_named loss shake name)) refl refl
      go (failed e) = ap (λ d. score rule (low (having d))) (if_not First (edition_of (name % 4097)) e)

  -- a sum is at most three times what the largest value counts for by the largest weight
  sum-within : (most : ℕ) (v : Values) → nat_abs rule.weights.loss ≤ most → nat_abs rule.weights.shake ≤ most → nat_abs rule.weights.heat ≤ most → in_range v ≡ true
      → nat_abs (sum rule v) ≤ 3 * (most * 4095)
  unfolding sum
  sum-within most v l s t h =
      let f = range_facts v h in
      let x = rule.weights.loss *ℤ pos v.loss in
      let y = rule.weights.shake *ℤ pos v.shake in
      let z = rule.weights.heat *ℤ pos (heat_of v.edition) in
      omega (
        arith,
        abs_sum (x +ℤ y) z,
        abs_sum x y,
        part-within most rule.weights.loss v.loss l f.loss_fits,
        part-within most rule.weights.shake v.shake s f.shake_fits,
        part-within most rule.weights.heat (heat_of v.edition) t (heat_fits v.edition f.heat_fits),
      )

  -- no sum is large, whatever the weights of 16 bits, so every one fits 32
  pub sum_small : (v : Values) → Words rule.weights → in_range v ≡ true → mag (sum rule v) ≤ 402554880
  sum_small v w h =
      omega (
        arith,
        mag_le (sum rule v),
        sum-within 32768 v (nat_abs-le rule.weights.loss w.loss.sfits) (nat_abs-le rule.weights.shake w.shake.sfits) (nat_abs-le rule.weights.heat w.heat.sfits) h,
      )

  pub word_fits : (v : Values) → Words rule.weights → in_range v ≡ true → SFits w32 (sum rule v)
  word_fits v w h = record { sfits = omega (arith, sum_small v w h) }

  weights_facts : weights_fit rule ≡ true → (weight_fits rule.weights.loss ≡ true) × (weight_fits rule.weights.shake ≡ true) × (weight_fits rule.weights.heat ≡ true)
  unfolding weights_fit
  weights_facts fit =
      let all = and_both (weight_fits rule.weights.loss && weight_fits rule.weights.shake) (weight_fits rule.weights.heat) fit in
      let both = and_both (weight_fits rule.weights.loss) (weight_fits rule.weights.shake) all.0 in
      (both.0, both.1, all.1)

  -- rules 6.1 and 17.3: by weights that fit, a sum is from -12,285,000 to 12,285,000
  pub score_most : weights_fit rule ≡ true → (v : Values) → in_range v ≡ true → nat_abs (sum rule v) ≤ 12285000
  score_most fit v h =
      let f = weights_facts fit in
      sum-within 1000 v (weight_most rule.weights.loss f.0) (weight_most rule.weights.shake f.1) (weight_most rule.weights.heat f.2) h

  -- a score fits where the sum does
  pub points-fit : (v : Values) → SFits w32 (sum rule v) → ScoreFits rule v
  unfolding score
  points-fit v h = go (tested (counts rule v))
    where
      go : Tested (counts rule v) → SFits w32 (points (score rule v))
      go (passed e) = rw e h
      go (failed e) = rw e (record { sfits = omega arith })

  -- a rule is fit in its three parts
  pub fit_all : weights_fit rule ≡ true → ranges_proper rule ≡ true → ties_known rule ≡ true → fit_rule rule ≡ true
  unfolding fit_rule
  fit_all a b c = and_true (and_true a b) c

  pub fit_parts : fit_rule rule ≡ true → (weights_fit rule ≡ true) × (ranges_proper rule ≡ true)
  unfolding fit_rule
  fit_parts fit = and_both (weights_fit rule) (ranges_proper rule) (and_both (weights_fit rule && ranges_proper rule) (ties_known rule) fit).0

  -- the low ends of a fit rule's ranges are values that count
  abbrev pub low_ends : Values
  low_ends = record { loss = losses.low; shake = shakes.low; edition = Second 0 }

  pub fit-counts : fit_rule rule ≡ true → (in_range low_ends ≡ true) × (counts rule low_ends ≡ true)
  unfolding ranges_proper counts
  fit-counts fit =
      let both = and_both (is_proper losses) (is_proper shakes) (fit_parts fit).1 in
      let a = ends losses both.0 in
      let b = ends shakes both.1 in
      (range_is low_ends a.0 b.0 refl, and_true (and_true a.1 b.1) refl)
    where
      ends : (range : Range) → is_proper range ≡ true → (range.low ≤ 4095) × (inside range range.low ≡ true)
      ends range h =
          let both = and_both (leb range.low range.high) (leb range.high 4095) h in
          let order = leb-true range.low range.high both.0 in
          let high = leb-true range.high 4095 both.1 in
          (omega arith, and_true (le-leb range.low range.low (omega arith)) both.0)

  -- every score by a fit rule fits
  pub score_fits : fit_rule rule ≡ true → (v : Values) → in_range v ≡ true → ScoreFits rule v
  score_fits fit v h =
      let f = weights_facts (fit_parts fit).0 in
      points-fit v
      (word_fits v
      (record {
        loss = weight_word rule.weights.loss f.0;
        shake = weight_word rule.weights.shake f.1;
        heat = weight_word rule.weights.heat f.2;
      })
      h)

-- ---- scores from a least one on

pub from_is : (least : ℤ) (sc : Option ℤ) (s : ℤ) → from_least least sc ≡ Some s → sc ≡ Some s
from_is least (Some t) s h = go (tested (lt_z t least))
  where
    go : Tested (lt_z t least) → Some t ≡ Some s
    go (passed e) = absurd (other (sym (if_so None (Some t) e) ∙ h))
      where
        other : None ≡ Some s → ⊥
        other q = let z : ◌≡◌ {A = ℕ} 0 1 = cc in omega arith
    go (failed e) = sym (if_not None (Some t) e) ∙ h
from_is least None s h = absurd (other h)
  where
    other : None ≡ Some s → ⊥
    other q = let z : ◌≡◌ {A = ℕ} 0 1 = cc in omega arith

-- none: it doesn't count, or is below
pub from_none : (least : ℤ) (sc : Option ℤ) → from_least least sc ≡ None → (is_scored sc ≡ false) ⊎ ((is_scored sc ≡ true) × (lt_z (points sc) least ≡ true))
from_none least (Some t) h = go (tested (lt_z t least))
  where
    go : Tested (lt_z t least) → (is_scored (Some t) ≡ false) ⊎ ((is_scored (Some t) ≡ true) × (lt_z t least ≡ true))
    go (passed e) = inr (refl, e)
    go (failed e) = absurd (other (sym h ∙ if_not None (Some t) e))
      where
        other : None ≡ Some t → ⊥
        other q = let z : ◌≡◌ {A = ℕ} 0 1 = cc in omega arith
from_none least None h = inl refl
