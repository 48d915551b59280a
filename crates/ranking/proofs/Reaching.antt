-- The cells that reach a score are the first of the visiting order, since it falls by their best possible scores; so a look at all cells, or at the first of a row where that is below the score, finds how many they are and which comes after them.
-- Assumes nothing.
use mathlib.Core.Path.{◌≡◌, refl, sym, ap, ap₂, ◌∙◌, subst}
use mathlib.Core.Logic.{◌⊎◌, inl, inr, ◌↔◌}
use mathlib.Core.Bool.{Bool, true, false, not, ◌&&◌}
use mathlib.Core.List.{[]}
use Prim.Native.Nat.{ℕ, zero, suc, ◌+◌, ◌-◌, ◌*◌, ◌≤◌, ◌<◌}
use native.Mathlib.Nat.{add-zero, add-suc}
use native.Mathlib.Numerals.{add-one}
use native.Mathlib.Omega.{arith}
use borrow.Author.Tests.{lt-ltb, le-ltb, not-true, not-false}
use lib.Dec.{ltb}
use lib.IntN.{ℤ, pos, negsuc}
use lib.ListN.{length, drop}
use lib.Signed.{lt_z, mag}
use mir.Syntax.{w32}
use mir.Val.{SFits}
use Rattle.laws.specs.Lists.{◌∈◌, only}
use Rattle.ranking.specs.Cells.{cell_counts, corner_of, best_score, before, numbers_below, visiting, reaching, reach_of}
use Rattle.ranking.specs.declared.Sought.{Sought}
use Rattle.ranking.specs.declared.Rule.{Rule}
use Rattle.laws.proofs.Tests.{Tested, passed, failed, tested, clash, and_both, and_true, and_no, if_so, if_not, either}
use Rattle.laws.proofs.Lists.{First, pairwise_map, drop-⊆, lt_or_eq, fails_left, left_fails}
use Rattle.laws.proofs.Orders.{ahead, behind}
use Rattle.laws.proofs.Whole.{lt_z_strict}
use Rattle.ranking.proofs.Cells.{more, greater_by, greater_tie, Numbers, less, equal, numbers, less_by, before-best, in_order_lem, order_in, visiting_in, visiting_of, visiting_falling, counted-order, corner-best, corner_in, sum_small}
use Rattle.ranking.proofs.Scan.{Scanned, scanned_none, scanned_take, scanned_leave, scanned_left, counted_yes, counted_no}
use Rattle.ranking.specs.Inner.{no_best, met, met_row, FirstOf, Words}

-- what one cell more comes to
module _ (at : Sought) (c : ℕ) (best s : ℤ) where
  pub met-counts : lt_z best s ≡ false → met at c best s ≡ record { cells = at.cells + 1; next = at.next; best = at.best }
  unfolding met
  met-counts e = rw e

  pub met-sooner : lt_z best s ≡ true → lt_z at.best best ≡ true → met at c best s ≡ record { cells = at.cells; next = c; best = best }
  unfolding met
  met-sooner e f = rw (e, f)

  pub met-later : lt_z best s ≡ true → lt_z at.best best ≡ false → met at c best s ≡ at
  unfolding met
  met-later e f = rw (e, f)

-- it counts once at most
pub met_few : (at : Sought) (c : ℕ) (best s : ℤ) → (met at c best s).cells ≤ at.cells + 1
met_few at c best s = go (tested (lt_z best s)) (tested (lt_z at.best best))
  where
    go : Tested (lt_z best s) → Tested (lt_z at.best best) → (met at c best s).cells ≤ at.cells + 1
    go (failed e) t = subst (λ (m : Sought). m.cells ≤ at.cells + 1) (sym (met-counts at c best s e)) (omega arith)
    go (passed e) (passed t) = subst (λ (m : Sought). m.cells ≤ at.cells + 1) (sym (met-sooner at c best s e t)) (omega arith)
    go (passed e) (failed t) = subst (λ (m : Sought). m.cells ≤ at.cells + 1) (sym (met-later at c best s e t)) (omega arith)

-- a row's cells
module _ (rule : Rule) (s : ℤ) where
  pub row_none : (at : Sought) (row : ℕ) → at ≡ met_row rule s at row 0
  unfolding met_row
  row_none at row = refl

  pub row_more : (at : Sought) (row n : ℕ) → cell_counts rule (16 * row + n) ≡ true → met (met_row rule s at row n) (16 * row + n) (best_score rule (16 * row + n)) s ≡ met_row rule s at row (n + 1)
  unfolding met_row
  row_more at row n e = sym (if_so (met (met_row rule s at row n) (16 * row + n) (best_score rule (16 * row + n)) s) (met_row rule s at row n) e) ∙ ap (met_row rule s at row) (sym (add-one n))

  row_skip : (at : Sought) (row n : ℕ) → cell_counts rule (16 * row + n) ≡ false → met_row rule s at row n ≡ met_row rule s at row (suc n)
  unfolding met_row
  row_skip at row n e = sym (if_not (met (met_row rule s at row n) (16 * row + n) (best_score rule (16 * row + n)) s) (met_row rule s at row n) e)

  -- cells outside the order are passed over
  pub row_skips : (at : Sought) (row n d : ℕ) → ((i : ℕ) → n ≤ i → i < n + d → cell_counts rule (16 * row + i) ≡ false) → met_row rule s at row n ≡ met_row rule s at row (n + d)
  row_skips at row n zero out = ap (met_row rule s at row) (sym (add-zero n))
  row_skips at row n (suc d) out =
      row_skips at row n d (λ i h l. out i h (omega arith))
      ∙ row_skip at row (n + d) (out (n + d) (omega arith) (omega arith))
      ∙ ap (met_row rule s at row) (sym (add-suc n d))

-- ---- a row by its first cell

-- a cell that is taken later, and then one sooner: the former leaves nothing
met_over : (at : Sought) (c d : ℕ) (b e s : ℤ) → lt_z b e ≡ true → lt_z e s ≡ true → met (met at c b s) d e s ≡ met at d e s
met_over at c d b e s p q = go (tested (lt_z at.best b))
  where
    under : lt_z b s ≡ true
    under = lt_z_strict.transitive b e s p q

    go : Tested (lt_z at.best b) → met (met at c b s) d e s ≡ met at d e s
    go (failed t) = ap (λ (m : Sought). met m d e s) (met-later at c b s under t)
    go (passed t) =
        ap (λ (m : Sought). met m d e s) (met-sooner at c b s under t)
        ∙ met-sooner (record { cells = at.cells; next = c; best = b }) d e s q p
        ∙ sym (met-sooner at d e s q (lt_z_strict.transitive at.best b e t p))

-- one that isn't taken sooner leaves nothing behind it
met_under : (at : Sought) (c d : ℕ) (b e s : ℤ) → lt_z b e ≡ false → lt_z b s ≡ true → met (met at c b s) d e s ≡ met at c b s
met_under at c d b e s p q = go (tested (lt_z at.best b))
  where
    under : lt_z e s ≡ true
    under = ahead lt_z lt_z_strict e b s p q

    kept : lt_z at.best b ≡ false → Tested (lt_z at.best e) → lt_z at.best e ≡ false
    kept t (failed f) = f
    kept t (passed f) = clash (behind lt_z lt_z_strict at.best e b f p) t

    go : Tested (lt_z at.best b) → met (met at c b s) d e s ≡ met at c b s
    go (passed t) =
        ap (λ (m : Sought). met m d e s) (met-sooner at c b s q t)
        ∙ met-later (record { cells = at.cells; next = c; best = b }) d e s under p
        ∙ sym (met-sooner at c b s q t)
    go (failed t) =
        ap (λ (m : Sought). met m d e s) (met-later at c b s q t)
        ∙ met-later at d e s under (kept t (tested (lt_z at.best e)))
        ∙ sym (met-later at c b s q t)

-- where the first of a row's cells is below the score, the row is that cell
module _ (rule : Rule) (s : ℤ) (at : Sought) (row c : ℕ) (f : FirstOf rule row c) (low : lt_z (best_score rule c) s ≡ true) where
  abbrev best : ℕ → ℤ
  best i = best_score rule (16 * row + i)

  before_it : (n : ℕ) → n ≤ f.column → met (met_row rule s at row n) c (best_score rule c) s ≡ met at c (best_score rule c) s
  before_it zero h = ap (λ (m : Sought). met m c (best_score rule c) s) (sym (row_none rule s at row))
  before_it (suc n) h = go (tested (cell_counts rule (16 * row + n))) ∙ before_it n (omega arith)
    where
      go : Tested (cell_counts rule (16 * row + n)) → met (met_row rule s at row (suc n)) c (best_score rule c) s ≡ met (met_row rule s at row n) c (best_score rule c) s
      go (failed e) = ap (λ (m : Sought). met m c (best_score rule c) s) (sym (row_skip rule s at row n e))
      go (passed e) =
          ap (λ (m : Sought). met m c (best_score rule c) s) (ap (met_row rule s at row) (sym (add-one n)) ∙ sym (row_more rule s at row n e))
          ∙ met_over (met_row rule s at row n) (16 * row + n) c (best n) (best_score rule c) s (f.sooner n (omega arith) e) low

  at_it : met_row rule s at row (f.column + 1) ≡ met at c (best_score rule c) s
  at_it =
      sym (row_more rule s at row f.column (subst (λ d. cell_counts rule d ≡ true) f.is f.counts))
      ∙ ap (λ d. met (met_row rule s at row f.column) d (best_score rule d) s) (sym f.is)
      ∙ before_it f.column (omega arith)

  past_it : (d : ℕ) → f.column + 1 + d ≤ 16 → met_row rule s at row (f.column + 1 + d) ≡ met at c (best_score rule c) s
  past_it zero h = ap (met_row rule s at row) (add-zero (f.column + 1)) ∙ at_it
  past_it (suc d) h = ap (met_row rule s at row) (add-suc (f.column + 1) d) ∙ go (past_it d (omega arith)) (tested (cell_counts rule (16 * row + n)))
    where
      n : ℕ
      n = f.column + 1 + d

      go : met_row rule s at row n ≡ met at c (best_score rule c) s → Tested (cell_counts rule (16 * row + n)) → met_row rule s at row (suc n) ≡ met at c (best_score rule c) s
      go is (failed e) = sym (row_skip rule s at row n e) ∙ is
      go is (passed e) =
          ap (met_row rule s at row) (sym (add-one n))
          ∙ sym (row_more rule s at row n e)
          ∙ ap (λ (m : Sought). met m (16 * row + n) (best n) s) is
          ∙ met_under at c (16 * row + n) (best_score rule c) (best n) s (f.later n (omega arith) (omega arith) e) low

  pub row_first : met_row rule s at row 16 ≡ met at c (best_score rule c) s
  row_first = ap (met_row rule s at row) (sym whole) ∙ past_it (16 - (f.column + 1)) (omega (arith, f.within))
    where
      whole : f.column + 1 + (16 - (f.column + 1)) ≡ 16
      whole = omega (arith, f.within)

-- every best score of the order is above the one that stands for none
abbrev pub Modest : Rule → Type 0
Modest rule = (c : ℕ) → c < 256 → lt_z no_best (best_score rule c) ≡ true

best_small : (rule : Rule) → Words rule.weights → (c : ℕ) → c < 256 → mag (best_score rule c) ≤ 402554880
best_small rule w c h = subst (λ z. mag z ≤ 402554880) (corner-best rule c) (sum_small rule (corner_of rule c) w (corner_in rule c h))

pub best_fits : (rule : Rule) → Words rule.weights → (c : ℕ) → c < 256 → SFits w32 (best_score rule c)
best_fits rule w c h = record { sfits = omega (arith, best_small rule w c h) }

pub modest : (rule : Rule) → Words rule.weights → Modest rule
modest rule w c h = above-least (best_score rule c) (best_small rule w c h)
  where
    above-least : (z : ℤ) → mag z ≤ 402554880 → lt_z no_best z ≡ true
    above-least (pos n) l = refl
    above-least (negsuc n) l = lt-ltb n 2147483647 (omega arith)

module _ (rule : Rule) (s : ℤ) where
  -- a cell of the order has a best possible score below the score, or not
  abbrev low : ℕ → Bool
  low c = lt_z (best_score rule c) s

  abbrev pub below : ℕ → Bool
  below c = cell_counts rule c && low c

  abbrev pub reached : ℕ → Bool
  reached c = cell_counts rule c && not (low c)

  -- ---- in the visiting order

  reached_first : First (λ c. not (low c)) (visiting rule)
  reached_first = pairwise_map earlier (visiting rule) (visiting_falling rule)
    where
      earlier : (c d : ℕ) → before rule c d ≡ true → not (low d) ≡ true → not (low c) ≡ true
      earlier c d h r = go (tested (low c))
        where
          go : Tested (low c) → not (low c) ≡ true
          go (failed f) = ap not f
          go (passed f) = clash (ahead lt_z lt_z_strict (best_score rule d) (best_score rule c) s (before-best rule c d h) f) (not-true (low d) r)

  reaching-order : reaching rule s ≡ length (only (λ c. not (low c)) (visiting rule))
  unfolding reaching
  reaching-order = counted-order rule (λ c. not (low c))

  -- the cells below the score are those that are left after as many
  left_below : (c : ℕ) → c < 256 → below c ≡ true ↔ c ∈ drop (reaching rule s) (visiting rule)
  left_below c h = (
    λ e.
        let r = and_both (cell_counts rule c) (low c) e in
        subst (λ n. c ∈ drop n (visiting rule)) (sym reaching-order)
        (fails_left (λ d. not (low d)) (visiting rule) reached_first c (visiting_in rule c (order_in rule c h r.0)) (ap not r.1)),
    λ m.
        and_true (in_order_lem rule c (visiting_of rule c (drop-⊆ (reaching rule s) (visiting rule) c m))).1
        (not-false (low c) (left_fails (λ d. not (low d)) (visiting rule) reached_first c (subst (λ n. c ∈ drop n (visiting rule)) reaching-order m))),
  )

  -- ---- by rising cells

  -- what is known after the cells below d have been looked at
  pub record Met (d : ℕ) (at : Sought) : Type 0 where
    pub number : at.cells ≡ length (only reached (numbers_below d []))
    pub few : at.cells ≤ d
    pub first : Scanned rule below d at.next
    pub known : (at.next < 256 → (at.next < d) × (at.best ≡ best_score rule at.next)) × (at.next ≡ 256 → at.best ≡ no_best)

  pub met-none : (at : Sought) → at ≡ record { cells = 0; next = 256; best = no_best } → Met 0 at
  met-none at e =
      subst (Met 0) (sym e)
      (record { number = refl; few = omega arith; first = scanned_none rule below; known = (λ h. absurd (no h), λ h. refl) })
    where
      no : 256 < 256 → ⊥
      no h = omega arith

  module _ (d : ℕ) (at : Sought) (cell : d < 256) (so_far : Met d at) where
    up_to : {n : ℕ} → n < d → n < d + 1
    up_to h = omega arith

    stays : (at.next < 256 → (at.next < d + 1) × (at.best ≡ best_score rule at.next)) × (at.next ≡ 256 → at.best ≡ no_best)
    stays = (λ h. let k = so_far.known.0 h in (up_to k.0, k.1), so_far.known.1)

    -- a cell outside the order
    pub met_skip : cell_counts rule d ≡ false → Met (d + 1) at
    met_skip e =
        record {
          number = so_far.number ∙ sym (counted_no reached d (ap (λ b. b && not (low d)) e));
          few = omega (arith, so_far.few);
          first = scanned_leave rule below at.next d cell so_far.first (λ t. clash (and_both (cell_counts rule d) (low d) t).0 e);
          known = stays;
        }

    module _ (in-it : cell_counts rule d ≡ true) where
      counts : low d ≡ false → Met (d + 1) (record { cells = at.cells + 1; next = at.next; best = at.best })
      counts e =
          record {
            number = ap (λ n. n + 1) so_far.number ∙ sym (counted_yes reached d (and_true in-it (ap not e)));
            few = omega (arith, so_far.few);
            first = scanned_leave rule below at.next d cell so_far.first (λ t. clash (and_both (cell_counts rule d) (low d) t).1 e);
            known = stays;
          }

      -- of two cells the later one is taken sooner exactly where its best possible score is greater
      sooner : lt_z at.best (best_score rule d) ≡ true → at.next < 256 → before rule d at.next ≡ true
      unfolding before
      sooner e h =
          greater_by (best_score rule d) (best_score rule at.next) (ltb d at.next)
          (subst (λ b. lt_z b (best_score rule d) ≡ true) (so_far.known.0 h).1 e)

      not_sooner : lt_z at.best (best_score rule d) ≡ false → at.next < 256 → before rule d at.next ≡ false
      unfolding before
      not_sooner e h = go (numbers (best_score rule d) (best_score rule at.next))
        where
          go : Numbers (best_score rule d) (best_score rule at.next) → before rule d at.next ≡ false
          go (more l) = clash l (subst (λ b. lt_z b (best_score rule d) ≡ false) (so_far.known.0 h).1 e)
          go (less l) = less_by (best_score rule d) (best_score rule at.next) (ltb d at.next) l
          go (equal l) =
              greater_tie (best_score rule d) (best_score rule at.next) (ltb d at.next) l ∙ le-ltb d at.next (omega (arith, (so_far.known.0 h).0))

      takes : low d ≡ true → lt_z at.best (best_score rule d) ≡ true → Met (d + 1) (record { cells = at.cells; next = d; best = best_score rule d })
      takes e q =
          record {
            number = so_far.number ∙ sym (counted_no reached d (and_no (cell_counts rule d) (ap not e)));
            few = omega (arith, so_far.few);
            first = scanned_take rule below at.next d cell so_far.first (and_true in-it e) (sooner q);
            known = (λ h. (omega arith, refl), λ h. absurd (no d cell h));
          }
        where
          no : (n : ℕ) → n < 256 → n ≡ 256 → ⊥
          no n h g = omega arith

      -- where a cell has been found before, it goes on; none can't be, since its best score stands for none
      leaves : Modest rule → low d ≡ true → lt_z at.best (best_score rule d) ≡ false → Met (d + 1) at
      leaves modest e q =
          record {
            number = so_far.number ∙ sym (counted_no reached d (and_no (cell_counts rule d) (ap not e)));
            few = omega (arith, so_far.few);
            first = scanned_leave rule below at.next d cell so_far.first (λ t. go (lt_or_eq so_far.first.at_most));
            known = stays;
          }
        where
          go : (at.next < 256) ⊎ (at.next ≡ 256) → (at.next < 256) × (before rule d at.next ≡ false)
          go (inl h) = (h, not_sooner q h)
          go (inr h) = clash (modest d cell) (subst (λ b. lt_z b (best_score rule d) ≡ false) (so_far.known.1 h) q)

      pub met_more : Modest rule → Met (d + 1) (met at d (best_score rule d) s)
      met_more modest = go (tested (low d)) (tested (lt_z at.best (best_score rule d)))
        where
          go : Tested (low d) → Tested (lt_z at.best (best_score rule d)) → Met (d + 1) (met at d (best_score rule d) s)
          go (failed e) u = subst (Met (d + 1)) (sym (met-counts at d (best_score rule d) s e)) (counts e)
          go (passed e) (passed u) = subst (Met (d + 1)) (sym (met-sooner at d (best_score rule d) s e u)) (takes e u)
          go (passed e) (failed u) = subst (Met (d + 1)) (sym (met-later at d (best_score rule d) s e u)) (leaves modest e u)

  module _ (modest : Modest rule) where
    row_to : (at : Sought) (row : ℕ) → row < 16 → Met (16 * row) at → (n : ℕ) → n ≤ 16 → Met (16 * row + n) (met_row rule s at row n)
    unfolding met_row
    row_to at row h m zero l = subst (λ d. Met d at) (sym (add-zero (16 * row))) m
    row_to at row h m (suc n) l =
        subst (λ d. Met d (met_row rule s at row (suc n))) (up (16 * row))
        (either (Met (16 * row + n + 1)) (cell_counts rule (16 * row + n))
        (λ e. met_more (16 * row + n) (met_row rule s at row n) (omega arith) (row_to at row h m n (omega arith)) e modest)
        (λ e. met_skip (16 * row + n) (met_row rule s at row n) (omega arith) (row_to at row h m n (omega arith)) e))
      where
        up : (d : ℕ) → d + n + 1 ≡ d + suc n
        up d = omega arith

    pub met_row_lem : (at : Sought) (row : ℕ) → row < 16 → Met (16 * row) at → Met (16 * (row + 1)) (met_row rule s at row 16)
    met_row_lem at row h m = subst (λ d. Met d (met_row rule s at row 16)) next (row_to at row h m 16 (omega arith))
      where
        next : 16 * row + 16 ≡ 16 * (row + 1)
        next = omega arith

  pub met_all : (at : Sought) → Met 256 at → record { cells = at.cells; next = at.next } ≡ reach_of rule s
  unfolding reach_of reaching
  met_all at m =
      ap₂ (λ n c. record { cells = n; next = c }) m.number (scanned_left rule below (reaching rule s) at.next left_below m.first)
