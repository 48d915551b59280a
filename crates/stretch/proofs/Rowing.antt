-- The rows from the bound on have no name and so hold no report, so that a search of those before it finds what one of all rows finds.
-- Assumes nothing.
use mathlib.Core.Path.{◌≡◌, sym, ap, subst, ◌∙◌}
use mathlib.Core.List.{List}
use Prim.Native.Nat.{ℕ, ◌+◌, ◌-◌, ◌/◌, min, ◌≤◌, ◌<◌}
use native.Mathlib.Omega.{arith}
use borrow.Author.Tests.{leb-true, leb-false, eqb-true}
use lib.Dec.{eqb, leb}
use lib.ListN.{get_or, set}
use lib.Seq.{get_or-set_other}
use Rattle.laws.proofs.Tests.{Tested, passed, failed, tested, if_so, if_not}
use Rattle.window.specs.declared.Window.{Window}
use Rattle.window.specs.Rows.{standing}
use Rattle.window.proofs.Standing.{standing-end}
use Rattle.slot.proofs.Gauges.{used_few, used-blank}
use Rattle.stretch.specs.Inner.{rows_used, with_row}

pub record Rowed (names : List ℕ) (rows : ℕ) : Type 0 where
  pub few : rows ≤ 1024
  pub empty : (i : ℕ) → rows ≤ i → i < 1024 → get_or names i 0 ≡ 0

pub rowed_of : (names : List ℕ) {rows : ℕ} → rows ≡ rows_used 1024 names → Rowed names rows
rowed_of names e =
    record {
      few = subst (λ n. n ≤ 1024) (sym e) (used_few (λ k. eqb k 0) 0 1024 names);
      empty = λ i h k. eqb-true (get_or names i 0) 0 (used-blank (λ k. eqb k 0) 0 1024 names i (subst (λ n. n ≤ i) e h) k);
    }

-- ---- a row more

pub rowed_with : {names : List ℕ} {rows : ℕ} → Rowed names rows → (row v : ℕ) → row < 1024 → {n : ℕ} → n ≡ with_row rows row → Rowed (set names row v) n
rowed_with {names} {rows} r row v fits {n} e = go (tested (leb rows row))
  where
    go : Tested (leb rows row) → Rowed (set names row v) n
    go (passed t) =
        let is : n ≡ row + 1 = e ∙ if_so (row + 1) rows t in
        let up = leb-true rows row t in
        record {
          few = omega arith;
          empty = λ i h k. get_or-set_other names row i v 0 (λ same. absurd (omega arith)) ∙ r.empty i (omega arith) k;
        }
    go (failed t) =
        let is : n ≡ rows = e ∙ if_not (row + 1) rows t in
        let down = leb-false rows row t in
        record {
          few = omega (arith, r.few);
          empty = λ i h k. get_or-set_other names row i v 0 (λ same. absurd (omega arith)) ∙ r.empty i (omega arith) k;
        }

-- ---- what a search reads

pub rowed_all : (w : Window) {rows : ℕ} → Rowed w.rows.names rows → standing w (min rows 1024) ≡ standing w 1024
rowed_all w {rows} r =
    let there : min rows 1024 ≡ rows = omega (arith, r.few) in
    let whole : rows + (1024 - rows) ≡ 1024 = omega (arith, r.few) in
    ap (standing w) there ∙ standing-end w rows (1024 - rows) (λ i h k. ap (λ (n : ℕ). n / 4097) (r.empty i h (omega (arith, whole)))) ∙ ap (standing w) whole
