-- The loop's invariant: the rows below `row` are fit. The first that isn't makes the answer false, and after all of them it is true.
-- Assumes nothing.
use mathlib.Core.Path.{◌≡◌, refl, sym, ap, ◌∙◌, subst}
use mathlib.Core.Bool.{Bool, true}
use Prim.Native.Nat.{ℕ, ◌+◌}
use native.Mathlib.Omega.{arith}
use native.Mathlib.Numerals.{add-one}
use Rattle.laws.proofs.Tests.{and_true}
use Rattle.window.specs.Rows.{row_of, row_in, number_at, values_at, number_in, values_in, due, holds, row_fit, rows_fit}
use Rattle.window.specs.declared.Row.{Row}
use Rattle.window.specs.declared.Window.{Window}
use Rattle.window.proofs.Fitness.{ranges_of, unfit_row}
use Rattle.window.proofs.rows_fit.Goals as goal

-- what the calls of a turn say of the row
judged : (w : Window) (row n : ℕ) {h : Row} {b : Bool} → b ≡ holds n (number_at h) (values_at h) → h ≡ row_in w.rows row → n ≡ due w.counts row → row_fit w row ≡ b
judged w row n p q r =
    sym (p ∙ ap (λ h. holds n (number_at h) (values_at h)) q ∙ ap (λ m. holds m (number_in w row) (values_in w row)) r)

pub overflow_add-counts : goal.overflow_add-counts
overflow_add-counts c = let k = ranges_of c.args.w.counts c.requires in omega arith

pub row_of-last-requires : goal.row_of-last-requires
row_of-last-requires c = let k = ranges_of c.args.w.counts c.requires in omega arith

pub loop-row-init : goal.loop-row-init
unfolding rows_fit
loop-row-init c = refl

pub due-requires : goal.due-requires
due-requires c =
    let k = ranges_of c.args.w.counts c.requires in
    (k.ring.positive, k.within, k.ring.were_entered, c.row_of-last.ensures ∙ ap (λ n. row_of c.args.w.counts.size (c.args.w.counts.entered + n)) c.from.ensures)

pub returns-then-not-holds : goal.returns-then-not-holds
returns-then-not-holds c =
    sym (unfit_row c.args.w 1024 c.loop-row.row (omega arith) (judged c.args.w _ _ c.holds.ensures c.row.ensures c.due.ensures ∙ c.if-not-holds.true))

pub loop-row-preserved : goal.loop-row-preserved
unfolding rows_fit
loop-row-preserved c =
    rw (add-one c.loop-row.row)
    (and_true c.loop-row.invariant (judged c.args.w _ _ c.holds.ensures c.row.ensures c.due.ensures ∙ c.if-not-holds.false))

pub returns : goal.returns
returns c =
    let all : c.loop-row.row ≡ 1024 = omega arith in
    sym (subst (λ n. rows_fit c.args.w n ≡ true) all c.loop-row.invariant)
