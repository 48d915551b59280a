-- The invariant: the cells of the row's columns so far have been met, whatever rule these columns and this row's part are of.
-- Assumes nothing.
use mathlib.Core.Path.{◌≡◌, sym, ap, ap₂, ◌∙◌, subst}
use Prim.Native.Nat.{ℕ, ◌+◌, ◌*◌, ◌-◌, ◌≤◌, ◌<◌}
use native.Mathlib.Nat.{zero-add}
use native.Mathlib.Omega.{arith}
use borrow.Author.Tests.{not-true, not-false}
use lib.IntN.{ℤ, pos, ◌+ℤ◌}
use lib.ListN.{get_or}
use mir.Facts.{to_z-of_z}
use mir.Syntax.{w32}
use mir.Val.{SFits, to_z, of_z}
use Rattle.laws.proofs.Words.{kept}
use Rattle.ranking.specs.Cells.{meets, best_score}
use Rattle.ranking.specs.Inner.{met, met_row, row_part, stripes_of, Across}
use Rattle.ranking.specs.declared.Rule.{Rule}
use Rattle.ranking.specs.declared.Sought.{Sought}
use Rattle.ranking.specs.declared.Stripes.{Stripes}
use mathlib.Core.Bool.{true}
use mathlib.Core.List.{List}
use lib.Signed.{mag}
use Rattle.ranking.proofs.Columns.{Along, along_in, along_before, along_behind, along_best, along_ends, part_word, row_out_all}
use Rattle.ranking.proofs.Reaching.{met_few, row_none, row_more, row_skips, best_fits}
use mathlib.Core.Bool.{not}
use Rattle.ranking.proofs.Rule.row_met.Goals as goal

along : (rule : Rule) (row : ℕ) (across : List ℤ) (part : ℤ) (at : Stripes) → Across rule across → mag part < 2147483648 → part ≡ row_part rule row
    → meets rule.ranges.shake row ≡ true → at ≡ stripes_of rule.ranges.loss → Along row across (to_z w32 (of_z w32 part)) at.first at.end rule
along rule row across part at parts fits down met stripes = record { parts = parts; down = kept w32 part fits ∙ down; met = met; stripes = sym stripes }

part_back : (rule : Rule) (across : List ℤ) → Across rule across → (n : ℕ) → n < 16 → to_z w32 (of_z w32 (get_or across n (pos 0))) ≡ get_or across n (pos 0)
part_back rule across parts n small = to_z-of_z (subst (SFits w32) (sym (parts.each n small)) (part_word rule parts.words n small))

best_fits_in : (row : ℕ) (across : List ℤ) (part : ℤ) (first end : ℕ) (rule : Rule) → Along row across part first end rule → row < 16 → (n : ℕ) → n < 16
    → {x : ℤ} → x ≡ get_or across n (pos 0) → SFits w32 (x +ℤ part)
best_fits_in row across part first end rule own in-it n small whole =
    subst (SFits w32) (sym (ap (λ z. z +ℤ part) whole ∙ along_best row across part first end rule own n small)) (best_fits rule own.parts.words (16 * row + n) (omega arith))

pub returns-then-not-meets : goal.returns-then-not-meets
returns-then-not-meets c =
    row_none c.args.self c.args.score c.args.sought c.args.row
    ∙ row_skips c.args.self c.args.score c.args.sought c.args.row 0 16 (λ i h l. row_out_all c.args.self c.args.row (sym c.meets.ensures ∙ not-true _ (ap not c.if-not-meets.true)) i (omega arith))

-- the rule that is handed in is one that the columns and the row are of
pub loop-column-init : goal.loop-column-init
loop-column-init c =
    let own = along c.args.self c.args.row c.args.across c.row_part-part.result c.stripes-stripes.result c.requires.2 c.row_part-part.type_inv c.row_part-part.ensures
    (sym c.meets.ensures ∙ not-false _ (ap not c.if-not-meets.false)) c.stripes-stripes.ensures in
    let s = to_z w32 (of_z w32 c.args.score) in
    let ends = along_ends _ _ _ _ _ c.args.self (own) in (
      omega arith,
      ends.0,
      ends.1,
      c.requires.0,
      omega (arith, c.requires.1),
      λ rule along.
          row_none rule s c.args.sought c.args.row
          ∙ row_skips rule s c.args.sought c.args.row 0 c.stripes-stripes.result.first (λ i h l. along_before _ _ _ _ _ rule along i (omega arith))
          ∙ ap (met_row rule s c.args.sought c.args.row) (zero-add c.stripes-stripes.result.first),
    )

pub overflow_add-across : goal.overflow_add-across
overflow_add-across c =
    let own = along c.args.self c.args.row c.args.across c.row_part-part.result c.stripes-stripes.result c.requires.2 c.row_part-part.type_inv c.row_part-part.ensures
    (sym c.meets.ensures ∙ not-false _ (ap not c.if-not-meets.false)) c.stripes-stripes.ensures in
    let small : c.loop-column.column < 16 = omega arith in
    let whole = part_back c.args.self c.args.across c.requires.2 c.loop-column.column small in
    best_fits_in _ _ _ _ _ c.args.self own c.requires.0 c.loop-column.column small whole

pub loop-column-preserved : goal.loop-column-preserved
loop-column-preserved c =
    let own = along c.args.self c.args.row c.args.across c.row_part-part.result c.stripes-stripes.result c.requires.2 c.row_part-part.type_inv c.row_part-part.ensures
    (sym c.meets.ensures ∙ not-false _ (ap not c.if-not-meets.false)) c.stripes-stripes.ensures in
    let small : c.loop-column.column < 16 = omega arith in
    let whole = part_back c.args.self c.args.across c.requires.2 c.loop-column.column small in
    let fits = best_fits_in _ _ _ _ _ c.args.self own c.requires.0 c.loop-column.column small whole in
    let s = to_z w32 (of_z w32 c.args.score) in
    let n = c.loop-column.column in
    let cell = 16 * c.args.row + n in
    let part = to_z w32 (of_z w32 c.row_part-part.result) in
    let is : (rule : Rule) → Along c.args.row c.args.across part c.stripes-stripes.result.first c.stripes-stripes.result.end rule → c.met-found.result ≡ met c.loop-column.found cell (best_score rule cell) s =
    λ rule along.
    c.met-found.ensures
    ∙ ap (λ b. met c.loop-column.found cell b s)
    (to_z-of_z (fits) ∙ ap (λ z. z +ℤ part) (whole) ∙ along_best _ _ _ _ _ rule along n small) in
    let once = subst (λ (m : Sought). m.cells ≤ c.loop-column.found.cells + 1) (sym (is c.args.self (own))) (met_few c.loop-column.found cell (best_score c.args.self cell) s) in (
      omega arith,
      omega arith,
      c.loop-column.invariant.2,
      c.loop-column.invariant.3,
      omega (arith, c.loop-column.invariant.4, once),
      λ rule along.
          is rule along
          ∙ ap (λ m. met m cell (best_score rule cell) s) (c.loop-column.invariant.5 rule along)
          ∙ row_more rule s c.args.sought c.args.row n (along_in _ _ _ _ _ rule along n c.loop-column.invariant.0 (omega arith)),
    )

pub returns : goal.returns
returns c =
    let own = along c.args.self c.args.row c.args.across c.row_part-part.result c.stripes-stripes.result c.requires.2 c.row_part-part.type_inv c.row_part-part.ensures
    (sym c.meets.ensures ∙ not-false _ (ap not c.if-not-meets.false)) c.stripes-stripes.ensures in
    let s = to_z w32 (of_z w32 c.args.score) in
    let end = c.stripes-stripes.result.end in
    let all : c.loop-column.column ≡ end = omega arith in
    let up : end + (16 - end) ≡ 16 = omega (arith, c.loop-column.invariant.2) in
    c.loop-column.invariant.5 c.args.self (own)
    ∙ ap (met_row c.args.self s c.args.sought c.args.row) all
    ∙ row_skips c.args.self s c.args.sought c.args.row end (16 - end) (λ i h l. along_behind _ _ _ _ _ c.args.self (own) i h (omega (arith, c.loop-column.invariant.2)))
    ∙ ap₂ (λ z n. met_row c.args.self z c.args.sought c.args.row n) (to_z-of_z c.ranges.score) up
