-- A number that is held has a row, whose name is compared, and its score.
-- Assumes nothing.
use mathlib.Core.Path.{◌≡◌, sym, ap, ◌∙◌}
use Prim.Native.Nat.{◌-◌, ◌%◌}
use native.Mathlib.Omega.{arith}
use mir.Facts.{to_z-of_z}
use Rattle.std.specs.Prelude.{Some}
use Rattle.std.specs.Option.{option_eq}
use Rattle.std.specs.Ordering.{int_eq}
use Rattle.values.specs.Range.{low}
use Rattle.ranking.specs.Cells.{score}
use Rattle.ranking.specs.Standing.{Entry}
use Rattle.window.specs.declared.Row.{Row}
use Rattle.window.specs.Rows.{row_in, values_at}
use Rattle.question.proofs.Fitness.{holds, line_read}
use Rattle.question.proofs.held_as.Goals as goal

pub overflow_sub-row : goal.overflow_sub-row
overflow_sub-row c = (holds _ _ (sym c.holds_number.ensures ∙ c.if-not-holds_number.false)).first

pub nonzero_rem-row : goal.nonzero_rem-row
nonzero_rem-row c = omega (arith, (holds _ _ (sym c.holds_number.ensures ∙ c.if-not-holds_number.false)).positive)

pub returns-then-name-held : goal.returns-then-name-held
returns-then-name-held c =
    let line : Entry = record { name = c.args.name; score = c.args.score } in
    let at = ap (λ n. (c.number-number.result - 1) % n) c.from.ensures in
    let is = c.row-held.ensures ∙ ap (row_in c.args.window.rows) at in
    c.eq.ensures
    ∙ ap (λ s. option_eq int_eq c.score.result (Some s)) (to_z-of_z c.ranges.score)
    ∙ line_read c.args.window c.args.rule line c.number-number.result c.number-number.ensures (sym c.holds_number.ensures ∙ c.if-not-holds_number.false)
    (c.if-name-held.true ∙ ap (λ (r : Row). r.name) is)
    c.score.result
    (sym (c.score.ensures ∙ ap (λ v. score c.args.rule (low v)) (c.values.ensures ∙ ap values_at is)))
