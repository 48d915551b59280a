-- The question takes a report that counts where its list has a place and its cell a mark, and else stays.
-- Assumes nothing.
use mathlib.Core.Path.{◌≡◌, sym, ap, ap₂, ◌∙◌}
use mathlib.Core.Bool.{◌&&◌}
use mir.Syntax.{w32}
use mir.Val.{to_z, of_z}
use Rattle.laws.proofs.Words.{kept}
use Rattle.values.specs.Range.{low}
use Rattle.values.proofs.Facts.{low_in}
use Rattle.values.proofs.Names.{name_back}
use Rattle.ranking.specs.Cells.{score, is_scored, points, cell}
use Rattle.std.specs.Prelude.{Some}
use Rattle.ranking.proofs.Cells.{counts-order, scored_counts}
use Rattle.window.specs.Rows.{values_at, report_at}
use Rattle.question.specs.Lines.{with_entry, cut_to_k, is_past}
use Rattle.question.proofs.Marking.{marked_past}
use Rattle.slot.specs.Turn.{place_on, takes}
use Rattle.slot.proofs.Listing.{takes_both, listed-taking, listed_not, listed_out}
use Rattle.slot.proofs.listed.Goals as goal

pub returns-then-joins : goal.returns-then-joins
returns-then-joins c =
    let read : c.values-values.result ≡ values_at c.args.row = c.values-values.ensures in
    let is : score c.args.question.rule ((report_at c.args.row)).values ≡ Some c.in-Some.score = sym (c.score.ensures ∙ ap (λ v. score c.args.question.rule (low v)) (read)) ∙ c.in-Some.is in
    let own : to_z w32 (of_z w32 c.in-Some.score) ≡ points (score c.args.question.rule ((report_at c.args.row)).values) = kept w32 c.in-Some.score c.in-Some.known_told-1-own.given.0.1 ∙ sym (ap points (is)) in
    let test : c.joins.result ≡ takes c.args.question ((report_at c.args.row)).values = let q = c.args.question in
    let v = ((report_at c.args.row)).values in
    let there = counts-order q.rule v (low_in (values_at c.args.row)) (sym (scored_counts q.rule v) ∙ ap is_scored (is)) in
    c.joins.ensures
    ∙ ap₂ (λ a b. a && b) (ap (is_past q) (c.cell.ensures ∙ ap (λ u. cell (low u)) (read)) ∙ sym (marked_past q (cell v) there)) (ap (place_on q) (own))
    ∙ sym (takes_both q v (ap is_scored (is))) in
    let q = c.args.question in
    c.cut_with.ensures
    ∙ ap₂ (λ n s. cut_to_k (with_entry q (record { name = n; score = s }))) (sym (name_back c.args.row.name)) (own)
    ∙ sym (listed-taking q ((report_at c.args.row)) (sym (test) ∙ c.if-joins.true))

pub returns-else-joins : goal.returns-else-joins
returns-else-joins c =
    let read : c.values-values.result ≡ values_at c.args.row = c.values-values.ensures in
    let is : score c.args.question.rule ((report_at c.args.row)).values ≡ Some c.in-Some.score = sym (c.score.ensures ∙ ap (λ v. score c.args.question.rule (low v)) (read)) ∙ c.in-Some.is in
    let own : to_z w32 (of_z w32 c.in-Some.score) ≡ points (score c.args.question.rule ((report_at c.args.row)).values) = kept w32 c.in-Some.score c.in-Some.known_told-1-own.given.0.1 ∙ sym (ap points (is)) in
    let test : c.joins.result ≡ takes c.args.question ((report_at c.args.row)).values = let q = c.args.question in
    let v = ((report_at c.args.row)).values in
    let there = counts-order q.rule v (low_in (values_at c.args.row)) (sym (scored_counts q.rule v) ∙ ap is_scored (is)) in
    c.joins.ensures
    ∙ ap₂ (λ a b. a && b) (ap (is_past q) (c.cell.ensures ∙ ap (λ u. cell (low u)) (read)) ∙ sym (marked_past q (cell v) there)) (ap (place_on q) (own))
    ∙ sym (takes_both q v (ap is_scored (is))) in
    sym (listed_not c.args.question ((report_at c.args.row)) (sym (test) ∙ c.if-joins.false))

pub returns-in-None : goal.returns-in-None
returns-in-None c =
    let a = c.args in
    let read = ap (λ v. score c.args.question.rule (low v)) c.values-values.ensures in
    sym (listed_out c.args.question (report_at c.args.row) (ap is_scored (sym (c.score.ensures ∙ read) ∙ c.in-None.is)))
