-- The invariant: the list is the best k of the lines and of the reports of the rows so far.
-- Assumes nothing.
use mathlib.Core.Path.{◌≡◌, ap, ◌∙◌}
use native.Mathlib.Omega.{arith}
use Rattle.window.specs.Rows.{report_at, report_in}
use Rattle.question.specs.Inner.{taking, list_taken}
use Rattle.question.proofs.Taking.{taken_none, taken_more}
use Rattle.question.proofs.Question.list_taken.Goals as goal

pub loop-row-init : goal.loop-row-init
loop-row-init c = c.ranked-list.ensures ∙ taken_none c.args.self c.requires c.args.window

pub loop-row-preserved : goal.loop-row-preserved
loop-row-preserved c =
    c.taking-list.ensures
    ∙ ap (λ r. taking c.loop-row.list (report_at r)) c.row.ensures
    ∙ ap (λ b. taking b (report_in c.args.window c.loop-row.row)) c.loop-row.invariant
    ∙ taken_more c.args.self c.requires c.args.window c.loop-row.row

pub returns : goal.returns
returns c =
    let all : c.loop-row.row ≡ 1024 = omega arith in
    c.loop-row.invariant ∙ ap (list_taken c.args.self c.args.window) all
