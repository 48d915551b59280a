-- The question with the report, or that one searched afresh.
-- Assumes nothing.
use mathlib.Core.Path.{sym, ap, ◌∙◌}
use mathlib.Core.Bool.{true, false, not}
use Prim.Native.Nat.{min}
use borrow.Author.Tests.{not-true, not-false}
use Rattle.window.specs.Rows.{report_at, standing}
use Rattle.question.specs.declared.Question.{Question}
use Rattle.question.specs.declared.Searched.{Searched}
use Rattle.list.specs.Rows.{rows_in}
use Rattle.slot.specs.Asking.{searched_among}
use Rattle.slot.specs.Answers.{turned_answer}
use Rattle.slot.specs.Turn.{lists}
use Rattle.slot.proofs.Turns.{turn-searched, turn_kept, first_among}
use Rattle.slot.proofs.turn.Goals as goal

pub returns-then-not-lists : goal.returns-then-not-lists
returns-then-not-lists c =
    let with = c.listed-with.ensures in
    ap (λ (q : Question). turned_answer (record { searched = false; steps = 0; question = q })) with
    ∙ sym (ap turned_answer (turn_kept c.args.question (report_at c.args.row) c.args.gone _ (ap (λ q. lists q c.args.gone) (sym with) ∙ sym c.lists.ensures ∙ not-true _ (ap not c.if-not-lists.true))))

pub returns : goal.returns
returns c =
    let with = c.listed-with.ensures in
    let rows = rows_in c.args.rows.now in
    let found = c.searched_in-found.ensures ∙ first_among c.listed-with.result rows (min c.args.n 1024) ∙ ap (λ q. searched_among q (standing rows (min c.args.n 1024))) with in
    ap (λ (f : Searched). turned_answer (record { searched = true; steps = f.steps; question = f.question })) found
    ∙ sym (ap turned_answer (turn-searched c.args.question (report_at c.args.row) c.args.gone (standing rows (min c.args.n 1024)) (ap (λ q. lists q c.args.gone) (sym with) ∙ sym c.lists.ensures ∙ not-false _ (ap not c.if-not-lists.false))))
