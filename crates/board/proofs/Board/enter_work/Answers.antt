-- A refusal, or the entry.
use Rattle.std.proofs.Common.{sym, ap, ◌∙◌}
use Rattle.std.proofs.lemmas.Result.{err_from_is_err_and}
use Rattle.board.specs.Work.{enter_work}
use Rattle.board.specs.Answers.{entered_answer}
use Rattle.refusal.proofs.Answers.{refused_number, refused_alike, taken_number}
use Rattle.board.proofs.Refusals.{zero_not}
use Rattle.board.proofs.Board.enter_work.Goals as goal

pub returns-in_err-enter_refusal : goal.returns-in_err-enter_refusal
unfolding enter_work
returns-in_err-enter_refusal c =
    let p = err_from_is_err_and c.from_residual.result c.from_residual.ensures.1 in
    rw (p.1, p.2)
    (refused_alike _ (tt {0}) _ c.in_err-enter_refusal.ensures ∙ ap entered_answer (sym (zero_not _ _ (refused_number _ (tt {0}) c.in_err-enter_refusal.ensures))))

pub entering-requires : goal.entering-requires
entering-requires c = taken_number _ (tt {0}) c.in_ok-enter_refusal.ensures
