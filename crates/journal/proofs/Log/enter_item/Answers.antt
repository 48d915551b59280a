-- `journal::Log::enter_item` meets its contract: the board answers the refusal, or the searches that are printed.
-- Assumes nothing.
use mathlib.Core.Path.{ap}
use Rattle.board.specs.declared.Entered.{Entered}
use Rattle.board.specs.Work.{enter_work}
use Rattle.board.proofs.Told.{enter_told}
use Rattle.journal.specs.Log.{with_board, unless, enter_item}
use Rattle.journal.specs.Inner.{steps_lines}
use Rattle.journal.proofs.Calls.{outcome_is, answer_refuses, answer_does, stores}
use Rattle.journal.proofs.Searches.{lines_of_searches}
use Rattle.journal.proofs.Log.enter_item.Goals as goal

pub returns-in-Ok : goal.returns-in-Ok
unfolding enter_item
returns-in-Ok c =
    let log = c.args.self in
    let done = enter_work log.board c.args.values in
    outcome_is (ap (λ t. unless log done.refusal (record { text = t; log = with_board log done.board })) (lines_of_searches log.items 0 done.searched done.steps))
    (answer_does log (λ (e : Entered). record { text = steps_lines log.items 0 e.steps; log = with_board log e.board }) _ _ c.in-Ok.ensures
    (stores _ _ c.with_board.ensures (c.put_searches-next.ensures.value, c.put_searches-next.ensures.out_after)))

pub returns-in-Err : goal.returns-in-Err
unfolding enter_item
returns-in-Err c = answer_refuses c.args.self _ _ _ (enter_told c.args.self.board c.args.values) c.in-Err.ensures c.number.ensures c.refused.ensures
