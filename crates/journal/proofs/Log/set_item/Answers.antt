-- `journal::Log::set_item` meets its contract: the board answers the refusal, or the steps of the search that is printed.
-- Assumes nothing.
use mathlib.Core.Path.{ap, ◌∙◌}
use Rattle.board.specs.declared.Placed.{Placed}
use Rattle.board.specs.Work.{set_work}
use Rattle.board.specs.Answers.{placed_answer}
use Rattle.board.proofs.Told.{set_told}
use Rattle.text.specs.Text.{s_line}
use Rattle.journal.specs.Log.{with_board, setting_rule, set_item}
use Rattle.journal.proofs.Calls.{answer_refuses, answer_does, stores}
use Rattle.journal.proofs.Log.set_item.Goals as goal

pub returns-in-Ok : goal.returns-in-Ok
unfolding set_item
returns-in-Ok c =
    let a = c.args in
    answer_does a.self (λ (p : Placed). record { text = s_line a.self.items a.s.slot p.steps; log = with_board a.self p.board }) _ _
    (c.in-Ok.ensures ∙ ap (λ r. placed_answer (set_work a.self.board a.s.slot a.s.k r)) c.setting_rule.ensures)
    (stores _ _ c.with_board.ensures (c.put_s-next.ensures.value, c.put_s-next.ensures.buf_after))

pub returns-in-Err : goal.returns-in-Err
unfolding set_item
returns-in-Err c =
    let a = c.args in
    answer_refuses a.self _ _ _ (set_told a.self.board a.s.slot a.s.k (setting_rule a.s))
    (c.in-Err.ensures ∙ ap (λ r. placed_answer (set_work a.self.board a.s.slot a.s.k r)) c.setting_rule.ensures) c.number.ensures c.refused.ensures
