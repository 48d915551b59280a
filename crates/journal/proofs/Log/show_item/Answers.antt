-- `journal::Log::show_item` meets its contract: the board answers the refusal, or the list that is printed.
-- Assumes nothing.
use mathlib.Core.Path.{refl}
use lib.ListN.{take}
use Rattle.slot.specs.declared.Shown.{Shown}
use Rattle.board.proofs.Told.{read_told}
use Rattle.text.specs.Text.{q_line, entries_of}
use Rattle.journal.specs.Log.{show_item}
use Rattle.journal.proofs.Calls.{answer_refuses, answer_does, stores}
use Rattle.journal.proofs.Log.show_item.Goals as goal

pub returns-in-Ok : goal.returns-in-Ok
unfolding show_item
returns-in-Ok c =
    let a = c.args in
    answer_does a.self (λ (s : Shown). record { text = q_line a.slot (take s.len (entries_of s.numbers s.scores)); log = a.self }) _ _ c.in-Ok.ensures
    (stores a.self _ refl (c.put_q-next.ensures.value, c.put_q-next.ensures.buf_after))

pub returns-in-Err : goal.returns-in-Err
unfolding show_item
returns-in-Err c = answer_refuses c.args.self _ _ _ (read_told c.args.self.board c.args.slot) c.in-Err.ensures c.number.ensures c.refused.ensures
