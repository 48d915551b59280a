-- There is no such slot, or it is emptied as the slot answers.
-- Assumes nothing.
use mathlib.Core.Path.{sym, ap, ◌∙◌}
use Rattle.std.specs.Prelude.{Ok}
use Rattle.std.proofs.lemmas.Result.{err_from_is_err_and}
use borrow.Author.Rules.{rules}
use Rattle.refusal.specs.Answers.{refusal_of}
use Rattle.board.specs.Answers.{removed_answer}
use Rattle.board.specs.Work.{with_slot}
use Rattle.board.proofs.Seats.{remove_nowhere, remove_refused, remove_taken}
use Rattle.board.proofs.Board.remove_work.Goals as goal

pub returns-then-slot-ge-SLOTS : goal.returns-then-slot-ge-SLOTS
unfolding refusal_of
returns-then-slot-ge-SLOTS c = ap removed_answer (sym (remove_nowhere c.args.self c.args.slot c.if-slot-ge-SLOTS.true))

pub returns-in_err-empty_refusal : goal.returns-in_err-empty_refusal
returns-in_err-empty_refusal c =
    let p = err_from_is_err_and c.from_residual.result c.from_residual.ensures.1 in
    rw (p.1, p.2) (remove_refused c.args.self c.args.slot (search rules) c.in_err-empty_refusal.ensures)

pub returns : goal.returns
returns c =
    ap (λ b. Ok b) (c.with_slot.ensures ∙ ap (with_slot c.args.self c.args.slot) c.emptied.ensures)
    ∙ remove_taken c.args.self c.args.slot (search rules) c.in_ok-empty_refusal.ensures
