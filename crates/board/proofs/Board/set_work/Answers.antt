-- The slot holds what setting leaves of its question, or there is no such slot.
-- Assumes nothing.
use mathlib.Core.Path.{sym, ap, ◌∙◌}
use Rattle.std.specs.Prelude.{Ok}
use Rattle.std.proofs.lemmas.Result.{err_from_is_err_and}
use borrow.Author.Rules.{rules}
use Rattle.refusal.specs.Answers.{refusal_of}
use Rattle.board.specs.declared.Board.{Board}
use Rattle.board.specs.Answers.{placed_answer}
use Rattle.board.proofs.Seats.{set_nowhere, set_refused, set_taken}
use Rattle.board.proofs.Board.set_work.Goals as goal

pub returns-then-slot-ge-SLOTS : goal.returns-then-slot-ge-SLOTS
unfolding refusal_of
returns-then-slot-ge-SLOTS c = ap placed_answer (sym (set_nowhere c.args.self c.args.slot c.args.k c.args.rule c.if-slot-ge-SLOTS.true))

pub returns-in_err-found : goal.returns-in_err-found
returns-in_err-found c =
    let p = err_from_is_err_and c.from_residual.result c.from_residual.ensures.1 in
    rw (p.1, p.2) (set_refused c.args.self c.args.slot c.args.k c.args.rule (search rules) c.in_err-found.ensures)

pub returns : goal.returns
returns c =
    ap (λ (b : Board). Ok (record { steps = c.in_ok-found.found.steps; board = b })) c.with_slot.ensures
    ∙ set_taken c.args.self c.args.slot c.args.k c.args.rule (search rules) c.in_ok-found.ensures
