-- 24, or what the board does, with the senders as they were.
-- Assumes nothing.
use mathlib.Core.Path.{sym, ap, ◌∙◌}
use borrow.Author.Tests.{not-true, not-false}
use Rattle.laws.proofs.Tests.{if_so, if_not}
use mathlib.Core.Bool.{not}
use Rattle.std.proofs.lemmas.Result.{err_from_is_err_and}
use Rattle.std.specs.Prelude.{Ok}
use Rattle.refusal.specs.Answers.{refusal_of}
use Rattle.refusal.proofs.Answers.{refused_alike}
use Rattle.board.specs.declared.Placed as board
use Rattle.board.proofs.Refusals.{taken_through}
use Rattle.ledger.specs.declared.Ledger.{Ledger}
use Rattle.ledger.specs.Calls.{with_board, set_call}
use Rattle.ledger.specs.Answers.{placed_answer}
use Rattle.ledger.proofs.Ledger.set.Goals as goal

pub returns-then-not-fit : goal.returns-then-not-fit
unfolding set_call refusal_of
returns-then-not-fit c = ap placed_answer (sym (if_not _ _ (sym c.fit.ensures ∙ not-true _ (ap not c.if-not-fit.true))))

pub returns-in_err-placed : goal.returns-in_err-placed
unfolding set_call
returns-in_err-placed c =
    let p = err_from_is_err_and c.from_residual.result c.from_residual.ensures.1 in
    rw (p.1, p.2)
    (refused_alike _ _ _ c.in_err-placed.ensures ∙ ap placed_answer (sym (if_so _ _ (sym c.fit.ensures ∙ not-false _ (ap not c.if-not-fit.false)))))

pub returns : goal.returns
unfolding set_call
returns c =
    ap (λ (l : Ledger). Ok (record { steps = c.in_ok-placed.placed.steps; ledger = l })) c.with_board.ensures
    ∙ taken_through (λ (p : board.Placed). record { steps = p.steps; ledger = with_board c.args.self p.board }) _ _ c.in_ok-placed.ensures
    ∙ ap placed_answer (sym (if_so _ _ (sym c.fit.ensures ∙ not-false _ (ap not c.if-not-fit.false))))
