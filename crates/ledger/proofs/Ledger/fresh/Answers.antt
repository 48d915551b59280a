-- A fresh board, or its refusal, and fresh senders.
-- Assumes nothing.
use mathlib.Core.Path.{ap, ◌∙◌}
use Rattle.std.specs.Prelude.{Ok}
use Rattle.std.proofs.lemmas.Result.{err_from_is_err_and}
use Rattle.refusal.proofs.Answers.{refused_alike}
use Rattle.board.specs.declared.Board.{Board}
use Rattle.board.proofs.Refusals.{taken_through}
use Rattle.senders.specs.Rows.{fresh_senders}
use Rattle.senders.specs.declared.Senders.{Senders}
use Rattle.ledger.specs.Calls.{fresh_ledger}
use Rattle.ledger.proofs.Ledger.fresh.Goals as goal

pub returns-in_err-board : goal.returns-in_err-board
unfolding fresh_ledger
returns-in_err-board c =
    let p = err_from_is_err_and c.from_residual.result c.from_residual.ensures.1 in
    rw (p.1, p.2) (refused_alike _ _ _ c.in_err-board.ensures)

pub returns : goal.returns
unfolding fresh_ledger
returns c =
    ap (λ (s : Senders). Ok (record { board = c.in_ok-board.board; senders = s })) c.fresh-senders.ensures
    ∙ taken_through (λ (b : Board). record { board = b; senders = fresh_senders }) _ _ c.in_ok-board.ensures
