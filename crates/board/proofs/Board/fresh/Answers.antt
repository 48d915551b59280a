-- A fresh window, or its refusal, and empty slots.
-- Assumes nothing.
use mathlib.Core.Path.{refl, ap, ◌∙◌}
use Rattle.std.specs.Prelude.{Ok, Err}
use Rattle.std.proofs.lemmas.Result.{err_from_is_err_and}
use Rattle.refusal.specs.Numbers.{number_of}
use Rattle.refusal.proofs.Answers.{refused}
use Rattle.window.specs.Rows.{refusal_in, window_in}
use Rattle.board.specs.Work.{empty_board, fresh_board}
use Rattle.board.specs.Answers.{made_answer}
use Rattle.board.proofs.Board.fresh.Goals as goal

pub returns-in_err-window : goal.returns-in_err-window
unfolding fresh_board
returns-in_err-window c =
    let p = err_from_is_err_and c.from_residual.result c.from_residual.ensures.1 in
    rw (p.1, p.2)
    (refused (number_of c.in_err-window.field-0.0) _ c.in_err-window.field-0.0 refl
    ∙ ap (λ r. made_answer (record { refusal = refusal_in r; board = empty_board (window_in r) })) c.in_err-window.ensures)

pub returns : goal.returns
unfolding fresh_board
returns c =
    ap (λ b. Ok b) c.of.ensures
    ∙ ap (λ r. made_answer (record { refusal = refusal_in r; board = empty_board (window_in r) })) c.in_ok-window.ensures
