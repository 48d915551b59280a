-- The slots' fitness, the senders' answer, then the board's work.
use Rattle.std.proofs.Common.{refl, sym, ap, ◌∙◌}
use Rattle.std.proofs.lemmas.Result.{err_from_is_err_and}
use Rattle.refusal.specs.Answers.{refusal_of}
use Rattle.refusal.specs.Numbers.{number_of}
use Rattle.refusal.proofs.Answers.{refused, refused_alike}
use Rattle.board.specs.declared.Entered as board
use Rattle.board.proofs.Refusals.{taken_through}
use Rattle.ledger.specs.Answers.{entered_answer}
use Rattle.ledger.proofs.Doors.{enter_unfit, enter-refused, enter-taken}
use Rattle.ledger.proofs.Ledger.enter.Goals as goal

pub returns-then-not-slots_fit : goal.returns-then-not-slots_fit
unfolding refusal_of
returns-then-not-slots_fit c = ap entered_answer (sym (enter_unfit c.args.self c.args.sender c.args.values (sym c.slots_fit.ensures ∙ c.if-not-slots_fit.true)))

pub returns-in_err-senders : goal.returns-in_err-senders
returns-in_err-senders c =
    let p = err_from_is_err_and c.from_residual.result c.from_residual.ensures.1 in
    let e = c.in_err-senders.field-0.0 in
    rw (p.1, p.2)
    (refused (number_of e) _ e refl
    ∙ ap entered_answer (sym (enter-refused c.args.self c.args.sender c.args.values (sym c.slots_fit.ensures ∙ c.if-not-slots_fit.false) c.in_err-senders.ensures)))

pub returns-in_err-entered : goal.returns-in_err-entered
returns-in_err-entered c =
    let p = err_from_is_err_and c.from_residual-in_err-entered.result c.from_residual-in_err-entered.ensures.1 in
    rw (p.1, p.2)
    (refused_alike _ _ _ c.in_err-entered.ensures
    ∙ ap entered_answer (sym (enter-taken c.args.self c.args.sender c.args.values (sym c.slots_fit.ensures ∙ c.if-not-slots_fit.false) c.in_ok-senders.ensures)))

pub returns : goal.returns
returns c =
    taken_through (λ (e : board.Entered). record { number = e.number; steps = e.steps; ledger = record { board = e.board; senders = c.in_ok-senders.senders } }) _ _ c.in_ok-entered.ensures
    ∙ ap entered_answer (sym (enter-taken c.args.self c.args.sender c.args.values (sym c.slots_fit.ensures ∙ c.if-not-slots_fit.false) c.in_ok-senders.ensures))
