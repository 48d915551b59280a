-- A refusal, or the numbers and the name of the definition.
use Rattle.std.proofs.Common.{sym, ap, ◌∙◌, Some, arith}
use Rattle.std.proofs.lemmas.Result.{err_from_is_err_and}
use Rattle.refusal.proofs.Answers.{taken_number}
use Rattle.board.proofs.Refusals.{zero_is, zero_not, enterable, arrival-refused, arrival-taken}
use Rattle.board.proofs.Filling.{new_name}
use Rattle.board.proofs.Arrival.of.Goals as goal

pub returns-in_err-enter_refusal : goal.returns-in_err-enter_refusal
returns-in_err-enter_refusal c =
    let p = err_from_is_err_and c.from_residual.result c.from_residual.ensures.1 in
    rw (p.1, p.2) (arrival-refused c.args.counts c.args.values c.in_err-enter_refusal.ensures)

pub overflow_add-number : goal.overflow_add-number
overflow_add-number c =
    let room = (enterable c.args.counts c.args.values (taken_number _ (tt {0}) c.in_ok-enter_refusal.ensures)).room in
    omega (arith, room)

pub leaving-oldest-requires : goal.leaving-oldest-requires
leaving-oldest-requires c = (enterable c.args.counts c.args.values (taken_number _ (tt {0}) c.in_ok-enter_refusal.ensures)).room

pub returns-then-oldest-eq0 : goal.returns-then-oldest-eq0
returns-then-oldest-eq0 c =
    let room = (enterable c.args.counts c.args.values (taken_number _ (tt {0}) c.in_ok-enter_refusal.ensures)).room in
    arrival-taken c.args.counts c.args.values c.in_ok-enter_refusal.ensures (c.of.ensures ∙ new_name c.args.counts.entered c.args.values.edition room)
    (sym (zero_is _ _ (sym c.leaving-oldest.ensures ∙ c.if-oldest-eq0.true)))

pub returns-else-oldest-eq0 : goal.returns-else-oldest-eq0
returns-else-oldest-eq0 c =
    let room = (enterable c.args.counts c.args.values (taken_number _ (tt {0}) c.in_ok-enter_refusal.ensures)).room in
    arrival-taken c.args.counts c.args.values c.in_ok-enter_refusal.ensures (c.of.ensures ∙ new_name c.args.counts.entered c.args.values.edition room)
    (ap (λ n. Some n) c.leaving-oldest.ensures ∙ sym (zero_not _ _ (λ z. c.if-oldest-eq0.false (c.leaving-oldest.ensures ∙ z))))
