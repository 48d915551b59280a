-- `times::Times::timed` meets its contract: what the time settles before, and then what the session does.
-- Assumes nothing.
use mathlib.Core.Path.{sym, ◌∙◌}
use Rattle.std.proofs.lemmas.Result.{err_from_is_err_and}
use Rattle.times.proofs.Lent.{met-refused, met-taken}
use Rattle.times.proofs.Steps.{kept_ok}
use Rattle.times.proofs.Times.timed.Goals as goal

pub returns-in_err-last : goal.returns-in_err-last
returns-in_err-last c =
    let p = err_from_is_err_and c.from_residual.result c.from_residual.ensures.1 in
    let m = rw c.in_err-last.was at c.meet.ensures in
    rw (p.1, p.2) (met-refused c.args.room.now c.args.self.now c.args.time c.args.id c.args.«data».now c.requires m)

pub returns-then-is_ok : goal.returns-then-is_ok
returns-then-is_ok c =
    let m = rw c.in_ok-last.was at c.meet.ensures in
    let k = sym (kept_ok c.take-answer.result) ∙ sym c.is_ok.ensures.value ∙ c.if-is_ok.true in
    met-taken c.args.room.now c.args.self.now c.args.time c.args.id c.args.«data».now c.requires m c.take-answer.ensures.value c.take-answer.ensures.room_after (rw k)

pub returns : goal.returns
returns c =
    let m = rw c.in_ok-last.was at c.meet.ensures in
    let k = sym (kept_ok c.take-answer.result) ∙ sym c.is_ok.ensures.value ∙ c.if-is_ok.false in
    met-taken c.args.room.now c.args.self.now c.args.time c.args.id c.args.«data».now c.requires m c.take-answer.ensures.value c.take-answer.ensures.room_after (rw k c.put.ensures)
