-- The question searched from its beginning, or the refusal.
-- Assumes nothing.
use mathlib.Core.Path.{sym, ap, ◌∙◌}
use Rattle.std.specs.Prelude.{Ok}
use Rattle.std.proofs.lemmas.Result.{err_from_is_err_and}
use Rattle.list.specs.Rows.{rows_in}
use Rattle.question.specs.Lines.{searched_first}
use Rattle.refusal.proofs.Answers.{taken_number}
use Rattle.slot.specs.Asking.{set_in}
use Rattle.slot.specs.Answers.{seated_answer}
use Rattle.slot.proofs.Refusals.{zero_is}
use Rattle.slot.proofs.Setting.{set_refused}
use Rattle.slot.proofs.Turns.{first_among}
use Rattle.slot.proofs.set_in.Goals as goal

pub returns-in_err-ask_refusal : goal.returns-in_err-ask_refusal
returns-in_err-ask_refusal c =
    let p = err_from_is_err_and c.from_residual.result c.from_residual.ensures.1 in
    rw (p.1, p.2) (set_refused c.args.question c.args.k c.args.rule _ c.in_err-ask_refusal.ensures)

pub returns : goal.returns
unfolding set_in
returns c =
    let rows = rows_in c.args.rows.now in
    let found =
    c.searched_in.ensures
    ∙ ap (λ q. searched_first (record { k = c.args.k; rule = c.args.rule; names = q.names; scores = q.scores; len = q.len; next = q.next }) rows 1024) c.fresh-fresh.ensures
    ∙ first_among _ rows 1024 in
    ap (λ f. Ok f) found ∙ sym (ap seated_answer (zero_is _ _ (taken_number _ (tt {0}) c.in_ok-ask_refusal.ensures)))
