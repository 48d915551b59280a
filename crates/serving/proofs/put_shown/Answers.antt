-- The line of an empty slot's refusal, or that of the list, with the numbers in its names.
-- Assumes nothing.
use borrow.Author.Tests.{eq-eqb, ne_eqb}
use Rattle.serving.specs.Serving.{shown_text}
use Rattle.serving.proofs.put_shown.Goals as goal

pub returns-then-question-eq0 : goal.returns-then-question-eq0
unfolding shown_text
returns-then-question-eq0 c = rw (eq-eqb c.args.question.k 0 c.if-question-eq0.true, ← c.number.ensures) (record { value = c.put_r.ensures.value; out_after = c.put_r.ensures.buf_after })

pub returns : goal.returns
unfolding shown_text
returns c = rw (ne_eqb c.args.question.k 0 c.if-question-eq0.false, ← c.numbers_in-numbers.ensures) (record { value = c.put_q.ensures.value; out_after = c.put_q.ensures.buf_after })
