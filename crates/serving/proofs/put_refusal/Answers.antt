-- The line of a refusal, or nothing.
-- Assumes nothing.
use Rattle.text.proofs.Places.{none, both}
use borrow.Author.Rules.{rules}
use Rattle.serving.proofs.put_refusal.Goals as goal

pub returns-then-refused : goal.returns-then-refused
returns-then-refused c = rw c.if-refused.true (record { value = c.put_r.ensures.value; out_after = c.put_r.ensures.buf_after })

pub returns-else-refused : goal.returns-else-refused
returns-else-refused c =
    let a = c.args in
    rw c.if-refused.false (record { value = (both (none c.args.out.now c.args.at (search rules))).0; out_after = (both (none c.args.out.now c.args.at (search rules))).1 })
