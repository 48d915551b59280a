-- `pieces::Waiting::finish` meets its contract: the line of an item that has begun, or nothing.
-- Assumes nothing.
use borrow.Author.Tests.{eq-eqb, ne_eqb}
use Rattle.text.proofs.Places.{none, both}
use Rattle.pieces.specs.Machine.{end_line}
use borrow.Author.Rules.{rules}
use Rattle.pieces.proofs.Waiting.finish.Goals as goal

pub returns-then-self-eq0 : goal.returns-then-self-eq0
unfolding end_line
returns-then-self-eq0 c =
    let a = c.args in
    rw (eq-eqb c.args.self.have 0 c.if-self-eq0.true) (record { value = (both (none c.args.out.now c.args.at (search rules))).0; out_after = (both (none c.args.out.now c.args.at (search rules))).1 })

pub returns : goal.returns
unfolding end_line
returns c =
    let a = c.args in
    rw (ne_eqb c.args.self.have 0 c.if-self-eq0.false, ← c.next_item.ensures) (record { value = c.put_r.ensures.value; out_after = c.put_r.ensures.buf_after })
