-- What was read stands at the front, turn by turn.
use Rattle.std.proofs.Common.{rules}
use Rattle.input.proofs.Filling.{filled_on}
use Rattle.input.proofs.read_full.Goals as goal

pub loop-done-preserved : goal.loop-done-preserved
loop-done-preserved g c =
    let l = c.loop-done in
    record {
      within = search rules;
      bytes = filled_on _ _ _ l.done _ l.space c.read.new.buf c.read.result l.invariant.bytes l.invariant.within c.unwrap_or-n.ensures c.read.ensures.bound c.read.ensures.bytes;
    }
