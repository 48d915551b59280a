-- The invariant: what is left to fall decides the whole.
-- Assumes nothing.
use mathlib.Core.Path.{ap}
use Prim.Native.Nat.{◌+◌, ◌-◌}
use native.Mathlib.Omega.{arith}
use borrow.Author.Rules.{rules}
use Rattle.ranking.specs.Standing.{above}
use Rattle.list.specs.Lines.{falls}
use Rattle.list.proofs.Stored.{roomy_known, front-lines}
use Rattle.list.proofs.Walking.{descent_on, descent_fails, descent_ends}
use Rattle.list.proofs.Lines.falls.Goals as goal

pub loop-next-init : goal.loop-next-init
loop-next-init c =
    let room = roomy_known c.args.self.names c.args.self.scores (search rules) (search rules) in
    record {
      up_to = search rules;
      within = omega arith;
      room = room;
      decides = ap (falls (above c.args.rule)) (front-lines c.args.self room c.line_count-next-end.result c.line_count-next-end.ensures);
    }

pub returns-then-not-above : goal.returns-then-not-above
returns-then-not-above c =
    descent_fails c.loop-next.invariant c.loop-next.next (omega arith) c.loop-next-test.true (search rules) (search rules) c.above.result c.above.ensures c.if-not-above.true

pub loop-next-preserved : goal.loop-next-preserved
loop-next-preserved c =
    descent_on c.loop-next.invariant c.loop-next.next (omega arith) c.loop-next-test.true (search rules) (search rules) c.above.result c.above.ensures c.if-not-above.false
    (c.loop-next.next + 1 - 1) (omega arith)

pub returns : goal.returns
returns c = descent_ends c.loop-next.invariant c.loop-next.next (omega arith) c.loop-next-test.false
