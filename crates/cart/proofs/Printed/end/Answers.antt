-- The line at the end stands whole in the room.
use Rattle.std.proofs.Common.{rules}
use Rattle.cart.proofs.Handing.{ended}
use Rattle.cart.proofs.Printed.end.Goals as goal

pub returns-clause-ends : goal.returns-clause-ends
returns-clause-ends g c = ended c.args.room.now c.front.result (search rules) c.finish-end.ensures.value c.finish-end.ensures.out_after c.front.ensures.count
