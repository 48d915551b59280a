-- What a turn hands over is what `feed` wrote.
use Rattle.std.proofs.Common.{rules}
use Rattle.cart.proofs.Handing.{turned}
use Rattle.cart.proofs.Turn.of.Goals as goal

pub returns-clause-turns : goal.returns-clause-turns
returns-clause-turns g c = turned c.front-printed.result (search rules) (λ i. (c.type_inv.piece i).fits) c.feed-fed.ensures c.front-printed.ensures.count
