use Prim.Native.Nat.{◌*◌}
use Rattle.ranking.specs.Inner.{Across}
use Rattle.ranking.proofs.Reaching.{Met}
use Rattle.ranking.proofs.Rule.reach.Given as goal

abbrev pub invariant-loop-row : goal.invariant-loop-row
invariant-loop-row l = Across l.self l.across × Met l.self l.score (16 * l.row) l.sought
