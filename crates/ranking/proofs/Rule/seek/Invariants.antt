use Rattle.ranking.proofs.Scan.{Scanned}
use Rattle.ranking.specs.Inner.{follows}
use Rattle.ranking.proofs.Rule.seek.Given as goal

abbrev pub invariant-loop-d : goal.invariant-loop-d
invariant-loop-d l = Scanned l.self (follows l.self l.from) l.d l.found
