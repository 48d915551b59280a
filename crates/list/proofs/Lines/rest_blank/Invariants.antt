use lib.ListN.{drop}
use Rattle.list.specs.Lines.{lines_of, all_of, blank}
use Rattle.list.proofs.Walking.{Walk}
use Rattle.list.proofs.Lines.rest_blank.Given as goal

abbrev pub invariant-loop-i : goal.invariant-loop-i
invariant-loop-i l =
    Walk blank (all_of blank (drop l.self.len (lines_of l.self.names l.self.scores))) l.self.names l.self.scores 16 l.i
