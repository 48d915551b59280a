use mathlib.Core.Path.{◌≡◌}
use Prim.Native.Nat.{min, ◌≤◌}
use lib.ListN.{take}
use Rattle.search.specs.Best.{best}
use Rattle.ranking.specs.Standing.{above}
use Rattle.list.specs.Lines.{lines_of, columns_of}
use Rattle.list.proofs.Stored.{Roomy}
use Rattle.list.proofs.Lines.best.Given as goal

abbrev pub invariant-loop-i : goal.invariant-loop-i
invariant-loop-i l =
    (l.i-end ≤ 16)
    × Roomy l.self.names l.self.scores
    × (l.list ≡ columns_of (best (above l.rule) (min l.k 16) (take l.i (take l.i-end (lines_of l.self.names l.self.scores)))))
