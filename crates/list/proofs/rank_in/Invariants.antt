use Prim.Native.Nat.{◌≤◌}
use lib.ListN.{take}
use Rattle.ranking.specs.Standing.{above}
use Rattle.list.specs.Lines.{lines_of}
use Rattle.list.proofs.Stored.{Roomy}
use Rattle.list.proofs.Placed.{Ranked}
use Rattle.list.proofs.rank_in.Given as goal

abbrev pub invariant-loop-i : goal.invariant-loop-i
invariant-loop-i l =
    (l.len ≤ 16)
    × Roomy l.names l.scores
    × Ranked (above l.rule) (record { name = l.name; score = l.score }) (take l.len (lines_of l.names l.scores)) l.i
