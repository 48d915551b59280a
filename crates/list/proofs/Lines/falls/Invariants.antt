use Prim.Native.Nat.{◌-◌}
use Rattle.ranking.specs.Standing.{above}
use Rattle.list.specs.Lines.{lines_in, falls}
use Rattle.list.proofs.Walking.{Descent}
use Rattle.list.proofs.Lines.falls.Given as goal

abbrev pub invariant-loop-next : goal.invariant-loop-next
invariant-loop-next l = Descent (above l.rule) (falls (above l.rule) (lines_in l.self)) l.self.names l.self.scores l.next-end (l.next - 1)
