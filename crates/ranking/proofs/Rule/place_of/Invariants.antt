use mathlib.Core.Path.{◌≡◌}
use mathlib.Core.Bool.{◌&&◌}
use mathlib.Core.List.{[]}
use Prim.Native.Nat.{◌≤◌}
use lib.ListN.{length}
use Rattle.laws.specs.Lists.{only}
use Rattle.ranking.specs.Cells.{cell_counts, before, numbers_below}
use Rattle.ranking.proofs.Rule.place_of.Given as goal

abbrev pub invariant-loop-d : goal.invariant-loop-d
invariant-loop-d l = (l.n ≤ l.d) × (l.n ≡ length (only (λ e. cell_counts l.self e && before l.self e l.cell) (numbers_below l.d [])))
