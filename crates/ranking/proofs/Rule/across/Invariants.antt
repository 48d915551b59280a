use mathlib.Core.Path.{◌≡◌}
use Prim.Native.Nat.{ℕ, ◌<◌}
use lib.IntN.{pos}
use lib.ListN.{length, get_or}
use Rattle.ranking.specs.Inner.{loss_part}
use Rattle.ranking.proofs.Rule.across.Given as goal

abbrev pub invariant-loop-column : goal.invariant-loop-column
invariant-loop-column l = (length l.part-items ≡ 16) × ((i : ℕ) → i < l.column → get_or l.part-items i (pos 0) ≡ loss_part l.self i)
