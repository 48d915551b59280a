-- The row of a number is below the size, and so fits.
-- Assumes nothing.
use native.Mathlib.Nat.{mod-lt, lt_of_lt_of_le}
use native.Mathlib.Omega.{arith}
use Rattle.window.proofs.row_of.Goals as goal

pub overflow_cast-result-2 : goal.overflow_cast-result-2
overflow_cast-result-2 c = record { fits = lt_of_lt_of_le (mod-lt _ c.requires.0) (omega arith) }
