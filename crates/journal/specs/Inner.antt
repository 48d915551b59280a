-- What inner functions and proofs alone speak of.
use Rattle.std.specs.Prelude.{ℕ, ◌+◌, List, [], ◌∷◌, ◌++◌, Option}
use Rattle.journal.specs.Log.{steps_line}

-- The lines of the slots from one on.
unfoldable pub steps_lines : ℕ → ℕ → List (Option ℕ) → List ℕ
steps_lines item slot [] = []
steps_lines item slot (o ∷ os) = steps_line item slot o ++ steps_lines item (slot + 1) os
