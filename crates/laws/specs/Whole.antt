-- Whole numbers with a sign.
use Rattle.std.specs.Prelude.{Bool, not, ◌||◌, ℤ}
use Rattle.std.specs.Int.Signed.{lt_z}

-- Neither is less than the other.
unfoldable pub equal : ℤ → ℤ → Bool
equal a b = not (lt_z a b || lt_z b a)
