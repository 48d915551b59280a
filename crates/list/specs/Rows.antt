-- Rows that are lent without the rest of their window.
use Rattle.std.specs.Prelude.{ℕ, List}
use Rattle.window.specs.declared.Rows.{Rows}
use Rattle.window.specs.declared.Window.{Window}

-- Three arrays as the rows of a window.
abbrev pub rows_of : List ℕ → List ℕ → List ℕ → Window
rows_of losses shakes names =
    record { rows = record { losses = losses; shakes = shakes; names = names }; counts = record { size = 0; entered = 0; held = 0 } }

-- The same of rows that are lent as one.
abbrev pub rows_in : Rows → Window
rows_in r = rows_of r.losses r.shakes r.names
