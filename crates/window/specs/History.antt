-- Everything that was entered into a window, and what it then holds (docs/RULES.md, section 5).
use Rattle.std.specs.Prelude.{ℕ, ◌+◌, ◌-◌, List, [], ◌∷◌, length, drop}
use Rattle.values.specs.declared.Values.{Values}
use Rattle.ranking.specs.Standing.{Held}
use Rattle.window.specs.Rows.{added}
use Rattle.window.specs.declared.Window.{Window}

-- Rule 5.2: reports in the order in which they enter, numbered from n on.
abbrev pub numbered : ℕ → List Values → List Held
numbered n [] = []
numbered n (v ∷ vs) = record { number = n; values = v } ∷ numbered (n + 1) vs

-- The last min(n, length) of a list.
abbrev pub latest : {A : Type 0} → ℕ → List A → List A
latest n l = drop (length l - n) l

-- The window after all of them entered, in their order.
abbrev pub window_after : Window → List Values → Window
window_after w [] = w
window_after w (v ∷ vs) = window_after (added w v) vs
