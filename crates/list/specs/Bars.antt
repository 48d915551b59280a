-- What an entry has to rank above to change a full list.
use Rattle.std.specs.Prelude.{ℕ, ◌-◌, min, Bool, false, cond, List, get_or, ℤ, pos, eqb}
use Rattle.list.specs.Lines.{most_lines}
use Rattle.list.specs.declared.Bar.{Bar}
use Rattle.list.specs.declared.Lines.{Lines}

-- The bar of the first n lines of two columns; no line, no bar.
unfoldable pub bar_at : List ℕ → List ℤ → ℕ → Bool → Bar
bar_at ns ss n full =
    cond (eqb n 0)
    (record { full = false; name = 0; score = pos 0 })
    (record { full = full; name = get_or ns (n - 1) 0; score = get_or ss (n - 1) (pos 0) })

-- That of a list for k lines.
abbrev pub bar_of : Lines → ℕ → Bar
bar_of l k = bar_at l.names l.scores (min l.len most_lines) (eqb l.len k)
