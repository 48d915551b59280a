-- The arrays' bar, of the lines that are shown.
-- Assumes nothing.
use mathlib.Core.Path.{ap, ◌∙◌}
use lib.Dec.{eqb}
use Rattle.list.specs.Bars.{bar_at}
use Rattle.list.proofs.Lines.bar.Goals as goal

pub returns : goal.returns
returns c =
    let a = c.args in
    c.bar_in.ensures ∙ ap (λ n. bar_at c.args.self.names c.args.self.scores n (eqb c.args.self.len c.args.k)) c.line_count-n.ensures
