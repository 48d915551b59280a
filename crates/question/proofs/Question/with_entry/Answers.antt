-- A list with room for 16 lines.
-- Assumes nothing.
use mathlib.Core.Path.{ap, ◌∙◌}
use mir.Facts.{to_z-of_z}
use Rattle.question.specs.Lines.{with_entry}
use Rattle.question.proofs.Question.with_entry.Goals as goal

pub returns : goal.returns
returns c =
    let a = c.args in
    c.placed_within.ensures ∙ ap (λ s. with_entry c.args.self (record { name = c.args.name; score = s })) (to_z-of_z c.ranges.score)
