-- Its list, with the entry in its rank.
-- Assumes nothing.
use mathlib.Core.Path.{ap, ap₂, ◌∙◌}
use Prim.Native.Nat.{min}
use lib.ListN.{take}
use mir.Facts.{to_z-of_z}
use Rattle.search.specs.Best.{placed}
use Rattle.ranking.specs.Standing.{above}
use Rattle.list.specs.Lines.{lines_in, columns_of}
use Rattle.question.specs.Lines.{holding}
use Rattle.question.proofs.Question.placed_within.Goals as goal

pub returns : goal.returns
returns c =
    let a = c.args in
    c.holding.ensures
    ∙ ap (holding c.args.self)
    (c.placed.ensures
    ∙ ap₂ (λ s l. columns_of (take (min c.args.most 16) (placed (above c.args.self.rule) (record { name = c.args.name; score = s }) (lines_in l)))) (to_z-of_z c.ranges.score)
    c.list.ensures)
