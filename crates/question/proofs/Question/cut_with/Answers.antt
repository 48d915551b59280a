-- A list with room for k lines, or for 16.
-- Assumes nothing.
use mathlib.Core.Path.{ap, ◌∙◌}
use Prim.Native.Nat.{min}
use lib.ListN.{take}
use mir.Facts.{to_z-of_z}
use Rattle.search.specs.Best.{placed}
use Rattle.ranking.specs.Standing.{above}
use Rattle.question.specs.Lines.{lines, with_list}
use Rattle.question.proofs.Taking.{within-joined}
use Rattle.question.proofs.Question.cut_with.Goals as goal

pub returns : goal.returns
returns c =
    let a = c.args in
    let q = c.args.self in
    c.placed_within.ensures
    ∙ ap (λ s. with_list q (take (min c.args.self.k 16) (placed (above c.args.self.rule) (record { name = c.args.name; score = s }) (lines q)))) (to_z-of_z c.ranges.score)
    ∙ within-joined q (record { name = c.args.name; score = c.args.score })
