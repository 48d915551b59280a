-- The rule's test, by the last line's score.
-- Assumes nothing.
use mathlib.Core.Path.{ap₂, ◌∙◌}
use borrow.Author.Rules.{rules}
use mir.Syntax.{w32}
use mir.Facts.{to_z-of_z}
use Rattle.laws.proofs.Words.{kept}
use Rattle.ranking.specs.Standing.{place_by}
use Rattle.question.proofs.Stored.{roomy}
use Rattle.slot.proofs.Gauges.{place_by_lem}
use Rattle.slot.proofs.has_place.Goals as goal

pub returns : goal.returns
returns c =
    let q = c.args.question in
    c.has_place.ensures
    ∙ ap₂ (place_by c.args.question.rule c.args.question.k c.args.question.len) (kept w32 c.least.result c.least.type_inv ∙ c.least.ensures) (to_z-of_z c.ranges.score)
    ∙ place_by_lem q (roomy q (search rules) (search rules)) c.args.score
