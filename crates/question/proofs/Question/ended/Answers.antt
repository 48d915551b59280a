-- A full list's search took the cells that reach its last score, any other took all.
-- Assumes nothing.
use mathlib.Core.Path.{ap, ap₂, ◌∙◌}
use mir.Syntax.{w32}
use Rattle.ranking.specs.Cells.{reach_of}
use Rattle.laws.proofs.Words.{kept}
use Rattle.list.specs.Bars.{bar_of}
use Rattle.question.proofs.Finding.{ended-full, ended_open}
use Rattle.question.proofs.Question.ended.Goals as goal

pub returns-then-bar : goal.returns-then-bar
returns-then-bar c =
    let q = c.args.self in
    let bar = c.bar-bar.ensures ∙ ap (λ l. bar_of l c.args.self.k) c.list.ensures in
    ap (λ b. record { steps = c.reach-reach.result.cells; question = b }) c.with_next.ensures
    ∙ ended-full q c.bar-bar.result bar c.if-bar.true c.reach-reach.result
    (c.reach-reach.ensures ∙ ap (reach_of c.args.self.rule) (kept w32 c.bar-bar.result.score c.struct_told-1.given.1.1.0.1))

pub returns : goal.returns
returns c =
    let q = c.args.self in
    let bar = c.bar-bar.ensures ∙ ap (λ l. bar_of l c.args.self.k) c.list.ensures in
    ap₂ (λ n b. record { steps = n; question = b }) c.most_steps.ensures c.with_next-2.ensures
    ∙ ended_open q c.bar-bar.result bar c.if-bar.false
