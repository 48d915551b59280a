-- The best k of its list.
-- Assumes nothing.
use mathlib.Core.Path.{◌≡◌, ap, ap₂, ◌∙◌}
use Prim.Native.Nat.{min}
use native.Mathlib.Omega.{arith}
use Rattle.search.specs.Best.{best}
use Rattle.ranking.specs.Standing.{above}
use Rattle.list.specs.Lines.{lines_in, columns_of}
use Rattle.question.specs.Lines.{holding}
use Rattle.question.proofs.Question.ranked.Goals as goal

pub returns : goal.returns
returns c =
    let q = c.args.self in
    let small : min c.args.self.k 16 ≡ c.args.self.k = omega (arith, c.requires) in
    c.holding.ensures
    ∙ ap (holding q) (c.best.ensures ∙ ap₂ (λ n l. columns_of (best (above c.args.self.rule) n (lines_in l))) small c.list.ensures)
