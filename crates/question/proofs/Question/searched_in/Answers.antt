-- The best k of the rows, and where a search with that list ends.
-- Assumes nothing.
use mathlib.Core.Path.{◌≡◌, sym, ap, ◌∙◌}
use Prim.Native.Nat.{min}
use native.Mathlib.Omega.{arith}
use Rattle.ranking.specs.Standing.{top}
use Rattle.window.specs.Rows.{standing}
use Rattle.list.specs.Rows.{rows_in}
use Rattle.question.specs.Lines.{holding, with_list, ended_of}
use Rattle.question.proofs.Finding.{first_wide, first_small}
use Rattle.question.proofs.Question.searched_in.Goals as goal

pub returns-then-self-gt-LINES : goal.returns-then-self-gt-LINES
returns-then-self-gt-LINES c =
    let a = c.args in
    sym (first_wide c.args.self (rows_in c.args.rows.now) c.if-self-gt-LINES.true (min c.args.n 1024))

pub returns : goal.returns
returns c =
    let a = c.args in
    let w = rows_in c.args.rows.now in
    let small : min c.args.self.k 16 ≡ c.args.self.k = omega (arith, c.if-self-gt-LINES.false) in
    c.ended.ensures
    ∙ ap ended_of
    (c.holding.ensures
    ∙ ap (holding c.args.self) c.gathered-list.ensures
    ∙ ap (λ k. with_list c.args.self (top c.args.self.rule k (standing w (min c.args.n 1024)))) small)
    ∙ first_small c.args.self w c.if-self-gt-LINES.false (min c.args.n 1024)
