-- The last line is read, if there is one.
-- Assumes nothing.
use mathlib.Core.Path.{sym, ◌∙◌}
use native.Mathlib.Omega.{arith}
use borrow.Author.Rules.{rules}
use lib.IntN.{pos}
use lib.ListN.{get_or}
use mir.Syntax.{w32}
use Rattle.laws.proofs.Words.{kept}
use Rattle.question.proofs.Stored.{roomy}
use Rattle.slot.proofs.Gauges.{least-none, least_last}
use Rattle.slot.proofs.least.Goals as goal

pub returns-in-Some : goal.returns-in-Some
returns-in-Some c =
    let q = c.args.question in
    kept w32 (get_or q.scores c.in-Some.last (pos 0)) (search rules)
    ∙ sym (least_last q (roomy q (search rules) (search rules)) c.in-Some.last (omega (arith, c.in-Some.ensures)))

pub returns-in-None : goal.returns-in-None
returns-in-None c = sym (least-none c.args.question (omega (arith, c.in-None.ensures)))
