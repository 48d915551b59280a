-- The invariant: the lowest of the names so far.
-- Assumes nothing.
use mathlib.Core.Path.{sym, ap, ◌∙◌}
use Prim.Native.Nat.{min}
use native.Mathlib.Omega.{arith}
use borrow.Author.Rules.{rules}
use lib.ListN.{get_or, take}
use lib.Seq.{take_all}
use Rattle.question.proofs.Stored.{roomy}
use Rattle.slot.specs.Gauges.{lowest}
use Rattle.slot.proofs.Gauges.{low_room, low-names, low_more, take_zero}
use Rattle.slot.proofs.gauge.lowest.Goals as goal

pub returns-then-question : goal.returns-then-question
returns-then-question c = sym (low_room c.args.question c.if-question.true)

pub loop-name-init : goal.loop-name-init
loop-name-init c = sym (ap lowest (take_zero (take c.lines_in.result c.args.question.names)))

pub loop-name-preserved : goal.loop-name-preserved
loop-name-preserved c =
    let names = take c.lines_in.result c.args.question.names in
    c.min-low.ensures ∙ ap (λ n. min n (get_or names c.loop-name.name-index 0)) c.loop-name.invariant ∙ sym (low_more names c.loop-name.name-index c.loop-name-test.true)

pub returns : goal.returns
returns c =
    let q = c.args.question in
    let names = take c.lines_in.result q.names in
    c.loop-name.invariant
    ∙ ap lowest (take_all c.loop-name.name-index names (omega arith))
    ∙ sym (low-names q c.if-question.false (roomy q (search rules) (search rules)) c.lines_in.result c.lines_in.ensures)
