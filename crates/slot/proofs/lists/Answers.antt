-- The invariant: one that has gone is among the names left if it is among all.
-- Assumes nothing.
use mathlib.Core.Path.{sym, ap, ◌∙◌}
use mathlib.Core.Bool.{not}
use native.Mathlib.Omega.{arith}
use borrow.Author.Rules.{rules}
use lib.ListN.{take}
use Rattle.question.proofs.Stored.{roomy}
use Rattle.slot.proofs.Listing.{lists-names, gone_here, gone_later, gone_nowhere}
use Rattle.slot.proofs.lists.Goals as goal

pub loop-name-init : goal.loop-name-init
loop-name-init c = search rules

pub returns-then-from-limit : goal.returns-then-from-limit
returns-then-from-limit c =
    let q = c.args.question in
    let names = take c.lines_in.result q.names in
    ap not (sym (gone_here names c.loop-name.name-index c.loop-name-test.true c.last_name-limit.result (omega arith)) ∙ c.loop-name.invariant)
    ∙ lists-names q c.args.gone c.last_name-limit.result c.last_name-limit.ensures (roomy q (search rules) (search rules)) c.lines_in.result c.lines_in.ensures

pub loop-name-preserved : goal.loop-name-preserved
loop-name-preserved c =
    let names = take c.lines_in.result c.args.question.names in
    sym (gone_later names c.loop-name.name-index c.loop-name-test.true c.last_name-limit.result (omega arith)) ∙ c.loop-name.invariant

pub returns : goal.returns
returns c =
    let q = c.args.question in
    let names = take c.lines_in.result q.names in
    ap not (sym (gone_nowhere c.last_name-limit.result names c.loop-name.name-index c.loop-name-test.false) ∙ c.loop-name.invariant)
    ∙ lists-names q c.args.gone c.last_name-limit.result c.last_name-limit.ensures (roomy q (search rules) (search rules)) c.lines_in.result c.lines_in.ensures
