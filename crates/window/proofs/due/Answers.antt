-- The rows counted back from that of the latest report say how old a row's report is.
-- Assumes nothing.
use mathlib.Core.Path.{sym, ◌∙◌}
use Prim.Native.Nat.{◌+◌, ◌-◌}
use native.Mathlib.Nat.{mod-lt}
use native.Mathlib.Omega.{arith}
use borrow.Author.Tests.{lt-ltb, le-ltb}
use Rattle.window.proofs.Ring.{due_from}
use Rattle.window.proofs.due.Goals as goal

pub steps_back-behind-requires : goal.steps_back-behind-requires
steps_back-behind-requires c =
    let small = mod-lt (c.args.counts.entered + c.args.counts.size - 1) c.requires.0 in
    omega arith

pub returns-then-behind-counts : goal.returns-then-behind-counts
returns-then-behind-counts c =
    sym (due_from _ c.requires.0 _ _ _ _ _ c.if-counts-row.false c.requires.3 c.steps_back-behind.ensures ∙ rw (lt-ltb _ _ c.if-behind-counts.true, ← c.from.ensures))

pub returns-else-behind-counts : goal.returns-else-behind-counts
returns-else-behind-counts c =
    sym (due_from _ c.requires.0 _ _ _ _ _ c.if-counts-row.false c.requires.3 c.steps_back-behind.ensures ∙ rw (le-ltb _ _ c.if-behind-counts.false))
