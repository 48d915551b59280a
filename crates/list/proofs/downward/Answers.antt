-- The invariant: the arrays have the best k of the rows before the lowest and of those from this one on. In the end that is all of them, in another
-- order.
-- Assumes nothing.
use mathlib.Core.Path.{◌∙◌}
use Prim.Native.Nat.{◌-◌}
use native.Mathlib.Omega.{arith}
use Rattle.window.specs.Rows.{standing}
use Rattle.list.specs.Rows.{rows_in}
use Rattle.list.proofs.Gathering.{row_down, gathered_down, pass_few, pass_room, pass_out, pass_skips, pass_puts}
use Rattle.list.proofs.downward.Goals as goal

pub loop-row-preserved-in_default : goal.loop-row-preserved-in_default
loop-row-preserved-in_default c =
    let w = rows_in c.args.rows.now in
    (omega arith, pass_out c.requires.0 c.loop-row.invariant.1 w (c.loop-row.row - 1) (row_down w (standing w c.args.low) c.loop-row.row c.args.high (omega arith) c.loop-row.auto.row) c.score_from.ensures c.in_default.is)

pub loop-row-preserved-then-not-admits : goal.loop-row-preserved-then-not-admits
loop-row-preserved-then-not-admits c =
    let w = rows_in c.args.rows.now in
    (omega arith, pass_skips c.requires.0 c.loop-row.invariant.1 w (c.loop-row.row - 1) (row_down w (standing w c.args.low) c.loop-row.row c.args.high (omega arith) c.loop-row.auto.row) c.score_from.ensures c.in-Some.is c.admits.ensures c.if-not-admits.true)

pub put_in-len-requires : goal.put_in-len-requires
put_in-len-requires c = (pass_few c.requires.0 c.loop-row.invariant.1, c.requires.0, pass_room c.requires.0 c.loop-row.invariant.1)

pub loop-row-preserved : goal.loop-row-preserved
loop-row-preserved c =
    let w = rows_in c.args.rows.now in (
      omega arith,
      pass_puts c.requires.0 c.loop-row.invariant.1 w (c.loop-row.row - 1) (row_down w (standing w c.args.low) c.loop-row.row c.args.high (omega arith) c.loop-row.auto.row) c.score_from.ensures c.in-Some.is c.admits.ensures c.if-not-admits.false
          c.put_in-len.ensures c.bar_in-bar-in-loop-row.ensures c.least-least-in-loop-row.type_inv c.least-least-in-loop-row.ensures,
    )

pub returns : goal.returns
returns c =
    c.loop-row.invariant.1.lines
    ∙ gathered_down c.args.rule c.args.most (rows_in c.args.rows.now) c.args.low c.loop-row.row c.args.high c.loop-row.invariant.0 c.loop-row-test.false c.requires.1
