-- The invariant: the arrays have the best k of the rows before this one.
-- Assumes nothing.
use Rattle.list.specs.Rows.{rows_in}
use Rattle.list.proofs.Gathering.{row_up, pass_few, pass_room, pass_out, pass_skips, pass_puts}
use Rattle.list.proofs.upward.Goals as goal

pub loop-row-preserved-in_default : goal.loop-row-preserved-in_default
loop-row-preserved-in_default c =
    pass_out c.requires.0 c.loop-row.invariant (rows_in c.args.rows.now) c.loop-row.row (row_up (rows_in c.args.rows.now) c.loop-row.row) c.score_from.ensures c.in_default.is

pub loop-row-preserved-then-not-admits : goal.loop-row-preserved-then-not-admits
loop-row-preserved-then-not-admits c =
    pass_skips c.requires.0 c.loop-row.invariant (rows_in c.args.rows.now) c.loop-row.row (row_up (rows_in c.args.rows.now) c.loop-row.row) c.score_from.ensures c.in-Some.is c.admits.ensures c.if-not-admits.true

pub put_in-len-requires : goal.put_in-len-requires
put_in-len-requires c = (pass_few c.requires.0 c.loop-row.invariant, c.requires.0, pass_room c.requires.0 c.loop-row.invariant)

pub loop-row-preserved : goal.loop-row-preserved
loop-row-preserved c =
    pass_puts c.requires.0 c.loop-row.invariant (rows_in c.args.rows.now) c.loop-row.row (row_up (rows_in c.args.rows.now) c.loop-row.row) c.score_from.ensures c.in-Some.is c.admits.ensures c.if-not-admits.false
    c.put_in-len.ensures c.bar_in-bar-in-loop-row.ensures c.least-least-in-loop-row.type_inv c.least-least-in-loop-row.ensures
