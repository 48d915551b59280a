-- The scan from a cell of the order finds the cell at the place after its own.
-- Assumes nothing.
use mathlib.Core.Path.{sym, ap, ◌∙◌}
use Prim.Native.Nat.{◌+◌}
use Rattle.laws.proofs.Tests.{if_so, if_not}
use Rattle.ranking.specs.Cells.{place_of, cell_at, cell_after}
use Rattle.ranking.proofs.Cells.{in_order_lem}
use Rattle.ranking.proofs.Scan.{place_after_lem}
use Rattle.ranking.proofs.Rule.next_cell.Goals as goal

pub seek-requires : goal.seek-requires
seek-requires c =
    λ h.
    let a = c.args in
    (in_order_lem c.args.self c.args.cell (sym c.in_order.ensures ∙ c.if-in_order.true)).1

pub returns-then-in_order : goal.returns-then-in_order
unfolding cell_after
returns-then-in_order c =
    let a = c.args in
    let there = sym c.in_order.ensures ∙ c.if-in_order.true in
    c.seek.ensures
    ∙ ap (cell_at c.args.self) (place_after_lem c.args.self c.args.cell (in_order_lem c.args.self c.args.cell there).0)
    ∙ sym (if_so (cell_at c.args.self (place_of c.args.self c.args.cell + 1)) 256 there)

pub returns : goal.returns
unfolding cell_after
returns c =
    let a = c.args in
    sym (if_not (cell_at c.args.self (place_of c.args.self c.args.cell + 1)) 256 (sym c.in_order.ensures ∙ c.if-in_order.false))
