-- The arrays with the entry in its rank have the lines that are to be kept as their first, and 0 past them.
-- Assumes nothing.
use mathlib.Core.Path.{ap, ap₂, ◌∙◌}
use Prim.Native.Nat.{min}
use native.Mathlib.Omega.{arith}
use borrow.Author.Rules.{rules}
use lib.ListN.{take}
use mir.Facts.{to_z-of_z}
use Rattle.search.specs.Best.{placed}
use Rattle.ranking.specs.Standing.{above}
use Rattle.list.specs.Lines.{lines_of, columns_of}
use Rattle.list.proofs.Stored.{roomy_known, front-lines, wiped-stored}
use Rattle.list.proofs.Sliding.{placing_few}
use Rattle.list.proofs.Lines.placed.Goals as goal

pub wipe-requires : goal.wipe-requires
wipe-requires c = (placing_few c.put_in-m.ensures.0 (omega (arith, c.min-k.ensures)), c.put_in-m.ensures.1)

pub overflow_cast-len : goal.overflow_cast-len
overflow_cast-len c =
    let few = placing_few c.put_in-m.ensures.0 (omega (arith, c.min-k.ensures)) in
    search rules

pub returns : goal.returns
returns c =
    let a = c.args in
    let l = c.args.self in
    let good = c.well_formed.0.1.1 in
    let room = roomy_known c.args.self.names c.args.self.scores c.well_formed.0.1.1.0.1.0.1 c.well_formed.0.1.1.1.0.1.0.1 in
    let few = placing_few c.put_in-m.ensures.0 (omega (arith, c.min-k.ensures)) in
    wiped-stored _ _ c.put_in-m.ensures.1 c.put_in-m.result few c.wipe.ensures.0 c.wipe.ensures.1
    ∙ ap columns_of c.put_in-m.ensures.0.front
    ∙ ap₂ (λ n s. columns_of (take n (placed (above c.args.rule) (record { name = c.args.name; score = s }) (take c.line_count-n.result (lines_of c.args.self.names c.args.self.scores)))))
    c.min-k.ensures (to_z-of_z c.ranges.score)
    ∙ ap (λ m. columns_of (take (min c.args.most 16) (placed (above c.args.rule) (record { name = c.args.name; score = c.args.score }) m)))
    (front-lines l room c.line_count-n.result c.line_count-n.ensures)
