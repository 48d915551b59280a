-- The arrays with 0 in the places past the first m lines are these lines as they are stored.
-- Assumes nothing.
use mathlib.Core.Path.{ap, ◌∙◌}
use Prim.Native.Nat.{min}
use borrow.Author.Rules.{rules}
use Rattle.list.specs.Lines.{columns_of}
use Rattle.list.proofs.Stored.{roomy_known, wiped-stored, cut_lines}
use Rattle.list.proofs.Lines.first_lines.Goals as goal

pub returns : goal.returns
returns c =
    let a = c.args in
    let l = c.args.self in
    let good = c.well_formed.0.1.1 in
    let room = roomy_known c.args.self.names c.args.self.scores c.well_formed.0.1.1.0.1.0.1 c.well_formed.0.1.1.1.0.1.0.1 in
    wiped-stored c.args.self.names c.args.self.scores room c.min-n.result (search rules) c.wipe.ensures.0 c.wipe.ensures.1
    ∙ ap columns_of (cut_lines l room c.min-n.result c.args.m (c.min-n.ensures ∙ ap (min c.args.m) c.line_count.ensures))
