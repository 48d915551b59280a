-- The invariant: what is left to test decides the whole.
-- Assumes nothing.
use mathlib.Core.Path.{ap, ◌∙◌}
use Prim.Native.Nat.{min}
use borrow.Author.Rules.{rules}
use Rattle.list.specs.declared.Lines.{Lines}
use Rattle.list.specs.Lines.{all_of}
use Rattle.list.proofs.Walking.{as_read, walk_on, walk_fails, walk_ends}
use Rattle.question.specs.Calls.{held_as}
use Rattle.question.proofs.Stored.{roomy, shown_lines}
use Rattle.question.proofs.Question.lines_held.Goals as goal

pub loop-i-init : goal.loop-i-init
loop-i-init c =
    let q = c.args.self in
    let good = c.well_formed.0.1.1 in
    let room = roomy q (search rules) (search rules) in
    record {
      up_to = search rules;
      within = search rules;
      room = room;
      decides = ap (all_of (held_as c.args.window c.args.self.rule)) (shown_lines q room c.line_count-i-end.result (c.line_count-i-end.ensures ∙ ap (λ (l : Lines). min l.len 16) c.list.ensures));
    }

pub returns-then-not-held_as : goal.returns-then-not-held_as
returns-then-not-held_as c =
    let q = c.args.self in
    walk_fails c.loop-i.invariant c.loop-i-test.true
    (as_read (held_as c.args.window c.args.self.rule) c.args.self.names c.args.self.scores c.loop-i.i (search rules) c.held_as.ensures)
    (c.if-not-held_as.true)

pub loop-i-preserved : goal.loop-i-preserved
loop-i-preserved c =
    let q = c.args.self in
    walk_on c.loop-i.invariant c.loop-i-test.true
    (as_read (held_as c.args.window c.args.self.rule) c.args.self.names c.args.self.scores c.loop-i.i (search rules) c.held_as.ensures)
    (c.if-not-held_as.false)

pub returns : goal.returns
returns c = walk_ends c.loop-i.invariant c.loop-i-test.false
