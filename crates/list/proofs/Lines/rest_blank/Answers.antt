-- The invariant: what is left to test decides the whole.
-- Assumes nothing.
use mathlib.Core.Path.{refl, ap}
use borrow.Author.Tests.{eq-eqb, ne_eqb}
use borrow.Author.Rules.{rules}
use Rattle.list.specs.Lines.{all_of, blank}
use Rattle.list.proofs.Stored.{line_at, roomy_known, drop_shown}
use Rattle.list.proofs.Walking.{walk_on, walk_fails, walk_ends, blank-name, blank-score}
use Rattle.list.proofs.Lines.rest_blank.Goals.{then-self-i-ne0-via-then-self-i-ne0, then-self-i-ne0-via-else-self-i-ne0+then-self-i-ne0-2}
use Rattle.list.proofs.Lines.rest_blank.Goals as goal

pub loop-i-init : goal.loop-i-init
loop-i-init c =
    let l = c.args.self in
    let good = c.well_formed.0.1.1 in
    let room = roomy_known c.args.self.names c.args.self.scores c.well_formed.0.1.1.0.1.0.1 c.well_formed.0.1.1.1.0.1.0.1 in
    record {
      up_to = search rules;
      within = search rules;
      room = room;
      decides = ap (all_of blank) (drop_shown c.args.self.names c.args.self.scores room c.args.self.len c.line_count-i.result c.line_count-i.ensures);
    }

pub returns-then-self-i-ne0 : goal.returns-then-self-i-ne0
returns-then-self-i-ne0 c =
    elim c.then-self-i-ne0.branch [
      | then-self-i-ne0-via-then-self-i-ne0 w ↦
          walk_fails c.loop-i.invariant c.loop-i-test.true (blank-name (line_at c.args.self.names c.args.self.scores c.loop-i.i) w.if-self-i-ne0.true) refl
      | then-self-i-ne0-via-else-self-i-ne0+then-self-i-ne0-2 w ↦
          walk_fails c.loop-i.invariant c.loop-i-test.true
          (blank-score (line_at c.args.self.names c.args.self.scores c.loop-i.i) w.if-self-i-ne0.false (search rules) (ne_eqb _ 0 w.if-self-i-ne0-2.true))
          refl
    ]

pub loop-i-preserved : goal.loop-i-preserved
loop-i-preserved c =
    walk_on c.loop-i.invariant c.loop-i-test.true
    (blank-score (line_at c.args.self.names c.args.self.scores c.loop-i.i) c.if-self-i-ne0.false (search rules) (eq-eqb _ 0 c.if-self-i-ne0-2.false))
    refl

pub returns : goal.returns
returns c = walk_ends c.loop-i.invariant c.loop-i-test.false
