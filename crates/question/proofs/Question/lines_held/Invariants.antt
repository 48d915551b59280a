use Rattle.list.specs.Lines.{all_of}
use Rattle.list.proofs.Walking.{Walk}
use Rattle.question.specs.Lines.{lines}
use Rattle.question.specs.Calls.{held_as}
use Rattle.question.proofs.Question.lines_held.Given as goal

abbrev pub invariant-loop-i : goal.invariant-loop-i
invariant-loop-i l =
    Walk (held_as l.window l.self.rule) (all_of (held_as l.window l.self.rule) (lines l.self)) l.self.names l.self.scores l.i-end l.i
