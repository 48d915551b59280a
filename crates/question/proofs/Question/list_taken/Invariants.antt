use mathlib.Core.Path.{◌≡◌}
use Rattle.question.specs.Inner.{list_taken}
use Rattle.question.proofs.Question.list_taken.Given as goal

abbrev pub invariant-loop-row : goal.invariant-loop-row
invariant-loop-row l = l.list ≡ list_taken l.fn.self l.window l.row
