use Rattle.question.specs.Lines.{is_marked}
use Rattle.question.proofs.Marking.{Filled}
use Rattle.question.proofs.Question.marks.Given as goal

abbrev pub invariant-loop-cell : goal.invariant-loop-cell
invariant-loop-cell l = Filled (is_marked l.self) l.cell l.marks
