-- Where neither test refuses, the rows of a fit window serve as its held reports.
-- Assumes nothing.
use mathlib.Core.Path.{sym, ap, ◌∙◌}
use Rattle.std.specs.Prelude.{Ok}
use Rattle.question.specs.Calls.{answered}
use Rattle.question.proofs.Doors.{step_goes}
use Rattle.question.proofs.Question.step.Goals.{then-fit, else-fit}
use Rattle.question.proofs.Question.step.Goals as goal

pub returns : goal.returns
returns c =
    elim c.if-fit.branch [
      | then-fit w ↦
          ap (λ q. Ok q) c.stepped.ensures
          ∙ sym
          (ap answered
          (step_goes c.args.window c.args.self (sym c.fit.ensures ∙ w.if-fit.true) (sym w.fit-then-fit.ensures ∙ sym w.value-is ∙ c.if-not-fit.false)
          (sym c.finished.ensures ∙ c.if-finished.false)))
      | else-fit w ↦ cc
    ]
