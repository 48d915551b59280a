-- What the code answers of what Asking.antt and Turn.antt say in numbers.
use Rattle.std.specs.Prelude.{cond, None, Some, Result}
use Rattle.refusal.specs.declared.Refusal.{Refusal}
use Rattle.refusal.specs.Answers.{answered}
use Rattle.question.specs.declared.Searched.{Searched}
use Rattle.slot.specs.declared.Shown as code
use Rattle.slot.specs.declared.Turned as code-turned
use Rattle.slot.specs.Asking.{Seated, Shown}
use Rattle.slot.specs.Turn.{Turned}

-- The refusal of that number, or the steps and what the slot holds then.
abbrev pub seated_answer : Seated → Result Searched Refusal
seated_answer s = answered s.refusal (record { steps = s.steps; question = s.question })

-- The refusal of that number, or the list.
abbrev pub shown_answer : Shown → Result code.Shown Refusal
shown_answer s = answered s.refusal (record { len = s.len; numbers = s.numbers; scores = s.scores; editions = s.editions })

-- The steps of the search, if the question was searched.
abbrev pub turned_answer : Turned → code-turned.Turned
turned_answer t = record { steps = cond t.searched (Some t.steps) None; question = t.question }
