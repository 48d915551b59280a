-- The rules' number and values for each answer to a frame: a refusal has its number and every other field 0; any other answer has the number 0.
use Rattle.std.specs.Prelude.{ℕ, true, false, Option, None, Some, Result, Ok, Err}
use Rattle.refusal.specs.declared.Refusal.{Refusal}
use Rattle.refusal.specs.Numbers.{number_of}
use Rattle.report.specs.declared.Report.{Report}
use Rattle.report.specs.Answers.{ReportFields, no_report}

-- What a frame is answered: its refusal; none where it is kept; or the report that its last packet completed.
abbrev pub Answer : Type 0
Answer = Result (Option Report) Refusal

abbrev pub answer_fields : Answer → ReportFields
answer_fields (Err e) = record { refusal = number_of e; complete = false; report = no_report }
answer_fields (Ok None) = record { refusal = 0; complete = false; report = no_report }
answer_fields (Ok (Some r)) = record { refusal = 0; complete = true; report = r }

-- The fields of what `Frame::sender` answers: the refusal, and the sender.
pub record SenderFields : Type 0 where
  pub refusal : ℕ
  pub sender : ℕ

abbrev pub sender_fields : Result ℕ Refusal → SenderFields
sender_fields (Ok n) = record { refusal = 0; sender = n }
sender_fields (Err e) = record { refusal = number_of e; sender = 0 }
