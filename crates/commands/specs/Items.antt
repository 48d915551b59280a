-- The log items of a line (docs/RULES.md, section 11), at the time that the lines before it have set for frames.
use Rattle.std.specs.Prelude.{ℕ, List, [], ◌∷◌, ◌++◌, map, cond, length, eqb, Option, Some, None, Result, Ok, Err}
use Rattle.items.specs.declared.Item.{Item}
use Rattle.items.specs.declared.Item.TheVariants as item
use Rattle.items.specs.Run.{Meant, run_bytes}
use Rattle.report.specs.Payload.{payload, given}
use Rattle.joining.specs.Frame.{Frame}
use Rattle.refusal.specs.declared.Refusal.{Refusal}
use Rattle.bench.specs.Bench.{frames, send_refusal, send_answer}
use Rattle.commands.specs.declared.Sending.{Sending}
use Rattle.commands.specs.declared.Command.{Command}
use Rattle.commands.specs.declared.Command.TheVariants as command
use Rattle.commands.specs.declared.Fault.{Fault}
use Rattle.commands.specs.declared.Trouble.{Trouble}
use Rattle.commands.specs.declared.Trouble.TheVariants as trouble
use Rattle.commands.specs.declared.Outcome.{Outcome}
use Rattle.commands.specs.Lines.{command_of, note_in}

-- A frame's item: with the time, if there is one (rule 15.1).
abbrev pub frame_item : Option ℕ → ℕ → Item
frame_item None id = item.Frame id
frame_item (Some t) id = item.Timed t id

-- An item for each frame.
abbrev pub item_of_frame : Option ℕ → Frame → Meant
item_of_frame t f = record { item = frame_item t f.identifier; data_bytes = f.data_bytes }

-- The number of the bench sender's refusal of a report, 3, 12 or 19; 0 for none. Its room is as large as any report's frames.
unfoldable pub report_refusal : Sending → List ℕ → ℕ
report_refusal s note = send_refusal 168 s.sender s.report (given s.noted note)

-- The items of a report's frames, none where it is refused.
unfoldable pub report_items : Option ℕ → Sending → List ℕ → List Meant
report_items t s note =
    cond (eqb (report_refusal s note) 0) (map (item_of_frame t) (frames s.sender (payload s.report (given s.noted note)))) []

-- So many bytes, or the trouble that a refusal is.
abbrev pub bytes_or_trouble : ℕ → Result ℕ Refusal → Result ℕ Trouble
bytes_or_trouble n (Ok room) = Ok n
bytes_or_trouble n (Err e) = Err (trouble.Refused e)

-- How many bytes the items of a report's frames take, or the bench sender's refusal.
unfoldable pub report_answer : Option ℕ → Sending → List ℕ → Result ℕ Trouble
report_answer t s note = bytes_or_trouble (length (run_bytes (report_items t s note))) (send_answer 168 s.sender s.report (given s.noted note))

-- The items that a command stands for. One that sets the time has none.
abbrev pub items_of : Option ℕ → Command → List ℕ → List Meant
items_of t command.Nothing note = []
items_of t (command.Item i) note = record { item = i; data_bytes = [] } ∷ []
items_of t (command.Report s) note = report_items t s note
items_of t (command.Time u) note = []

-- How many bytes they are, or the refusal of a report.
abbrev pub answer_of : Option ℕ → Command → List ℕ → Result ℕ Trouble
answer_of t (command.Report s) note = report_answer t s note
answer_of t command.Nothing note = Ok 0
answer_of t (command.Time u) note = Ok 0
answer_of t (command.Item i) note = Ok (length (run_bytes (items_of t (command.Item i) note)))

-- The time of the frames behind a command: only a line that sets it changes it.
abbrev pub time_after : Option ℕ → Command → Option ℕ
time_after t command.Nothing = t
time_after t (command.Item i) = t
time_after t (command.Report s) = t
time_after t (command.Time u) = u

-- What comes of a line that was read, and the items that are written for it; a wrong line has none, and leaves the time.
abbrev pub outcome_of : Option ℕ → Result Command Fault → List ℕ → Outcome
outcome_of t (Ok c) note = record { answer = answer_of t c note; time = time_after t c }
outcome_of t (Err f) note = record { answer = Err (trouble.Wrong f); time = t }

abbrev pub items_read : Option ℕ → Result Command Fault → List ℕ → List Meant
items_read t (Ok c) note = items_of t c note
items_read t (Err f) note = []

-- What comes of a line, and the items that are written for it.
abbrev pub line_outcome : Option ℕ → List ℕ → Outcome
line_outcome t line = outcome_of t (command_of line) (note_in line)

abbrev pub line_items : Option ℕ → List ℕ → List Meant
line_items t line = items_read t (command_of line) (note_in line)

-- The items of lines in a row: each at the time that those before it have set.
unfoldable pub text_items : Option ℕ → List (List ℕ) → List Meant
text_items t [] = []
text_items t (line ∷ lines) = line_items t line ++ text_items (line_outcome t line).time lines
