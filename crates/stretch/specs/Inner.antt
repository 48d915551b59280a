-- What the inner functions of `stretch` answer, and what its proofs speak of; no public contract and no promise cites it.
use Rattle.std.specs.Prelude.{ℕ, ◌+◌, Bool, true, false, not, cond, ◌≡◌, ◌⊎◌, Option, None, Some, List, length, leb, eqb}
use Rattle.std.proofs.lemmas.List.Edits.{sets}
use Rattle.window.specs.declared.Counts.{Counts}
use Rattle.window.specs.declared.Row.{Row}
use Rattle.window.specs.declared.Rows.{Rows}
use Rattle.window.specs.declared.Window.{Window}
use Rattle.window.specs.Rows.{rows_with}
use Rattle.slot.specs.Gauges.{up_to_last}
use Rattle.board.specs.Work.{arrival}
use Rattle.text.specs.Text.{behind}
use Rattle.journal.specs.declared.Log.{Log}
use Rattle.refusal.specs.declared.Refusal.{Refusal}
use Rattle.refusal.specs.Numbers.{number_of}
use Rattle.joining.specs.Answers.{Answer}
use Rattle.std.specs.Prelude.{Ok, Err}
use Rattle.bus.specs.Room.{sessions_in, room_of}
use Rattle.joining.specs.Frame.{Frame, sender_of}
use Rattle.joining.specs.Run.{sessions_after, answer_to}
use Rattle.times.specs.declared.Last.{Last}
use Rattle.times.specs.declared.Times.{Times}
use Rattle.times.specs.Timed.{is_kept, put_last}
use Rattle.times.specs.Run.{Timed, Stations, Takes}
use Rattle.journal.specs.Log.{frame_in, timed_in}
use Rattle.stretch.specs.declared.Brought.{Brought}
use Rattle.stretch.specs.declared.Begun.{Begun}
use Rattle.stretch.specs.declared.Standing.{Standing}
use Rattle.stretch.specs.Doing.{did_all}

-- How many of the first n rows there are up to the last one with a name.
abbrev pub rows_used : ℕ → List ℕ → ℕ
rows_used n names = up_to_last (λ k. eqb k 0) 0 n names

-- The rows, and that one.
abbrev pub with_row : (rows row : ℕ) → ℕ
with_row rows row = cond (leb rows row) (row + 1) rows

-- A report is stored in its row, and so many rows are in use then.
pub record Stored (rows₀ : Rows) (filled row : ℕ) (report : Row) (n : ℕ) (rows₁ : Rows) : Type 0 where
  pub used : n ≡ with_row filled row
  pub rows : rows₁ ≡ rows_with rows₀ row report

-- No report, and the line of a refusal or none.
abbrev pub not_brought : Bool → ℕ → Brought
not_brought refused code = record { refused = refused; code = code; number = 0; gone = 0; row = record { loss = 0; shake = 0; name = 0 } }

-- What a frame's answer brings to a window: the line of a refusal, or a report that enters.
abbrev pub brought : Answer → Counts → Brought
brought (Err e) c = not_brought true (number_of e)
brought (Ok None) c = not_brought false 0
brought (Ok (Some r)) c =
    let a = arrival c r.values in
    record {
      refused = not (eqb a.refusal 0);
      code = a.refusal;
      number = a.number;
      gone = a.oldest;
      row = record { loss = r.values.loss; shake = r.values.shake; name = a.name };
    }

-- The window of these counts and rows.
abbrev pub window_of : Counts → Rows → Window
window_of c rows = record { rows = rows; counts = c }

-- The frame in the value of such an item.
unfoldable pub frame_of : ℕ → List ℕ → Timed
frame_of tag v = cond (eqb tag 21) (timed_in v) (frame_in v)

-- A frame is taken where the sessions and times stand: what it brings to a window of these counts, and what is left.
pub record Hears (b : Stations) (f : Timed) (c : Counts) (r : Brought) (room : List ℕ) (left : Times) : Type 0 where
  pub answer : Answer
  pub takes : Takes b f answer room left
  pub brings : r ≡ brought answer c

-- The last times where a frame that began so is refused, and where it is answered so: what its sender's was is put back, if the frame had a time.
abbrev pub put_back_at : ℕ → Option (ℕ × Last) → ℕ → Times → Times
put_back_at place None id ts = ts
put_back_at place (Some m) id ts = cond (eqb m.0 place) (put_last ts (sender_of id) m.1) ts

abbrev pub put_back : Begun → ℕ → Times → Times
put_back g id ts = put_back_at g.place g.last id ts

abbrev pub times_by : Begun → Answer → ℕ → Times → Times
times_by g a id ts = cond (is_kept a) ts (put_back g id ts)

-- The last frame that had a time, if there was one, stood elsewhere.
abbrev pub Elsewhere : ℕ → Option (ℕ × Last) → Type 0
Elsewhere place None = Unit
Elsewhere place (Some m) = m.0 ≡ place → ⊥

-- The same in two parts. The frame's time is met first: it refuses the frame; or else, whatever the frame's session then answers and leaves, that is what the frame is answered and leaves.
pub record Begins (b : Stations) (f : Timed) (end : ℕ) (last r : Begun) (room : List ℕ) (left : Times) : Type 0 where
  pub ends : r.place + 15 ≡ end
  pub due : ((m : Last) × (r.last ≡ Some (r.place, m))) ⊎ (r.last ≡ last.last)
  pub stops : (e : Refusal) → r.refusal ≡ Some e → Takes b f (Err e) room left
  pub goes_on : r.refusal ≡ None → (a : Answer) (room₁ : List ℕ) (left₁ : Times) → a ≡ answer_to (sessions_in room) f.frame → room₁ ≡ room_of (sessions_after (sessions_in room) f.frame)
      → left₁ ≡ times_by r a f.frame.identifier left → Takes b f a room₁ left₁

-- Then its sender's session takes it.
pub record HearsAt (b : Stations) (g : Begun) (f : Frame) (c : Counts) (r : Brought) (room : List ℕ) (left : Times) : Type 0 where
  pub answer : Answer
  pub answers : answer ≡ answer_to b.sessions f
  pub sessions : room ≡ room_of (sessions_after b.sessions f)
  pub times : left ≡ times_by g answer f.identifier b.times
  pub brings : r ≡ brought answer c

-- The log of which these bytes are the sessions, and these are the last times.
abbrev pub log_in : Standing → List ℕ → Times → Log
log_in s bus times = record { items = s.items; board = s.board; sessions = sessions_in bus; times = times }

-- The same with the sessions in bytes.
pub record Runs (from : Standing) (log : Log) (bytes room : List ℕ) (r : Standing) (log₁ : Log) (left : List ℕ) : Type 0 where
  pub leaves : log₁ ≡ (did_all (length room) from.at log bytes).log
  pub taken : r.taken ≡ (did_all (length room) from.at log bytes).next
  pub place : r.at ≡ behind from.at (did_all (length room) from.at log bytes).text
  pub stored : left ≡ sets room from.at (did_all (length room) from.at log bytes).text
