-- What a run of frames, each with a time or without, does to all sessions and last times (docs/RULES.md, section 15).
use Rattle.std.specs.Prelude.{ℕ, ◌+◌, ◌≤◌, ◌≡◌, Bool, true, false, cond, ◌||◌, List, [], ◌∷◌, ◌++◌, length, take, set, leb, ltb, eqb}
use Rattle.std.specs.Prelude.{Option, None, Some, Result, Ok}
use Rattle.report.specs.Payload.{read_payload}
use Rattle.report.specs.declared.Report.{Report}
use Rattle.joining.specs.declared.Session.{Session}
use Rattle.joining.specs.Answers.{Answer}
use Rattle.std.specs.Prelude.{Err}
use Rattle.refusal.specs.Answers.{refusal_of}
use Rattle.joining.specs.Frame.{Frame, sender_of, frame_refusal}
use Rattle.joining.specs.Joining.{packets, fresh_session}
use Rattle.joining.specs.Run.{senders, fresh_sessions, session_of, Announces, InSequence, joined}
use Rattle.bus.specs.Room.{sessions_in, room_of}
use Rattle.times.specs.declared.Last.{Last}
use Rattle.times.specs.declared.Station.{Station}
use Rattle.times.specs.declared.Heard.{Heard}
use Rattle.refusal.specs.declared.Refusal.{Refusal}
use Rattle.refusal.specs.Numbers.{number_of}
use Rattle.refusal.specs.Answers.{answered}
use Rattle.times.specs.declared.Times.{Times}
use Rattle.times.specs.Timed.{no_time, timed_frame, untimed_frame, stops, meets, last_of, with_last, fresh_times}

-- A frame with a time, or without.
pub record Timed : Type 0 where
  pub frame : Frame
  pub time : Option ℕ

abbrev pub sender : Timed → ℕ
sender f = sender_of f.frame.identifier

-- A frame of a station's own sender, taken by it.
abbrev pub frame_at : Option ℕ → Station → Frame → Heard
frame_at None s f = untimed_frame s f.identifier f.data_bytes
frame_at (Some t) s f = timed_frame s t f.identifier f.data_bytes

abbrev pub station_step : Station → Timed → Heard
station_step s f = frame_at f.time s f.frame

-- One sender's frames and nothing else: what they leave, and the answers in order.
unfoldable pub station_after_all : Station → List Timed → Station
station_after_all s [] = s
station_after_all s (f ∷ fs) = station_after_all (station_step s f).station fs

unfoldable pub station_answers : Station → List Timed → List Answer
station_answers s [] = []
station_answers s (f ∷ fs) = (station_step s f).answer ∷ station_answers (station_step s f).station fs

-- All senders' sessions and last times.
pub record Stations : Type 0 where
  pub sessions : List Session
  pub times : Times

abbrev pub station_of : ℕ → Stations → Station
station_of k b = record { session = session_of k b.sessions; last = last_of k b.times }

abbrev pub with_station : Stations → ℕ → Station → Stations
with_station b k s = record { sessions = set b.sessions k s.session; times = with_last b.times k s.last }

abbrev pub fresh_station : Station
fresh_station = record { session = fresh_session; last = no_time }

abbrev pub fresh_stations : Stations
fresh_stations = record { sessions = fresh_sessions; times = fresh_times }

-- A frame changes its sender's session and last time, and no other's.
abbrev pub stations_after : Stations → Timed → Stations
stations_after b f = cond (ltb (sender f) senders) (with_station b (sender f) (station_step (station_of (sender f) b) f).station) b

-- What a frame is answered; those of senders 254 and 255 belong to no session.
abbrev pub timed_answer : Stations → Timed → Answer
timed_answer b f =
    cond (ltb (sender f) senders) (station_step (station_of (sender f) b) f).answer (Err (refusal_of (frame_refusal f.frame.identifier f.frame.data_bytes)))

-- What stands in the bytes and times that a caller lends, and the frame that it hands in, with a time or without.
abbrev pub stations_in : List ℕ → Times → Stations
stations_in room times = record { sessions = sessions_in room; times = times }

abbrev pub timed_at : ℕ → ℕ → List ℕ → Timed
timed_at t id d = record { frame = record { identifier = id; data_bytes = d }; time = Some t }

abbrev pub untimed_at : ℕ → List ℕ → Timed
untimed_at id d = record { frame = record { identifier = id; data_bytes = d }; time = None }

-- A frame is taken where the sessions and times stand that a caller lends: its answer, and what is left there.
pub record Takes (b : Stations) (f : Timed) (answer : Answer) (room : List ℕ) (left : Times) : Type 0 where
  pub answers : answer ≡ timed_answer b f
  pub sessions : room ≡ room_of (stations_after b f).sessions
  pub times : left ≡ (stations_after b f).times

-- What a time settles before its frame is taken, where the sessions and times stand that a caller lends.
abbrev pub stations_met : Stations → ℕ → ℕ → List ℕ → Stations
stations_met b t id d = cond (ltb (sender_of id) senders) (with_station b (sender_of id) (meets (station_of (sender_of id) b) t id d)) b

-- The number of the refusal that a time brings; 0 for none, and senders 254 and 255 have no time.
abbrev pub refusal_met : Stations → ℕ → ℕ → List ℕ → ℕ
refusal_met b t id d = cond (ltb (sender_of id) senders) (stops (station_of (sender_of id) b) t id d) 0

-- It answers that refusal, or what the sender's last time was. Where it refuses, all stands as it was: the last time is what `Times::of` tells then too.
pub record Meets (b : Stations) (t id : ℕ) (d : List ℕ) (r : Result Last Refusal) (room : List ℕ) (left : Times) : Type 0 where
  pub answers : r ≡ answered (refusal_met b t id d) (cond (ltb (sender_of id) senders) (last_of (sender_of id) b.times) no_time)
  pub sessions : room ≡ room_of (stations_met b t id d).sessions
  pub times : left ≡ (stations_met b t id d).times
  pub stays : {e : Refusal} → r ≡ Err e → (room ≡ room_of b.sessions) × (left ≡ b.times)

-- A run of frames: what is there at its end, and the answers in order.
unfoldable pub stations_after_all : Stations → List Timed → Stations
stations_after_all b [] = b
stations_after_all b (f ∷ fs) = stations_after_all (stations_after b f) fs

unfoldable pub timed_answers : Stations → List Timed → List Answer
timed_answers b [] = []
timed_answers b (f ∷ fs) = timed_answer b f ∷ timed_answers (stations_after b f) fs

-- The frames of a run without their times, and frames as a run that has none.
unfoldable pub frames_of : List Timed → List Frame
frames_of [] = []
frames_of (f ∷ fs) = f.frame ∷ frames_of fs

unfoldable pub untimed : List Frame → List Timed
untimed [] = []
untimed (f ∷ fs) = record { frame = f; time = None } ∷ untimed fs

-- The frames that name k as their sender, in their order.
unfoldable pub own_timed : ℕ → List Timed → List Timed
own_timed k [] = []
own_timed k (f ∷ fs) = cond (eqb (sender f) k) (f ∷ own_timed k fs) (own_timed k fs)

-- Refusals 1 to 4 and 26.
abbrev pub passed_over : Answer → Bool
passed_over (Err e) = leb (number_of e) 4 || eqb (number_of e) 26
passed_over (Ok a) = false

-- One sender's other frames, in their order.
unfoldable pub heard_at : Station → List Timed → List Timed
heard_at s [] = []
heard_at s (f ∷ fs) =
    cond (passed_over (station_step s f).answer) (heard_at (station_step s f).station fs) (f ∷ heard_at (station_step s f).station fs)

-- The times of frames, in their order; those without one left out.
abbrev pub time_in : Option ℕ → List ℕ
time_in None = []
time_in (Some t) = t ∷ []

unfoldable pub times_of : List Timed → List ℕ
times_of [] = []
times_of (f ∷ fs) = time_in f.time ++ times_of fs

-- Each time is 0 to 750 ms after the one before it.
abbrev pub Spaced : List ℕ → Type 0
Spaced [] = Unit
Spaced (t ∷ []) = Unit
Spaced (t ∷ u ∷ ts) = (t ≤ u) × (u ≤ t + 750) × Spaced (u ∷ ts)

-- What one sender has sent, from a fresh session and no time on, where `last` yields the report r: since and including the last announcement that was accepted, exactly
-- the packets from 1 to the count that belongs to its size, `last` among them; r is what the bytes of these packets say; and of those of them that have a time each
-- comes 0 to 750 ms after the one before.
pub record SentTimed (own : List Timed) (last : Timed) (r : Report) : Type 0 where
  pub before : List Timed
  pub announced : Timed
  pub middle : List Timed
  pub size : ℕ
  pub since : heard_at fresh_station own ≡ before ++ (announced ∷ middle)
  pub announces : Announces size announced.frame
  pub sequence : InSequence 1 (frames_of (middle ++ (last ∷ [])))
  pub count : length (middle ++ (last ∷ [])) ≡ packets size
  pub reads : read_payload (take size (joined (frames_of (middle ++ (last ∷ []))))) ≡ Ok r
  pub spaced : Spaced (times_of (announced ∷ (middle ++ (last ∷ []))))

-- Frames of one and the same sender.
abbrev pub FromSender : ℕ → List Timed → Type 0
FromSender k [] = Unit
FromSender k (f ∷ fs) = (sender f ≡ k) × FromSender k fs

-- The last time, if there is one.
abbrev pub last_in : Last → List ℕ
last_in l = cond l.known (l.at ∷ []) []

-- A report's frames that come in time: an announcement with a time isn't before the last time, if there is one, and the times from then on are spaced; behind an
-- announcement without a time the last time counts too, since nothing has set it anew.
abbrev pub TimelyFrom : Option ℕ → Last → List Timed → Type 0
TimelyFrom None l fs = Spaced (last_in l ++ times_of fs)
TimelyFrom (Some t) l fs = (l.known ≡ true → l.at ≤ t) × Spaced (t ∷ times_of fs)

abbrev pub Timely : Last → List Timed → Type 0
Timely l [] = Unit
Timely l (f ∷ fs) = TimelyFrom f.time l fs
