-- A sender's last kept time, and what a frame with a time does to its session and to that time (docs/RULES.md, section 15).
use Rattle.std.specs.Prelude.{ℕ, ◌-◌, Bool, true, false, cond, not, ◌&&◌, ◌||◌, List, get_or, set, replicate, ltb, eqb}
use Rattle.joining.specs.declared.Session.{Session}
use Rattle.joining.specs.Answers.{Answer}
use Rattle.std.specs.Prelude.{Some, None, Ok, Err}
use Rattle.refusal.specs.Answers.{refusal_of}
use Rattle.joining.specs.declared.Taken.{Taken}
use Rattle.joining.specs.Frame.{frame_refusal}
use Rattle.joining.specs.Joining.{fit, closed, take_frame}
use Rattle.joining.specs.Run.{senders}
use Rattle.times.specs.declared.Last.{Last}
use Rattle.times.specs.declared.Station.{Station}
use Rattle.times.specs.declared.Heard.{Heard}
use Rattle.times.specs.declared.Times.{Times}

-- No last kept time, and that one.
abbrev pub no_time : Last
no_time = record { known = false; at = 0 }

abbrev pub time_of : ℕ → Last
time_of t = record { known = true; at = t }

-- Rule 15.5: no time, and yet one that isn't 0: unfit.
unfoldable pub fit_last : Last → Bool
fit_last l = l.known || eqb l.at 0

-- Rule 15.3, refusal 26: there is a last time, and this one is before it.
unfoldable pub is_before : Last → ℕ → Bool
is_before l t = l.known && ltb t l.at

-- Rule 15.3: there is a last time, and more than 750 ms lie between. 750 is in time.
abbrev pub longest : ℕ
longest = 750

unfoldable pub is_late : Last → ℕ → Bool
is_late l t = l.known && ltb longest (t - l.at)

-- The session that a frame meets at a time: closed where the frame comes too late.
abbrev pub met_at : Session → Last → ℕ → Session
met_at s l t = cond (is_late l t) (closed s) s

-- A refusal that changes nothing.
abbrev pub turned : ℕ → Station → Heard
turned n s = record { answer = Err (refusal_of n); station = s }

-- Rule 15.4: every frame that isn't refused is kept, also one that completes a report: it sets the time. A refused one never does.
abbrev pub is_kept : Answer → Bool
is_kept (Err e) = false
is_kept (Ok a) = true

abbrev pub last_after : Answer → ℕ → Last → Last
last_after a t l = cond (is_kept a) (time_of t) l

abbrev pub kept_at : ℕ → Last → Taken → Heard
kept_at t l u = record { answer = u.answer; station = record { session = u.session; last = last_after u.answer t l } }

-- Rule 15.3: a frame with a time, its refusals in their order: 1, 2, 3, 24, 26; then the session is closed if the frame comes too late, and the untimed rules settle the rest.
unfoldable pub timed_frame : Station → ℕ → ℕ → List ℕ → Heard
timed_frame s t id d =
    cond (not (eqb (frame_refusal id d) 0)) (turned (frame_refusal id d) s)
    (cond (not (fit s.session && fit_last s.last)) (turned 24 s)
    (cond (is_before s.last t) (turned 26 s)
    (kept_at t s.last (take_frame (met_at s.session s.last t) id d))))

-- Rule 15.2: a frame without a time: the untimed rules, and the last time is neither tested nor set.
abbrev pub untimed_frame : Station → ℕ → List ℕ → Heard
untimed_frame s id d =
    record {
      answer = (take_frame s.session id d).answer;
      station = record { session = (take_frame s.session id d).session; last = s.last };
    }

-- The same in parts. A time refuses no frame where the last one is fit and not after it, ...
abbrev pub passes : Last → ℕ → Bool
passes l t = fit_last l && not (is_before l t)

-- ... and else each frame, by its first refusal; 0 for none.
abbrev pub stops : Station → ℕ → ℕ → List ℕ → ℕ
stops s t id d =
    cond (passes s.last t) 0 (cond (eqb (frame_refusal id d) 0) (cond (fit s.session) (cond (fit_last s.last) 26 24) 24) (frame_refusal id d))

-- The session of a frame that comes too late: closed, unless 1 to 3 or 24 refuse the frame, which change nothing.
abbrev pub shut_by : Session → ℕ → List ℕ → Session
shut_by s id d = cond (eqb (frame_refusal id d) 0 && fit s) (closed s) s

-- The session that the untimed rules meet then, and the last time if they refuse nothing.
abbrev pub meets : Station → ℕ → ℕ → List ℕ → Station
meets s t id d = cond (passes s.last t) (record { session = cond (is_late s.last t) (shut_by s.session id d) s.session; last = time_of t }) s

-- The last time of sender k, and another in its place.
abbrev pub last_of : ℕ → Times → Last
last_of k ts = record { known = get_or ts.known k false; at = get_or ts.at k 0 }

abbrev pub with_last : Times → ℕ → Last → Times
with_last ts k l = record { known = set ts.known k l.known; at = set ts.at k l.at }

-- The same where senders 254 and 255 have none.
abbrev pub put_last : Times → ℕ → Last → Times
put_last ts k l = cond (ltb k senders) (with_last ts k l) ts

-- No time for any sender.
abbrev pub fresh_times : Times
fresh_times = record { known = replicate senders false; at = replicate senders 0 }
