-- A frame with a time in lent bytes does what it does to its sender's session and last time: what its time settles before and what the session does then are the definition.
-- Assumes nothing.
use mathlib.Core.Path.{◌≡◌, refl, sym, ◌∙◌, ap}
use mathlib.Core.Bool.{Bool, true, false, cond, not, ◌&&◌}
use Rattle.std.specs.Prelude.{Option, None, Some, Result, Ok, Err}
use Rattle.refusal.specs.declared.Refusal.{Refusal}
use Rattle.refusal.specs.declared.Refusal.TheVariants.{Unfit, BeforeLastTime}
use Rattle.refusal.specs.Numbers.{number_of, number_in}
use Rattle.refusal.specs.Answers.{refusal_of, answered}
use Rattle.refusal.proofs.Answers.{taken_number, taken_is, taken, refused_number, refused_is, refused_alike, known, refusal_back}
use mathlib.Core.List.{List}
use Prim.Native.Nat.{ℕ, ◌<◌}
use borrow.Author.Tests.{lt-ltb, ltb-true, eqb-false}
use lib.Dec.{ltb, eqb}
use lib.ListN.{length, set}
use lib.Seq.{set-get_or, set-set, get_or-set_same}
use Rattle.laws.proofs.Tests.{either}
use Rattle.joining.specs.declared.Session.{Session}
use Rattle.joining.specs.Answers.{Answer}
use Rattle.joining.specs.Frame.{Frame, sender_of, frame_checked, frame_refusal}
use Rattle.joining.specs.Joining.{fit, take_frame}
use Rattle.joining.specs.Run.{nobody, session_of, sessions_after, answer_to}
use Rattle.bus.specs.Room.{sessions_in, room_of}
use Rattle.bus.proofs.Places.{room_of_sessions}
use Rattle.bus.proofs.Rooms.{step_long, sessions_many, set_room, session_long}
use Rattle.times.specs.declared.Times.{Times}
use Rattle.times.specs.declared.Last.{Last}
use Rattle.times.specs.declared.Station.{Station}
use Rattle.times.specs.declared.Heard.{Heard}
use Rattle.times.specs.Timed.{no_time, time_of, fit_last, is_before, is_late, met_at, is_kept, last_after, kept_at, timed_frame, passes, stops, meets, last_of, with_last, put_last}
use Rattle.times.specs.Run.{Timed, sender, frame_at, station_step, Stations, station_of, with_station, stations_after, timed_answer, stations_in, timed_at, Takes, stations_met, refusal_met, Meets}
use Rattle.times.proofs.Steps.{stops-turned, stops_so, meets_settled}
use Rattle.times.proofs.Mixing.{plain_after, plain_answer}

-- Bytes that are a room are those of the sessions in them, also where one is put in its own place.
pub unchanged : (room : List ℕ) (k : ℕ) → length room ≡ 23368 → {x : Session} → x ≡ session_of k (sessions_in room) → room ≡ room_of (set (sessions_in room) k x)
unchanged room k long e = sym (ap (λ (y : Session). room_of (set (sessions_in room) k y)) e ∙ ap room_of (set-get_or (sessions_in room) k nobody) ∙ room_of_sessions 254 room long)

-- The numbers that refuse a frame before it is taken are refusals' numbers.
frame_known : (id : ℕ) (d : List ℕ) → (frame_refusal id d ≡ 0 → ⊥) → number_of (refusal_of (frame_refusal id d)) ≡ frame_refusal id d
unfolding frame_refusal
frame_known id d h = go (frame_checked id d) h
  where
    go : (r : Result (Unit {0}) Refusal) → (number_in r ≡ 0 → ⊥) → number_of (refusal_of (number_in r)) ≡ number_in r
    go (Ok u) h = absurd (h refl)
    go (Err e) h = known e

stops_known : (s : Station) (t id : ℕ) (d : List ℕ) → (stops s t id d ≡ 0 → ⊥) → number_of (refusal_of (stops s t id d)) ≡ stops s t id d
stops_known s t id d h = go (passes s.last t) (eqb (frame_refusal id d) 0) (fit s.session) (fit_last s.last) refl h
  where
    by : Bool → Bool → Bool → Bool → ℕ
    by p b c l = cond p 0 (cond b (cond c (cond l 26 24) 24) (frame_refusal id d))

    go : (p b c l : Bool) → eqb (frame_refusal id d) 0 ≡ b → (by p b c l ≡ 0 → ⊥) → number_of (refusal_of (by p b c l)) ≡ by p b c l
    go true b c l e h = absurd (h refl)
    go false true true true e h = known BeforeLastTime
    go false true true false e h = known Unfit
    go false true false l e h = known Unfit
    go false false c l e h = frame_known id d (eqb-false _ 0 e)

-- A closing keeps the payload's bytes.
met_long : (s : Station) (t id : ℕ) (d : List ℕ) → length s.session.bytes ≡ 89 → length (meets s t id d).session.bytes ≡ 89
met_long s t id d long =
    either (λ (o : Station). length o.session.bytes ≡ 89) (passes s.last t)
    (λ e. either (λ (x : Session). length x.bytes ≡ 89) (is_late s.last t) (λ e. either (λ (x : Session). length x.bytes ≡ 89) (eqb (frame_refusal id d) 0 && fit s.session) (λ e. long) (λ e. long)) (λ e. long))
    (λ e. long)

module _ (room : List ℕ) (times : Times) (t id : ℕ) (d : List ℕ) where
  abbrev lent : Stations
  lent = stations_in room times

  abbrev frame : Frame
  frame = record { identifier = id; data_bytes = d }

  abbrev timed : Timed
  timed = timed_at t id d

  abbrev own : Station
  own = station_of (sender_of id) lent

  -- A last time put in its own place changes nothing.
  same_last : with_last times (sender_of id) own.last ≡ times
  same_last =
      let known = set-get_or times.known (sender_of id) false in
      let at = set-get_or times.at (sender_of id) 0 in
      λ i. record { known = known i; at = at i }

  -- What `Times::meet` does for a sender that has a session: the last time refuses nothing, and is set, ...
  module _ (h : sender_of id < 254) {q : List ℕ} (f : q ≡ room_of (set (sessions_in room) (sender_of id) (meets own t id d).session)) where
    pub met-passes : ◌≡◌ {A = Result (Unit {0}) Refusal} (Ok tt) (answered (stops own t id d) tt) → Meets lent t id d (Ok own.last) q (with_last times (sender_of id) (time_of t))
    met-passes e = go (passes own.last t) refl
      where
        z : stops own t id d ≡ 0
        z = taken_number {A = Unit {0}} (stops own t id d) tt e

        go : (b : Bool) → passes own.last t ≡ b → Meets lent t id d (Ok own.last) q (with_last times (sender_of id) (time_of t))
        go false p = absurd (stops_so own t id d p z)
        go true p =
            let has = lt-ltb (sender_of id) 254 h in
            record { answers = rw has (taken (stops own t id d) own.last z); sessions = f ∙ rw has; times = rw (has, p); stays = λ e. cc }

    -- ... or it refuses the frame, and stays.
    pub met-stops : {r : Refusal} → ◌≡◌ {A = Result (Unit {0}) Refusal} (Err r) (answered (stops own t id d) tt) → Meets lent t id d (Err r) q times
    met-stops {r} e = go (passes own.last t) refl
      where
        go : (b : Bool) → passes own.last t ≡ b → Meets lent t id d (Err r) q times
        go true p = absurd (refused_number {A = Unit {0}} (stops own t id d) tt e (rw p))
        go false p =
            let has = lt-ltb (sender_of id) 254 h in
            record {
              answers = rw has (refused_alike {A = Unit {0}} (stops own t id d) tt own.last e);
              sessions = f ∙ rw has;
              times = rw (has, p) (sym same_last);
              stays = λ e. (f ∙ rw p (ap room_of (set-get_or (sessions_in room) (sender_of id) nobody)), refl);
            }

  -- The untimed rules, at sessions ss that are the lent ones but perhaps for the sender's own, x.
  module _ (h : sender_of id < 254) (ss : List Session) (x : Session) (there : session_of (sender_of id) ss ≡ x)
      (others : (y : Session) → set ss (sender_of id) y ≡ set (sessions_in room) (sender_of id) y)
      (e : station_step own timed ≡ kept_at t own.last (take_frame x id d)) where
    answers : answer_to ss frame ≡ (take_frame x id d).answer
    answers = rw (lt-ltb (sender_of id) 254 h) (ap (λ (y : Session). (take_frame y id d).answer) there)

    answers_timed : timed_answer lent timed ≡ (take_frame x id d).answer
    answers_timed = rw (lt-ltb (sender_of id) 254 h) (ap (λ (o : Heard). o.answer) e)

    leaves : sessions_after ss frame ≡ set (sessions_in room) (sender_of id) (take_frame x id d).session
    leaves =
        rw (lt-ltb (sender_of id) 254 h)
        (others (take_frame (session_of (sender_of id) ss) id d).session ∙ ap (λ (y : Session). set (sessions_in room) (sender_of id) (take_frame y id d).session) there)

    leaves_timed : stations_after lent timed ≡ with_station lent (sender_of id) (kept_at t own.last (take_frame x id d)).station
    leaves_timed = rw (lt-ltb (sender_of id) 254 h) (ap (λ (o : Heard). with_station lent (sender_of id) o.station) e)

    settles : {r : Answer} {q : List ℕ} {ts : Times} → r ≡ answer_to ss frame → q ≡ room_of (sessions_after ss frame)
        → ts ≡ with_last times (sender_of id) (last_after r t (last_of (sender_of id) times)) → Takes lent timed r q ts
    settles a b c =
        let same_answer = a ∙ answers in
        record {
          answers = same_answer ∙ sym answers_timed;
          sessions = b ∙ ap room_of leaves ∙ sym (ap (λ (y : Stations). room_of y.sessions) leaves_timed);
          times =
              c ∙ ap (λ (y : Answer). with_last times (sender_of id) (last_after y t (last_of (sender_of id) times))) same_answer ∙ sym (ap (λ (y : Stations). y.times) leaves_timed);
        }

  -- What `Times::meet` answered and left, in bytes that are a room.
  module _ (long : length room ≡ 23368) {q : List ℕ} {ts : Times} where
    -- The last time refuses the frame.
    pub met-refused : {r : Refusal} → Meets lent t id d (Err r) q ts → Takes lent timed (Err r) q ts
    met-refused {r} m = go (ltb (sender_of id) 254) (passes own.last t) refl refl
      where
        n : ℕ
        n = refusal_met lent t id d

        last_met : Last
        last_met = cond (ltb (sender_of id) 254) (last_of (sender_of id) times) no_time

        given : n ≡ 0 → ⊥
        given = refused_number n last_met m.answers

        go : (x y : Bool) → ltb (sender_of id) 254 ≡ x → passes own.last t ≡ y → Takes lent timed (Err r) q ts
        go false y e f = absurd (given (rw e))
        go true true e f = absurd (given (rw (e, f)))
        go true false e f =
            let step = sym (stops-turned own t frame f) in
            let met : stations_met lent t id d ≡ stations_after lent timed = rw (e, f) (ap (λ (o : Heard). with_station lent (sender_of id) o.station) step) in
            let is : n ≡ stops own t id d = rw e in
            let code : number_of r ≡ stops own t id d = ap number_of (refused_is n last_met m.answers ∙ ap refusal_of is) ∙ stops_known own t id d (λ z. given (is ∙ z)) in
            record {
              answers = sym (ap (λ m. Err m) (refusal_back r)) ∙ ap (λ m. Err (refusal_of m)) code ∙ rw e (ap (λ (o : Heard). o.answer) step);
              sessions = m.sessions ∙ ap (λ (c : Stations). room_of c.sessions) met;
              times = m.times ∙ ap (λ (c : Stations). c.times) met;
            }

    -- It refuses none, and the untimed rules take the frame: where they refuse it, the last time is put back.
    pub met-taken : {l : Last} → Meets lent t id d (Ok l) q ts → {r : Answer} {q₁ : List ℕ} {ts₁ : Times} → r ≡ answer_to (sessions_in q) frame → q₁ ≡ room_of (sessions_after (sessions_in q) frame)
        → ts₁ ≡ cond (is_kept r) ts (put_last ts (sender_of id) l) → Takes lent timed r q₁ ts₁
    met-taken {l} m {r} {q₁} {ts₁} a b c = go (ltb (sender_of id) 254) (passes own.last t) refl refl
      where
        n : ℕ
        n = refusal_met lent t id d

        last_met : Last
        last_met = cond (ltb (sender_of id) 254) (last_of (sender_of id) times) no_time

        z : n ≡ 0
        z = taken_number n last_met m.answers

        found : l ≡ last_met
        found = taken_is n last_met m.answers

        times_so : ltb (sender_of id) 254 ≡ true → l ≡ own.last → (y : Bool) → is_kept r ≡ y → ts ≡ with_last times (sender_of id) (time_of t)
            → cond (is_kept r) ts (put_last ts (sender_of id) l) ≡ with_last times (sender_of id) (last_after r t own.last)
        times_so has was true k e = rw k e
        times_so has was false k e =
            let known = set-set times.known (sender_of id) true own.last.known in
            let at = set-set times.at (sender_of id) t own.last.at in
            rw (k, has, e, was) (λ i. record { known = known i; at = at i })

        go : (x y : Bool) → ltb (sender_of id) 254 ≡ x → passes own.last t ≡ y → Takes lent timed r q₁ ts₁
        go false y e g =
            let same : q ≡ room = m.sessions ∙ rw e (room_of_sessions 254 room long) in
            let refused : r ≡ Err (refusal_of (frame_refusal id d)) = a ∙ rw e in
            record {
              answers = refused ∙ rw e;
              sessions = b ∙ rw e (ap (λ (x : List ℕ). room_of (sessions_in x)) same);
              times = c ∙ rw (refused, e) (m.times ∙ rw e);
            }
        go true false e g = absurd (stops_so own t id d g (rw e at z))
        go true true e g =
            let h = ltb-true (sender_of id) 254 e in
            let x = (meets own t id d).session in
            let ss : sessions_in q ≡ set (sessions_in room) (sender_of id) x =
            ap sessions_in (m.sessions ∙ rw e) ∙ (set_room room (sender_of id) x long (met_long own t id d (session_long room (sender_of id) long h))).1 in
            settles h (sessions_in q) x
            (ap (session_of (sender_of id)) ss ∙ get_or-set_same (sessions_in room) (sender_of id) x nobody (rw (sessions_many 254 room) h))
            (λ y. ap (λ (l : List Session). set l (sender_of id) y) ss ∙ set-set (sessions_in room) (sender_of id) x y)
            (meets_settled own t frame g)
            a b (c ∙ times_so e (found ∙ rw e) (is_kept r) refl (m.times ∙ rw (e, g)))

-- A frame keeps the payload's length, whatever the session and the last time are.
station_long : (s : Station) (f : Timed) → length s.session.bytes ≡ 89 → length (station_step s f).station.session.bytes ≡ 89
unfolding timed_frame
station_long s f long = go f.time
  where
    met : (l : Last) (t : ℕ) → length (met_at s.session l t).bytes ≡ 89
    met l t = either (λ (x : Session). length x.bytes ≡ 89) (is_late l t) (λ e. long) (λ e. long)

    go : (o : Option ℕ) → length (frame_at o s f.frame).station.session.bytes ≡ 89
    go None = step_long s.session f.frame long
    go (Some t) =
        either (λ (o : Heard). length o.station.session.bytes ≡ 89) (not (eqb (frame_refusal f.frame.identifier f.frame.data_bytes) 0)) (λ e. long)
        (λ e. either (λ (o : Heard). length o.station.session.bytes ≡ 89) (not (fit s.session && fit_last s.last)) (λ e. long)
        (λ e. either (λ (o : Heard). length o.station.session.bytes ≡ 89) (is_before s.last t) (λ e. long) (λ e. step_long (met_at s.session s.last t) f.frame (met s.last t))))

-- What `Times::take` leaves is a room again, and it holds those sessions.
pub next_room : (room : List ℕ) (ts : Times) (f : Timed) → length room ≡ 23368
    → (length (room_of (stations_after (stations_in room ts) f).sessions) ≡ 23368)
    × (sessions_in (room_of (stations_after (stations_in room ts) f).sessions) ≡ (stations_after (stations_in room ts) f).sessions)
next_room room ts f long = go (ltb (sender f) 254) refl
  where
    b : Stations
    b = stations_in room ts

    Holds : Stations → Type 0
    Holds c = (length (room_of c.sessions) ≡ 23368) × (sessions_in (room_of c.sessions) ≡ c.sessions)

    s : Station
    s = (station_step (station_of (sender f) b) f).station

    go : (t : Bool) → ltb (sender f) 254 ≡ t → Holds (cond t (with_station b (sender f) s) b)
    go true e = set_room room (sender f) s.session long (station_long (station_of (sender f) b) f (session_long room (sender f) long (ltb-true _ _ e)))
    go false e = (ap length (room_of_sessions 254 room long) ∙ long, ap sessions_in (room_of_sessions 254 room long))

-- What `Bus::take` leaves is what a frame without a time leaves, and the times stay.
pub untimed-takes : (room : List ℕ) (times : Times) (f : Frame) {answer : Answer} {left : List ℕ}
    → answer ≡ answer_to (sessions_in room) f → left ≡ room_of (sessions_after (sessions_in room) f)
    → Takes (stations_in room times) (record { frame = f; time = None }) answer left times
untimed-takes room times f a e =
    let b = stations_in room times in
    let after = plain_after b f in
    record {
      answers = a ∙ sym (plain_answer b f);
      sessions = e ∙ sym (ap (λ (c : Stations). room_of c.sessions) after);
      times = sym (ap (λ (c : Stations). c.times) after);
    }
