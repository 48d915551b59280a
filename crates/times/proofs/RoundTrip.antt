-- The bench sender's frames with times that don't fall and have no gap over 750 ms are taken as without times: none comes before or too late but perhaps the announcement, which a closed session takes as well.
-- Assumes nothing.
use mathlib.Core.Path.{◌≡◌, refl, sym, ◌∙◌, ap, subst}
use mathlib.Core.Bool.{Bool, true, false, cond, false≢true}
use Rattle.std.specs.Prelude.{Option, None, Some}
use mathlib.Core.List.{List, [], ◌∷◌, ◌++◌}
use Prim.Native.Nat.{ℕ, zero, suc, ◌+◌, ◌-◌, ◌≤◌}
use native.Mathlib.Omega.{arith}
use borrow.Author.Tests.{eqb-true}
use lib.Dec.{eqb}
use lib.ListN.{replicate}
use Rattle.report.specs.declared.Report.{Report}
use Rattle.report.specs.Payload.{payload, size}
use Rattle.report.proofs.RoundTrip.{Permitted}
use Rattle.joining.specs.declared.Session.{Session}
use Rattle.joining.specs.Answers.{Answer}
use Rattle.std.specs.Prelude.{Ok}
use Rattle.joining.specs.Frame.{Frame, frame_refusal}
use Rattle.joining.specs.Joining.{packets, fit, take_frame, payload_held}
use Rattle.joining.specs.Run.{solo_step, solo_session, solo_answers, own_answers}
use Rattle.joining.proofs.Reached.{step-fit}
use Rattle.bench.specs.Bench.{frames}
use Rattle.bench.proofs.RoundTrip as bench
use Rattle.times.specs.declared.Last.{Last}
use Rattle.times.specs.declared.Station.{Station}
use Rattle.times.specs.declared.Heard.{Heard}
use Rattle.times.specs.Timed.{time_of, met_at, is_kept, last_after}
use Rattle.times.specs.Run.{Timed, frame_at, station_after_all, station_answers, Stations, station_of, stations_after_all, timed_answers, frames_of, own_timed, time_in, times_of, Spaced, last_in, TimelyFrom, Timely}
use Rattle.times.proofs.Steps.{Fit, Near, not_before, not_late, met-fit, after-fit, in_time, settled, last_by, taken_by, by_fit}
use Rattle.times.proofs.Mixing.{Whole, mixing}

-- Of times that are spaced from the last one on, the first is near it, and the others are spaced from the first on.
near_first : (l : Last) (t : ℕ) (ts : List ℕ) → Spaced (last_in l ++ (t ∷ ts)) → Near l t
near_first l t ts = go l.known
  where
    go : (b : Bool) → Spaced (cond b (l.at ∷ []) [] ++ (t ∷ ts)) → b ≡ true → (l.at ≤ t) × (t ≤ l.at + 750)
    go true h e = (h.0, h.1)
    go false h e = absurd (false≢true e)

behind_last : (l : Last) (t : ℕ) (ts : List ℕ) → Spaced (last_in l ++ (t ∷ ts)) → Spaced (t ∷ ts)
behind_last l t ts = go l.known
  where
    go : (b : Bool) → Spaced (cond b (l.at ∷ []) [] ++ (t ∷ ts)) → Spaced (t ∷ ts)
    go true h = h.2
    go false h = h

-- Answers that refuse nothing.
abbrev AllKept : List Answer → Type 0
AllKept [] = Unit
AllKept (a ∷ all) = (is_kept a ≡ true) × AllKept all

kept_time : (a : Answer) (t : ℕ) (l : Last) → is_kept a ≡ true → last_after a t l ≡ time_of t
kept_time a t l h = rw h

-- A frame that comes in time, and what is left of the times.
smooth_step : (o : Option ℕ) (s : Station) (g : Frame) (ts : List ℕ) → Fit s → is_kept (solo_step s.session g).answer ≡ true → Spaced (last_in s.last ++ (time_in o ++ ts))
    → (frame_at o s g ≡ taken_by o s.last (solo_step s.session g))
    × Spaced (last_in (last_by o (solo_step s.session g).answer s.last) ++ ts)
smooth_step None s g ts ok k h = (refl, h)
smooth_step (Some t) s g ts ok k h =
    let n = near_first s.last t ts h in (
      in_time s ok.last t g (not_before s.last t (λ e. (n e).0)) (not_late s.last t (λ e. (n e).1)),
      rw (kept_time (solo_step s.session g).answer t s.last k) (behind_last s.last t ts h),
    )

-- Frames that come in time and aren't refused are taken as without their times.
smooth : (s : Station) (fs : List Timed) → Fit s → AllKept (solo_answers s.session (frames_of fs)) → Spaced (last_in s.last ++ times_of fs)
    → (station_answers s fs ≡ solo_answers s.session (frames_of fs)) × ((station_after_all s fs).session ≡ solo_session s.session (frames_of fs))
unfolding station_answers station_after_all solo_answers solo_session frames_of times_of
smooth s [] ok k h = (refl, refl)
smooth s (f ∷ fs) ok k h =
    let u = solo_step s.session f.frame in
    let step = smooth_step f.time s f.frame (times_of fs) ok k.0 h in
    let then : Station = record { session = u.session; last = last_by f.time u.answer s.last } in
    let rest = smooth then fs (record { session = step-fit s.session f.frame ok.session; last = by_fit f.time u.answer s.last ok.last }) k.1 step.1 in (
      ap (λ (x : Heard). x.answer ∷ station_answers x.station fs) step.0 ∙ ap (λ (l : List Answer). u.answer ∷ l) rest.0,
      ap (λ (x : Heard). (station_after_all x.station fs).session) step.0 ∙ rest.1,
    )

-- A frame that isn't refused isn't refused 1 to 3.
kept_frame : (s : Session) (g : Frame) → is_kept (solo_step s g).answer ≡ true → frame_refusal g.identifier g.data_bytes ≡ 0
unfolding take_frame
kept_frame s g k = go (eqb (frame_refusal g.identifier g.data_bytes) 0) refl
  where
    go : (b : Bool) → eqb (frame_refusal g.identifier g.data_bytes) 0 ≡ b → frame_refusal g.identifier g.data_bytes ≡ 0
    go true e = eqb-true _ _ e
    go false e = absurd (false≢true (rw e at k))

-- Frames that any fit session takes, the first perhaps after a long time: some fit session takes them so without their times.
record TakenAs (s : Station) (fs : List Timed) : Type 0 where
  by : Session
  ready : fit by ≡ true
  answers : station_answers s fs ≡ solo_answers by (frames_of fs)
  session : (station_after_all s fs).session ≡ solo_session by (frames_of fs)

module _ (s : Station) (ok : Fit s) (g : Frame) (fs : List Timed) (takes : (x : Session) → fit x ≡ true → AllKept (solo_answers x (g ∷ frames_of fs))) where
  opened_at : (o : Option ℕ) → TimelyFrom o s.last fs → TakenAs s (record { frame = g; time = o } ∷ fs)
  unfolding station_answers station_after_all solo_answers solo_session frames_of times_of
  opened_at None h =
      let all = smooth s (record { frame = g; time = None } ∷ fs) ok (takes s.session ok.session) h in
      record { by = s.session; ready = ok.session; answers = all.0; session = all.1 }
  opened_at (Some t) h =
      let x = met_at s.session s.last t in
      let fits = met-fit s.session s.last t ok.session in
      let k = takes x fits in
      let u = solo_step x g in
      let e = settled s ok t g (kept_frame x g k.0) (not_before s.last t h.0) in
      let then : Station = record { session = u.session; last = last_after u.answer t s.last } in
      let rest = smooth then fs (record { session = step-fit x g fits; last = after-fit u.answer t s.last ok.last }) k.1 (rw (kept_time u.answer t s.last k.0) h.1) in
      record {
        by = x;
        ready = fits;
        answers = ap (λ (y : Heard). y.answer ∷ station_answers y.station fs) e ∙ ap (λ (l : List Answer). u.answer ∷ l) rest.0;
        session = ap (λ (y : Heard). (station_after_all y.station fs).session) e ∙ rest.1;
      }

kept_all : (n : ℕ) (r : Report) → AllKept (replicate n (Ok None) ++ (Ok (Some r) ∷ []))
kept_all zero r = (refl, tt)
kept_all (suc n) r = (refl, kept_all n r)

-- The round trip with times: what the sender writes for a report that may be sent, in time, is kept frame by frame by any fit session with any fit last time, and its
-- last packet yields that report.
module _ (sender : ℕ) (known : sender ≤ 253) (r : Report) (note : Option (List ℕ)) (may : Permitted r note) (s : Station) (ready : Fit s) where
  taken_as : (fs : List Timed) → frames_of fs ≡ frames sender (payload r note) → Timely s.last fs → TakenAs s fs
  unfolding frames_of station_answers station_after_all solo_answers solo_session
  taken_as [] these timely =
      record { by = s.session; ready = ready.session; answers = refl; session = refl }
  taken_as (f ∷ fs) these timely =
      opened_at s ready f.frame fs
      (λ x fits. subst AllKept (sym (ap (solo_answers x) these ∙ bench.same-report sender known r note may x fits)) (kept_all (packets (size r.values.edition note)) r))
      f.time timely

  module _ (fs : List Timed) (these : frames_of fs ≡ frames sender (payload r note)) (timely : Timely s.last fs) where
    pub same-report : station_answers s fs ≡ replicate (packets (size r.values.edition note)) (Ok None) ++ (Ok (Some r) ∷ [])
    same-report =
        let t = taken_as fs these timely in
        t.answers ∙ ap (solo_answers t.by) these ∙ bench.same-report sender known r note may t.by t.ready

    -- The session is closed, and its bytes are the payload and 255 behind it, ...
    pub left_closed : (station_after_all s fs).session ≡ record { bytes = payload r note ++ replicate (89 - size r.values.edition note) 255; size = 0; count = 0; next = 0 }
    left_closed =
        let t = taken_as fs these timely in
        t.session ∙ ap (solo_session t.by) these ∙ bench.left_closed sender known r note may t.by t.ready

    -- ... so the payload that it holds is the one that was sent.
    pub same-payload : payload_held (station_after_all s fs).session.bytes ≡ payload r note
    same-payload =
        let t = taken_as fs these timely in
        ap (λ (x : Session). payload_held x.bytes) (t.session ∙ ap (solo_session t.by) these) ∙ bench.same-payload sender known r note may t.by t.ready

-- And so on the whole bus: where these are the frames of its sender, whatever the others send before, between and after them, with times or without.
module _ (sender : ℕ) (known : sender ≤ 253) (r : Report) (note : Option (List ℕ)) (may : Permitted r note)
    (b : Stations) (all : Whole b) (ready : Fit (station_of sender b))
    (fs : List Timed) (own : frames_of (own_timed sender fs) ≡ frames sender (payload r note)) (timely : Timely (station_of sender b).last (own_timed sender fs)) where
  pub mixed_report : own_answers sender (frames_of fs) (timed_answers b fs) ≡ replicate (packets (size r.values.edition note)) (Ok None) ++ (Ok (Some r) ∷ [])
  mixed_report =
      (mixing sender (omega arith) b fs all).1 ∙ same-report sender known r note may (station_of sender b) ready (own_timed sender fs) own timely

  pub mixed_payload : payload_held (station_of sender (stations_after_all b fs)).session.bytes ≡ payload r note
  mixed_payload =
      ap (λ (x : Station). payload_held x.session.bytes) (mixing sender (omega arith) b fs all).0
      ∙ same-payload sender known r note may (station_of sender b) ready (own_timed sender fs) own timely
