-- What a frame with a time does where its tests are known, and what it can't be answered: the cases of the definition, in their order.
-- Assumes nothing.
use mathlib.Core.Path.{◌≡◌, refl, sym, ◌∙◌, ap, subst}
use mathlib.Core.Bool.{Bool, true, false, cond, not, ◌&&◌, false≢true}
use mathlib.Core.Logic.{◌⊎◌, inl, inr}
use Rattle.std.specs.Prelude.{Option, None, Some}
use mathlib.Core.List.{List}
use Prim.Native.Nat.{ℕ, ◌+◌, ◌-◌, ◌≤◌}
use native.Mathlib.Omega.{arith}
use borrow.Author.Tests.{le-ltb, ltb-false, ne_eqb, eqb-false, eqb-true}
use lib.Dec.{ltb, eqb}
use lib.ListN.{get_or, take}
use Rattle.laws.proofs.Tests.{if_not, either, clash}
use Rattle.values.specs.Range.{in_range}
use Rattle.report.specs.Payload.{is_payload, read_payload}
use Rattle.std.specs.Prelude.{Result}
use Rattle.report.specs.declared.Report.{Report}
use Rattle.refusal.specs.declared.Refusal.{Refusal}
use Rattle.report.proofs.Reader.{range_of}
use Rattle.joining.specs.declared.Session.{Session}
use Rattle.joining.specs.Answers.{Answer}
use Rattle.std.specs.Prelude.{Ok, Err, is_ok}
use Rattle.refusal.specs.declared.Refusal.TheVariants.{BeforeLastTime}
use Rattle.refusal.specs.Numbers.{number_of}
use Rattle.refusal.specs.Answers.{refusal_of}
use Rattle.refusal.proofs.Answers.{known}
use Rattle.joining.proofs.Answers.{number_back}
use Rattle.joining.specs.declared.Taken.{Taken}
use Rattle.joining.specs.Frame.{Frame, frame_refusal, is_announcement}
use Rattle.joining.specs.Joining.{fit, is_closed, closed, stored, yields, refused, announcement_refusal, announce, packet, take_frame}
use Rattle.joining.specs.Run.{solo_step}
use Rattle.joining.proofs.Frames.{frame_refusals}
use Rattle.joining.proofs.Steps.{announcement_refusals}
use Rattle.joining.proofs.Reached.{step-fit}
use Rattle.times.specs.declared.Came.{Came}
use Rattle.times.specs.declared.Came.TheVariants.{InTime, Late, Before, Unfit}
use Rattle.times.specs.declared.Last.{Last}
use Rattle.times.specs.declared.Station.{Station}
use Rattle.times.specs.declared.Heard.{Heard}
use Rattle.times.specs.Timed.{fit_last, is_before, is_late, met_at, turned, is_kept, last_after, kept_at, timed_frame, passes, stops, meets}
use Rattle.times.specs.Run.{Timed, frame_at, station_step}
use Rattle.times.specs.Inner.{came_at}

-- A session and a last time that are both fit.
pub record Fit (s : Station) : Type 0 where
  pub session : fit s.session ≡ true
  pub last : fit_last s.last ≡ true

pub closed-fit : (s : Session) → fit (closed s) ≡ true
unfolding fit is_closed
closed-fit s = refl

pub met-fit : (s : Session) (l : Last) (t : ℕ) → fit s ≡ true → fit (met_at s l t) ≡ true
met-fit s l t fits = go (is_late l t)
  where
    go : (b : Bool) → fit (cond b (closed s) s) ≡ true
    go true = closed-fit s
    go false = fits

-- What refuses nothing is kept.
pub kept_ok : (a : Answer) → is_ok a ≡ is_kept a
kept_ok (Err e) = refl
kept_ok (Ok a) = refl

pub after-fit : (a : Answer) (t : ℕ) (l : Last) → fit_last l ≡ true → fit_last (last_after a t l) ≡ true
unfolding fit_last
after-fit (Err n) t l h = h
after-fit (Ok a) t l h = refl

-- What each way to come says of the tests.
abbrev pub Tests : Came → Last → ℕ → Type 0
Tests InTime l t = (fit_last l ≡ true) × (is_before l t ≡ false) × (is_late l t ≡ false)
Tests Late l t = (fit_last l ≡ true) × (is_before l t ≡ false) × (is_late l t ≡ true)
Tests Before l t = (fit_last l ≡ true) × (is_before l t ≡ true)
Tests Unfit l t = fit_last l ≡ false

pub tests : (l : Last) (t : ℕ) {c : Came} → c ≡ came_at l t → Tests c l t
unfolding came_at
tests l t e = rw e (go (fit_last l) (is_before l t) (is_late l t) refl refl refl)
  where
    go : (x y z : Bool) → fit_last l ≡ x → is_before l t ≡ y → is_late l t ≡ z → Tests (cond (not x) Unfit (cond y Before (cond z Late InTime))) l t
    go false y z a b c = a
    go true true z a b c = (a, b)
    go true false true a b c = (a, b, c)
    go true false false a b c = (a, b, c)

-- Refusals 1 to 3 change nothing.
pub foreign_stays : (s : Station) (f : Timed) → (frame_refusal f.frame.identifier f.frame.data_bytes ≡ 0 → ⊥)
    → station_step s f ≡ turned (frame_refusal f.frame.identifier f.frame.data_bytes) s
unfolding timed_frame take_frame
foreign_stays s f h = go f.time
  where
    go : (t : Option ℕ) → frame_at t s f.frame ≡ turned (frame_refusal f.frame.identifier f.frame.data_bytes) s
    go None = rw (ne_eqb (frame_refusal f.frame.identifier f.frame.data_bytes) 0 h)
    go (Some t) = rw (ne_eqb (frame_refusal f.frame.identifier f.frame.data_bytes) 0 h)

-- Where neither 26 nor a closing applies, the untimed rules settle it. (Where 1 to 3 or 24 do, they give them too.)
pub in_time : (s : Station) → fit_last s.last ≡ true → (t : ℕ) (f : Frame) → is_before s.last t ≡ false → is_late s.last t ≡ false
    → timed_frame s t f.identifier f.data_bytes ≡ kept_at t s.last (solo_step s.session f)
unfolding timed_frame take_frame
in_time s ok t f h g = go (eqb (frame_refusal f.identifier f.data_bytes) 0) (fit s.session) refl refl
  where
    go : (b c : Bool) → eqb (frame_refusal f.identifier f.data_bytes) 0 ≡ b → fit s.session ≡ c
        → timed_frame s t f.identifier f.data_bytes ≡ kept_at t s.last (solo_step s.session f)
    go true true e c = rw (e, c, ok, h, g, c)
    go true false e c = rw (e, c)
    go false b e c = rw e

-- Where 24 does.
pub unfit_stays : (s : Station) (t : ℕ) (f : Frame) → frame_refusal f.identifier f.data_bytes ≡ 0 → (fit s.session && fit_last s.last) ≡ false
    → timed_frame s t f.identifier f.data_bytes ≡ turned 24 s
unfolding timed_frame
unfit_stays s t f e h = rw (e, h)

module _ (s : Station) (ok : Fit s) (t : ℕ) (f : Frame) (e : frame_refusal f.identifier f.data_bytes ≡ 0) where
  pub turned_back : is_before s.last t ≡ true → timed_frame s t f.identifier f.data_bytes ≡ turned 26 s
  unfolding timed_frame
  turned_back h = rw (e, ok.session, ok.last, h)

  pub settled : is_before s.last t ≡ false
      → timed_frame s t f.identifier f.data_bytes ≡ kept_at t s.last (solo_step (met_at s.session s.last t) f)
  unfolding timed_frame
  settled h = rw (e, ok.session, ok.last, h)

-- The same in parts: where the last time refuses the frame, ...
pub stops-turned : (s : Station) (t : ℕ) (f : Frame) → passes s.last t ≡ false
    → timed_frame s t f.identifier f.data_bytes ≡ turned (stops s t f.identifier f.data_bytes) s
unfolding timed_frame
stops-turned s t f h = go (eqb (frame_refusal f.identifier f.data_bytes) 0) (fit s.session) (fit_last s.last) (is_before s.last t) refl refl refl refl
  where
    go : (b c x y : Bool) → eqb (frame_refusal f.identifier f.data_bytes) 0 ≡ b → fit s.session ≡ c → fit_last s.last ≡ x → is_before s.last t ≡ y
        → timed_frame s t f.identifier f.data_bytes ≡ turned (stops s t f.identifier f.data_bytes) s
    go false c x y e i j k = rw (h, e)
    go true false x y e i j k = rw (h, e, i)
    go true true false y e i j k = rw (h, e, i, j)
    go true true true true e i j k = rw (h, e, i, j, k)
    go true true true false e i j k = clash (rw (j, k)) h

-- ... which is a refusal, ...
pub stops_so : (s : Station) (t id : ℕ) (d : List ℕ) → passes s.last t ≡ false → stops s t id d ≡ 0 → ⊥
stops_so s t id d h z = go (eqb (frame_refusal id d) 0) (fit s.session) (fit_last s.last) refl refl refl
  where
    go : (b c x : Bool) → eqb (frame_refusal id d) 0 ≡ b → fit s.session ≡ c → fit_last s.last ≡ x → ⊥
    go false c x e i j = eqb-false _ 0 e (rw (h, e) at z)
    go true false x e i j = omega (arith, rw (h, e, i) at z)
    go true true false e i j = omega (arith, rw (h, e, i, j) at z)
    go true true true e i j = omega (arith, rw (h, e, i, j) at z)

-- ... and where it doesn't.
pub meets_settled : (s : Station) (t : ℕ) (f : Frame) → passes s.last t ≡ true
    → timed_frame s t f.identifier f.data_bytes ≡ kept_at t s.last (solo_step (meets s t f.identifier f.data_bytes).session f)
unfolding timed_frame take_frame
meets_settled s t f h = go (eqb (frame_refusal f.identifier f.data_bytes) 0) (fit s.session) (fit_last s.last) (is_before s.last t) (is_late s.last t) refl refl refl refl refl
  where
    go : (b c x y z : Bool) → eqb (frame_refusal f.identifier f.data_bytes) 0 ≡ b → fit s.session ≡ c → fit_last s.last ≡ x → is_before s.last t ≡ y → is_late s.last t ≡ z
        → timed_frame s t f.identifier f.data_bytes ≡ kept_at t s.last (solo_step (meets s t f.identifier f.data_bytes).session f)
    go false c x y true e i j k l = rw (h, l, e)
    go false c x y false e i j k l = rw (h, l, e)
    go true false x y true e i j k l = rw (h, l, e, i) (rw i)
    go true false x y false e i j k l = rw (h, l, e, i)
    go true true true false true e i j k l = rw (h, l, e, i, j, k)
    go true true true false false e i j k l = rw (h, l, e, i, j, k)
    go true true true true z e i j k l = clash h (rw (j, k))
    go true true false y z e i j k l = clash h (rw j)

-- A time that is neither before the last one nor more than 750 ms after it.
abbrev pub Near : Last → ℕ → Type 0
Near l t = l.known ≡ true → (l.at ≤ t) × (t ≤ l.at + 750)

pub near : (l : Last) (t : ℕ) → is_before l t ≡ false → is_late l t ≡ false → Near l t
unfolding is_before is_late
near l t = go l.known
  where
    go : (b : Bool) → (b && ltb t l.at) ≡ false → (b && ltb 750 (t - l.at)) ≡ false → b ≡ true → (l.at ≤ t) × (t ≤ l.at + 750)
    go true h g e =
        let x = ltb-false t l.at h in
        let y = ltb-false 750 (t - l.at) g in
        (x, omega arith)
    go false h g e = absurd (false≢true e)

pub not_before : (l : Last) (t : ℕ) → (l.known ≡ true → l.at ≤ t) → is_before l t ≡ false
unfolding is_before
not_before l t = go l.known
  where
    go : (b : Bool) → (b ≡ true → l.at ≤ t) → (b && ltb t l.at) ≡ false
    go true h = le-ltb t l.at (h refl)
    go false h = refl

pub not_late : (l : Last) (t : ℕ) → (l.known ≡ true → t ≤ l.at + 750) → is_late l t ≡ false
unfolding is_late
not_late l t = go l.known
  where
    go : (b : Bool) → (b ≡ true → t ≤ l.at + 750) → (b && ltb 750 (t - l.at)) ≡ false
    go true h = let x = h refl in le-ltb 750 (t - l.at) (omega arith)
    go false h = refl

-- What a frame with a time or without leaves where the untimed rules settle it.
abbrev pub last_by : Option ℕ → Answer → Last → Last
last_by None a l = l
last_by (Some t) a l = last_after a t l

abbrev pub taken_by : Option ℕ → Last → Taken → Heard
taken_by o l u = record { answer = u.answer; station = record { session = u.session; last = last_by o u.answer l } }

abbrev pub NearBy : Option ℕ → Last → Type 0
NearBy None l = Unit
NearBy (Some t) l = Near l t

-- Refused 1 to 3 or 26, and nothing changed; in time, or without a time; too late, at a closed session.
pub data Way (s : Station) (f : Timed) : Type 0 where
  away : (n : ℕ) → ((1 ≤ n) × (n ≤ 3)) ⊎ (n ≡ 26) → station_step s f ≡ turned n s → Way s f
  straight : NearBy f.time s.last → station_step s f ≡ taken_by f.time s.last (solo_step s.session f.frame) → Way s f
  late : station_step s f ≡ taken_by f.time s.last (solo_step (closed s.session) f.frame) → Way s f

module _ (s : Station) (ok : Fit s) (g : Frame) where
  abbrev code : ℕ
  code = frame_refusal g.identifier g.data_bytes

  module _ (t : ℕ) where
    abbrev at : Timed
    at = record { frame = g; time = Some t }

    by_late : code ≡ 0 → is_before s.last t ≡ false → (b : Bool) → is_late s.last t ≡ b → Way s at
    by_late e h true l = late (settled s ok t g e h ∙ rw l)
    by_late e h false l = straight (near s.last t h l) (in_time s ok.last t g h l)

    by_before : code ≡ 0 → (b : Bool) → is_before s.last t ≡ b → Way s at
    by_before e true h = away 26 (inr refl) (turned_back s ok t g e h)
    by_before e false h = by_late e h (is_late s.last t) refl

    by_frame : (b : Bool) → eqb code 0 ≡ b → Way s at
    by_frame true e = by_before (eqb-true code 0 e) (is_before s.last t) refl
    by_frame false e =
        let low : code ≡ 0 → ⊥ = eqb-false code 0 e in
        let high = frame_refusals g.identifier g.data_bytes in
        away code (inl (omega arith, high)) (foreign_stays s at low)

  by_time : (o : Option ℕ) → Way s (record { frame = g; time = o })
  by_time None = straight tt refl
  by_time (Some t) = by_frame t (eqb code 0) refl

pub ways : (s : Station) (f : Timed) → Fit s → Way s f
ways s f ok = by_time s ok f.frame f.time

-- Both stay fit, so a station that is fresh at first never answers 24: what it refuses is 1 to 10 or 26.
pub by_fit : (o : Option ℕ) (a : Answer) (l : Last) → fit_last l ≡ true → fit_last (last_by o a l) ≡ true
by_fit None a l h = h
by_fit (Some t) a l h = after-fit a t l h

pub step_stays_fit : (s : Station) (f : Timed) → Fit s → Fit (station_step s f).station
step_stays_fit s f ok = go (ways s f ok)
  where
    go : Way s f → Fit (station_step s f).station
    go (away n w e) = rw e ok
    go (straight w e) = rw e (record { session = step-fit s.session f.frame ok.session; last = by_fit f.time _ s.last ok.last })
    go (late e) = rw e (record { session = step-fit (closed s.session) f.frame (closed-fit s.session); last = by_fit f.time _ s.last ok.last })

-- What an answer can say where nothing is unfit: refusals 1 to 10 or 26, and a report with permitted values.
abbrev pub Named : Answer → Type 0
Named (Err e) = ((1 ≤ number_of e) × (number_of e ≤ 10)) ⊎ (number_of e ≡ 26)
Named (Ok None) = Unit
Named (Ok (Some r)) = in_range r.values ≡ true

pub low_named : {n : ℕ} → 1 ≤ n → n ≤ 10 → Named (Err (refusal_of n))
low_named {n} l u = rw (number_back n l u) (inl (l, u))

pub solo_named : (s : Session) → fit s ≡ true → (id : ℕ) (d : List ℕ) → Named (take_frame s id d).answer
unfolding take_frame announce packet read_payload
solo_named s fits id d = go (eqb (frame_refusal id d) 0) refl
  where
    A : Taken → Type 0
    A r = Named r.answer

    heard : A (cond (is_announcement id) (announce s d) (packet s d))
    heard =
        either A (is_announcement id)
        (λ t.
        either A (eqb (announcement_refusal d) 0) (λ e. tt)
        (λ e. let some = eqb-false (announcement_refusal d) 0 e in low_named (omega arith) (omega (arith, announcement_refusals d))))
        (λ t.
        either A (eqb s.size 0) (λ e. low_named (omega arith) (omega arith))
        (λ e.
        either A (not (eqb (get_or d 0 0) s.next)) (λ f. low_named (omega arith) (omega arith))
        (λ f.
        either A (ltb s.next s.count) (λ g. tt)
        (λ g. either (λ (r : Result Report Refusal). Named (yields r)) (is_payload (take s.size (stored s d))) (λ h. range_of (take s.size (stored s d)) h) (λ h. inl (omega arith, omega arith))))))

    go : (t : Bool) → eqb (frame_refusal id d) 0 ≡ t → A (cond (not t) (refused (frame_refusal id d) s) (cond (not (fit s)) (refused 24 s) (cond (is_announcement id) (announce s d) (packet s d))))
    go false e =
        let low = eqb-false (frame_refusal id d) 0 e in
        let high = frame_refusals id d in
        low_named (omega arith) (omega arith)
    go true e = subst A (sym (if_not _ _ (ap not fits))) heard

pub step-named : (s : Station) (f : Timed) → Fit s → Named (station_step s f).answer
step-named s f ok = go (ways s f ok)
  where
    named : {n : ℕ} → ((1 ≤ n) × (n ≤ 3)) ⊎ (n ≡ 26) → Named (Err (refusal_of n))
    named (inl w) = low_named w.0 (omega arith)
    named (inr e) = rw (e, known BeforeLastTime) (inr refl)

    go : Way s f → Named (station_step s f).answer
    go (away n w e) = rw e (named w)
    go (straight w e) = rw e (solo_named s.session ok.session f.frame.identifier f.frame.data_bytes)
    go (late e) = rw e (solo_named (closed s.session) (closed-fit s.session) f.frame.identifier f.frame.data_bytes)
