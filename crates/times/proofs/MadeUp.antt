-- A report is only ever what one sender sent, and sent in time: an open session holds the packets that came, in sequence, since the announcement that opened it, and the newest time among these is the last kept one.
-- Assumes nothing.
use mathlib.Core.Path.{◌≡◌, refl, sym, ◌∙◌, ap, subst}
use mathlib.Core.Bool.{Bool, true, false, cond}
use mathlib.Core.Logic.{◌⊎◌, inl, inr}
use Rattle.std.specs.Prelude.{Option, None, Some}
use mathlib.Core.List.{List, [], ◌∷◌, ◌++◌, append_assoc, append-nil}
use Prim.Native.Nat.{ℕ, suc, ◌+◌, ◌≤◌, ◌<◌}
use native.Mathlib.Omega.{arith}
use borrow.Author.Tests.{le-leb, ltb-true, eqb-true}
use lib.Dec.{ltb, eqb}
use lib.ListN.{length, get_or, take}
use Rattle.report.specs.Payload.{read_payload}
use Rattle.report.specs.declared.Report.{Report}
use Rattle.joining.specs.declared.Session.{Session}
use Rattle.joining.specs.Answers.{Answer}
use Rattle.std.specs.Prelude.{Ok, Err}
use Rattle.refusal.specs.declared.Refusal.TheVariants.{BeforeLastTime}
use Rattle.refusal.specs.Answers.{refusal_of}
use Rattle.refusal.proofs.Answers.{known}
use Rattle.joining.specs.declared.Taken.{Taken}
use Rattle.joining.specs.Frame.{Frame, frame_refusal}
use Rattle.joining.specs.Joining.{fit, closed, opened, advanced, stored}
use Rattle.joining.specs.Run.{solo_step, Announces, Numbered, InSequence, joined}
use Rattle.joining.proofs.Answers.{refuses, keeps, accepts, number_back}
use Rattle.joining.proofs.Cases.{Case, passed, shut, stray, good, next, last, cases}
use Rattle.joining.proofs.Reached.{fit_open}
use Rattle.joining.proofs.MadeUp.{Opening, starts, goes_on, in_order_lem, all-packets, ended}
use Rattle.times.specs.declared.Last.{Last}
use Rattle.times.specs.declared.Station.{Station}
use Rattle.times.specs.Timed.{time_of}
use Rattle.times.specs.Run.{Timed, sender, station_step, station_after_all, Stations, station_of, fresh_station, fresh_stations, stations_after, timed_answer, stations_after_all, timed_answers, frames_of, own_timed, passed_over, heard_at, time_in, times_of, Spaced, SentTimed, FromSender}
use Rattle.times.proofs.Steps.{Fit, last_by, NearBy, Way, away, straight, late, ways, closed-fit, step_stays_fit}
use Rattle.times.proofs.Mixing.{mixing, own_answer}
use Rattle.times.proofs.Reached.{fresh-whole, fresh_station_lem, fresh-is-fit, run_fit}

-- ---- times

-- Of times that there are, the newest is the last kept one.
record Ends (ts : List ℕ) (l : Last) : Type 0 where
  before : List ℕ
  newest : ℕ
  is : ts ≡ before ++ (newest ∷ [])
  kept : l ≡ time_of newest

abbrev Newest : List ℕ → Last → Type 0
Newest ts l = (ts ≡ []) ⊎ Ends ts l

spaced_more : (us : List ℕ) (t u : ℕ) → Spaced (us ++ (t ∷ [])) → t ≤ u → u ≤ t + 750 → Spaced ((us ++ (t ∷ [])) ++ (u ∷ []))
spaced_more [] t u h a b = (a, b, tt)
spaced_more (x ∷ []) t u h a b = (h.0, h.1, (a, b, tt))
spaced_more (x ∷ y ∷ us) t u h a b = (h.0, h.1, spaced_more (y ∷ us) t u h.2 a b)

-- A kept frame more, in time.
grown : (ts : List ℕ) (l : Last) (o : Option ℕ) → Spaced ts → Newest ts l → NearBy o l → Spaced (ts ++ time_in o) × Newest (ts ++ time_in o) (last_by o (Ok None) l)
grown ts l None s n near = rw append-nil (s, n)
grown ts l (Some t) s (inl e) near = rw e (tt, inr (record { before = []; newest = t; is = refl; kept = refl }))
grown ts l (Some t) s (inr e) near =
    let at = near (ap (λ (m : Last). m.known) e.kept) in
    let same = ap (λ (m : Last). m.at) e.kept in (
      rw e.is (spaced_more e.before e.newest t (rw e.is at s) (omega (arith, at.0, same)) (omega (arith, at.1, same))),
      inr (record { before = ts; newest = t; is = refl; kept = refl }),
    )

alone : (l : Last) (o : Option ℕ) → Spaced (time_in o ++ []) × Newest (time_in o ++ []) (last_by o (Ok None) l)
alone l None = (tt, inl refl)
alone l (Some t) = (tt, inr (record { before = []; newest = t; is = refl; kept = refl }))

times_last : (fs : List Timed) (f : Timed) → times_of (fs ++ (f ∷ [])) ≡ times_of fs ++ time_in f.time
unfolding times_of
times_last [] f = append-nil (time_in f.time)
times_last (g ∷ fs) f = ap (λ (l : List ℕ). time_in g.time ++ l) (times_last fs f) ∙ sym (append_assoc (time_in g.time) (times_of fs) (time_in f.time))

frames_last : (fs : List Timed) (f : Timed) → frames_of (fs ++ (f ∷ [])) ≡ frames_of fs ++ (f.frame ∷ [])
unfolding frames_of
frames_last [] f = refl
frames_last (g ∷ fs) f = ap (λ (l : List Frame). g.frame ∷ l) (frames_last fs f)

length-frames : (fs : List Timed) → length (frames_of fs) ≡ length fs
unfolding frames_of
length-frames [] = refl
length-frames (f ∷ fs) = ap suc (length-frames fs)

refused_by : (o : Option ℕ) (n : ℕ) (l : Last) → last_by o (Err (refusal_of n)) l ≡ l
refused_by None n l = refl
refused_by (Some t) n l = refl

-- ---- what an open session holds

-- Of the frames h that its sender has sent, those refused 1 to 4 or 26 left out.
record Trail (s : Session) (l : Last) (h : List Timed) : Type 0 where
  before : List Timed
  announced : Timed
  middle : List Timed
  since : h ≡ before ++ (announced ∷ middle)
  frames : List Frame
  opening : Opening s frames
  first : opening.announced ≡ announced.frame
  rest : opening.middle ≡ frames_of middle
  spaced : Spaced (times_of (announced ∷ middle))
  newest : Newest (times_of (announced ∷ middle)) l

abbrev Traced : Session → Last → List Timed → Type 0
Traced s l h = (s.size ≡ 0) ⊎ Trail s l h

holding : {s : Session} {l : Last} {h : List Timed} → Traced s l h → (s.size ≡ 0 → ⊥) → Trail s l h
holding (inl z) o = absurd (o z)
holding (inr t) o = t

begins : (n : ℕ) (l : Last) (h : List Timed) (f : Timed) → Announces n f.frame → Trail (opened n) (last_by f.time (Ok None) l) (h ++ (f ∷ []))
unfolding frames_of times_of starts
begins n l h f a =
    let t = alone l f.time in
    record {
      before = h;
      announced = f;
      middle = [];
      since = refl;
      frames = f.frame ∷ [];
      opening = starts n [] f.frame a;
      first = refl;
      rest = refl;
      spaced = t.0;
      newest = t.1;
    }

-- What a session x takes, where the time is near while x is open.
module _ (x : Session) (l : Last) (h : List Timed) (f : Timed) (fits : fit x ≡ true) (t : Traced x l h) (near : (x.size ≡ 0 → ⊥) → NearBy f.time l) where
  times_then : (w : Trail x l h) → times_of (w.announced ∷ (w.middle ++ (f ∷ []))) ≡ times_of (w.announced ∷ w.middle) ++ time_in f.time
  times_then w = times_last (w.announced ∷ w.middle) f

  frames_then : (w : Trail x l h) → w.opening.middle ++ (f.frame ∷ []) ≡ frames_of (w.middle ++ (f ∷ []))
  frames_then w = ap (λ (fs : List Frame). fs ++ (f.frame ∷ [])) w.rest ∙ sym (frames_last w.middle f)

  go_on : (o : x.size ≡ 0 → ⊥) → Numbered x.next f.frame → x.next < x.count
      → Trail (advanced x f.frame.data_bytes) (last_by f.time (Ok None) l) (h ++ (f ∷ []))
  unfolding goes_on
  go_on o n m =
      let w = holding t o in
      let more = grown (times_of (w.announced ∷ w.middle)) l f.time w.spaced w.newest (near o) in
      record {
        before = w.before;
        announced = w.announced;
        middle = w.middle ++ (f ∷ []);
        since = ap (λ (fs : List Timed). fs ++ (f ∷ [])) w.since ∙ append_assoc w.before (w.announced ∷ w.middle) (f ∷ []);
        frames = w.frames ++ (f.frame ∷ []);
        opening = goes_on x w.frames f.frame (fit_open x fits o) w.opening n m;
        first = w.first;
        rest = frames_then w;
        spaced = rw (times_then w) more.0;
        newest = rw (times_then w) more.1;
      }

  abbrev u : Taken
  u = solo_step x f.frame

  taken-traced : Traced u.session (last_by f.time u.answer l) (cond (passed_over u.answer) h (h ++ (f ∷ [])))
  taken-traced = go (cases x f.frame fits)
    where
      go : Case x f.frame → Traced u.session (last_by f.time u.answer l) (cond (passed_over u.answer) h (h ++ (f ∷ [])))
      go (passed n a b p e) = rw (e, refused_by f.time n l, number_back n a (omega arith), le-leb n 4 b) t
      go (shut n p e) = rw e (inl refl)
      go (stray p z e) = rw e (inl z)
      go (good p c a e) = rw e (inr (begins _ l h f a))
      go (next p o n m e) = rw e (inr (go_on o n m))
      go (last p o n m e) = rw e (inl refl)

  -- A report is the answer at the last packet only, of those that the session holds.
  ends_with : (own : List Timed) (r : Report) → heard_at fresh_station own ≡ h → u.answer ≡ Ok (Some r) → SentTimed own f r
  ends_with own r heard done = go (cases x f.frame fits)
    where
      go : Case x f.frame → SentTimed own f r
      go (passed n a b p e) = absurd (refuses n (rw e at done))
      go (shut n p e) = absurd (refuses n (rw e at done))
      go (stray p z e) = absurd (refuses 8 (rw e at done))
      go (good p c a e) = absurd (keeps (rw e at done))
      go (next p o n m e) = absurd (keeps (rw e at done))
      go (last p o n m e) =
          let w = holding t o in
          let up = fit_open x fits o in
          let all = frames_then w in
          record {
            before = w.before;
            announced = w.announced;
            middle = w.middle;
            size = x.size;
            since = heard ∙ w.since;
            announces = subst (Announces x.size) w.first w.opening.announces;
            sequence = subst (InSequence 1) all (in_order_lem x w.frames f.frame up w.opening n);
            count = sym (length-frames (w.middle ++ (f ∷ []))) ∙ ap length (sym all) ∙ all-packets x w.frames f.frame up w.opening n m;
            reads =
                ap (λ (fs : List Frame). read_payload (take x.size (joined fs))) (sym all)
                ∙ ap read_payload (sym (ended x w.frames f.frame up w.opening n m))
                ∙ accepts r (read_payload (take x.size (stored x f.frame.data_bytes))) (rw e at done);
            spaced = rw (times_then w) (grown (times_of (w.announced ∷ w.middle)) l f.time w.spaced w.newest (near o)).0;
          }

-- ---- runs

passed_over_lem : (n : ℕ) → ((1 ≤ n) × (n ≤ 3)) ⊎ (n ≡ 26) → passed_over (Err (refusal_of n)) ≡ true
passed_over_lem n (inl w) = rw (number_back n w.0 (omega arith), le-leb n 4 (omega arith))
passed_over_lem n (inr e) = rw (e, known BeforeLastTime)

step-traced : (s : Station) (h : List Timed) (f : Timed) → Fit s → Traced s.session s.last h
    → Traced (station_step s f).station.session (station_step s f).station.last (cond (passed_over (station_step s f).answer) h (h ++ (f ∷ [])))
step-traced s h f ok t = go (ways s f ok)
  where
    go : Way s f → Traced (station_step s f).station.session (station_step s f).station.last (cond (passed_over (station_step s f).answer) h (h ++ (f ∷ [])))
    go (away n w e) = rw (e, passed_over_lem n w) t
    go (straight w e) = rw e (taken-traced s.session s.last h f ok.session t (λ o. w))
    go (late e) = rw e (taken-traced (closed s.session) s.last h f (closed-fit s.session) (inl refl) (λ o. absurd (o refl)))

run_traced : (s : Station) (fs h : List Timed) → Fit s → Traced s.session s.last h
    → Traced (station_after_all s fs).session (station_after_all s fs).last (h ++ heard_at s fs)
unfolding station_after_all heard_at
run_traced s [] h ok t = rw append-nil t
run_traced s (f ∷ fs) h ok t =
    rw (more (passed_over (station_step s f).answer))
    (run_traced then fs (cond (passed_over (station_step s f).answer) h (h ++ (f ∷ []))) (step_stays_fit s f ok) (step-traced s h f ok t))
  where
    then : Station
    then = (station_step s f).station

    more : (b : Bool) → h ++ cond b (heard_at then fs) (f ∷ heard_at then fs) ≡ cond b h (h ++ (f ∷ [])) ++ heard_at then fs
    more true = refl
    more false = sym (append_assoc h (f ∷ []) (heard_at then fs))

-- One sender's frames at a fresh session with no time, and then f: where f yields a report, the announcement and all packets that it was read from are among them, and came in time.
pub sent_alone : (own : List Timed) (f : Timed) (r : Report) → (station_step (station_after_all fresh_station own) f).answer ≡ Ok (Some r) → SentTimed own f r
sent_alone own f r done = go (ways s f ok)
  where
    s : Station
    s = station_after_all fresh_station own

    ok : Fit s
    ok = run_fit fresh_station own fresh-is-fit

    t : Traced s.session s.last (heard_at fresh_station own)
    t = run_traced fresh_station own [] fresh-is-fit (inl refl)

    go : Way s f → SentTimed own f r
    go (away n w e) = absurd (refuses n (rw e at done))
    go (straight w e) = ends_with s.session s.last (heard_at fresh_station own) f ok.session t (λ o. w) own r refl (rw e at done)
    go (late e) =
        ends_with (closed s.session) s.last (heard_at fresh_station own) f (closed-fit s.session) (inl refl) (λ o. absurd (o refl)) own r refl (rw e at done)

own_from : (k : ℕ) (fs : List Timed) → FromSender k (own_timed k fs)
unfolding own_timed
own_from k [] = tt
own_from k (f ∷ fs) = go (eqb (sender f) k) refl (own_from k fs)
  where
    go : (b : Bool) → eqb (sender f) k ≡ b → FromSender k (own_timed k fs) → FromSender k (cond b (f ∷ own_timed k fs) (own_timed k fs))
    go true e h = (eqb-true _ _ e, h)
    go false e h = h

heard_from : (k : ℕ) (s : Station) (fs : List Timed) → FromSender k fs → FromSender k (heard_at s fs)
unfolding heard_at
heard_from k s [] h = tt
heard_from k s (f ∷ fs) h = go (passed_over (station_step s f).answer) (heard_from k (station_step s f).station fs h.1)
  where
    rest : List Timed
    rest = heard_at (station_step s f).station fs

    go : (b : Bool) → FromSender k rest → FromSender k (cond b rest (f ∷ rest))
    go true r = r
    go false r = (h.0, r)

behind_from : (k : ℕ) (fs gs : List Timed) → FromSender k (fs ++ gs) → FromSender k gs
behind_from k [] gs h = h
behind_from k (f ∷ fs) gs h = behind_from k fs gs h.1

-- A frame that isn't refused 3 is of a sender that has a session.
known_sender : (b : Stations) (f : Timed) (r : Report) → timed_answer b f ≡ Ok (Some r) → sender f < 254
known_sender b f r = go (ltb (sender f) 254) refl
  where
    go : (t : Bool) → ltb (sender f) 254 ≡ t
        → cond t (station_step (station_of (sender f) b) f).answer (Err (refusal_of (frame_refusal f.frame.identifier f.frame.data_bytes))) ≡ Ok (Some r) → sender f < 254
    go true e h = ltb-true _ _ e
    go false e h = absurd (refuses _ h)

-- The whole bus, all sessions fresh and no times: where f yields a report after the frames fs of whatever senders, with times or without, then f's own sender sent the
-- announcement and, since then, exactly the packets that the report was read from, in sequence and in time.
pub sent_by_one : (fs : List Timed) (f : Timed) (r : Report) → timed_answer (stations_after_all fresh_stations fs) f ≡ Ok (Some r)
    → (sent : SentTimed (own_timed (sender f) fs) f r) × FromSender (sender f) (sent.announced ∷ sent.middle)
sent_by_one fs f r h =
    let k : ℕ = sender f in
    let known : k < 254 = known_sender (stations_after_all fresh_stations fs) f r h in
    let at : station_of k (stations_after_all fresh_stations fs) ≡ station_after_all fresh_station (own_timed k fs) =
    (mixing k known fresh_stations fs fresh-whole).0 ∙ ap (λ (s : Station). station_after_all s (own_timed k fs)) (fresh_station_lem k known) in
    let sent = sent_alone (own_timed k fs) f r
    (ap (λ (s : Station). (station_step s f).answer) (sym at) ∙ sym (own_answer k known (stations_after_all fresh_stations fs) f refl) ∙ h) in
    (sent, behind_from k sent.before _ (rw sent.since at (heard_from k fresh_station (own_timed k fs) (own_from k fs))))

-- The answers of a run are those to its frames at what the frames before them left.
pub answer_at : (b : Stations) (fs : List Timed) (f : Timed) (gs : List Timed) (d : Answer) → get_or (timed_answers b (fs ++ (f ∷ gs))) (length fs) d ≡ timed_answer (stations_after_all b fs) f
unfolding timed_answers stations_after_all
answer_at b [] f gs d = refl
answer_at b (g ∷ fs) f gs d = answer_at (stations_after b g) fs f gs d

-- No made-up report: whatever was sent before and after by whom and when, where a run answers f with a report, f's own sender sent all that it was read from, in time.
pub no_made_up_report : (fs : List Timed) (f : Timed) (gs : List Timed) (d : Answer) (r : Report) → get_or (timed_answers fresh_stations (fs ++ (f ∷ gs))) (length fs) d ≡ Ok (Some r)
    → (sent : SentTimed (own_timed (sender f) fs) f r) × FromSender (sender f) (sent.announced ∷ sent.middle)
no_made_up_report fs f gs d r h = sent_by_one fs f r (sym (answer_at fresh_stations fs f gs d) ∙ h)
