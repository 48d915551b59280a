-- What other senders send changes nothing: each frame reads and changes its own sender's session and last time only, so a sender's part of a run is the run of its part.
-- Assumes nothing.
use mathlib.Core.Path.{◌≡◌, refl, sym, ◌∙◌, ap, ap₂}
use mathlib.Core.Bool.{Bool, true, false, cond}
use Rattle.std.specs.Prelude.{None}
use mathlib.Core.List.{List, [], ◌∷◌}
use Prim.Native.Nat.{ℕ, ◌<◌}
use native.Mathlib.Omega.{arith}
use borrow.Author.Tests.{lt-ltb, eqb-true, eqb-false}
use lib.ListN.{length, set, length-set}
use lib.Seq.{get_or-set_same, get_or-set_other, set-get_or}
use lib.Dec.{ltb, eqb}
use Rattle.joining.specs.Answers.{Answer}
use Rattle.joining.specs.Frame.{Frame}
use Rattle.joining.specs.Run.{nobody, sessions_after, answer_to, sessions_after_all, answers_to_all, own_answers}
use Rattle.times.specs.declared.Station.{Station}
use Rattle.times.specs.Run.{Timed, sender, station_step, station_after_all, station_answers, Stations, station_of, with_station, stations_after, timed_answer, stations_after_all, timed_answers, frames_of, untimed, own_timed}

-- A session and a last time for each sender.
pub record Whole (b : Stations) : Type 0 where
  pub sessions : length b.sessions ≡ 254
  pub known : length b.times.known ≡ 254
  pub at : length b.times.at ≡ 254

module _ (b : Stations) (f : Timed) where
  abbrev new : Station
  new = (station_step (station_of (sender f) b) f).station

  -- A frame stores one session and one time anew, or, of senders 254 and 255, none.
  after : (P : Stations → Type 0) → P (with_station b (sender f) new) → P b → P (stations_after b f)
  after P stored same = go (ltb (sender f) 254)
    where
      go : (t : Bool) → P (cond t (with_station b (sender f) new) b)
      go true = stored
      go false = same

  pub others_stay : (k : ℕ) → (sender f ≡ k → ⊥) → station_of k (stations_after b f) ≡ station_of k b
  others_stay k h =
      let other : k ≡ sender f → ⊥ = λ e. h (sym e) in
      let sessions = get_or-set_other b.sessions (sender f) k new.session nobody other in
      let known = get_or-set_other b.times.known (sender f) k new.last.known false other in
      let at = get_or-set_other b.times.at (sender f) k new.last.at 0 other in
      after (λ c. station_of k c ≡ station_of k b) (λ i. record { session = sessions i; last = record { known = known i; at = at i } }) refl

  pub whole-after : Whole b → Whole (stations_after b f)
  whole-after w =
      after Whole
      (record {
        sessions = length-set b.sessions (sender f) new.session ∙ w.sessions;
        known = length-set b.times.known (sender f) new.last.known ∙ w.known;
        at = length-set b.times.at (sender f) new.last.at ∙ w.at;
      })
      w

pub whole_at : (b : Stations) (fs : List Timed) → Whole b → Whole (stations_after_all b fs)
unfolding stations_after_all
whole_at b [] w = w
whole_at b (f ∷ fs) w = whole_at (stations_after b f) fs (whole-after b f w)

module _ (k : ℕ) (known : k < 254) where
  -- A frame of sender k is taken by its station, and the answer is that station's.
  pub own_answer : (b : Stations) (f : Timed) → sender f ≡ k → timed_answer b f ≡ (station_step (station_of k b) f).answer
  own_answer b f e = rw (e, lt-ltb k 254 known)

  pub own_station : (b : Stations) (f : Timed) → Whole b → sender f ≡ k → station_of k (stations_after b f) ≡ (station_step (station_of k b) f).station
  own_station b f w e =
      let s = (station_step (station_of k b) f).station in
      let sessions = get_or-set_same b.sessions k s.session nobody (omega (arith, w.sessions)) in
      let there = get_or-set_same b.times.known k s.last.known false (omega (arith, w.known)) in
      let at = get_or-set_same b.times.at k s.last.at 0 (omega (arith, w.at)) in
      rw (e, lt-ltb k 254 known) (λ i. record { session = sessions i; last = record { known = there i; at = at i } })

  -- Of every run, the session and the last time of k at the end and the answers to k are those of its own frames alone, in their order.
  pub mixing : (b : Stations) (fs : List Timed) → Whole b
      → (station_of k (stations_after_all b fs) ≡ station_after_all (station_of k b) (own_timed k fs))
      × (own_answers k (frames_of fs) (timed_answers b fs) ≡ station_answers (station_of k b) (own_timed k fs))
  unfolding stations_after_all timed_answers station_after_all station_answers own_timed own_answers frames_of
  mixing b [] w = (refl, refl)
  mixing b (f ∷ fs) w = go (eqb (sender f) k) refl (mixing (stations_after b f) fs (whole-after b f w))
    where
      next : Stations
      next = stations_after b f

      own : List Timed
      own = own_timed k fs

      got : List Answer
      got = own_answers k (frames_of fs) (timed_answers next fs)

      go : (t : Bool) → eqb (sender f) k ≡ t
          → (station_of k (stations_after_all next fs) ≡ station_after_all (station_of k next) own) × (got ≡ station_answers (station_of k next) own)
          → (station_of k (stations_after_all next fs) ≡ station_after_all (station_of k b) (cond t (f ∷ own) own))
          × (cond t (timed_answer b f ∷ got) got ≡ station_answers (station_of k b) (cond t (f ∷ own) own))
      go true e ih =
          let h = eqb-true (sender f) k e in
          let s = own_station b f w h in (
            ih.0 ∙ ap (λ (t : Station). station_after_all t own) s,
            ap₂ (λ (a : Answer) (rest : List Answer). a ∷ rest) (own_answer b f h) (ih.1 ∙ ap (λ (t : Station). station_answers t own) s),
          )
      go false e ih =
          let s = others_stay b f k (eqb-false (sender f) k e) in
          (ih.0 ∙ ap (λ (t : Station). station_after_all t own) s, ih.1 ∙ ap (λ (t : Station). station_answers t own) s)

  -- So two runs in which k sends the same frames at the same times, whatever the others send in them, give k the same session, last time and answers.
  pub unmixed : (b c : Stations) (fs gs : List Timed) → Whole b → Whole c → station_of k b ≡ station_of k c → own_timed k fs ≡ own_timed k gs
      → (station_of k (stations_after_all b fs) ≡ station_of k (stations_after_all c gs))
      × (own_answers k (frames_of fs) (timed_answers b fs) ≡ own_answers k (frames_of gs) (timed_answers c gs))
  unmixed b c fs gs v w s e =
      let x = mixing b fs v in
      let y = mixing c gs w in
      (x.0 ∙ ap₂ station_after_all s e ∙ sym y.0, x.1 ∙ ap₂ station_answers s e ∙ sym y.1)

-- A run without times is the untimed run, and no last time changes.
module _ (b : Stations) (f : Frame) where
  abbrev plain : Timed
  plain = record { frame = f; time = None }

  pub plain_after : stations_after b plain ≡ record { sessions = sessions_after b.sessions f; times = b.times }
  plain_after = go (ltb (sender plain) 254)
    where
      s : Station
      s = (station_step (station_of (sender plain) b) plain).station

      go : (t : Bool) → cond t (with_station b (sender plain) (station_step (station_of (sender plain) b) plain).station) b
          ≡ record { sessions = cond t (set b.sessions (sender plain) (station_step (station_of (sender plain) b) plain).station.session) b.sessions; times = b.times }
      go true =
          let known = set-get_or b.times.known (sender plain) false in
          let at = set-get_or b.times.at (sender plain) 0 in
          λ i. record { sessions = set b.sessions (sender plain) (station_step (station_of (sender plain) b) plain).station.session; times = record { known = known i; at = at i } }
      go false = refl

  pub plain_answer : timed_answer b plain ≡ answer_to b.sessions f
  plain_answer = refl

pub untimed_run : (b : Stations) (fs : List Frame)
    → (stations_after_all b (untimed fs) ≡ record { sessions = sessions_after_all b.sessions fs; times = b.times })
    × (timed_answers b (untimed fs) ≡ answers_to_all b.sessions fs)
unfolding stations_after_all timed_answers sessions_after_all answers_to_all untimed
untimed_run b [] = (refl, refl)
untimed_run b (f ∷ fs) =
    let e = plain_after b f in
    let rest = untimed_run (record { sessions = sessions_after b.sessions f; times = b.times }) fs in (
      ap (λ (c : Stations). stations_after_all c (untimed fs)) e ∙ rest.0,
      ap (λ (l : List Answer). timed_answer b (plain b f) ∷ l) (ap (λ (c : Stations). timed_answers c (untimed fs)) e ∙ rest.1),
    )
