-- A frame goes to its sender's session, where it has one, and one with a time to its last time too.
-- Assumes nothing.
use mathlib.Core.Path.{◌≡◌, sym, ap, ◌∙◌}
use mathlib.Core.List.{List}
use Prim.Native.Nat.{ℕ, ◌≤◌, ◌<◌}
use native.Mathlib.Omega.{arith}
use borrow.Author.Tests.{lt-ltb, le-ltb}
use lib.ListN.{set}
use Rattle.joining.specs.Frame.{sender_of, frame_refusal}
use Rattle.joining.specs.Joining.{take_frame}
use Rattle.joining.specs.Run.{session_of}
use Rattle.joining.specs.declared.Taken.{Taken}
use Rattle.joining.proofs.Frames.{frame_refusals, unheard_refused}
use Rattle.joining.proofs.Answers.{number_back}
use Rattle.times.specs.declared.Heard.{Heard}
use Rattle.times.specs.declared.Last.{Last}
use Rattle.times.specs.Timed.{timed_frame, last_of}
use Rattle.times.specs.Run.{Timed, sender, Stations, with_station, timed_answer, timed_at, untimed_at}
use Rattle.times.proofs.Mixing.{plain_after}
use Rattle.journal.specs.declared.Log.{Log}
use Rattle.journal.specs.Log.{stations_of, with_stations, refused, answer_item, frame_item}

pub unheard : (log : Log) (f : Timed) → 254 ≤ sender f → {n : ℕ} → n ≡ frame_refusal f.frame.identifier f.frame.data_bytes → refused log n ≡ frame_item log f
unfolding frame_item
unheard log f h e =
    let g = f.frame in
    rw e (sym (rw (le-ltb (sender f) 254 h, number_back _ (unheard_refused g.identifier g.data_bytes h) (omega (arith, frame_refusals g.identifier g.data_bytes)))))

-- What is left behind it, step by step: without a time the times stay, ...
module _ (log : Log) (id : ℕ) (ds : List ℕ) (there : sender_of id < 254) {left : Log} where
  pub heard : {taken : Taken} → taken ≡ take_frame (session_of (sender_of id) log.sessions) id ds
      → left ≡ with_stations log (record { sessions = set log.sessions (sender_of id) taken.session; times = log.times })
      → answer_item left taken.answer ≡ frame_item log (untimed_at id ds)
  unfolding frame_item
  heard t e =
      let f = untimed_at id ds in
      rw (e, t) (sym (ap (λ (b : Stations). answer_item (with_stations log b) (timed_answer (stations_of log) f)) (plain_after (stations_of log) f.frame) ∙ rw (lt-ltb (sender_of id) 254 there)))

  -- ... and with one the sender's own is put back too.
  pub heard_timed : (time : ℕ) {last : Last} {taken : Heard} → last ≡ last_of (sender_of id) log.times
      → taken ≡ timed_frame (record { session = session_of (sender_of id) log.sessions; last = last }) time id ds
      → left ≡ with_stations log (with_station (stations_of log) (sender_of id) taken.station)
      → answer_item left taken.answer ≡ frame_item log (timed_at time id ds)
  unfolding frame_item
  heard_timed time l t e = rw (e, t, l) (sym (rw (lt-ltb (sender_of id) 254 there)))
