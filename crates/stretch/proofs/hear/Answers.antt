-- The frame is read off its 12 bytes behind its place, and its sender's session takes it.
-- Assumes nothing.
use mathlib.Core.Path.{◌≡◌, ap, ◌∙◌}
use mathlib.Core.List.{List}
use Prim.Native.Nat.{ℕ, ◌+◌, ◌-◌}
use native.Mathlib.Omega.{arith}
use lib.ListN.{take, drop}
use Rattle.wire.specs.Bytes.{number, part}
use Rattle.window.specs.declared.Counts.{Counts}
use Rattle.joining.specs.Answers.{Answer}
use Rattle.joining.specs.Frame.{Frame}
use Rattle.joining.specs.Run.{sessions_after, answer_to}
use Rattle.bus.specs.Room.{room_of}
use Rattle.times.specs.declared.Times.{Times}
use Rattle.times.specs.Run.{Stations, stations_in}
use Rattle.journal.specs.Log.{frame_in}
use Rattle.stretch.specs.declared.Brought.{Brought}
use Rattle.stretch.specs.declared.Begun.{Begun}
use Rattle.stretch.specs.Inner.{brought, times_by, HearsAt}
use Rattle.stretch.proofs.hear.Goals as goal

-- The value of a frame, by its ends and by its length.
twelve : (i : ℕ) (l : List ℕ) → take (i + 15 - (i + 3)) (drop (i + 3) l) ≡ part (i + 3) 12 l
twelve i l =
    let n : i + 15 - (i + 3) ≡ 12 = omega arith in
    ap (λ (k : ℕ). take k (drop (i + 3) l)) n

heard : (b : Stations) (g : Begun) (c : Counts) (v w : List ℕ) {id : ℕ} {a : Answer} {r : Brought} {room : List ℕ} {left : Times} → v ≡ w → id ≡ number (part 0 4 v)
    → (a ≡ answer_to b.sessions (record { identifier = id; data_bytes = part 4 8 v })) × (room ≡ room_of (sessions_after b.sessions (record { identifier = id; data_bytes = part 4 8 v })))
    → (r ≡ brought a c) × (left ≡ times_by g a id b.times) → HearsAt b g (frame_in w).frame c r room left
heard b g c v w {id} {a} e-v e t h =
    let frame : ◌≡◌ {A = Frame} (record { identifier = id; data_bytes = part 4 8 v }) (frame_in w).frame = (λ j. record { identifier = e j; data_bytes = part 4 8 v }) ∙ ap (λ (x : List ℕ). (frame_in x).frame) e-v in
    record {
      answer = a;
      answers = t.0 ∙ ap (answer_to b.sessions) frame;
      sessions = t.1 ∙ ap (λ (x : Frame). room_of (sessions_after b.sessions x)) frame;
      times = h.1 ∙ ap (λ (x : Frame). times_by g a x.identifier b.times) frame;
      brings = h.0;
    }

pub returns : goal.returns
returns c =
    let a = c.args in
    heard (stations_in c.args.room.now c.args.times.now) c.args.begun c.args.counts _ _ (twelve c.args.begun.place c.args.bytes.now) c.read32-id.ensures (c.take-answer.ensures.value, c.take-answer.ensures.room_after) (c.brings.ensures.value, c.brings.ensures.times_after)
