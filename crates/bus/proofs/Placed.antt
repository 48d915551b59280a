-- A frame does to the bytes where a session stands what it does to the session: each case of the rules, with the bytes that it leaves.
-- Assumes nothing.
use mathlib.Core.Path.{◌≡◌, refl, sym, ◌∙◌, ap}
use mathlib.Core.Bool.{Bool, true, false, cond}
use mathlib.Core.List.{List, [], ◌∷◌, ◌++◌}
use Prim.Native.Nat.{ℕ, zero, suc, ◌+◌, ◌-◌, ◌*◌, ◌≤◌, ◌<◌}
use native.Mathlib.Omega.{arith}
use borrow.Author.Tests.{lt-ltb, ne_eqb}
use lib.Dec.{ltb}
use lib.ListN.{length, get_or, take, drop, set, length-take}
use lib.Seq.{sets, set-get_or, set_out, get_or-drop, length-sets}
use Rattle.std.specs.Prelude.{Ok, Err}
use Rattle.refusal.specs.declared.Refusal.{Refusal}
use Rattle.refusal.specs.Numbers.{number_of}
use Rattle.refusal.proofs.Numbers.{number_above}
use Rattle.refusal.proofs.Answers.{refusal_back}
use Rattle.joining.specs.declared.Session.{Session}
use Rattle.joining.specs.Answers.{Answer}
use Rattle.refusal.specs.Answers.{refusal_of}
use Rattle.joining.specs.declared.Taken.{Taken}
use Rattle.joining.specs.Frame.{Frame, sender_of, frame_checked, frame_refusal}
use Rattle.joining.specs.Joining.{place, is_closed, fit, closed, stored, refused, take_frame}
use Rattle.joining.specs.Run.{nobody, session_of, sessions_after, answer_to}
use Rattle.joining.proofs.Fitness.{Open}
use Rattle.joining.proofs.Frames.{sound-frame, frame_stopped}
use Rattle.joining.proofs.Steps.{due, fit_numbers}
use Rattle.bus.specs.Room.{session_in, session_bytes, sessions_in, room_of}
use Rattle.bus.proofs.Places.{take-sets, session_of_lem, put_session, room_of_sessions}
use Rattle.bus.proofs.Rooms.{sessions_many}

-- A step's answer and bytes, where the step is known.
pub step : {t u : Taken} {r : Answer} {p : List ℕ} → t ≡ u → r ≡ u.answer → p ≡ session_bytes u.session → (r ≡ t.answer) × (p ≡ session_bytes t.session)
step e a b = rw e (a, b)

-- The expected packet's bytes, stored where the session stands.
pub stored_at : (p d : List ℕ) → Open (session_in p) → {q : List ℕ}
    → q ≡ sets p (place (session_in p)) (take ((session_in p).size - place (session_in p)) (drop 1 d))
    → take 89 q ≡ stored (session_in p) d
stored_at p d o e =
    let s = session_in p in
    let new = take (s.size - place s) (drop 1 d) in
    ap (take 89) e ∙ take-sets 89 p (place s) new (omega (arith, length-take (s.size - place s) (drop 1 d), due s o, o.high))

pub stored_long : (p d : List ℕ) → length p ≡ 92 → {q : List ℕ}
    → q ≡ sets p (place (session_in p)) (take ((session_in p).size - place (session_in p)) (drop 1 d)) → length q ≡ 92
stored_long p d h e =
    let s = session_in p in
    ap length e ∙ length-sets p (place s) (take (s.size - place s) (drop 1 d)) ∙ h

-- A frame in a room: one that is refused at once changes no byte, and another changes its sender's session.
module _ (room : List ℕ) (id : ℕ) (d : List ℕ) (long : length room ≡ 23368) where
  abbrev frame : Frame
  frame = record { identifier = id; data_bytes = d }

  abbrev sessions : List Session
  sessions = sessions_in room

  passed_by : (s : Session) → (frame_refusal id d ≡ 0 → ⊥) → take_frame s id d ≡ refused (frame_refusal id d) s
  unfolding take_frame
  passed_by s h = rw (ne_eqb (frame_refusal id d) 0 h)

  abbrev own : Session
  own = get_or sessions (sender_of id) nobody

  passed_over_lem : (b : Bool) → (frame_refusal id d ≡ 0 → ⊥)
      → (Err (refusal_of (frame_refusal id d)) ≡ cond b (take_frame own id d).answer (Err (refusal_of (frame_refusal id d))))
      × (room ≡ room_of (cond b (set sessions (sender_of id) (take_frame own id d).session) sessions))
  passed_over_lem true h =
      let t = passed_by own h in (
        ap (λ (u : Taken). u.answer) (sym t),
        sym
            (ap (λ (u : Taken). room_of (set sessions (sender_of id) u.session)) t
            ∙ ap room_of (set-get_or sessions (sender_of id) nobody)
            ∙ room_of_sessions 254 room long),
      )
  passed_over_lem false h = (refl, sym (room_of_sessions 254 room long))

  pub unheard : {n : ℕ} → n ≡ frame_refusal id d → (n ≡ 0 → ⊥) → (Err (refusal_of n) ≡ answer_to sessions frame) × (room ≡ room_of (sessions_after sessions frame))
  unheard e h =
      let p = passed_over_lem (ltb (sender_of id) 254) (λ z. h (e ∙ z)) in
      (ap (λ m. Err (refusal_of m)) e ∙ p.0, p.1)

  pub stopped_at : (r : Refusal) → Err r ≡ frame_checked id d → (Err r ≡ answer_to sessions frame) × (room ≡ room_of (sessions_after sessions frame))
  stopped_at r e =
      let both = unheard (sym (frame_stopped id d e)) (λ z. absurd (omega (arith, z, number_above r))) in
      (sym (ap (λ f. Err f) (refusal_back r)) ∙ both.0, both.1)

  pub heard : {r : Answer} {q : List ℕ} → frame_refusal id d ≡ 0 → r ≡ (take_frame (session_in (drop (92 * sender_of id) room)) id d).answer
      → q ≡ (take (92 * sender_of id) room ++ session_bytes (take_frame (session_in (drop (92 * sender_of id) room)) id d).session) ++ drop (92 * sender_of id + 92) room
      → (r ≡ answer_to sessions frame) × (q ≡ room_of (sessions_after sessions frame))
  heard e a b =
      let own : sender_of id < 254 = omega (arith, (sound-frame id d e).sender) in
      let same = session_of_lem 254 (sender_of id) room own in
      let put = put_session 254 (sender_of id) room (take_frame (session_in (drop (92 * sender_of id) room)) id d).session own long in
      rw (lt-ltb (sender_of id) 254 own, same) (a, b ∙ sym put)

-- Fitness, read off the numbers where they stand.
pub fit_read : (room : List ℕ) (at : ℕ)
    → fit (record { bytes = []; size = get_or room (at + 89) 0; count = get_or room (at + 90) 0; next = get_or room (at + 91) 0 }) ≡ fit (session_in (drop at room))
fit_read room at =
    let size = sym (get_or-drop at room 89 0) in
    let count = sym (get_or-drop at room 90 0) in
    let next = sym (get_or-drop at room 91 0) in
    (λ i. fit (record { bytes = []; size = size i; count = count i; next = next i })) ∙ fit_numbers (session_in (drop at room))

-- A closing in a room: it changes its sender's session, and for senders 254 and 255 there is none.
module _ (room : List ℕ) (k : ℕ) where
  pub closing : length room ≡ 23368 → k < 254 → {q : List ℕ}
      → q ≡ (take (92 * k) room ++ session_bytes (closed (session_in (drop (92 * k) room)))) ++ drop (92 * k + 92) room
      → q ≡ room_of (set (sessions_in room) k (closed (session_of k (sessions_in room))))
  closing long own e =
      e
      ∙ sym (put_session 254 k room (closed (session_in (drop (92 * k) room))) own long)
      ∙ ap (λ (s : Session). room_of (set (sessions_in room) k (closed s))) (sym (session_of_lem 254 k room own))

  pub none_there : length room ≡ 23368 → 254 ≤ k → (s : Session) → room ≡ room_of (set (sessions_in room) k s)
  none_there long past s =
      sym (room_of_sessions 254 room long) ∙ ap room_of (sym (set_out (sessions_in room) k s (rw (sessions_many 254 room) past)))

  pub none_unfit : 254 ≤ k → true ≡ fit (session_of k (sessions_in room))
  unfolding fit is_closed
  none_unfit past = sym (ap fit (get_d_out (sessions_in room) k (rw (sessions_many 254 room) past)))
    where
      get_d_out : (ss : List Session) (i : ℕ) → length ss ≤ i → get_or ss i nobody ≡ nobody
      get_d_out [] i h = refl
      get_d_out (s ∷ ss) zero h = absurd (omega (arith, h))
      get_d_out (s ∷ ss) (suc i) h = get_d_out ss i (omega arith)
