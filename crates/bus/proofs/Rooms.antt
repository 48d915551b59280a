-- A room that frames are taken in is that of the sessions which the rules lead to: every session keeps its 89 bytes, so that its place can be read back.
-- Assumes nothing.
use mathlib.Core.Path.{◌≡◌, refl, sym, ◌∙◌, ap, subst}
use mathlib.Core.Bool.{Bool, true, false, cond, not, false≢true}
use mathlib.Core.List.{List, [], ◌∷◌, ◌++◌}
use Prim.Native.Nat.{ℕ, zero, suc, ◌+◌, ◌*◌, ◌-◌, ◌<◌}
use native.Mathlib.Omega.{arith}
use borrow.Author.Tests.{ltb-true}
use lib.Dec.{eqb, ltb}
use lib.ListN.{length, get_or, take, drop, set, length-set, length-drop, length-append, length-replicate}
use lib.Seq.{length-sets, length-take-le}
use Rattle.joining.specs.declared.Session.{Session}
use Rattle.joining.specs.declared.Taken.{Taken}
use Rattle.joining.specs.Frame.{Frame, sender_of, frame_refusal}
use Rattle.joining.specs.Joining.{place, fit, refused, take_frame}
use Rattle.joining.specs.Run.{nobody, sessions_after, sessions_after_all, solo_step}
use Rattle.bus.specs.Room.{session_bytes, first_sessions_in, sessions_in, room_of, room_after_all}
use Rattle.joining.proofs.Cases.{Case, passed, shut, stray, good, next, last, cases}
use Rattle.bus.proofs.Places.{Sized, sessions_of_room, room_of_sessions, put_session}

-- A frame keeps the payload's length.
module _ (s : Session) (f : Frame) (long : length s.bytes ≡ 89) where
  fit_long : fit s ≡ true → length (solo_step s f).session.bytes ≡ 89
  fit_long fits = go (cases s f fits)
    where
      stored_long : length (lib.Seq.sets s.bytes (place s) (take (s.size - place s) (drop 1 f.data_bytes))) ≡ 89
      stored_long = length-sets s.bytes (place s) (take (s.size - place s) (drop 1 f.data_bytes)) ∙ long

      go : Case s f → length (solo_step s f).session.bytes ≡ 89
      go (passed n l u p e) = rw e long
      go (shut n p e) = rw e long
      go (stray p z e) = rw e long
      go (good p k a e) = rw e (length-replicate {A = ℕ} 89 255)
      go (next p o n l e) = rw e stored_long
      go (last p o n l e) = rw e stored_long

  unfit_long : (a b : Bool) (n : ℕ) (t : Taken) → b ≡ false → length (cond (not a) (refused n s) (cond (not b) (refused 24 s) t)).session.bytes ≡ 89
  unfit_long false b n t e = long
  unfit_long true false n t e = long
  unfit_long true true n t e = absurd (false≢true (sym e))

  pub step_long : length (solo_step s f).session.bytes ≡ 89
  unfolding take_frame
  step_long = go (fit s) refl
    where
      go : (b : Bool) → fit s ≡ b → length (solo_step s f).session.bytes ≡ 89
      go true e = fit_long e
      go false e = unfit_long (eqb (frame_refusal f.identifier f.data_bytes) 0) (fit s) (frame_refusal f.identifier f.data_bytes) _ e

-- Sessions of 89 bytes each.
sized_get : (ss : List Session) (k : ℕ) → Sized ss → k < length ss → length (get_or ss k nobody).bytes ≡ 89
sized_get [] k h l = absurd (omega (arith, l))
sized_get (s ∷ ss) zero h l = h.0
sized_get (s ∷ ss) (suc k) h l = sized_get ss k h.1 (omega arith)

pub sized_more : (k : ℕ) (ss : List Session) → k < length ss → Sized (take k ss) → length (get_or ss k nobody).bytes ≡ 89 → Sized (take (k + 1) ss)
sized_more k [] h z l = absurd (omega (arith, h))
sized_more zero (s ∷ ss) h z l = (l, none ss)
  where
    none : (r : List Session) → Sized (take 0 r)
    none [] = tt
    none (x ∷ r) = tt
sized_more (suc k) (s ∷ ss) h z l =
    let on : suc k + 1 ≡ suc (k + 1) = omega arith in
    subst (λ (n : ℕ). Sized (take n (s ∷ ss))) (sym on) (z.0, sized_more k ss (omega arith) z.1 l)

sized_set : (ss : List Session) (k : ℕ) (s : Session) → Sized ss → length s.bytes ≡ 89 → Sized (set ss k s)
sized_set [] k s h l = tt
sized_set (t ∷ ss) zero s h l = (l, h.1)
sized_set (t ∷ ss) (suc k) s h l = (h.0, sized_set ss k s h.1 l)

pub sessions-sized : (n : ℕ) (room : List ℕ) → length room ≡ 92 * n → Sized (first_sessions_in n room)
unfolding first_sessions_in
sessions-sized zero room h = tt
sessions-sized (suc n) room h =
    (length-take-le 89 room (omega arith), sessions-sized n (drop 92 room) (omega (arith, length-drop 92 room)))

pub sessions_many : (n : ℕ) (room : List ℕ) → length (first_sessions_in n room) ≡ n
unfolding first_sessions_in
sessions_many zero room = refl
sessions_many (suc n) room = ap suc (sessions_many n (drop 92 room))

pub room_long : (ss : List Session) → Sized ss → length (room_of ss) ≡ 92 * length ss
unfolding room_of
room_long [] h = refl
room_long (s ∷ ss) h =
    omega
    (arith, h.0, room_long ss h.1, length-append (session_bytes s) (room_of ss), length-append s.bytes (s.size ∷ s.count ∷ s.next ∷ []))

-- The room of 254 sessions, read back.
pub read_back : (ss : List Session) → Sized ss → length ss ≡ 254 → sessions_in (room_of ss) ≡ ss
read_back ss h l = ap (λ (n : ℕ). first_sessions_in n (room_of ss)) (sym l) ∙ sessions_of_room ss h

-- A session's bytes put at 92 k: sender k has that session, and nobody else another.
pub put_there : (room : List ℕ) (k : ℕ) (s : Session) → k < 254 → length room ≡ 23368 → length s.bytes ≡ 89
    → sessions_in ((take (92 * k) room ++ session_bytes s) ++ drop (92 * k + 92) room) ≡ set (sessions_in room) k s
put_there room k s h l long =
    ap sessions_in (sym (put_session 254 k room s h l))
    ∙ read_back (set (sessions_in room) k s) (sized_set (sessions_in room) k s (sessions-sized 254 room l) long) (length-set (sessions_in room) k s ∙ sessions_many 254 room)

-- A session of 89 bytes in another's place: the bytes are a room again, and it holds that session.
pub set_room : (room : List ℕ) (k : ℕ) (s : Session) → length room ≡ 23368 → length s.bytes ≡ 89
    → (length (room_of (set (sessions_in room) k s)) ≡ 23368) × (sessions_in (room_of (set (sessions_in room) k s)) ≡ set (sessions_in room) k s)
set_room room k s l long =
    let sized = sized_set (sessions_in room) k s (sessions-sized 254 room l) long in
    let many = length-set (sessions_in room) k s ∙ sessions_many 254 room in
    (omega (arith, room_long (set (sessions_in room) k s) sized, many), read_back (set (sessions_in room) k s) sized many)

pub session_long : (room : List ℕ) (k : ℕ) → length room ≡ 23368 → k < 254 → length (get_or (sessions_in room) k nobody).bytes ≡ 89
session_long room k l h = sized_get (sessions_in room) k (sessions-sized 254 room l) (rw (sessions_many 254 room) h)

-- The sessions that a frame leaves are 254 of 89 bytes again.
after-sized : (ss : List Session) (f : Frame) → Sized ss → length ss ≡ 254 → Sized (sessions_after ss f) × (length (sessions_after ss f) ≡ 254)
after-sized ss f h l = go (ltb (sender_of f.identifier) 254) refl
  where
    go : (b : Bool) → ltb (sender_of f.identifier) 254 ≡ b
        → Sized (cond b (set ss (sender_of f.identifier) (solo_step (get_or ss (sender_of f.identifier) nobody) f).session) ss)
        × (length (cond b (set ss (sender_of f.identifier) (solo_step (get_or ss (sender_of f.identifier) nobody) f).session) ss) ≡ 254)
    go true e =
        let k = sender_of f.identifier in
        let long = sized_get ss k h (omega (arith, l, ltb-true k 254 e)) in
        (sized_set ss k _ h (step_long (get_or ss k nobody) f long), length-set ss k _ ∙ l)
    go false e = (h, l)

-- What `Bus::take` leaves is a room again, and it holds those sessions.
pub next_room : (room : List ℕ) (f : Frame) → length room ≡ 23368
    → (length (room_of (sessions_after (sessions_in room) f)) ≡ 23368) × (sessions_in (room_of (sessions_after (sessions_in room) f)) ≡ sessions_after (sessions_in room) f)
next_room room f l =
    let after = after-sized (sessions_in room) f (sessions-sized 254 room l) (sessions_many 254 room) in
    (omega (arith, room_long (sessions_after (sessions_in room) f) after.0, after.1), read_back (sessions_after (sessions_in room) f) after.0 after.1)

-- So is what a run of frames leaves, taken one after the other.
pub room_after_run : (room : List ℕ) (fs : List Frame) → length room ≡ 23368 → room_after_all room fs ≡ room_of (sessions_after_all (sessions_in room) fs)
unfolding room_after_all sessions_after_all
room_after_run room [] l = sym (room_of_sessions 254 room l)
room_after_run room (f ∷ fs) l =
    let after = next_room room f l in
    room_after_run (room_of (sessions_after (sessions_in room) f)) fs after.0 ∙ ap (λ (ss : List Session). room_of (sessions_after_all ss fs)) after.1
