-- A session stands in its 92 bytes and nowhere else: what is stored there is that sender's session, and the bytes of the others stay.
-- Assumes nothing.
use mathlib.Core.Path.{◌≡◌, refl, sym, ◌∙◌, ap}
use mathlib.Core.List.{List, [], ◌∷◌, ◌++◌, append_assoc, append-nil}
use Prim.Native.Nat.{ℕ, zero, suc, ◌+◌, ◌*◌, ◌≤◌, ◌<◌}
use native.Mathlib.Omega.{arith}
use native.Mathlib.Numerals.{add-one}
use lib.ListN.{length, get_or, take, drop, set, replicate, replicate-append-replicate, length-drop, length-append, take-append-drop}
use lib.Seq.{sets, sets-eq, drop-cons, drop-length, take-length, drop-drop, take-add, take-suc, take-suc-set, take_at, drop_at, get_or-drop, get_or-take, take-take, take-set-lt}
use Rattle.wire.specs.Bytes.{part}
use Rattle.wire.proofs.Stores.{sets-append}
use Rattle.joining.specs.declared.Session.{Session}
use Rattle.joining.specs.Run.{nobody}
use Rattle.bus.specs.Room.{session_in, session_bytes, first_sessions_in, room_of}

drop-end : (p : List ℕ) (n : ℕ) → length p ≡ n → drop n p ≡ []
drop-end p n h = ap (λ (k : ℕ). drop k p) (sym h) ∙ drop-length p

-- The three numbers, stored one after the other.
pub put_numbers : (p : List ℕ) (a b c : ℕ) → length p ≡ 92 → set (set (set p 89 a) 90 b) 91 c ≡ take 89 p ++ (a ∷ b ∷ c ∷ [])
put_numbers p a b c h =
    sets-eq (a ∷ b ∷ c ∷ []) p 89 (omega arith)
    ∙ ap (λ (r : List ℕ). (take 89 p ++ (a ∷ b ∷ c ∷ [])) ++ r) (drop-end p 92 h)
    ∙ append-nil (take 89 p ++ (a ∷ b ∷ c ∷ []))

numbers : (p : List ℕ) → 92 ≤ length p → drop 89 p ≡ get_or p 89 0 ∷ get_or p 90 0 ∷ get_or p 91 0 ∷ drop 92 p
numbers p h =
    drop-cons p 89 0 (omega arith)
    ∙ ap (λ (r : List ℕ). get_or p 89 0 ∷ r)
    (drop-cons p 90 0 (omega arith) ∙ ap (λ (r : List ℕ). get_or p 90 0 ∷ r) (drop-cons p 91 0 (omega arith)))

-- The session at the front, as bytes, is the first 92 bytes.
pub front : (p : List ℕ) → 92 ≤ length p → session_bytes (session_in p) ≡ take 92 p
front p h = sym (take-add 89 3 p ∙ ap (λ (r : List ℕ). take 89 p ++ take 3 r) (numbers p h))

pub whole : (p : List ℕ) → length p ≡ 92 → session_bytes (session_in p) ≡ p
whole p h = front p (omega arith) ∙ ap (λ (k : ℕ). take k p) (sym h) ∙ take-length p

-- The other way: bytes that start with a session's hold that session.
module _ (s : Session) (rest : List ℕ) (long : length s.bytes ≡ 89) where
  together : session_bytes s ++ rest ≡ s.bytes ++ (s.size ∷ s.count ∷ s.next ∷ rest)
  together = append_assoc s.bytes (s.size ∷ s.count ∷ s.next ∷ []) rest

  tail : drop 89 (session_bytes s ++ rest) ≡ s.size ∷ s.count ∷ s.next ∷ rest
  tail = ap (drop 89) together ∙ drop_at s.bytes (s.size ∷ s.count ∷ s.next ∷ rest) 89 long

  pub stands : session_in (session_bytes s ++ rest) ≡ s
  stands =
      let p = session_bytes s ++ rest in
      let bytes = ap (take 89) together ∙ take_at s.bytes (s.size ∷ s.count ∷ s.next ∷ rest) 89 long in
      let size = sym (get_or-drop 89 p 0 0) ∙ ap (λ (r : List ℕ). get_or r 0 0) tail in
      let count = sym (get_or-drop 89 p 1 0) ∙ ap (λ (r : List ℕ). get_or r 1 0) tail in
      let next = sym (get_or-drop 89 p 2 0) ∙ ap (λ (r : List ℕ). get_or r 2 0) tail in
      λ i. record { bytes = bytes i; size = size i; count = count i; next = next i }

  pub behind : drop 92 (session_bytes s ++ rest) ≡ rest
  behind = sym (drop-drop 3 89 (session_bytes s ++ rest)) ∙ ap (drop 3) tail

-- A room holds sessions, and sessions fill a room.
abbrev pub Sized : List Session → Type 0
Sized [] = Unit
Sized (s ∷ ss) = (length s.bytes ≡ 89) × Sized ss

pub sessions_of_room : (ss : List Session) → Sized ss → first_sessions_in (length ss) (room_of ss) ≡ ss
unfolding first_sessions_in room_of
sessions_of_room [] h = refl
sessions_of_room (s ∷ ss) h =
    let first = stands s (room_of ss) h.0 in
    let others = ap (first_sessions_in (length ss)) (behind s (room_of ss) h.0) ∙ sessions_of_room ss h.1 in
    λ i. first i ∷ others i

pub room_of_sessions : (n : ℕ) (room : List ℕ) → length room ≡ 92 * n → room_of (first_sessions_in n room) ≡ room
unfolding first_sessions_in room_of
room_of_sessions zero [] h = refl
room_of_sessions zero (b ∷ room) h = absurd (omega (arith, h))
room_of_sessions (suc n) room h =
    ap (λ (r : List ℕ). session_bytes (session_in room) ++ r) (room_of_sessions n (drop 92 room) (omega (arith, length-drop 92 room)))
    ∙ ap (λ (r : List ℕ). r ++ drop 92 room) (front room (omega arith))
    ∙ take-append-drop 92 room

-- The session of sender k.
pub session_of_lem : (n k : ℕ) (room : List ℕ) → k < n → get_or (first_sessions_in n room) k nobody ≡ session_in (drop (92 * k) room)
unfolding first_sessions_in
session_of_lem zero k room h = absurd (omega (arith, h))
session_of_lem (suc n) zero room h = refl
session_of_lem (suc n) (suc k) room h =
    let place : 92 + 92 * k ≡ 92 * suc k = omega arith in
    session_of_lem n k (drop 92 room) (omega arith)
    ∙ ap session_in (drop-drop (92 * k) 92 room ∙ ap (λ (m : ℕ). drop m room) place)

-- A session put in its place: the bytes before and behind it stay.
pub put_session : (n k : ℕ) (room : List ℕ) (s : Session) → k < n → length room ≡ 92 * n
    → room_of (set (first_sessions_in n room) k s) ≡ (take (92 * k) room ++ session_bytes s) ++ drop (92 * k + 92) room
unfolding first_sessions_in room_of
put_session zero k room s h l = absurd (omega (arith, h))
put_session (suc n) zero room s h l =
    ap (λ (r : List ℕ). session_bytes s ++ r) (room_of_sessions n (drop 92 room) (omega (arith, length-drop 92 room)))
put_session (suc n) (suc k) room s h l =
    let place : 92 + 92 * k ≡ 92 * suc k = omega arith in
    let end : 92 + (92 * k + 92) ≡ 92 * suc k + 92 = omega arith in
    let before = take (92 * k) (drop 92 room) in
    let after = drop (92 * k + 92) (drop 92 room) in
    let rest = put_session n k (drop 92 room) s (omega arith) (omega (arith, length-drop 92 room)) in
    let start : take 92 room ++ before ≡ take (92 * suc k) room = sym (take-add 92 (92 * k) room) ∙ ap (λ (m : ℕ). take m room) place in
    let last : after ≡ drop (92 * suc k + 92) room = drop-drop (92 * k + 92) 92 room ∙ ap (λ (m : ℕ). drop m room) end in
    (λ i. front room (omega arith) i ++ rest i)
    ∙ sym (append_assoc (take 92 room) (before ++ session_bytes s) after)
    ∙ ap (λ (r : List ℕ). r ++ after) (sym (append_assoc (take 92 room) before (session_bytes s)))
    ∙ (λ i. (start i ++ session_bytes s) ++ last i)

-- One byte more is 255.
pub cleared : (p : List ℕ) (i : ℕ) → i < length p → take i p ≡ replicate i 255 → take (i + 1) (set p i 255) ≡ replicate (i + 1) 255
cleared p i h e =
    ap (λ (k : ℕ). take k (set p i 255)) (add-one i)
    ∙ take-suc-set p i 255 h
    ∙ ap (λ (r : List ℕ). r ++ (255 ∷ [])) e
    ∙ replicate-append-replicate i 1 255

-- A session is read off its 92 bytes alone.
pub first_92 : (q : List ℕ) → session_in (take 92 q) ≡ session_in q
first_92 q =
    let bytes = take-take 89 92 q (omega arith) in
    let size = get_or-take 92 q 89 0 (omega arith) in
    let count = get_or-take 92 q 90 0 (omega arith) in
    let next = get_or-take 92 q 91 0 (omega arith) in
    λ i. record { bytes = bytes i; size = size i; count = count i; next = next i }

-- What is stored within the first n bytes is stored in them.
pub take-sets : (n : ℕ) (l : List ℕ) (i : ℕ) (v : List ℕ) → i + length v ≤ n → take n (sets l i v) ≡ sets (take n l) i v
take-sets n l i [] h = refl
take-sets n l i (a ∷ v) h =
    take-sets n (set l i a) (suc i) v (omega arith) ∙ ap (λ (r : List ℕ). sets r (suc i) v) (take-set-lt n l i a (omega arith))

-- A value as long as the bytes replaces them all.
pub overwritten : (l v : List ℕ) → length v ≡ length l → sets l 0 v ≡ v
overwritten l v h =
    sets-eq v l 0 (omega arith)
    ∙ ap (λ (r : List ℕ). v ++ r) (drop-end l (0 + length v) (omega arith))
    ∙ append-nil v

-- A session, stored in four parts.
pub four_stores : (room : List ℕ) (at : ℕ) (s : Session) → length s.bytes ≡ 89 → {q : List ℕ} → q ≡ sets room at s.bytes
    → set (set (set q (at + 89) s.size) (at + 90) s.count) (at + 91) s.next ≡ sets room at (session_bytes s)
four_stores room at s long {q} e =
    let second : at + 90 ≡ suc (at + 89) = omega arith in
    let third : at + 91 ≡ suc (suc (at + 89)) = omega arith in
    let numbers : List ℕ = s.size ∷ s.count ∷ s.next ∷ [] in
    (λ i. set (set (set q (at + 89) s.size) (second i) s.count) (third i) s.next)
    ∙ ap (λ (r : List ℕ). sets r (at + 89) numbers) e
    ∙ ap (λ (k : ℕ). sets (sets room at s.bytes) (at + k) numbers) (sym long)
    ∙ sym (sets-append room at s.bytes numbers)

-- The session at a place, read in four parts.
pub four_reads : (room : List ℕ) (at : ℕ) {q : List ℕ} → q ≡ part at 89 room
    → record { bytes = q; size = get_or room (at + 89) 0; count = get_or room (at + 90) 0; next = get_or room (at + 91) 0 } ≡ session_in (drop at room)
four_reads room at e =
    let size = sym (get_or-drop at room 89 0) in
    let count = sym (get_or-drop at room 90 0) in
    let next = sym (get_or-drop at room 91 0) in
    λ i. record { bytes = e i; size = size i; count = count i; next = next i }

-- One session more.
pub room_more : (ss : List Session) (s : Session) → room_of (ss ++ (s ∷ [])) ≡ room_of ss ++ session_bytes s
unfolding room_of
room_more [] s = append-nil (session_bytes s)
room_more (t ∷ ss) s = ap (λ (r : List ℕ). session_bytes t ++ r) (room_more ss s) ∙ sym (append_assoc (session_bytes t) (room_of ss) (session_bytes s))

pub sessions_more : (n : ℕ) (room : List ℕ) → first_sessions_in (suc n) room ≡ first_sessions_in n room ++ (session_in (drop (92 * n) room) ∷ [])
unfolding first_sessions_in
sessions_more zero room = refl
sessions_more (suc n) room =
    let place : 92 + 92 * n ≡ 92 * suc n = omega arith in
    ap (λ (r : List Session). session_in room ∷ r)
    (sessions_more n (drop 92 room)
    ∙ ap (λ (q : List ℕ). first_sessions_in n (drop 92 room) ++ (session_in q ∷ [])) (drop-drop (92 * n) 92 room ∙ ap (λ (m : ℕ). drop m room) place))

-- A turn of the loop that stores the sessions, and of the one that reads them.
pub stores_more : (room : List ℕ) (ss : List Session) (k : ℕ) → k < length ss → length (get_or ss k nobody).bytes ≡ 89 → length (room_of (take k ss)) ≡ 92 * k
    → {q r : List ℕ} → q ≡ sets room 0 (room_of (take k ss)) → r ≡ sets q (92 * k) (session_bytes (get_or ss k nobody))
    → (length (room_of (take (k + 1) ss)) ≡ 92 * (k + 1)) × (r ≡ sets room 0 (room_of (take (k + 1) ss)))
stores_more room ss k h long e {q} {r} f g =
    let s = get_or ss k nobody in
    let more : room_of (take (k + 1) ss) ≡ room_of (take k ss) ++ session_bytes s =
    ap (λ (n : ℕ). room_of (take n ss)) (add-one k) ∙ ap room_of (take-suc ss k nobody h) ∙ room_more (take k ss) s in
    let there : 0 + length (room_of (take k ss)) ≡ 92 * k = omega (arith, e) in (
      ap length more
          ∙ omega (arith, e, long, length-append (room_of (take k ss)) (session_bytes s), length-append s.bytes (s.size ∷ s.count ∷ s.next ∷ [])),
      g
          ∙ ap (λ (l : List ℕ). sets l (92 * k) (session_bytes s)) f
          ∙ ap (λ (n : ℕ). sets (sets room 0 (room_of (take k ss))) n (session_bytes s)) (sym there)
          ∙ sym (sets-append room 0 (room_of (take k ss)) (session_bytes s))
          ∙ ap (sets room 0) (sym more),
    )

pub reads_more : (room : List ℕ) (ss : List Session) (k : ℕ) → k < length ss → take k ss ≡ first_sessions_in k room
    → {s : Session} → s ≡ session_in (drop (92 * k) room) → take (k + 1) (set ss k s) ≡ first_sessions_in (k + 1) room
reads_more room ss k h e {s} f =
    ap (λ (n : ℕ). take n (set ss k s)) (add-one k)
    ∙ take-suc-set ss k s h
    ∙ (λ i. e i ++ (f i ∷ []))
    ∙ sym (sessions_more k room)
    ∙ ap (λ (n : ℕ). first_sessions_in n room) (sym (add-one k))
