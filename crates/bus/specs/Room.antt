-- All sessions in one array of bytes that a caller lends: 92 bytes for each sender, in their order.
use Rattle.std.specs.Prelude.{ℕ, zero, suc, ◌+◌, List, [], ◌∷◌, ◌++◌, get_or, take, drop}
use Rattle.joining.specs.declared.Session.{Session}
use Rattle.joining.specs.Answers.{Answer}
use Rattle.joining.specs.Frame.{Frame}
use Rattle.report.specs.Payload.{largest_payload}
use Rattle.joining.specs.Run.{senders, sessions_after, answer_to}

-- The bytes of a session's place, and of all places.
abbrev pub place_bytes : ℕ
place_bytes = 92

abbrev pub room_bytes : ℕ
room_bytes = 23368

-- A session as 92 bytes: its 89 payload bytes, then size, count and next packet.
abbrev pub session_bytes : Session → List ℕ
session_bytes s = s.bytes ++ (s.size ∷ s.count ∷ s.next ∷ [])

-- The session that stands at the front of bytes.
abbrev pub session_in : List ℕ → Session
session_in p = record { bytes = take largest_payload p; size = get_or p largest_payload 0; count = get_or p (largest_payload + 1) 0; next = get_or p (largest_payload + 2) 0 }

-- The sessions of the first n senders.
unfoldable pub first_sessions_in : ℕ → List ℕ → List Session
first_sessions_in zero room = []
first_sessions_in (suc n) room = session_in room ∷ first_sessions_in n (drop place_bytes room)

-- Rule 3.1: the sessions of all senders.
abbrev pub sessions_in : List ℕ → List Session
sessions_in room = first_sessions_in senders room

-- Sessions as bytes, one after the other.
unfoldable pub room_of : List Session → List ℕ
room_of [] = []
room_of (s ∷ ss) = session_bytes s ++ room_of ss

-- The room that a run of frames leaves, taken one after the other.
unfoldable pub room_after_all : List ℕ → List Frame → List ℕ
room_after_all room [] = room
room_after_all room (f ∷ fs) = room_after_all (room_of (sessions_after (sessions_in room) f)) fs

-- And what each of them is answered.
unfoldable pub room_answers : List ℕ → List Frame → List Answer
room_answers room [] = []
room_answers room (f ∷ fs) = answer_to (sessions_in room) f ∷ room_answers (room_of (sessions_after (sessions_in room) f)) fs
