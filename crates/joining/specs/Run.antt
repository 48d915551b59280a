-- What a run of frames does to all sessions (docs/RULES.md, rule 3.1).
use Rattle.std.specs.Prelude.{ℕ, suc, ◌≡◌, Bool, true, cond, not, ◌&&◌, ◌||◌, List, [], ◌∷◌, ◌++◌, length, get_or, take, drop, set, replicate, ltb, eqb}
use Rattle.report.specs.Payload.{read_payload}
use Rattle.report.specs.declared.Report.{Report}
use Rattle.std.specs.Prelude.{Ok}
use Rattle.joining.specs.declared.Session.{Session}
use Rattle.joining.specs.Answers.{Answer}
use Rattle.std.specs.Prelude.{None, Err}
use Rattle.refusal.specs.Answers.{refusal_of}
use Rattle.joining.specs.declared.Taken.{Taken}
use Rattle.joining.specs.Frame.{Frame, sender_of, frame_refusal, is_announcement, is_packet}
use Rattle.joining.specs.Joining.{packets, fit, fresh_session, opened, size_in, take_frame}

-- Rule 3.1: a session for each sender from 0 to 253: how many there are, and all of them, fresh.
abbrev pub senders : ℕ
senders = 254

abbrev pub fresh_sessions : List Session
fresh_sessions = replicate senders fresh_session

-- What stands past the last session.
abbrev pub nobody : Session
nobody = record { bytes = []; size = 0; count = 0; next = 0 }

-- The session of sender k.
abbrev pub session_of : ℕ → List Session → Session
session_of k ss = get_or ss k nobody

-- Rule 3.1: the sessions that a frame leaves; it changes its sender's and no other.
abbrev pub sessions_after : List Session → Frame → List Session
sessions_after ss f =
    cond (ltb (sender_of f.identifier) senders)
    (set ss (sender_of f.identifier) (take_frame (session_of (sender_of f.identifier) ss) f.identifier f.data_bytes).session)
    ss

-- What a frame is answered; those of senders 254 and 255 belong to no session.
abbrev pub answer_to : List Session → Frame → Answer
answer_to ss f =
    cond (ltb (sender_of f.identifier) senders)
    (take_frame (session_of (sender_of f.identifier) ss) f.identifier f.data_bytes).answer
    (Err (refusal_of (frame_refusal f.identifier f.data_bytes)))

-- A run of frames: the sessions at its end, and the answers in order.
unfoldable pub sessions_after_all : List Session → List Frame → List Session
sessions_after_all ss [] = ss
sessions_after_all ss (f ∷ fs) = sessions_after_all (sessions_after ss f) fs

unfoldable pub answers_to_all : List Session → List Frame → List Answer
answers_to_all ss [] = []
answers_to_all ss (f ∷ fs) = answer_to ss f ∷ answers_to_all (sessions_after ss f) fs

-- Rule 3.8: a frame of a session's own sender, taken by it.
abbrev pub solo_step : Session → Frame → Taken
solo_step s f = take_frame s f.identifier f.data_bytes

-- One session with its own sender's frames and nothing else on the bus: the session at the end, and the answers in order.
unfoldable pub solo_session : Session → List Frame → Session
solo_session s [] = s
solo_session s (f ∷ fs) = solo_session (solo_step s f).session fs

unfoldable pub solo_answers : Session → List Frame → List Answer
solo_answers s [] = []
solo_answers s (f ∷ fs) = (solo_step s f).answer ∷ solo_answers (solo_step s f).session fs

-- The frames that name k as their sender, in their order.
unfoldable pub own_frames : ℕ → List Frame → List Frame
own_frames k [] = []
own_frames k (f ∷ fs) = cond (eqb (sender_of f.identifier) k) (f ∷ own_frames k fs) (own_frames k fs)

-- The answers that those frames got, of the answers to all frames: one stands for each frame.
unfoldable pub own_answers : ℕ → List Frame → List Answer → List Answer
own_answers k [] all = []
own_answers k (f ∷ fs) [] = []
own_answers k (f ∷ fs) (a ∷ all) = cond (eqb (sender_of f.identifier) k) (a ∷ own_answers k fs all) (own_answers k fs all)

-- Frames of one and the same sender.
abbrev pub OfSender : ℕ → List Frame → Type 0
OfSender k [] = Unit
OfSender k (f ∷ fs) = (sender_of f.identifier ≡ k) × OfSender k fs

-- Refusals 1 to 4, which are given whatever the session is, and change nothing.
unfoldable pub is_passed_over : Frame → Bool
is_passed_over f =
    not (eqb (frame_refusal f.identifier f.data_bytes) 0)
    || is_announcement f.identifier && not (eqb (get_or f.data_bytes 0 0) 32)

-- The other frames, in their order.
unfoldable pub heard : List Frame → List Frame
heard [] = []
heard (f ∷ fs) = cond (is_passed_over f) (heard fs) (f ∷ heard fs)

-- Rule 3.4: an announcement that opens every fit session, open or closed, for this size.
pub record Announces (size : ℕ) (f : Frame) : Type 0 where
  pub announcement : is_announcement f.identifier ≡ true
  pub says : size_in f.data_bytes ≡ size
  pub opens : (s : Session) → fit s ≡ true → solo_step s f ≡ record { answer = Ok None; session = opened size }

-- Rule 2.5: a data packet of this sequence number.
pub record Numbered (i : ℕ) (f : Frame) : Type 0 where
  pub frame : frame_refusal f.identifier f.data_bytes ≡ 0
  pub packet : is_packet f.identifier ≡ true
  pub sequence : get_or f.data_bytes 0 0 ≡ i

-- Packets i, i + 1, and so on, none left out and none twice.
abbrev pub InSequence : ℕ → List Frame → Type 0
InSequence i [] = Unit
InSequence i (f ∷ fs) = Numbered i f × InSequence (suc i) fs

-- The payload bytes of packets, one after the other.
unfoldable pub joined : List Frame → List ℕ
joined [] = []
joined (f ∷ fs) = drop 1 f.data_bytes ++ joined fs

-- What one sender has sent where `last` yields the report r: since and including the last announcement that was accepted, exactly the packets
-- from 1 to the count that belongs to its size, `last` among them, and r is what the bytes of these packets say.
pub record Sent (own : List Frame) (last : Frame) (r : Report) : Type 0 where
  pub before : List Frame
  pub announced : Frame
  pub middle : List Frame
  pub size : ℕ
  pub since : heard own ≡ before ++ (announced ∷ middle)
  pub announces : Announces size announced
  pub sequence : InSequence 1 (middle ++ (last ∷ []))
  pub count : length (middle ++ (last ∷ [])) ≡ packets size
  pub reads : read_payload (take size (joined (middle ++ (last ∷ [])))) ≡ Ok r
