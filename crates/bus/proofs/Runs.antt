-- What is promised of sessions holds of the bytes in which they stand: a run of frames is answered there as the sessions answer it, so each promise is read off theirs.
-- Assumes nothing.
use mathlib.Core.Path.{◌≡◌, refl, sym, ◌∙◌, ap}
use mathlib.Core.List.{List, [], ◌∷◌, ◌++◌}
use Prim.Native.Nat.{ℕ, ◌<◌}
use lib.ListN.{length, get_or}
use Rattle.report.specs.declared.Report.{Report}
use Rattle.joining.specs.declared.Session.{Session}
use Rattle.joining.specs.Answers.{Answer}
use Rattle.std.specs.Prelude.{Some, Ok}
use Rattle.joining.specs.Frame.{Frame, sender_of}
use Rattle.joining.specs.Run.{fresh_sessions, session_of, sessions_after, answer_to, sessions_after_all, answers_to_all, solo_session, solo_answers, own_frames, own_answers, OfSender, Sent}
use Rattle.joining.proofs.Mixing.{mixing}
use Rattle.joining.proofs.MadeUp.{no_made_up_report}
use Rattle.bus.specs.Room.{room_bytes, sessions_in, room_of, room_after_all, room_answers}
use Rattle.bus.proofs.Rooms.{sessions_many, next_room}

-- The answers of a run of frames, taken one after the other in lent bytes, are those of the sessions that stand there.
pub run_answers : (room : List ℕ) (fs : List Frame) → length room ≡ room_bytes → room_answers room fs ≡ answers_to_all (sessions_in room) fs
unfolding room_answers answers_to_all
run_answers room [] l = refl
run_answers room (f ∷ fs) l =
    let after = next_room room f l in
    ap (λ (rest : List Answer). answer_to (sessions_in room) f ∷ rest)
    (run_answers (room_of (sessions_after (sessions_in room) f)) fs after.0 ∙ ap (λ (ss : List Session). answers_to_all ss fs) after.1)

-- And the sessions that stand there at its end are those that the rules lead to.
pub run_sessions : (room : List ℕ) (fs : List Frame) → length room ≡ room_bytes → sessions_in (room_after_all room fs) ≡ sessions_after_all (sessions_in room) fs
unfolding room_after_all sessions_after_all
run_sessions room [] l = refl
run_sessions room (f ∷ fs) l =
    let after = next_room room f l in
    run_sessions (room_of (sessions_after (sessions_in room) f)) fs after.0 ∙ ap (λ (ss : List Session). sessions_after_all ss fs) after.1

-- So in lent bytes too a sender's session and its answers are those of its own frames alone, whatever the others send between them.
pub mixing_lent : (k : ℕ) → k < 254 → (room : List ℕ) (fs : List Frame) → length room ≡ room_bytes
    → (session_of k (sessions_in (room_after_all room fs)) ≡ solo_session (session_of k (sessions_in room)) (own_frames k fs))
    × (own_answers k fs (room_answers room fs) ≡ solo_answers (session_of k (sessions_in room)) (own_frames k fs))
mixing_lent k known room fs l =
    let m = mixing k known (sessions_in room) fs (sessions_many 254 room) in
    (ap (session_of k) (run_sessions room fs l) ∙ m.0, ap (own_answers k fs) (run_answers room fs l) ∙ m.1)

-- And no report is made up, where all sessions that stand there are fresh.
pub no_made_up_report_lent : (room : List ℕ) → length room ≡ room_bytes → sessions_in room ≡ fresh_sessions
    → (fs : List Frame) (f : Frame) (gs : List Frame) (d : Answer) (r : Report) → get_or (room_answers room (fs ++ (f ∷ gs))) (length fs) d ≡ Ok (Some r)
    → (sent : Sent (own_frames (sender_of f.identifier) fs) f r) × OfSender (sender_of f.identifier) (sent.announced ∷ sent.middle)
no_made_up_report_lent room l fresh fs f gs d r h =
    no_made_up_report fs f gs d r
    (ap (λ (all : List Answer). get_or all (length fs) d) (sym (run_answers room (fs ++ (f ∷ gs)) l ∙ ap (λ (ss : List Session). answers_to_all ss (fs ++ (f ∷ gs))) fresh)) ∙ h)
