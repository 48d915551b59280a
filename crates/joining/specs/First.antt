-- The frame rules of a cart of the first edition, as they were before there was heat: sizes to 84, sessions of 84 bytes, and the first
-- edition's reader (docs/RULES.md, section 3 and rule 17.8).
use Rattle.std.specs.Prelude.{ℕ, Bool, cond, not, ◌&&◌, ◌||◌, List, [], ◌∷◌, get_or, take, replicate, leb, ltb, eqb}
use Rattle.wire.specs.Bytes.{number, part}
use Rattle.report.specs.First.{read_first}
use Rattle.joining.specs.declared.Session.{Session}
use Rattle.joining.specs.Answers.{Answer}
use Rattle.std.specs.Prelude.{None, Ok}
use Rattle.joining.specs.declared.Taken.{Taken}
use Rattle.joining.specs.Frame.{Frame, frame_refusal, is_announcement}
use Rattle.joining.specs.Joining.{packets, is_closed, closed, stored, advanced, yields, refused, size_in, sound}

unfoldable pub carries_first : ℕ → Bool
carries_first size = eqb size 17 || leb 20 size && leb size 84

unfoldable pub fit_first : Session → Bool
fit_first s =
    is_closed s
    || carries_first s.size && eqb s.count (packets s.size) && ltb 0 s.next && leb s.next s.count

abbrev pub opened_first : ℕ → Session
opened_first size = record { bytes = replicate 84 255; size = size; count = packets size; next = 1 }

unfoldable pub announce_first : Session → List ℕ → Taken
announce_first s d =
    cond (not (eqb (get_or d 0 0) 32)) (refused 4 s)
    (cond (not (sound d)) (refused 5 (closed s))
    (cond (not (eqb (number (part 5 3 d)) 65300)) (refused 6 (closed s))
    (cond (not (carries_first (size_in d))) (refused 7 (closed s))
    (record { answer = Ok None; session = opened_first (size_in d) }))))

unfoldable pub packet_first : Session → List ℕ → Taken
packet_first s d =
    cond (eqb s.size 0) (refused 8 s)
    (cond (not (eqb (get_or d 0 0) s.next)) (refused 9 (closed s))
    (cond (ltb s.next s.count) (record { answer = Ok None; session = advanced s d })
    (record { answer = yields (read_first (take s.size (stored s d))); session = closed (advanced s d) })))

unfoldable pub take_first : Session → Frame → Taken
take_first s f =
    cond (not (eqb (frame_refusal f.identifier f.data_bytes) 0)) (refused (frame_refusal f.identifier f.data_bytes) s)
    (cond (not (fit_first s)) (refused 24 s)
    (cond (is_announcement f.identifier) (announce_first s f.data_bytes) (packet_first s f.data_bytes)))

-- The answers to frames of one sender, in order.
unfoldable pub answers_first : Session → List Frame → List Answer
answers_first s [] = []
answers_first s (f ∷ fs) = (take_first s f).answer ∷ answers_first (take_first s f).session fs
