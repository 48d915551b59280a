-- One sender's session, and what a frame does to it (docs/RULES.md, sections 3 and 17).
use Rattle.std.specs.Prelude.{ℕ, ◌+◌, ◌-◌, ◌*◌, ◌/◌, Bool, cond, not, ◌&&◌, ◌||◌, List, get_or, take, drop, replicate, leb, ltb, eqb, Result, Ok, Err}
use Rattle.std.proofs.lemmas.List.Edits.{sets}
use Rattle.wire.specs.Bytes.{number, part}
use Rattle.report.specs.Payload.{largest_payload, plain_in, read_payload}
use Rattle.report.specs.declared.Report.{Report}
use Rattle.refusal.specs.declared.Refusal.{Refusal}
use Rattle.refusal.specs.declared.Refusal.TheVariants.{NotAnAnnouncement, BadSize, OtherGroup, OtherSize}
use Rattle.refusal.specs.Numbers.{number_of, number_in}
use Rattle.joining.specs.declared.Session.{Session}
use Rattle.joining.specs.Answers.{Answer}
use Rattle.std.specs.Prelude.{Some, None}
use Rattle.refusal.specs.Answers.{refusal_of}
use Rattle.joining.specs.declared.Taken.{Taken}
use Rattle.joining.specs.Frame.{frame_refusal, is_announcement}

-- Rule 2.4: the packets that a payload of this size takes, 7 bytes in each.
abbrev pub packets : ℕ → ℕ
packets size = (size + 6) / 7

-- The sizes that can be announced for a payload of ours: 17, or 20 to 89. Which edition it is of its bytes say, when they are there.
unfoldable pub carries : ℕ → Bool
carries size = eqb size 17 || leb 20 size && leb size largest_payload

-- Rule 3.3: a fresh session is closed, and its payload bytes are 255.
abbrev pub fresh_session : Session
fresh_session = record { bytes = replicate largest_payload 255; size = 0; count = 0; next = 0 }

-- Rule 3.3: closing sets size, count and next packet to 0, and leaves the payload bytes alone.
abbrev pub closed : Session → Session
closed s = record { bytes = s.bytes; size = 0; count = 0; next = 0 }

-- Rule 3.4: opened for a payload of this size: packet 1 is next, and all payload bytes are 255.
abbrev pub opened : ℕ → Session
opened size = record { bytes = replicate largest_payload 255; size = size; count = packets size; next = 1 }

unfoldable pub is_closed : Session → Bool
is_closed s = eqb s.size 0 && eqb s.count 0 && eqb s.next 0

unfoldable pub is_open : Session → Bool
is_open s = carries s.size && eqb s.count (packets s.size) && ltb 0 s.next && leb s.next s.count

-- Rules 9.5 and 9.6: a session is fit that is closed, or open with numbers that an announcement and packets can have left; else refusal 24.
unfoldable pub fit : Session → Bool
fit s = is_closed s || is_open s

-- Where the next packet's bytes belong.
abbrev pub place : Session → ℕ
place s = 7 * (s.next - 1)

-- Rules 3.5 and 2.5: the expected packet's bytes in their place, up to the payload's size.
abbrev pub stored : Session → List ℕ → List ℕ
stored s d = sets s.bytes (place s) (take (s.size - place s) (drop 1 d))

-- Rule 3.5: and then the next packet is expected.
abbrev pub advanced : Session → List ℕ → Session
advanced s d = record { bytes = stored s d; size = s.size; count = s.count; next = s.next + 1 }

-- The reader's answer as the frame's: a report, or refusal 10.
abbrev pub yields : Result Report Refusal → Answer
yields (Ok r) = Ok (Some r)
yields (Err e) = Err e

-- Rule 3.6: the last packet closes the session, and its payload is read from the bytes as they then stand.
abbrev pub finishes : List ℕ → ℕ → Taken
finishes bs size =
    record {
      answer = yields (read_payload (take size bs));
      session = record { bytes = bs; size = 0; count = 0; next = 0 };
    }

abbrev pub refused : ℕ → Session → Taken
refused n s = record { answer = Err (refusal_of n); session = s }

-- Rule 2.4: the size that an announcement's data say.
abbrev pub size_in : List ℕ → ℕ
size_in d = number (part 1 2 d)

-- Not refusal 5: the size is one that can be announced, and the count belongs to it.
unfoldable pub sound : List ℕ → Bool
sound d = leb 9 (size_in d) && leb (size_in d) 1785 && eqb (get_or d 3 0) (packets (size_in d))

-- Why an announcement opens no session: refusals 4, 5, 6 and 7 in their order.
unfoldable pub announcement_checked : List ℕ → Result (Unit {0}) Refusal
announcement_checked d =
    cond (not (eqb (get_or d 0 0) 32)) (Err NotAnAnnouncement)
    (cond (not (sound d)) (Err BadSize)
    (cond (not (eqb (number (part 5 3 d)) 65300)) (Err OtherGroup)
    (cond (not (carries (size_in d))) (Err OtherSize) (Ok tt))))

-- The number of that refusal; 0 for none.
unfoldable pub announcement_refusal : List ℕ → ℕ
announcement_refusal d = number_in (announcement_checked d)

-- Rule 3.4: an announcement that isn't refused opens the session, also one that was open; refusal 4 changes nothing, the others close the session.
unfoldable pub announce : Session → List ℕ → Taken
announce s d =
    cond (eqb (announcement_refusal d) 0) (record { answer = Ok None; session = opened (size_in d) })
    (refused (announcement_refusal d) (cond (eqb (announcement_refusal d) 4) s (closed s)))

-- A data packet: refusal 8 where the session is closed, 9 where another packet is next; or the packet is kept, or the last one ends the session.
unfoldable pub packet : Session → List ℕ → Taken
packet s d =
    cond (eqb s.size 0) (refused 8 s)
    (cond (not (eqb (get_or d 0 0) s.next)) (refused 9 (closed s))
    (cond (ltb s.next s.count) (record { answer = Ok None; session = advanced s d })
    (finishes (stored s d) s.size)))

-- A frame, with its refusals in the order of rule 9.4: 1, 2, 3, 24, then those of announcements or of data packets.
unfoldable pub take_frame : Session → ℕ → List ℕ → Taken
take_frame s id d =
    cond (not (eqb (frame_refusal id d) 0)) (refused (frame_refusal id d) s)
    (cond (not (fit s)) (refused 24 s)
    (cond (is_announcement id) (announce s d) (packet s d)))

-- The size of the payload that a session's bytes hold when a report was finished: behind the numbers of its edition the note's field says it,
-- and without one 255 stands there.
abbrev pub size_held : List ℕ → ℕ
size_held bs = cond (eqb (get_or bs (plain_in bs) 0) 4) (plain_in bs + 3 + number (part (plain_in bs + 1) 2 bs)) (plain_in bs)

-- That payload, as a part of the session's bytes.
unfoldable pub payload_held : List ℕ → List ℕ
payload_held bs = take (size_held bs) bs
