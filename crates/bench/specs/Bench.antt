-- What the bench sender writes (docs/RULES.md, section 10).
use Rattle.std.specs.Prelude.{ℕ, zero, suc, ◌+◌, ◌-◌, ◌*◌, cond, List, [], ◌∷◌, ◌++◌, length, take, drop, replicate, leb, ltb, eqb}
use Rattle.std.specs.Prelude.{Option}
use Rattle.wire.specs.Bytes.{number, bytes, part}
use Rattle.values.specs.declared.Edition.{Edition}
use Rattle.report.specs.declared.Report.{Report}
use Rattle.std.specs.Prelude.{Result, Ok, Err}
use Rattle.std.specs.Result.{result_and}
use Rattle.refusal.specs.declared.Refusal.{Refusal}
use Rattle.refusal.specs.declared.Refusal.TheVariants.{NoSuchSender, NoRoom}
use Rattle.refusal.specs.Numbers.{number_in}
use Rattle.report.specs.Payload.{payload, size, fault}
use Rattle.joining.specs.Frame.{Frame}
use Rattle.joining.specs.Joining.{packets}

-- Rules 2.2, 2.3 and 10.2: priority 7 in bits 26 to 28, the format in 16 to 23, everyone in 8 to 15, the sender in 0 to 7.
abbrev pub identifier : ℕ → ℕ → ℕ
identifier format sender = 67108864 * 7 + 65536 * format + 256 * 255 + sender

-- Rules 2.4 and 10.3: an announcement's data: 32, size, count, 255 in the byte that nobody reads, and our group.
unfoldable pub announcement : ℕ → List ℕ
announcement size = 32 ∷ (bytes 2 size ++ (packets size ∷ (255 ∷ bytes 3 65300)))

-- Rules 2.5 and 10.3: a data packet's data: its sequence number, then 7 bytes of the payload, and 255 past its end.
unfoldable pub packet_data : List ℕ → ℕ → List ℕ
packet_data p i = i ∷ take 7 (drop (7 * (i - 1)) p ++ replicate 7 255)

-- The frame that announces a payload, and the one that carries its packet i.
abbrev pub opening : ℕ → List ℕ → Frame
opening sender p = record { identifier = identifier 236 sender; data_bytes = announcement (length p) }

abbrev pub carrier : ℕ → List ℕ → ℕ → Frame
carrier sender p i = record { identifier = identifier 235 sender; data_bytes = packet_data p i }

-- The `n` packets from sequence number i on.
unfoldable pub packets_from : ℕ → List ℕ → ℕ → ℕ → List Frame
packets_from sender p i zero = []
packets_from sender p i (suc n) = carrier sender p i ∷ packets_from sender p (i + 1) n

-- The frames of a payload: its announcement, and its packets from 1.
unfoldable pub frames : ℕ → List ℕ → List Frame
frames sender p = opening sender p ∷ packets_from sender p 1 (packets (length p))

-- Rule 10.2: a frame is its identifier in 4 bytes and its data in 8.
unfoldable pub frame_bytes : List Frame → List ℕ
frame_bytes [] = []
frame_bytes (f ∷ fs) = bytes 4 f.identifier ++ (f.data_bytes ++ frame_bytes fs)

-- And back: the first n frames in bytes that hold them so.
unfoldable pub frames_in : ℕ → List ℕ → List Frame
frames_in zero bs = []
frames_in (suc n) bs = record { identifier = number (take 4 bs); data_bytes = part 4 8 bs } ∷ frames_in n (drop 12 bs)

-- Rule 10.4: the room that a report's frames need.
abbrev pub room_for : Edition → Option (List ℕ) → ℕ
room_for edition note = 12 * (1 + packets (size edition note))

-- The answer: how many bytes were filled, or the sender's refusals, in the order of rule 9.4: 3, 12, 19, then 20, too short a room.
unfoldable pub send_answer : ℕ → ℕ → Report → Option (List ℕ) → Result ℕ Refusal
send_answer room sender r note =
    cond (ltb 253 sender) (Err NoSuchSender)
    (result_and (fault r note) (cond (leb (room_for r.values.edition note) room) (Ok (room_for r.values.edition note)) (Err NoRoom)))

-- The number of the refusal; 0 for none.
unfoldable pub send_refusal : ℕ → ℕ → Report → Option (List ℕ) → ℕ
send_refusal room sender r note = number_in (send_answer room sender r note)

-- Rule 10.4: the room as it is left: the frames, and the bytes behind them as they were; a refusal changes no byte.
unfoldable pub sent : List ℕ → ℕ → Report → Option (List ℕ) → List ℕ
sent room sender r note =
    cond (eqb (send_refusal (length room) sender r note) 0) (frame_bytes (frames sender (payload r note)) ++ drop (room_for r.values.edition note) room) room
