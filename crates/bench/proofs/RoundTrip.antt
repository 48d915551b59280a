-- The sender's frames join into its payload, and a payload and what it says determine each other.
-- Assumes nothing.
use mathlib.Core.Path.{◌≡◌, refl, sym, ◌∙◌, ap, ap₂}
use mathlib.Core.Bool.{Bool, true, false, cond, or-true}
use Rattle.std.specs.Prelude.{Option, None, Some}
use mathlib.Core.List.{List, [], ◌∷◌, ◌++◌, append_assoc}
use Prim.Native.Nat.{ℕ, zero, suc, ◌+◌, ◌-◌, ◌^◌, ◌≤◌, ◌<◌}
use native.Mathlib.Omega.{arith}
use borrow.Author.Tests.{le-leb, leb-true, ltb-false, eq-eqb}
use lib.Dec.{leb, ltb, eqb}
use lib.ListN.{length, take, drop, replicate}
use lib.Seq.{take_at, drop_at, drop-drop}
use Rattle.wire.specs.Bytes.{number, bytes, part, head, field}
use Rattle.wire.proofs.Numbers.{length-bytes, number-bytes}
use Rattle.report.specs.declared.Report.{Report}
use Rattle.values.specs.Range.{in_range}
use Rattle.values.specs.declared.Edition.{Edition}
use Rattle.values.specs.declared.Edition.TheVariants.{First, Second}
use Rattle.report.specs.Payload.{payload, plain_size, note_fits, size, edition_in, note_in, fault}
use Rattle.report.proofs.Places.{plain_from, plain_to, size-payload}
use Rattle.report.proofs.RoundTrip.{Permitted, write_read, same_note}
use Rattle.joining.specs.declared.Session.{Session}
use Rattle.joining.specs.Frame.{Frame, sender_of}
use Rattle.joining.specs.Joining.{packets, carries, fit, size_held, payload_held}
use Rattle.bench.specs.Bench.{identifier, carrier, opening, packets_from, frames, frame_bytes, frames_in, room_for, send_refusal, send_answer, sent}
use Rattle.std.specs.Prelude.{Ok, Err}
use Rattle.std.specs.Result.{result_and}
use Rattle.refusal.specs.declared.Refusal.TheVariants.{NoSuchSender, ValueOutOfRange, NoteTooLong, NoRoom}
use Rattle.refusal.specs.Numbers.{number_in}
use Rattle.joining.specs.Run.{session_of, sessions_after_all, answers_to_all, solo_session, solo_answers, own_frames, own_answers}
use Rattle.joining.proofs.Mixing.{mixing}
use Rattle.bench.proofs.Sending.{length_data, length-announcement}
use Rattle.bench.proofs.Joins.{padded, joins}

-- Rules 4.3 and 17.2: a payload has 17 bytes without a note, and 20 to 84 with one; and 5 more with a heat.
payload-carries : (e : Edition) (note : Option (List ℕ)) → note_fits note ≡ true → carries (size e note) ≡ true
unfolding carries note_fits
payload-carries First None h = refl
payload-carries (Second heat) None h = refl
payload-carries e (Some note) h =
    let short = leb-true (length note) 64 h in
    let n = plain_size e + 3 + length note in
    rw (le-leb 20 n (omega (arith, plain_from e)), le-leb n 89 (omega (arith, plain_to e))) (or-true (eqb n 17))

-- What a finished session holds is the payload: behind its numbers the note's field says how long it is, and without one 255 stands there.
held : (r : Report) (note : Option (List ℕ)) → note_fits note ≡ true → payload_held (padded 89 (payload r note)) ≡ payload r note
unfolding payload_held payload head field bytes number note_fits edition_in
held r note fits =
    rw (sized r.values.edition refl note fits) (take_at (payload r note) _ (length (payload r note)) refl)
  where
    sized : (e : Edition) → r.values.edition ≡ e → (note : Option (List ℕ)) → note_fits note ≡ true → size_held (padded 89 (payload r note)) ≡ length (payload r note)
    sized First e None h = rw e
    sized (Second heat) e None h = rw e
    sized First e (Some note) h = rw e (omega (arith, leb-true (length note) 64 h))
    sized (Second heat) e (Some note) h = rw e (omega (arith, leb-true (length note) 64 h))

-- The round trip: what the sender writes for a report that may be sent is kept frame by frame by any fit session, and its
-- last packet yields that report. No frame is refused.
module _ (sender : ℕ) (known : sender ≤ 253) (r : Report) (note : Option (List ℕ)) (may : Permitted r note) (s : Session) (ready : fit s ≡ true) where
  run : (solo_answers s (frames sender (payload r note)) ≡ replicate (packets (size r.values.edition note)) (Ok None) ++ (Ok (Some r) ∷ []))
      × (solo_session s (frames sender (payload r note)) ≡ record { bytes = padded 89 (payload r note); size = 0; count = 0; next = 0 })
  run =
      let long = size-payload r note in
      let j = joins sender known (payload r note) (rw long (payload-carries r.values.edition note may.short)) s ready in
      (rw (long, write_read r note may) at j.0, j.1)

  pub same-report : solo_answers s (frames sender (payload r note)) ≡ replicate (packets (size r.values.edition note)) (Ok None) ++ (Ok (Some r) ∷ [])
  same-report = run.0

  -- The session is closed, its bytes are the payload and 255 behind it, ...
  pub left_closed : solo_session s (frames sender (payload r note)) ≡ record { bytes = payload r note ++ replicate (89 - size r.values.edition note) 255; size = 0; count = 0; next = 0 }
  left_closed = rw (← size-payload r note) run.1

  -- ... so the payload that it holds is the one that was sent, ...
  pub same-payload : payload_held (solo_session s (frames sender (payload r note))).bytes ≡ payload r note
  same-payload = rw run.1 (held r note may.short)

  -- ... and with it the note, or its absence.
  pub same_note_held : note_in (payload_held (solo_session s (frames sender (payload r note))).bytes) ≡ note
  same_note_held = rw same-payload (same_note r note)

-- And so on the whole bus: where these are the frames of its sender, whatever the others send before, between and after them.
module _ (sender : ℕ) (known : sender ≤ 253) (r : Report) (note : Option (List ℕ)) (may : Permitted r note)
    (ss : List Session) (all : length ss ≡ 254) (ready : fit (session_of sender ss) ≡ true)
    (fs : List Frame) (own : own_frames sender fs ≡ frames sender (payload r note)) where
  pub mixed_report : own_answers sender fs (answers_to_all ss fs) ≡ replicate (packets (size r.values.edition note)) (Ok None) ++ (Ok (Some r) ∷ [])
  mixed_report = (mixing sender (omega arith) ss fs all).1 ∙ rw own (same-report sender known r note may (session_of sender ss) ready)

  pub mixed_payload : payload_held (session_of sender (sessions_after_all ss fs)).bytes ≡ payload r note
  mixed_payload = rw ((mixing sender (omega arith) ss fs all).0, own) (same-payload sender known r note may (session_of sender ss) ready)

-- The sender's frames are its own.
module _ (sender : ℕ) (known : sender ≤ 253) (p : List ℕ) where
  own : (format : ℕ) → eqb (sender_of (identifier format sender)) sender ≡ true
  own format = eq-eqb (sender_of (identifier format sender)) sender (omega arith)

  own_packets : (n i : ℕ) → own_frames sender (packets_from sender p i n) ≡ packets_from sender p i n
  unfolding own_frames packets_from
  own_packets zero i = refl
  own_packets (suc n) i = rw (own 235) (ap (λ (l : List Frame). carrier sender p i ∷ l) (own_packets n (i + 1)))

  pub own_frames_lem : own_frames sender (frames sender p) ≡ frames sender p
  unfolding own_frames frames
  own_frames_lem = rw (own 236) (ap (λ (l : List Frame). opening sender p ∷ l) (own_packets (packets (length p)) 1))

-- A frame's 12 bytes give it back, and the frames behind it theirs.
frame_back : (f : Frame) (fs : List Frame) (n : ℕ) (rest : List ℕ) → f.identifier < 256 ^ 4 → length f.data_bytes ≡ 8
    → frames_in (suc n) (frame_bytes (f ∷ fs) ++ rest) ≡ f ∷ frames_in n (frame_bytes fs ++ rest)
unfolding frames_in frame_bytes
frame_back f fs n rest small eight =
    let front = bytes 4 f.identifier in
    let behind = frame_bytes fs ++ rest in
    let back = f.data_bytes ++ behind in
    let row : (front ++ (f.data_bytes ++ frame_bytes fs)) ++ rest ≡ front ++ back = simp append_assoc in
    let past : drop 4 (front ++ back) ≡ back = drop_at front back 4 (length-bytes 4 f.identifier) in
    let id : number (take 4 (front ++ back)) ≡ f.identifier =
    ap number (take_at front back 4 (length-bytes 4 f.identifier)) ∙ number-bytes 4 f.identifier small in
    let carried : part 4 8 (front ++ back) ≡ f.data_bytes = ap (take 8) past ∙ take_at f.data_bytes behind 8 eight in
    let next : drop 12 (front ++ back) ≡ behind =
    sym (drop-drop 8 4 (front ++ back)) ∙ ap (drop 8) past ∙ drop_at f.data_bytes behind 8 eight in
    ap (frames_in (suc n)) row
    ∙ ap₂ (λ (g : Frame) (l : List Frame). g ∷ l) (λ i. record { identifier = id i; data_bytes = carried i }) (ap (frames_in n) next)

module _ (sender : ℕ) (known : sender ≤ 253) (p : List ℕ) where
  packets_back : (n i : ℕ) (rest : List ℕ) → frames_in n (frame_bytes (packets_from sender p i n) ++ rest) ≡ packets_from sender p i n
  unfolding frames_in packets_from
  packets_back zero i rest = refl
  packets_back (suc n) i rest =
      frame_back (carrier sender p i) (packets_from sender p (i + 1) n) n rest (omega arith) (length_data p i)
      ∙ ap (λ (l : List Frame). carrier sender p i ∷ l) (packets_back n (i + 1) rest)

  pub frames_back : (rest : List ℕ) → frames_in (suc (packets (length p))) (frame_bytes (frames sender p) ++ rest) ≡ frames sender p
  unfolding frames
  frames_back rest =
      let n = packets (length p) in
      frame_back (opening sender p) (packets_from sender p 1 n) n rest (omega arith) (length-announcement (length p))
      ∙ ap (λ (l : List Frame). opening sender p ∷ l) (packets_back n 1 rest)

-- What the sender does not refuse comes from a sender that has a session, and may be sent.
sendable : (room : List ℕ) (sender : ℕ) (r : Report) (note : Option (List ℕ)) → r.own < 2 ^ 32 → send_refusal (length room) sender r note ≡ 0
    → (sender ≤ 253) × Permitted r note
unfolding send_refusal send_answer fault
sendable room sender r note own = go (ltb 253 sender) (in_range r.values) (note_fits note) refl refl refl
  where
    go : (a b c : Bool) → ltb 253 sender ≡ a → in_range r.values ≡ b → note_fits note ≡ c
        → ◌≡◌ {A = ℕ} (number_in (cond a (Err NoSuchSender) (result_and (cond b (cond c (Ok (tt {0})) (Err NoteTooLong)) (Err ValueOutOfRange)) (cond (leb (room_for r.values.edition note) (length room)) (Ok (room_for r.values.edition note)) (Err NoRoom))))) 0
        → (sender ≤ 253) × Permitted r note
    go false true true ha hb hc h = (ltb-false 253 sender ha, record { range = hb; short = hc; own = own })
    go false true false ha hb hc h = absurd (omega arith)
    go false false c ha hb hc h = absurd (omega arith)
    go true b c ha hb hc h = absurd (omega arith)

-- So what `send` leaves in its room, read as frames and taken by any fit session, yields the same report, whatever room it was given.
module _ (room : List ℕ) (sender : ℕ) (r : Report) (note : Option (List ℕ)) (own : r.own < 2 ^ 32) (takes : send_refusal (length room) sender r note ≡ 0) where
  pub sent-frames : frames_in (1 + packets (size r.values.edition note)) (sent room sender r note) ≡ frames sender (payload r note)
  unfolding sent
  sent-frames =
      let one : 1 + packets (size r.values.edition note) ≡ suc (packets (length (payload r note))) = rw (size-payload r note) (omega arith) in
      rw (takes, one) (frames_back sender (sendable room sender r note own takes).0 (payload r note) _)

  pub sent-yields : (s : Session) → fit s ≡ true
      → solo_answers s (frames_in (1 + packets (size r.values.edition note)) (sent room sender r note)) ≡ replicate (packets (size r.values.edition note)) (Ok None) ++ (Ok (Some r) ∷ [])
  sent-yields s ready =
      let may = sendable room sender r note own takes in
      rw sent-frames (same-report sender may.0 r note may.1 s ready)
