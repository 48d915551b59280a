-- What the sender announces and carries is what the session opens with and stores: after j packets the payload's first 7 x j bytes stand there, and behind them 255.
-- Assumes nothing.
use mathlib.Core.Path.{◌≡◌, refl, sym, ◌∙◌, ap}
use mathlib.Core.Bool.{true, false, cond, ◌||◌, or-true}
use mathlib.Core.List.{List, [], ◌∷◌, ◌++◌}
use Prim.Native.Nat.{ℕ, zero, suc, ◌+◌, ◌-◌, ◌*◌, ◌/◌, ◌%◌, ◌≤◌, ◌<◌}
use native.Mathlib.Omega.{arith}
use borrow.Author.Tests.{le-leb, lt-leb, le-ltb, lt-ltb, eq-eqb, ne_eqb}
use lib.Dec.{eqb, lit≤}
use lib.ListN.{length, take, drop, replicate, length-append, length-drop, length-take, length-replicate, replicate-append-replicate}
use lib.Seq.{sets, sets-eq, take_all, take-nil, drop_at, drop-append-add, take-append_seam, length-take-le, take-add}
use Rattle.wire.specs.Bytes.{number, bytes, part}
use Rattle.report.specs.Payload.{read_payload}
use Rattle.joining.specs.declared.Session.{Session}
use Rattle.joining.specs.Answers.{Answer}
use Rattle.std.specs.Prelude.{None, Ok}
use Rattle.joining.specs.declared.Taken.{Taken}
use Rattle.joining.specs.Frame.{sender_of, destination_of, format_of, zero_bits_of, malformed, foreign, frame_checked, frame_refusal}
use Rattle.joining.specs.Joining.{packets, carries, opened, is_closed, is_open, fit, stored, yields, sound, announcement_checked, announcement_refusal, announce, packet, take_frame}
use Rattle.bench.specs.Bench.{identifier, announcement, packet_data, carrier, opening, packets_from, frames}
use Rattle.joining.specs.Run.{solo_step, solo_session, solo_answers}
use Rattle.joining.proofs.Fitness.{carried_range}
use Rattle.bench.proofs.Sending.{length_data, length-announcement}

-- Bytes at the front of a session's, with 255 behind them.
abbrev pub padded : ℕ → List ℕ → List ℕ
padded largest l = l ++ replicate (largest - length l) 255

-- Of a value with something behind it, cut to n, the value's own part is the value cut to n.
take_own : (v w : List ℕ) (n : ℕ) → take (length v) (take n (v ++ w)) ≡ take n v
take_own [] w n = sym (take-nil n)
take_own (a ∷ v) w zero = refl
take_own (a ∷ v) w (suc n) = ap (λ (l : List ℕ). a ∷ l) (take_own v w n)

drop-replicate : (n k x : ℕ) → drop n (replicate (n + k) x) ≡ replicate k x
drop-replicate n k x = rw (← replicate-append-replicate n k x) (drop_at (replicate n x) (replicate k x) n (length-replicate n x))

padded_more : (n : ℕ) (a v : List ℕ) → length a + length v ≤ n → sets (padded n a) (length a) v ≡ padded n (a ++ v)
padded_more n a v h =
    let k = n - length (a ++ v) in
    let rest : n - length a ≡ length v + k = simp length-append (omega arith) in
    let whole : length a + length v ≤ length (a ++ replicate (length v + k) 255) = simp (length-append, length-replicate) (omega arith) in
    rw rest
    (sets-eq v (a ++ replicate (length v + k) 255) (length a) whole
    ∙ rw (take-append_seam a, drop-append-add a, drop-replicate (length v) k 255))

-- A frame of the sender's is refused neither for its form nor for its sender.
module _ (sender : ℕ) (known : sender ≤ 253) (format : ℕ) (d : List ℕ) (ours : (eqb format 236 || eqb format 235) ≡ true) (low : format ≤ 255) (eight : length d ≡ 8) where
  pub in_format : format_of (identifier format sender) ≡ format
  in_format = omega arith

  not_foreign : foreign (identifier format sender) ≡ false
  unfolding foreign
  not_foreign =
      let zeros : zero_bits_of (identifier format sender) ≡ 0 = omega arith in
      let all : destination_of (identifier format sender) ≡ 255 = omega arith in
      rw (zeros, in_format, all, ours)

  pub taken : frame_refusal (identifier format sender) d ≡ 0
  unfolding frame_refusal frame_checked malformed
  taken =
      let from : sender_of (identifier format sender) ≡ sender = omega arith in
      rw (lt-leb 536870912 (identifier format sender) (omega arith), eight, not_foreign, from, le-ltb 253 sender known)

  reached : (s : Session) → fit s ≡ true → take_frame s (identifier format sender) d ≡ cond (eqb format 236) (announce s d) (packet s d)
  unfolding take_frame
  reached s h = rw (taken, h, in_format)

-- An announcement of a size that ours can have opens the session with it.
announce-opens : (s : Session) (n : ℕ) → carries n ≡ true → announce s (announcement n) ≡ record { answer = Ok None; session = opened n }
unfolding announce announcement_refusal announcement_checked announcement sound bytes number
announce-opens s n h =
    let range = carried_range n h in
    let said : n % 256 + 256 * (n / 256 % 256 + 256 * 0) ≡ n = omega arith in
    rw (said, le-leb 9 n (omega arith), le-leb n 1785 (omega arith), eq-eqb (packets n) (packets n) refl, h)

-- A session of so many bytes after the announcement and j packets of a payload.
unfoldable pub midway_in : ℕ → List ℕ → ℕ → Session
midway_in largest p j = record { bytes = padded largest (take (7 * j) p); size = length p; count = packets (length p); next = j + 1 }

pub midway_stores : (largest : ℕ) (p : List ℕ) (j : ℕ) → length p ≤ largest → j < packets (length p)
    → stored (midway_in largest p j) (packet_data p (j + 1)) ≡ padded largest (take (7 * (j + 1)) p)
unfolding midway_in packet_data
midway_stores largest p j within h =
    let due : j + 1 - 1 ≡ j = omega arith in
    let before : length (take (7 * j) p) ≡ 7 * j = length-take-le (7 * j) p (omega arith) in
    let left : length p - 7 * j ≡ length (drop (7 * j) p) = sym (length-drop (7 * j) p) in
    let past : 7 * (j + 1) ≡ 7 * j + 7 = omega arith in
    let here = part (7 * j) 7 p in
    let room : length (take (7 * j) p) + length here ≤ largest = omega (arith, length-take 7 (drop (7 * j) p)) in
    rw (due, left, take_own (drop (7 * j) p) (replicate 7 255) 7, past, take-add (7 * j) 7 p)
    (ap (λ (at : ℕ). sets (padded largest (take (7 * j) p)) at here) (sym before) ∙ padded_more largest (take (7 * j) p) here room)

-- A payload of a size that ours can have, on its way.
module _ (sender : ℕ) (known : sender ≤ 253) (p : List ℕ) (ours : carries (length p) ≡ true) where
  midway : ℕ → Session
  midway j = midway_in 89 p j

  -- The session after the last packet.
  ended : Session
  ended = record { bytes = padded 89 p; size = 0; count = 0; next = 0 }

  midway_fits : (j : ℕ) → j < packets (length p) → fit (midway j) ≡ true
  unfolding fit is_open midway midway_in
  midway_fits j h =
      rw (ours, eq-eqb (packets (length p)) (packets (length p)) refl, lt-ltb 0 (j + 1) (omega arith), le-leb (j + 1) (packets (length p)) (omega arith))
      (or-true (is_closed (midway j)))

  packet_kept : (j : ℕ) → j + 1 < packets (length p) → packet (midway j) (packet_data p (j + 1)) ≡ record { answer = Ok None; session = midway (j + 1) }
  unfolding packet midway midway_in packet_data
  packet_kept j h =
      let range = carried_range (length p) ours in
      rw (ne_eqb (length p) 0 (λ e. omega arith), eq-eqb (j + 1) (j + 1) refl, lt-ltb (j + 1) (packets (length p)) h, midway_stores 89 p j range.1 (omega arith))

  packet_last : (j : ℕ) → j + 1 ≡ packets (length p) → packet (midway j) (packet_data p (j + 1)) ≡ record { answer = yields (read_payload p); session = ended }
  unfolding packet midway midway_in packet_data ended
  packet_last j h =
      let range = carried_range (length p) ours in
      let whole : take (7 * (j + 1)) p ≡ p = take_all (7 * (j + 1)) p (omega arith) in
      rw (ne_eqb (length p) 0 (λ e. omega arith), eq-eqb (j + 1) (j + 1) refl, le-ltb (j + 1) (packets (length p)) (omega arith), midway_stores 89 p j range.1 (omega arith), whole, take-append_seam p)

  announcement-step : (s : Session) → fit s ≡ true → solo_step s (opening sender p) ≡ record { answer = Ok None; session = midway 0 }
  unfolding midway midway_in
  announcement-step s h =
      reached sender known 236 (announcement (length p)) refl (lit≤ tt) (length-announcement (length p)) s h ∙ announce-opens s (length p) ours

  packet-step : (j : ℕ) → j < packets (length p) → solo_step (midway j) (carrier sender p (j + 1)) ≡ packet (midway j) (packet_data p (j + 1))
  packet-step j h =
      reached sender known 235 (packet_data p (j + 1)) refl (lit≤ tt) (length_data p (j + 1)) (midway j) (midway_fits j h)

  -- The packets after the first j, from the session as those left it.
  packets_run : (n j : ℕ) → j + suc n ≡ packets (length p)
      → (solo_answers (midway j) (packets_from sender p (j + 1) (suc n)) ≡ replicate n (Ok None) ++ (yields (read_payload p) ∷ []))
      × (solo_session (midway j) (packets_from sender p (j + 1) (suc n)) ≡ ended)
  unfolding solo_answers solo_session packets_from
  packets_run zero j h =
      let e = packet-step j (omega arith) ∙ packet_last j (omega arith) in
      (ap (λ (t : Taken). t.answer ∷ []) e, ap (λ (t : Taken). t.session) e)
  packets_run (suc n) j h =
      let e = packet-step j (omega arith) ∙ packet_kept j (omega arith) in
      let rest = packets_from sender p (j + 1 + 1) (suc n) in
      let run = packets_run n (j + 1) (omega arith) in (
        ap (λ (t : Taken). t.answer ∷ solo_answers t.session rest) e ∙ ap (λ (l : List Answer). Ok None ∷ l) run.0,
        ap (λ (t : Taken). solo_session t.session rest) e ∙ run.1,
      )

  -- The frames of such a payload, taken by any fit session: each is kept, and the last one reads that payload, whole.
  pub joins : (s : Session) → fit s ≡ true
      → (solo_answers s (frames sender p) ≡ replicate (packets (length p)) (Ok None) ++ (yields (read_payload p) ∷ []))
      × (solo_session s (frames sender p) ≡ record { bytes = padded 89 p; size = 0; count = 0; next = 0 })
  unfolding solo_answers solo_session frames ended
  joins s h =
      let range = carried_range (length p) ours in
      let n = packets (length p) - 1 in
      let all : packets (length p) ≡ suc n = omega arith in
      let e = announcement-step s h in
      let run = packets_run n 0 (omega arith) in
      rw all (
        ap (λ (t : Taken). t.answer ∷ solo_answers t.session (packets_from sender p 1 (suc n))) e ∙ ap (λ (l : List Answer). Ok None ∷ l) run.0,
        ap (λ (t : Taken). solo_session t.session (packets_from sender p 1 (suc n))) e ∙ run.1,
      )
