-- The frames that the bench sender stores, one behind the other: each takes 12 bytes, and a packet's 7 bytes are stored over 255s.
-- Assumes nothing.
use mathlib.Core.Bool.{Bool, true, false, cond}
use Rattle.std.specs.Prelude.{Option, None, Some}
use mathlib.Core.Path.{◌≡◌, refl, sym, ◌∙◌, ap}
use mathlib.Core.List.{List, [], ◌∷◌, ◌++◌, append_assoc, append-nil}
use Prim.Native.Nat.{ℕ, zero, suc, ◌+◌, ◌-◌, ◌*◌, ◌/◌, ◌%◌, ◌≤◌, ◌<◌}
use native.Mathlib.Nat.{add-zero}
use native.Mathlib.Numerals.{add-one}
use native.Mathlib.Omega.{arith}
use borrow.Author.Tests.{le-leb, lt-leb, le-ltb, lt-ltb, ne_eqb, leb-true}
use lib.Dec.{leb}
use lib.ListN.{length, take, drop, replicate, set, length-append, length-drop, length-replicate}
use lib.Seq.{sets, sets-eq, take_all, take_at, length-take-le}
use Rattle.wire.specs.Bytes.{bytes, part}
use Rattle.wire.proofs.Numbers.{length-bytes}
use Rattle.wire.proofs.Stores.{sets-append, sets_past}
use Rattle.report.specs.declared.Report.{Report}
use Rattle.std.specs.Prelude.{Result, Ok, Err}
use Rattle.std.specs.Result.{result_and}
use Rattle.values.specs.declared.Edition.{Edition}
use Rattle.refusal.specs.declared.Refusal.{Refusal}
use Rattle.refusal.specs.declared.Refusal.TheVariants.{NoSuchSender, ValueOutOfRange, NoteTooLong, NoRoom}
use Rattle.refusal.specs.Numbers.{number_of, number_in}
use Rattle.refusal.proofs.Numbers.{number_above}
use Rattle.values.specs.Range.{in_range}
use Rattle.report.specs.Payload.{payload, size, note_fits, fault, write_answer, written}
use Rattle.report.proofs.Places.{plain_to, size-payload}
use Rattle.joining.specs.Frame.{Frame}
use Rattle.joining.specs.Joining.{packets}
use Rattle.bench.specs.Bench.{identifier, announcement, packet_data, carrier, packets_from, frames, frame_bytes, room_for, send_refusal, send_answer, sent}

sets_behind : (a : ℕ) (l : List ℕ) (i : ℕ) (v : List ℕ) → sets (a ∷ l) (suc i) v ≡ a ∷ sets l i v
sets_behind a l i [] = refl
sets_behind a l i (b ∷ v) = sets_behind a (set l i b) (suc i) v

pub take-replicate : (n m x : ℕ) → n ≤ m → take n (replicate m x) ≡ replicate n x
take-replicate zero m x h = refl
take-replicate (suc n) zero x h = absurd (omega arith)
take-replicate (suc n) (suc m) x h = ap (λ (l : List ℕ). x ∷ l) (take-replicate n m x (omega arith))

-- A value stored over n equal bytes is its first n bytes, and where it is shorter those bytes.
pub sets_over : (v : List ℕ) (n m x : ℕ) → n ≤ m → sets (replicate n x) 0 v ≡ take n (v ++ replicate m x)
sets_over [] n m x h = sym (take-replicate n m x h)
sets_over (a ∷ v) zero m x h = sets_past [] 0 (a ∷ v) (omega arith)
sets_over (a ∷ v) (suc n) m x h = sets_behind a (replicate n x) 0 v ∙ ap (λ (l : List ℕ). a ∷ l) (sets_over v n m x (omega arith))

pub packet-stored : (p : List ℕ) (i : ℕ) {b₁ b₂ : List ℕ} → b₁ ≡ set (replicate 8 255) 0 i
    → b₂ ≡ sets b₁ 1 (part (7 * (i - 1)) (length p - 7 * (i - 1)) p) → b₂ ≡ packet_data p i
unfolding packet_data
packet-stored p i e₁ e₂ =
    let v = drop (7 * (i - 1)) p in
    rw (e₂, e₁, take_all (length p - 7 * (i - 1)) v (rw length-drop (omega arith)))
    (sets_behind i (replicate 7 255) 0 v ∙ ap (λ (l : List ℕ). i ∷ l) (sets_over v 7 7 255 (omega arith)))

pub announcement-bytes : (size : ℕ) {count : ℕ} → size < 65536 → count ≡ packets size
    → 32 ∷ size % 256 ∷ size / 256 ∷ count ∷ 255 ∷ 20 ∷ 255 ∷ 0 ∷ [] ≡ announcement size
unfolding announcement bytes
announcement-bytes size h e =
    let high : size / 256 % 256 ≡ size / 256 = omega arith in
    rw (e, high)

-- What `put_frame` leaves: the data behind the identifier.
pub put_behind : (b : List ℕ) {b₁ b₂ : List ℕ} (at id : ℕ) (v : List ℕ) → b₁ ≡ sets b at (bytes 4 id) → b₂ ≡ sets b₁ (at + 4) v → b₂ ≡ sets b at (bytes 4 id ++ v)
put_behind b at id v e₁ e₂ = rw (e₂, e₁, sets-append b at (bytes 4 id) v, length-bytes 4 id)

pub length_data : (p : List ℕ) (i : ℕ) → length (packet_data p i) ≡ 8
unfolding packet_data
length_data p i =
    let v = drop (7 * (i - 1)) p ++ replicate 7 255 in
    ap suc (length-take-le 7 v (omega (arith, length-append (drop (7 * (i - 1)) p) (replicate 7 255), length-replicate {A = ℕ} 7 255)))

pub length-announcement : (n : ℕ) → length (announcement n) ≡ 8
unfolding announcement bytes
length-announcement n = refl

frame-bytes-append : (fs gs : List Frame) → frame_bytes (fs ++ gs) ≡ frame_bytes fs ++ frame_bytes gs
unfolding frame_bytes
frame-bytes-append [] gs = refl
frame-bytes-append (f ∷ fs) gs =
    ap (λ (r : List ℕ). bytes 4 f.identifier ++ (f.data_bytes ++ r)) (frame-bytes-append fs gs) ∙ simp append_assoc

frame_bytes_one : (f : Frame) → frame_bytes (f ∷ []) ≡ bytes 4 f.identifier ++ f.data_bytes
unfolding frame_bytes
frame_bytes_one f = rw append-nil

module _ (sender : ℕ) (p : List ℕ) where
  packets_snoc : (i n : ℕ) → packets_from sender p i (suc n) ≡ packets_from sender p i n ++ (carrier sender p (i + n) ∷ [])
  unfolding packets_from
  packets_snoc i zero = rw add-zero
  packets_snoc i (suc n) =
      let e : i + 1 + n ≡ i + suc n = omega arith in
      ap (λ (fs : List Frame). carrier sender p i ∷ fs) (rw e at (packets_snoc (i + 1) n))

  packets-bytes : (i n : ℕ) → length (frame_bytes (packets_from sender p i n)) ≡ 12 * n
  unfolding packets_from frame_bytes
  packets-bytes i zero = refl
  packets-bytes i (suc n) =
      simp length-append (omega (arith, length-bytes 4 (identifier 235 sender), length_data p i, packets-bytes (i + 1) n))

  -- A turn of the loop that stores the packets.
  pub packets_more : (b : List ℕ) {b₁ b₂ : List ℕ} (n : ℕ) → b₁ ≡ sets b 12 (frame_bytes (packets_from sender p 1 n))
      → b₂ ≡ sets b₁ (12 * (n + 1)) (bytes 4 (identifier 235 sender) ++ packet_data p (n + 1)) → b₂ ≡ sets b 12 (frame_bytes (packets_from sender p 1 (n + 1)))
  packets_more b n e₁ e₂ =
      let done = packets_from sender p 1 n in
      let next : 1 + n ≡ n + 1 = omega arith in
      let place : 12 + length (frame_bytes done) ≡ 12 * (n + 1) = omega (arith, packets-bytes 1 n) in
      rw (e₂, e₁, add-one n, packets_snoc 1 n, next, frame-bytes-append done, frame_bytes_one, sets-append b 12 (frame_bytes done), place, add-one n)

  length-opening : length (bytes 4 (identifier 236 sender) ++ announcement (length p)) ≡ 12
  unfolding announcement bytes
  length-opening = refl

  pub frames-bytes : length (frame_bytes (frames sender p)) ≡ 12 * (1 + packets (length p))
  unfolding frames frame_bytes announcement bytes
  frames-bytes = omega (arith, packets-bytes 1 (packets (length p)))

  -- What `fill` leaves: the packets behind the announcement.
  pub all-stored : (b : List ℕ) {b₁ b₂ v : List ℕ} {id n : ℕ} → id ≡ identifier 236 sender → v ≡ announcement (length p) → n ≡ packets (length p)
      → b₁ ≡ sets b 0 (bytes 4 id ++ v) → b₂ ≡ sets b₁ 12 (frame_bytes (packets_from sender p 1 n)) → b₂ ≡ sets b 0 (frame_bytes (frames sender p))
  unfolding frames frame_bytes
  all-stored b i d k e₁ e₂ =
      let front = bytes 4 (identifier 236 sender) ++ announcement (length p) in
      let behind = frame_bytes (packets_from sender p 1 (packets (length p))) in
      rw (e₂, e₁, i, d, k)
      (sym (ap (λ (l : List ℕ). sets b 0 l) (sym (append_assoc (bytes 4 (identifier 236 sender)) (announcement (length p)) behind))
      ∙ sets-append b 0 front behind
      ∙ ap (λ (at : ℕ). sets (sets b 0 front) (0 + at) behind) length-opening))

-- What is not faulty fits the largest payload.
pub size_bound : (e : Edition) (note : Option (List ℕ)) → note_fits note ≡ true → size e note ≤ 89
unfolding note_fits
size_bound e None h = omega (arith, plain_to e)
size_bound e (Some note) h = omega (arith, leb-true (length note) 64 h, plain_to e)

-- So the writer, in room for any payload, refuses only what is faulty.
module _ (r : Report) (note : Option (List ℕ)) where
  pub wrote : write_answer (length {A = ℕ} (replicate 89 255)) r note ≡ result_and (fault r note) (Ok (size r.values.edition note))
  unfolding write_answer fault
  wrote = go (in_range r.values) (note_fits note) (λ h. le-leb (size r.values.edition note) 89 (size_bound r.values.edition note h))
    where
      n : ℕ
      n = size r.values.edition note

      go : (a b : Bool) → (b ≡ true → leb n 89 ≡ true)
          → result_and (cond a (cond b (Ok (tt {0})) (Err NoteTooLong)) (Err ValueOutOfRange)) (cond (leb n 89) (Ok n) (Err NoRoom))
          ≡ result_and (cond a (cond b (Ok (tt {0})) (Err NoteTooLong)) (Err ValueOutOfRange)) (Ok n)
      go true true h = rw (h refl)
      go true false h = refl
      go false b h = refl

  pub faultless : {n : ℕ} → result_and (fault r note) (Ok (size r.values.edition note)) ≡ Ok n
      → (fault r note ≡ Ok (tt {0})) × (n ≡ size r.values.edition note) × (size r.values.edition note ≤ 89)
  unfolding fault
  faultless {n} = go (in_range r.values) (note_fits note) refl
    where
      go : (a b : Bool) → note_fits note ≡ b
          → ◌≡◌ {A = Result ℕ Refusal} (result_and (cond a (cond b (Ok (tt {0})) (Err NoteTooLong)) (Err ValueOutOfRange)) (Ok (size r.values.edition note))) (Ok n)
          → (cond a (cond b (Ok (tt {0})) (Err NoteTooLong)) (Err ValueOutOfRange) ≡ Ok (tt {0})) × (n ≡ size r.values.edition note) × (size r.values.edition note ≤ 89)
      go true true e h = (refl, cc, size_bound r.values.edition note e)
      go true false e h = absurd cc
      go false b e h = absurd cc

  -- A payload written over 89 bytes is their front.
  pub written-front : {w : List ℕ} {n : ℕ} → write_answer (length {A = ℕ} (replicate 89 255)) r note ≡ Ok n → w ≡ written (replicate 89 255) r note → n ≡ size r.values.edition note
      → take n w ≡ payload r note
  unfolding written
  written-front h e k =
      rw (e, k, h)
      (take_at (payload r note) (drop (size r.values.edition note) (replicate 89 255)) (size r.values.edition note) (size-payload r note))

module _ (b : List ℕ) (sender : ℕ) (r : Report) (note : Option (List ℕ)) where
  refuse : (e : Refusal) → send_answer (length b) sender r note ≡ Err e → (Err e ≡ send_answer (length b) sender r note) × (b ≡ sent b sender r note)
  unfolding sent send_refusal
  refuse e h = (sym h, rw (h, ne_eqb (number_of e) 0 (λ z. omega (arith, number_above e))))

  pub no_sender : 253 < sender → (Err NoSuchSender ≡ send_answer (length b) sender r note) × (b ≡ sent b sender r note)
  unfolding send_answer
  no_sender h = refuse NoSuchSender (rw (lt-ltb 253 sender h))

  pub faulty : {e : Refusal} → sender ≤ 253 → write_answer (length {A = ℕ} (replicate 89 255)) r note ≡ Err e → (Err e ≡ send_answer (length b) sender r note) × (b ≡ sent b sender r note)
  unfolding send_answer
  faulty {e} s h = refuse e (rw (le-ltb 253 sender s) (up _ _ _ (fault r note) (sym (wrote r note) ∙ h)))
    where
      up : (n k : ℕ) (w : Bool) (f : Result (Unit {0}) Refusal) → result_and f (Ok n) ≡ Err e → result_and f (cond w (Ok k) (Err NoRoom)) ≡ Err e
      up n k w (Ok x) h = absurd cc
      up n k w (Err d) h = cc

  module _ {n k : ℕ} (s : sender ≤ 253) (h : fault r note ≡ Ok (tt {0})) (sized : n ≡ size r.values.edition note) (counted : k ≡ packets n) where
    needed : 12 * (1 + k) ≡ room_for r.values.edition note
    needed = rw (counted, sized)

    pub short : length b < 12 * (1 + k) → (Err NoRoom ≡ send_answer (length b) sender r note) × (b ≡ sent b sender r note)
    unfolding send_answer
    short few = refuse NoRoom (rw (le-ltb 253 sender s, h, ← needed, lt-leb (12 * (1 + k)) (length b) few))

    pub fits : {p b₁ : List ℕ} → 12 * (1 + k) ≤ length b → p ≡ payload r note → b₁ ≡ sets b 0 (frame_bytes (frames sender p))
        → (Ok (12 * (1 + k)) ≡ send_answer (length b) sender r note) × (b₁ ≡ sent b sender r note)
    unfolding send_answer sent send_refusal
    fits enough is stored =
        let room : send_answer (length b) sender r note ≡ Ok (room_for r.values.edition note) = rw (le-ltb 253 sender s, h, le-leb (room_for r.values.edition note) (length b) (omega (arith, needed))) in
        let fs = frame_bytes (frames sender (payload r note)) in
        let long : length fs ≡ room_for r.values.edition note = rw (size-payload r note) at (frames-bytes sender (payload r note)) in
        let whole : 0 + length fs ≤ length b = omega (arith, needed) in
        let end : 0 + length fs ≡ room_for r.values.edition note = omega arith in
        (ap Ok needed ∙ sym room, rw (ap number_in room) (rw is at stored ∙ sets-eq fs b 0 whole ∙ rw end))
