-- A report's frames, 12 bytes each, become items one after the other; they stand in the room in a row.
-- Assumes nothing.
use mathlib.Core.Path.{◌≡◌, refl, sym, ◌∙◌, ap}
use mathlib.Core.Bool.{Bool, true, false, cond}
use Rattle.std.proofs.Common.{Option, Some, None, Result, Ok, Err}
use mathlib.Core.List.{List, [], ◌++◌, append_assoc, append-nil, map}
use Prim.Native.Nat.{ℕ, zero, suc, ◌+◌, ◌*◌, ◌/◌, ◌≤◌}
use native.Mathlib.Numerals.{add-one}
use native.Mathlib.Omega.{arith}
use borrow.Author.Tests.{eq-eqb, ne_eqb, leb-true, ltb-false}
use lib.Dec.{eqb, leb, ltb}
use lib.ListN.{length, drop, length-append, length-take}
use lib.Seq.{sets, drop-drop}
use Rattle.wire.specs.Bytes.{number, part}
use Rattle.wire.proofs.Stores.{sets-append}
use Rattle.items.specs.Items.{item_bytes}
use Rattle.items.specs.Run.{Meant, run_bytes}
use Rattle.items.proofs.Writing.{frame_long, timed_long}
use Rattle.report.specs.declared.Report.{Report}
use Rattle.std.specs.Result.{result_and}
use Rattle.refusal.specs.declared.Refusal.{Refusal}
use Rattle.refusal.specs.declared.Refusal.TheVariants.{NoSuchSender, NoRoom}
use Rattle.refusal.specs.Numbers.{number_of, number_in}
use Rattle.refusal.proofs.Numbers.{number_above}
use Rattle.report.specs.Payload.{payload, given, fault}
use Rattle.report.proofs.Places.{size-payload}
use Rattle.joining.specs.Frame as frame
use Rattle.joining.specs.Joining.{packets}
use Rattle.bench.specs.Bench.{frames, frames_in, frame_bytes, room_for, send_refusal, send_answer, sent}
use Rattle.bench.proofs.RoundTrip.{frames_back}
use Rattle.commands.specs.declared.Sending.{Sending}
use Rattle.commands.specs.declared.Trouble.{Trouble}
use Rattle.commands.specs.declared.Trouble.TheVariants as trouble
use Rattle.commands.specs.Items.{frame_item, item_of_frame, report_refusal, report_items, report_answer}

-- ---- one item more

module _ (t : Option ℕ) where
  -- The items of the first n frames in bytes that hold them in a row.
  abbrev pub cut : ℕ → List ℕ → List ℕ
  cut n bs = run_bytes (map (item_of_frame t) (frames_in n bs))

  -- The item of the frame at a place.
  abbrev pub item_at : ℕ → List ℕ → List ℕ
  item_at at bs = item_bytes (frame_item t (number (part at 4 bs))) (part (at + 4) 8 bs)

  frames-next : (n : ℕ) (bs : List ℕ) → cut (suc n) bs ≡ cut n bs ++ item_at (12 * n) bs
  unfolding frames_in run_bytes
  frames-next zero bs = append-nil (item_at 0 bs)
  frames-next (suc n) bs =
      let place : 12 + 12 * n ≡ 12 * suc n = omega arith in
      let behind : 12 + (12 * n + 4) ≡ 12 * suc n + 4 = omega arith in
      let later : item_at (12 * n) (drop 12 bs) ≡ item_at (12 * suc n) bs = rw (drop-drop (12 * n) 12 bs, drop-drop (12 * n + 4) 12 bs, place, behind) in
      ap (λ (l : List ℕ). item_at 0 bs ++ l) (frames-next n (drop 12 bs) ∙ ap (λ (l : List ℕ). cut n (drop 12 bs) ++ l) later)
      ∙ sym (append_assoc (item_at 0 bs) (cut n (drop 12 bs)) (item_at (12 * suc n) bs))

  -- A turn of the loop: the bytes that are taken, and the room.
  pub frames_longer : {at size : ℕ} (n : ℕ) (bs : List ℕ) → at ≡ length (cut n bs) → size ≡ length (item_at (12 * n) bs) → at + size ≡ length (cut (n + 1) bs)
  frames_longer n bs e f = rw (e, f, add-one n, frames-next n bs, length-append (cut n bs) (item_at (12 * n) bs))

  pub frames_more : (room : List ℕ) {r₁ r₂ : List ℕ} {at : ℕ} (n : ℕ) (bs : List ℕ) → at ≡ length (cut n bs) → r₁ ≡ sets room 0 (cut n bs)
      → r₂ ≡ sets r₁ at (item_at (12 * n) bs) → r₂ ≡ sets room 0 (cut (n + 1) bs)
  frames_more room {r₁} {r₂} {at} n bs a e f =
      let place : 0 + length (cut n bs) ≡ at = omega arith in
      rw (f, e, add-one n, frames-next n bs, sets-append room 0 (cut n bs) (item_at (12 * n) bs), place)

-- A frame's item takes 15 bytes, or with a time 19.
pub item_most : (t : Option ℕ) (at : ℕ) (bs : List ℕ) → length (item_at t at bs) ≤ 19
item_most None at bs = omega (arith, frame_long (number (part at 4 bs)) (part (at + 4) 8 bs), length-take 8 (drop (at + 4) bs))
item_most (Some ms) at bs = omega (arith, timed_long ms (number (part at 4 bs)) (part (at + 4) 8 bs), length-take 8 (drop (at + 4) bs))

-- ---- the frames of a report

-- What the bench sender takes has a session and fits its room.
pub taken_facts : (room sender : ℕ) (r : Report) (note : Option (List ℕ)) → send_refusal room sender r note ≡ 0 → (sender ≤ 253) × (room_for r.values.edition note ≤ room)
unfolding send_refusal send_answer
taken_facts room sender r note h = go (ltb 253 sender) (fault r note) (leb (room_for r.values.edition note) room) refl refl h
  where
    n : ℕ
    n = room_for r.values.edition note

    go : (a : Bool) (f : Result (Unit {0}) Refusal) (c : Bool) → ltb 253 sender ≡ a → leb n room ≡ c
        → ◌≡◌ {A = ℕ} (number_in (cond a (Err NoSuchSender) (result_and f (cond c (Ok n) (Err NoRoom))))) 0 → (sender ≤ 253) × (n ≤ room)
    go true f c d e h = absurd (omega arith)
    go false (Ok x) true d e h = (ltb-false 253 sender d, leb-true n room e)
    go false (Ok x) false d e h = absurd (omega arith)
    go false (Err e) c d g h = absurd (omega (arith, number_above e))

-- An answer of the bench sender is the room that it needs.
all_needed : (room sender : ℕ) (r : Report) (note : Option (List ℕ)) {n : ℕ} → send_answer room sender r note ≡ Ok n → n ≡ room_for r.values.edition note
unfolding send_answer
all_needed room sender r note {n} = go (ltb 253 sender) (fault r note) (leb (room_for r.values.edition note) room)
  where
    go : (a : Bool) (f : Result (Unit {0}) Refusal) (c : Bool) {m : ℕ}
        → ◌≡◌ {A = Result ℕ Refusal} (cond a (Err NoSuchSender) (result_and f (cond c (Ok m) (Err NoRoom)))) (Ok n) → n ≡ m
    go true f c h = absurd cc
    go false (Ok x) true h = cc
    go false (Ok x) false h = absurd cc
    go false (Err e) c h = absurd cc

-- So many bytes, and no trouble.
abbrev pub took : ℕ → Result ℕ Trouble
took n = Ok n

module _ (t : Option ℕ) (s : Sending) (note : List ℕ) where
  abbrev with_note : Option (List ℕ)
  with_note = given s.noted note

  abbrev needed : ℕ
  needed = room_for s.report.values.edition with_note

  abbrev carried : List frame.Frame
  carried = frames s.sender (payload s.report with_note)

  -- The bench sender wrote n bytes: their frames are the report's.
  pub record Sent (n : ℕ) (left : List ℕ) : Type 0 where
    pub within : n ≤ 168
    pub whole : n ≡ 12 * (n / 12)
    pub items : map (item_of_frame t) (frames_in (n / 12) left) ≡ report_items t s note
    pub taken : send_answer 168 s.sender s.report with_note ≡ Ok n

  pub items_sent : (room : List ℕ) {left : List ℕ} (n : ℕ) → length room ≡ 168 → send_answer (length room) s.sender s.report with_note ≡ Ok n
      → left ≡ sent room s.sender s.report with_note → Sent n left
  unfolding send_refusal sent report_refusal report_items
  items_sent room {left} n h a e =
      let b : send_answer 168 s.sender s.report with_note ≡ Ok n = rw h at a in
      let none : send_refusal 168 s.sender s.report with_note ≡ 0 = ap number_in b in
      let q : eqb (send_refusal 168 s.sender s.report with_note) 0 ≡ true = eq-eqb _ 0 none in
      let l : left ≡ frame_bytes carried ++ drop needed room = rw (h, q) at e in
      let facts = taken_facts 168 s.sender s.report with_note none in
      let p = payload s.report with_note in
      let filled : n ≡ needed = all_needed 168 s.sender s.report with_note b in
      let count : n / 12 ≡ suc (packets (length p)) = rw (size-payload s.report with_note) (omega arith) in
      record {
        within = omega (arith, facts.1);
        whole = omega arith;
        items = rw (q, count, l) (ap (map (item_of_frame t)) (frames_back s.sender facts.0 p (drop needed room)));
        taken = b;
      }

  pub items_counted : {n : ℕ} {left : List ℕ} → Sent n left → ◌≡◌ {A = Result ℕ Trouble} (Ok (length (cut t (n / 12) left))) (report_answer t s note)
  unfolding report_answer
  items_counted sent = rw sent.taken (ap (λ (ms : List Meant). took (length (run_bytes ms))) sent.items)

  -- Or it refused the report.
  pub items_refused : (room : ℕ) (e : Refusal) → room ≡ 168 → send_answer room s.sender s.report with_note ≡ Err e
      → (◌≡◌ {A = Result ℕ Trouble} (Err (trouble.Refused e)) (report_answer t s note)) × (report_items t s note ≡ [])
  unfolding send_refusal report_refusal report_items report_answer
  items_refused room e h a =
      let b : send_answer 168 s.sender s.report with_note ≡ Err e = rw h at a in
      let q : eqb (number_of e) 0 ≡ false = ne_eqb (number_of e) 0 (λ z. omega (arith, number_above e)) in
      (rw b, rw (b, q))
