-- A cart of the first edition never shows a report of the second: its session joins the payload and its reader refuses it, or the announced
-- size opens no session of its.
-- Assumes nothing.
use mathlib.Core.Path.{◌≡◌, refl, sym, ap, ap₂, ◌∙◌}
use mathlib.Core.Bool.{Bool, true, false, cond, not, ◌&&◌, or-true}
use mathlib.Core.Logic.{◌⊎◌, inl, inr}
use Rattle.std.specs.Prelude.{Option, None, Some}
use mathlib.Core.List.{List, [], ◌∷◌, ◌++◌}
use Prim.Native.Nat.{ℕ, zero, suc, ◌+◌, ◌-◌, ◌*◌, ◌/◌, ◌%◌, ◌≤◌, ◌<◌}
use native.Mathlib.Omega.{arith}
use borrow.Author.Tests.{le-leb, leb-true, le-ltb, lt-ltb, eq-eqb, ne_eqb, eqb-true}
use lib.Dec.{leb, ltb, eqb, lit≤}
use lib.ListN.{length, get_or, take, replicate}
use lib.Seq.{take_all, take-append_seam}
use Rattle.laws.proofs.Tests.{Tested, passed, failed, tested, or_either, and_both, if_so}
use Rattle.wire.specs.Bytes.{number, bytes, part}
use Rattle.values.specs.declared.Edition.{Edition}
use Rattle.values.specs.declared.Edition.TheVariants.{First, Second}
use Rattle.report.specs.declared.Report.{Report}
use Rattle.report.specs.Payload.{payload, plain_size, size, note_fits, edition_in}
use Rattle.report.specs.First.{read_first}
use Rattle.report.proofs.Places.{size-payload}
use Rattle.report.proofs.First.{refuses_second, reads_as_before}
use Rattle.report.proofs.RoundTrip.{Permitted, write_read, same_edition}
use Rattle.joining.specs.declared.Session.{Session}
use Rattle.joining.specs.Answers.{Answer}
use Rattle.std.specs.Prelude.{Ok, Err}
use Rattle.refusal.specs.declared.Refusal.{Refusal}
use Rattle.refusal.specs.declared.Refusal.TheVariants.{OtherSize, NotOpen, NotAPayload}
use Rattle.refusal.specs.Answers.{refusal_of}
use Rattle.joining.specs.declared.Taken.{Taken}
use Rattle.joining.specs.Frame.{Frame, frame_refusal, is_announcement}
use Rattle.joining.specs.Joining.{packets, closed, is_closed, stored, refused, size_in, sound, yields}
use Rattle.joining.specs.First.{carries_first, fit_first, opened_first, announce_first, packet_first, take_first, answers_first}
use Rattle.joining.proofs.Answers.{errs, refuses, keeps}
use Rattle.bench.specs.Bench.{announcement, packet_data, carrier, opening, packets_from, frames}
use Rattle.bench.proofs.Sending.{length_data, length-announcement}
use Rattle.bench.proofs.Joins.{midway_in, midway_stores, taken, in_format}

-- An announcement of ours opens a session of the first edition for a size that it carries, and is else refused 7.
announces : (s : Session) (n : ℕ) → 9 ≤ n → n ≤ 1785
    → announce_first s (announcement n) ≡ cond (not (carries_first n)) (refused 7 (closed s)) (record { answer = Ok None; session = opened_first n })
unfolding announce_first announcement sound bytes number
announces s n low high =
    let said : n % 256 + 256 * (n / 256 % 256 + 256 * 0) ≡ n = omega arith in
    rw (said, le-leb 9 n low, le-leb n 1785 high, eq-eqb (packets n) (packets n) refl)

module _ (sender : ℕ) (known : sender ≤ 253) (p : List ℕ) where
  -- The frames of a payload, by the first edition's rules.
  opening-taken : (s : Session) → fit_first s ≡ true → take_first s (opening sender p) ≡ announce_first s (announcement (length p))
  unfolding take_first
  opening-taken s h =
      let d = announcement (length p) in
      let eight = length-announcement (length p) in
      rw (taken sender known 236 d refl (lit≤ tt) eight, h, in_format sender known 236 d refl (lit≤ tt) eight)

  packet-taken : (s : Session) (i : ℕ) → fit_first s ≡ true → take_first s (carrier sender p i) ≡ packet_first s (packet_data p i)
  unfolding take_first
  packet-taken s i h =
      let d = packet_data p i in
      let eight = length_data p i in
      rw (taken sender known 235 d refl (lit≤ tt) eight, h, in_format sender known 235 d refl (lit≤ tt) eight)

  -- A size that it carries: each frame is kept, and the last one has its reader's answer.
  module _ (carried : carries_first (length p) ≡ true) where
    range : (17 ≤ length p) × (length p ≤ 84)
    unfolding carries_first
    range = go (or_either (eqb (length p) 17) (leb 20 (length p) && leb (length p) 84) carried)
      where
        go : (eqb (length p) 17 ≡ true) ⊎ ((leb 20 (length p) && leb (length p) 84) ≡ true) → (17 ≤ length p) × (length p ≤ 84)
        go (inl e) = let n = eqb-true (length p) 17 e in (omega arith, omega arith)
        go (inr e) =
            let b = and_both (leb 20 (length p)) (leb (length p) 84) e in
            let low = leb-true 20 (length p) b.0 in
            (omega arith, leb-true (length p) 84 b.1)

    midway : ℕ → Session
    midway j = midway_in 84 p j

    midway_fits : (j : ℕ) → j < packets (length p) → fit_first (midway j) ≡ true
    unfolding fit_first midway midway_in
    midway_fits j h =
        rw (carried, eq-eqb (packets (length p)) (packets (length p)) refl, lt-ltb 0 (j + 1) (omega arith), le-leb (j + 1) (packets (length p)) (omega arith))
        (or-true (is_closed (midway j)))

    kept : (j : ℕ) → j + 1 < packets (length p) → packet_first (midway j) (packet_data p (j + 1)) ≡ record { answer = Ok None; session = midway (j + 1) }
    unfolding packet_first midway midway_in packet_data
    kept j h =
        rw (ne_eqb (length p) 0 (λ e. omega (arith, range.0)), eq-eqb (j + 1) (j + 1) refl, lt-ltb (j + 1) (packets (length p)) h, midway_stores 84 p j range.1 (omega arith))

    last : (j : ℕ) → j + 1 ≡ packets (length p) → (packet_first (midway j) (packet_data p (j + 1))).answer ≡ yields (read_first p)
    unfolding packet_first midway midway_in packet_data
    last j h =
        let whole : take (7 * (j + 1)) p ≡ p = take_all (7 * (j + 1)) p (omega arith) in
        rw (ne_eqb (length p) 0 (λ e. omega (arith, range.0)), eq-eqb (j + 1) (j + 1) refl, le-ltb (j + 1) (packets (length p)) (omega arith), midway_stores 84 p j range.1 (omega arith), whole, take-append_seam p)

    packets_run : (n j : ℕ) → j + suc n ≡ packets (length p)
        → answers_first (midway j) (packets_from sender p (j + 1) (suc n)) ≡ replicate n (Ok None) ++ (yields (read_first p) ∷ [])
    unfolding answers_first packets_from
    packets_run zero j h =
        ap (λ (a : Answer). a ∷ [])
        (ap (λ (t : Taken). t.answer) (packet-taken (midway j) (j + 1) (midway_fits j (omega arith))) ∙ last j (omega arith))
    packets_run (suc n) j h =
        let e = packet-taken (midway j) (j + 1) (midway_fits j (omega arith)) ∙ kept j (omega arith) in
        ap (λ (t : Taken). t.answer ∷ answers_first t.session (packets_from sender p (j + 1 + 1) (suc n))) e
        ∙ ap (λ (l : List Answer). Ok None ∷ l) (packets_run n (j + 1) (omega arith))

    pub older_joins : (s : Session) → fit_first s ≡ true → answers_first s (frames sender p) ≡ replicate (packets (length p)) (Ok None) ++ (yields (read_first p) ∷ [])
    unfolding answers_first frames midway midway_in
    older_joins s h =
        let n = packets (length p) - 1 in
        let all : packets (length p) ≡ suc n = omega (arith, range.0) in
        let e = rw carried at (opening-taken s h ∙ announces s (length p) (omega (arith, range.0)) (omega (arith, range.1))) in
        rw all
        (ap (λ (t : Taken). t.answer ∷ answers_first t.session (packets_from sender p 1 (suc n))) e
        ∙ ap (λ (l : List Answer). Ok None ∷ l) (packets_run n 0 (omega arith)))

  -- Another size: the announcement is refused 7 and leaves the session closed, and each packet is refused 8.
  strays : (s : Session) (n i : ℕ) → answers_first (closed s) (packets_from sender p i n) ≡ replicate n (Err NotOpen)
  unfolding answers_first packets_from packet_first fit_first is_closed refusal_of
  strays s zero i = refl
  strays s (suc n) i =
      ap (λ (t : Taken). t.answer ∷ answers_first t.session (packets_from sender p (i + 1) n)) (packet-taken (closed s) i refl)
      ∙ ap (λ (l : List Answer). Err NotOpen ∷ l) (strays s n (i + 1))

  pub older_shut : (s : Session) → fit_first s ≡ true → carries_first (length p) ≡ false → 9 ≤ length p → length p ≤ 1785
      → answers_first s (frames sender p) ≡ Err OtherSize ∷ replicate (packets (length p)) (Err NotOpen)
  unfolding answers_first frames refusal_of
  older_shut s h other low high =
      let e = rw other at (opening-taken s h ∙ announces s (length p) low high) in
      ap (λ (t : Taken). t.answer ∷ answers_first t.session (packets_from sender p 1 (packets (length p)))) e
      ∙ ap (λ (l : List Answer). Err OtherSize ∷ l) (strays s (packets (length p)) 1)

-- A payload of the second edition has 22 to 89 bytes.
size_second : (e : Edition) (note : Option (List ℕ)) {heat : ℕ} → e ≡ Second heat → note_fits note ≡ true → (22 ≤ size e note) × (size e note ≤ 89)
unfolding note_fits
size_second e None second h = let n = ap plain_size second in (omega arith, omega arith)
size_second e (Some note) second h =
    let n = ap plain_size second in
    let short = leb-true (length note) 64 h in
    (omega arith, omega arith)

first-carries : (n : ℕ) → 20 ≤ n → carries_first n ≡ leb n 84
unfolding carries_first
first-carries n h = rw (ne_eqb n 17 (λ e. omega arith), le-leb 20 n h)

-- Rule 17.8: what a cart of the first edition answers the frames of a report of the second: up to 84 bytes the last packet is refused 10; from
-- 85 on the announcement is refused 7, and each packet 8.
unfoldable pub older_answers : ℕ → List Answer
older_answers n =
    cond (leb n 84) (replicate (packets n) (Ok None) ++ (Err NotAPayload ∷ [])) (Err OtherSize ∷ replicate (packets n) (Err NotOpen))

module _ (sender : ℕ) (known : sender ≤ 253) (r : Report) (note : Option (List ℕ)) {heat : ℕ} (second : r.values.edition ≡ Second heat)
    (short : note_fits note ≡ true) (s : Session) (ready : fit_first s ≡ true) where
  pub older_refuses : answers_first s (frames sender (payload r note)) ≡ older_answers (size r.values.edition note)
  unfolding older_answers
  older_refuses = rw (← long) (go (leb (length p) 84) refl)
    where
      p : List ℕ
      p = payload r note

      long : length p ≡ size r.values.edition note
      long = size-payload r note

      range : (22 ≤ length p) × (length p ≤ 89)
      range = rw long (size_second r.values.edition note second short)

      is : carries_first (length p) ≡ leb (length p) 84
      is = first-carries (length p) (omega (arith, range.0))

      go : (b : Bool) → leb (length p) 84 ≡ b
          → answers_first s (frames sender p)
          ≡ cond b (replicate (packets (length p)) (Ok None) ++ (Err NotAPayload ∷ [])) (Err OtherSize ∷ replicate (packets (length p)) (Err NotOpen))
      go true e = rw (refuses_second r note second) at (older_joins sender known p (is ∙ e) s ready)
      go false e = older_shut sender known p s ready (is ∙ e) (omega (arith, range.0)) (omega (arith, range.1))

-- None of these is a report.
abbrev pub NoReport : List Answer → Type 0
NoReport [] = Unit
NoReport (a ∷ rest) = ((x : Report) → a ≡ Ok (Some x) → ⊥) × NoReport rest

refusals : (n : ℕ) (e : Refusal) → NoReport (replicate n (Err e))
refusals zero e = tt
refusals (suc n) e = (λ x. errs e, refusals n e)

kept_refused : (n : ℕ) (e : Refusal) → NoReport (replicate n (Ok None) ++ (Err e ∷ []))
kept_refused zero e = (λ x. errs e, tt)
kept_refused (suc n) e = (λ x. keeps, kept_refused n e)

none_shown : (n : ℕ) → NoReport (older_answers n)
unfolding older_answers
none_shown n = go (leb n 84)
  where
    go : (b : Bool) → NoReport (cond b (replicate (packets n) (Ok None) ++ (Err NotAPayload ∷ [])) (Err OtherSize ∷ replicate (packets n) (Err NotOpen)))
    go true = kept_refused (packets n) NotAPayload
    go false = (λ x. errs OtherSize, refusals (packets n) NotOpen)

pub older_shows_none : (sender : ℕ) → sender ≤ 253 → (r : Report) (note : Option (List ℕ)) {heat : ℕ} → r.values.edition ≡ Second heat → note_fits note ≡ true
    → (s : Session) → fit_first s ≡ true → NoReport (answers_first s (frames sender (payload r note)))
older_shows_none sender known r note second short s ready =
    rw (older_refuses sender known r note second short s ready) (none_shown (size r.values.edition note))

-- Whatever frames come, and however packets are padded: the bytes that a cart of the first edition reads a report from are no payload of the second.
pub older_never : (s : Session) (f : Frame) (x : Report) → (take_first s f).answer ≡ Ok (Some x) → (r : Report) (note : Option (List ℕ)) {heat : ℕ} → r.values.edition ≡ Second heat
    → take s.size (stored s f.data_bytes) ≡ payload r note → ⊥
unfolding take_first announce_first packet_first
older_never s f x h r note second same = framed (tested (not (eqb (frame_refusal f.identifier d) 0))) (tested (not (fit_first s))) (tested (is_announcement f.identifier)) h
  where
    d : List ℕ
    d = f.data_bytes

    announced : Tested (not (eqb (get_or d 0 0) 32)) → Tested (not (sound d)) → Tested (not (eqb (number (part 5 3 d)) 65300)) → Tested (not (carries_first (size_in d))) → (announce_first s d).answer ≡ Ok (Some x) → ⊥
    announced (passed a) b c e q = refuses 4 (rw a at q)
    announced (failed a) (passed b) c e q = refuses 5 (rw (a, b) at q)
    announced (failed a) (failed b) (passed c) e q = refuses 6 (rw (a, b, c) at q)
    announced (failed a) (failed b) (failed c) (passed e) q = refuses 7 (rw (a, b, c, e) at q)
    announced (failed a) (failed b) (failed c) (failed e) q = keeps (rw (a, b, c, e) at q)

    packed : Tested (eqb s.size 0) → Tested (not (eqb (get_or d 0 0) s.next)) → Tested (ltb s.next s.count) → (packet_first s d).answer ≡ Ok (Some x) → ⊥
    packed (passed a) b c q = refuses 8 (rw a at q)
    packed (failed a) (passed b) c q = refuses 9 (rw (a, b) at q)
    packed (failed a) (failed b) (passed c) q = keeps (rw (a, b, c) at q)
    packed (failed a) (failed b) (failed c) q = errs NotAPayload (rw (a, b, c, same, refuses_second r note second) at q)

    framed : Tested (not (eqb (frame_refusal f.identifier d) 0)) → Tested (not (fit_first s)) → Tested (is_announcement f.identifier) → (take_first s f).answer ≡ Ok (Some x) → ⊥
    framed (passed a) b c q = refuses (frame_refusal f.identifier d) (rw a at q)
    framed (failed a) (passed b) c q = refuses 24 (rw (a, b) at q)
    framed (failed a) (failed b) (passed c) q =
        announced (tested (not (eqb (get_or d 0 0) 32))) (tested (not (sound d))) (tested (not (eqb (number (part 5 3 d)) 65300))) (tested (not (carries_first (size_in d)))) (rw (a, b, c) at q)
    framed (failed a) (failed b) (failed c) q =
        packed (tested (eqb s.size 0)) (tested (not (eqb (get_or d 0 0) s.next))) (tested (ltb s.next s.count)) (rw (a, b, c) at q)

-- And it is the older cart: what has no heat it reads, as ours does.
module _ (sender : ℕ) (known : sender ≤ 253) (r : Report) (note : Option (List ℕ)) (first : r.values.edition ≡ First) (permitted : Permitted r note)
    (s : Session) (ready : fit_first s ≡ true) where
  pub older_reads : answers_first s (frames sender (payload r note)) ≡ replicate (packets (size First note)) (Ok None) ++ (Ok (Some r) ∷ [])
  unfolding edition_in carries_first note_fits
  older_reads =
      older_joins sender known p carried s ready
      ∙ ap₂ (λ n a. replicate (packets n) (Ok None) ++ (yields a ∷ [])) long (sym (reads_as_before p (untagged (tested (eqb (get_or p 17 0) 5)))) ∙ write_read r note permitted)
    where
      p : List ℕ
      p = payload r note

      long : length p ≡ size First note
      long = size-payload r note ∙ ap (λ e. size e note) first

      carried : carries_first (length p) ≡ true
      carried = rw long (sizes note permitted.short)
        where
          sizes : (note : Option (List ℕ)) → note_fits note ≡ true → carries_first (size First note) ≡ true
          sizes None h = refl
          sizes (Some note) h =
              let short = leb-true (length note) 64 h in
              rw (ne_eqb (20 + length note) 17 (λ e. omega arith), le-leb 20 (20 + length note) (omega arith), le-leb (20 + length note) 84 (omega arith))

      untagged : Tested (eqb (get_or p 17 0) 5) → eqb (get_or p 17 0) 5 ≡ false
      untagged (failed e) = e
      untagged (passed e) = absurd (other (sym (if_so (Second (number (part 20 2 p))) First e) ∙ same_edition r note permitted ∙ first))
        where
          other : {heat : ℕ} → Second heat ≡ First → ⊥
          other q = let z : ◌≡◌ {A = ℕ} 0 1 = cc in omega arith
