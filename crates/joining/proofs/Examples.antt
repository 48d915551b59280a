-- The worked examples on one session: the definitions compute to what docs/RULES.md lists (section 13).
-- Assumes nothing.
use mathlib.Core.Path.{◌≡◌, refl, ap}
use mathlib.Core.Bool.{true}
use Rattle.std.specs.Prelude.{None, Some, Ok, Err}
use mathlib.Core.List.{List, [], ◌∷◌}
use Prim.Native.Nat.{ℕ}
use lib.ListN.{replicate}
use Rattle.wire.specs.Bytes.{number, bytes, head, field}
use Rattle.values.specs.Range.{in_range}
use Rattle.values.specs.declared.Edition.TheVariants.{First, Second}
use Rattle.report.specs.declared.Report.{Report}
use Rattle.refusal.specs.declared.Refusal.TheVariants.{NotAPayload, OutOfSequence}
use Rattle.report.specs.Payload.{payload, read_payload, is_payload, in_order, note_fits, note_in, edition_in, report_in}
use Rattle.joining.specs.declared.Session.{Session}
use Rattle.refusal.specs.Answers.{refusal_of}
use Rattle.joining.specs.declared.Taken.{Taken}
use Rattle.joining.specs.Frame.{Frame, frame_checked, frame_refusal, malformed, foreign}
use Rattle.joining.specs.Joining.{fit, is_closed, is_open, carries, closed, opened, refused, sound, announcement_checked, announcement_refusal, announce, packet, take_frame}
use Rattle.joining.specs.Run.{solo_step, solo_answers}

-- Sender 5's announcement and data packet.
abbrev pub announces : List ℕ → Frame
announces d = record { identifier = 0x1CECFF05; data_bytes = d }

abbrev pub packs : List ℕ → Frame
packs d = record { identifier = 0x1CEBFF05; data_bytes = d }

-- The announcement of our group with this size, in two bytes, and this count.
abbrev pub sized : ℕ → ℕ → ℕ → Frame
sized low high count = announces (0x20 ∷ low ∷ high ∷ count ∷ 0xFF ∷ 0x14 ∷ 0xFF ∷ 0x00 ∷ [])

abbrev pub first : Frame
first = packs (0x01 ∷ 0x01 ∷ 0x02 ∷ 0x00 ∷ 0x64 ∷ 0x00 ∷ 0x02 ∷ 0x02 ∷ [])

abbrev pub report : ℕ → ℕ → ℕ → Report
report loss shake own = record { values = record { loss = loss; shake = shake; edition = First }; own = own }

-- And one of the second edition.
abbrev pub heated : ℕ → ℕ → ℕ → ℕ → Report
heated loss shake heat own = record { values = record { loss = loss; shake = shake; edition = Second heat }; own = own }

-- Loss 100, shake 200 and own number 7 as bytes, and what stands behind them: a heat of 300, a note of two bytes.
abbrev numbers : List ℕ → List ℕ
numbers rest =
    0x01 ∷ 0x02 ∷ 0x00 ∷ 0x64 ∷ 0x00 ∷ 0x02 ∷ 0x02 ∷ 0x00 ∷ 0xC8 ∷ 0x00 ∷ 0x03 ∷ 0x04 ∷ 0x00 ∷ 0x07 ∷ 0x00 ∷ 0x00 ∷ 0x00 ∷ rest

abbrev hot : List ℕ → List ℕ
hot rest = 0x05 ∷ 0x02 ∷ 0x00 ∷ 0x2C ∷ 0x01 ∷ rest

abbrev noted : List ℕ
noted = 0x04 ∷ 0x02 ∷ 0x00 ∷ 0x48 ∷ 0x69 ∷ []

-- A session stands for any fit one: what is answered doesn't depend on what was under way.
pub record Examples : Type 0 where
  -- P2: too few packets for the size, refusal 5.
  pub p2 : (s : Session) → fit s ≡ true → solo_step s (sized 17 0 2) ≡ refused 5 (closed s)
  -- P3: a size that no payload of ours has, refusal 7.
  pub p3 : (s : Session) → fit s ≡ true → solo_step s (sized 18 0 3) ≡ refused 7 (closed s)
  -- P4: the same packet twice, refusal 9.
  pub p4 : (s : Session) → fit s ≡ true → solo_answers s (sized 17 0 3 ∷ first ∷ first ∷ []) ≡ Ok None ∷ Ok None ∷ Err OutOfSequence ∷ []
  -- The edges of the size: 89 opens the session, 90 is refused 7.
  pub size89 : (s : Session) → fit s ≡ true → solo_step s (sized 89 0 13) ≡ record { answer = Ok None; session = opened 89 }
  pub size90 : (s : Session) → fit s ≡ true → solo_step s (sized 90 0 13) ≡ refused 7 (closed s)
  -- Rule 17.2: a payload of each edition, without a note and with one, byte for byte.
  pub first-bytes : payload (report 100 200 7) None ≡ numbers []
  pub first_noted : payload (report 100 200 7) (Some (0x48 ∷ 0x69 ∷ [])) ≡ numbers noted
  pub second_bytes : payload (heated 100 200 300 7) None ≡ numbers (hot [])
  pub second_noted : payload (heated 100 200 300 7) (Some (0x48 ∷ 0x69 ∷ [])) ≡ numbers (hot noted)
  -- Size 22 is either: a note of two bytes, or a heat.
  pub size22_first : read_payload (numbers noted) ≡ Ok (report 100 200 7)
  pub size22_second : read_payload (numbers (hot [])) ≡ Ok (heated 100 200 300 7)
  -- Sizes 23 and 24 are none with a heat, and 85 is none without.
  pub size23_second : read_payload (numbers (hot (0x04 ∷ []))) ≡ Err NotAPayload
  pub size24_second : read_payload (numbers (hot (0x04 ∷ 0x00 ∷ []))) ≡ Err NotAPayload
  pub size85_first : read_payload (numbers (0x04 ∷ 0x41 ∷ 0x00 ∷ replicate 65 0x61)) ≡ Err NotAPayload
  -- The edges of the heat: 4095 is accepted, 4096 isn't.
  pub heat4095 : read_payload (payload (heated 0 0 4095 0) None) ≡ Ok (heated 0 0 4095 0)
  pub heat4096 : read_payload (payload (heated 0 0 4096 0) None) ≡ Err NotAPayload
  -- The edges of the loss: 4095 is accepted, 4096 isn't.
  pub loss4095 : read_payload (payload (report 4095 0 0) None) ≡ Ok (report 4095 0 0)
  pub loss4096 : read_payload (payload (report 4096 0 0) None) ≡ Err NotAPayload

opens17 : (s : Session) → fit s ≡ true → solo_step s (sized 17 0 3) ≡ record { answer = Ok None; session = opened 17 }
unfolding number take_frame frame_refusal frame_checked malformed foreign announce announcement_refusal announcement_checked sound carries
opens17 s fits = rw fits

pub examples : Examples
unfolding payload field head bytes number read_payload is_payload in_order in_range note_fits note_in edition_in report_in solo_answers take_frame frame_refusal frame_checked malformed foreign announce announcement_refusal announcement_checked packet sound carries fit is_closed is_open refusal_of
examples =
    record {
      p2 = λ s fits. rw fits;
      p3 = λ s fits. rw fits;
      p4 = λ s fits. ap (λ (t : Taken). t.answer ∷ solo_answers t.session (first ∷ first ∷ [])) (opens17 s fits);
      size89 = λ s fits. rw fits;
      size90 = λ s fits. rw fits;
      first-bytes = refl;
      first_noted = refl;
      second_bytes = refl;
      second_noted = refl;
      size22_first = refl;
      size22_second = refl;
      size23_second = refl;
      size24_second = refl;
      size85_first = refl;
      heat4095 = refl;
      heat4096 = refl;
      loss4095 = refl;
      loss4096 = refl;
    }
