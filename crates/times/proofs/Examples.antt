-- The edges of the time rules on one sender, from a fresh session and no time on: the definitions compute to what is answered.
-- Assumes nothing.
use mathlib.Core.Path.{◌≡◌, refl}
use Rattle.std.specs.Prelude.{Option, None, Some}
use mathlib.Core.List.{[], ◌∷◌}
use Prim.Native.Nat.{ℕ}
use Rattle.wire.specs.Bytes.{number}
use Rattle.std.specs.Prelude.{Ok, Err}
use Rattle.refusal.specs.declared.Refusal.TheVariants.{NotOpen, BeforeLastTime}
use Rattle.refusal.specs.Answers.{refusal_of}
use Rattle.joining.specs.Frame.{frame_checked, frame_refusal, malformed, foreign}
use Rattle.joining.specs.Joining.{fit, is_closed, is_open, carries, sound, announcement_checked, announcement_refusal, announce, packet, take_frame}
use Rattle.joining.proofs.Examples.{packs, sized, first}
use Rattle.times.specs.Timed.{no_time, time_of, fit_last, is_before, is_late, timed_frame}
use Rattle.times.specs.Run.{Timed, station_after_all, station_answers, fresh_station}

-- Sender 5's announcement of 17 bytes and its packets 1 and 2, with a time or without.
abbrev opening : Option ℕ → Timed
opening t = record { frame = sized 17 0 3; time = t }

abbrev one : Option ℕ → Timed
one t = record { frame = first; time = t }

abbrev two : Option ℕ → Timed
two t = record { frame = packs (0x02 ∷ 0x00 ∷ 0xC8 ∷ 0x00 ∷ 0x03 ∷ 0x04 ∷ 0x00 ∷ 0x07 ∷ []); time = t }

pub record Examples : Type 0 where
  -- 750 ms are in time, 751 aren't: the session is closed, so a packet gets 8, and the time stays as it was.
  pub in_time : station_answers fresh_station (opening (Some 0) ∷ one (Some 750) ∷ two (Some 1500) ∷ []) ≡ Ok None ∷ Ok None ∷ Ok None ∷ []
  pub too_late : station_answers fresh_station (opening (Some 0) ∷ one (Some 751) ∷ one (Some 750) ∷ []) ≡ Ok None ∷ Err NotOpen ∷ Err NotOpen ∷ []
  pub time_stays : (station_after_all fresh_station (opening (Some 0) ∷ one (Some 751) ∷ [])).last ≡ time_of 0
  -- A time before the last one is refused 26 and changes nothing; the same time isn't before it.
  pub turned_back : station_answers fresh_station (opening (Some 9) ∷ one (Some 8) ∷ one (Some 9) ∷ []) ≡ Ok None ∷ Err BeforeLastTime ∷ Ok None ∷ []
  -- A refused frame that closes, here packet 2 for packet 1, sets no time either.
  pub refused-sets-none : (station_after_all fresh_station (opening (Some 9) ∷ two (Some 10) ∷ [])).last ≡ time_of 9
  -- An announcement that comes late opens the session all the same.
  pub late_opening : station_answers fresh_station (opening (Some 0) ∷ opening (Some 9000) ∷ one (Some 9750) ∷ []) ≡ Ok None ∷ Ok None ∷ Ok None ∷ []
  -- Frames without a time neither test nor set it: behind such an announcement the last time of an earlier frame still counts.
  pub untimed : station_answers fresh_station (opening (Some 9) ∷ one None ∷ two (Some 10) ∷ []) ≡ Ok None ∷ Ok None ∷ Ok None ∷ []
  pub earlier_counts : station_answers fresh_station (opening (Some 0) ∷ opening None ∷ one (Some 751) ∷ []) ≡ Ok None ∷ Ok None ∷ Err NotOpen ∷ []
  pub untimed-sets-none : (station_after_all fresh_station (opening None ∷ one None ∷ [])).last ≡ no_time

pub examples : Examples
unfolding number take_frame frame_refusal frame_checked malformed foreign announce announcement_refusal announcement_checked packet sound carries fit is_closed is_open timed_frame fit_last is_before is_late station_after_all station_answers refusal_of
examples =
    record {
      in_time = refl;
      too_late = refl;
      time_stays = refl;
      turned_back = refl;
      refused-sets-none = refl;
      late_opening = refl;
      untimed = refl;
      earlier_counts = refl;
      untimed-sets-none = refl;
    }
