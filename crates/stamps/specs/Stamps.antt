-- The time that candump prints before a frame, in nanoseconds, and the time between two in milliseconds, as a log holds it.
use Rattle.std.specs.Prelude.{ℕ, ◌+◌, ◌-◌, ◌*◌, ◌/◌, ◌%◌, List, [], ◌∷◌, Bool, cond, ◌&&◌, ◌||◌, length, get_or, take, drop, replicate, leb, ltb, eqb, Option, Some, None, option_map, option_and_then}
use Rattle.std.proofs.lemmas.List.Edits.{sets}
use Rattle.wire.specs.Bytes.{same, part}
use Rattle.lines.specs.declared.Run.TheVariants.{Until}
use Rattle.lines.specs.Words.{run_length}
use Rattle.lines.specs.Numbers.{number_in}
use Rattle.stamps.specs.declared.Stamp.{Stamp}
use Rattle.stamps.specs.declared.Since.{Since}
use Rattle.stamps.specs.declared.Since.TheVariants.{Unknown, At, Beyond}

-- ---- reading

-- The fraction of a second that up to nine digits behind the point stand for, in nanoseconds: those that aren't there are 0.
unfoldable pub fraction_in : List ℕ → Option ℕ
fraction_in t = cond (leb (length t) 9) (number_in 10 999999999 (sets (replicate 9 48) 0 t)) None

-- Whole seconds and a fraction.
abbrev pub stamp_at : ℕ → ℕ → Stamp
stamp_at whole part = record { nanos = whole * 1000000000 + part }

unfoldable pub stamp_of : Option ℕ → Option ℕ → Option Stamp
stamp_of whole part = option_and_then (λ w. option_map (stamp_at w) part) whole

-- How many letters stand before the point.
unfoldable pub point_at : List ℕ → ℕ
point_at t = run_length (Until 46) t

-- What stands between the first byte of a word and its last.
unfoldable pub bare : List ℕ → List ℕ
bare w = take (length w - 2) (drop 1 w)

-- SECONDS.FRACTION: at most 2^32 - 1 seconds.
unfoldable pub seconds_of : List ℕ → Option Stamp
seconds_of t = stamp_of (number_in 10 4294967295 (take (point_at t) t)) (fraction_in (drop 1 (drop (point_at t) t)))

-- The same in brackets.
unfoldable pub seconds_in : List ℕ → Option Stamp
seconds_in w = seconds_of (bare w)

-- ---- a date and a time of day: (2015-07-10 06:17:32.249713)

-- Two digits at a place, at most so much.
abbrev pub two_at : ℕ → ℕ → List ℕ → Option ℕ
two_at at most t = number_in 10 most (part at 2 t)

-- The days of a year before each month.
abbrev pub month_starts : List ℕ
month_starts = 0 ∷ 0 ∷ 31 ∷ 59 ∷ 90 ∷ 120 ∷ 151 ∷ 181 ∷ 212 ∷ 243 ∷ 273 ∷ 304 ∷ 334 ∷ []

-- From March on, a year that 4 divides has one more; from 2000 to 2099 all of these are leap years.
unfoldable pub leap_day : ℕ → ℕ → ℕ
leap_day year month = cond (ltb 2 month && eqb (year % 4) 0) 1 0

-- The days from the end of 1999 on, by the year's last two digits. Times are only compared, so that any day may be the first.
unfoldable pub day_of : ℕ → ℕ → ℕ → ℕ
day_of year month day = 365 * year + (year + 3) / 4 + get_or month_starts month 0 + leap_day year month + day

-- The date, with the bracket before it; a day past the end of its month is one of the next.
unfoldable pub is_date : List ℕ → Bool
is_date w = same (take 3 w) (40 ∷ 50 ∷ 48 ∷ []) && (eqb (length w) 11 && (eqb (get_or w 5 0) 45 && eqb (get_or w 8 0) 45))

-- No month and no day is 0.
abbrev pub day_from : ℕ → ℕ → ℕ → Option ℕ
day_from year month day = cond (eqb month 0 || eqb day 0) None (Some (day_of year month day))

unfoldable pub day_in : List ℕ → Option ℕ
day_in w =
    cond (is_date w)
    (option_and_then (λ y. option_and_then (λ m. option_and_then (day_from y m) (two_at 9 31 w)) (two_at 6 12 w)) (two_at 3 99 w))
    None

-- The seconds of the time of day; a leap second is 60.
unfoldable pub is_clock : List ℕ → Bool
is_clock t = eqb (get_or t 2 0) 58 && (eqb (get_or t 5 0) 58 && eqb (get_or t 8 0) 46)

unfoldable pub clock_in : List ℕ → Option ℕ
clock_in t =
    cond (is_clock t)
    (option_and_then (λ h. option_and_then (λ m. option_map (λ s. (h * 60 + m) * 60 + s) (two_at 6 60 t)) (two_at 3 59 t)) (two_at 0 23 t))
    None

unfoldable pub seconds_from : Option ℕ → Option ℕ → Option ℕ
seconds_from day clock = option_and_then (λ d. option_map (λ c. d * 86400 + c) clock) day

-- The fraction stands behind the point, and before the bracket.
unfoldable pub dated_in : List ℕ → List ℕ → Option Stamp
dated_in w t = stamp_of (seconds_from (day_in w) (clock_in t)) (fraction_in (bare (drop 8 t)))

-- ---- counting

-- Where times count from: the first one that there is.
unfoldable pub earliest : Option Stamp → Option Stamp → Option Stamp
earliest None s = s
earliest (Some start) s = Some start

-- Whole milliseconds to a time from another, or from 0 where there is none, rounded down; 0 where the other is behind it.
unfoldable pub between : Option Stamp → Stamp → ℕ
between None s = s.nanos / 1000000
between (Some start) s = (s.nanos - start.nanos) / 1000000

-- The time of a frame in a log, which holds 32 bits.
unfoldable pub since_of : Option Stamp → Option Stamp → Since
since_of start None = Unknown
since_of start (Some s) = cond (ltb 4294967295 (between start s)) Beyond (At (between start s))
