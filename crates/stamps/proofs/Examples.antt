-- Times, computed by the definitions.
-- Assumes nothing.
use mathlib.Core.Path.{◌≡◌, refl}
use mathlib.Core.List.{[], ◌∷◌}
use Rattle.std.proofs.Common.{ℕ, Option, Some, None}
use Rattle.lines.specs.Words.{run_length}
use Rattle.lines.specs.Numbers.{digit_of, with_digit, number_on, number_in}
use Rattle.stamps.specs.declared.Stamp.{Stamp}
use Rattle.stamps.specs.declared.Since.TheVariants.{At, Beyond}
use Rattle.stamps.specs.Stamps.{bare, point_at, fraction_in, stamp_of, seconds_of, seconds_in, leap_day, day_of, is_date, day_in, is_clock, clock_in, seconds_from, dated_in, earliest, between, since_of}

-- A time of so many nanoseconds.
abbrev a_stamp : ℕ → Option Stamp
a_stamp n = Some (record { nanos = n })

-- `(1436509052.249713)`, and a fraction of one digit, which is tenths: `(0.1)`.
micros : seconds_in (40 ∷ 49 ∷ 52 ∷ 51 ∷ 54 ∷ 53 ∷ 48 ∷ 57 ∷ 48 ∷ 53 ∷ 50 ∷ 46 ∷ 50 ∷ 52 ∷ 57 ∷ 55 ∷ 49 ∷ 51 ∷ 41 ∷ []) ≡ a_stamp 1436509052249713000
unfolding bare point_at run_length fraction_in digit_of with_digit number_on number_in stamp_of seconds_of seconds_in leap_day day_of is_date day_in is_clock clock_in seconds_from dated_in earliest between since_of
micros = refl

-- The same.
tenths : seconds_in (40 ∷ 48 ∷ 46 ∷ 49 ∷ 41 ∷ []) ≡ a_stamp 100000000
unfolding bare point_at run_length fraction_in digit_of with_digit number_on number_in stamp_of seconds_of seconds_in leap_day day_of is_date day_in is_clock clock_in seconds_from dated_in earliest between since_of
tenths = refl

-- Ten digits behind the point are no time: `(0.0000000001)`.
ten_digits : seconds_in (40 ∷ 48 ∷ 46 ∷ 48 ∷ 48 ∷ 48 ∷ 48 ∷ 48 ∷ 48 ∷ 48 ∷ 48 ∷ 48 ∷ 49 ∷ 41 ∷ []) ≡ None
unfolding bare point_at run_length fraction_in digit_of with_digit number_on number_in stamp_of seconds_of seconds_in leap_day day_of is_date day_in is_clock clock_in seconds_from dated_in earliest between since_of
ten_digits = refl

-- `(x)`
no_digits : seconds_in (40 ∷ 120 ∷ 41 ∷ []) ≡ None
unfolding bare point_at run_length fraction_in digit_of with_digit number_on number_in stamp_of seconds_of seconds_in leap_day day_of is_date day_in is_clock clock_in seconds_from dated_in earliest between since_of
no_digits = refl

-- `(2015-07-10 06:17:32.249713)` is 5670 days after the end of 1999.
date : dated_in (40 ∷ 50 ∷ 48 ∷ 49 ∷ 53 ∷ 45 ∷ 48 ∷ 55 ∷ 45 ∷ 49 ∷ 48 ∷ []) (48 ∷ 54 ∷ 58 ∷ 49 ∷ 55 ∷ 58 ∷ 51 ∷ 50 ∷ 46 ∷ 50 ∷ 52 ∷ 57 ∷ 55 ∷ 49 ∷ 51 ∷ 41 ∷ []) ≡ a_stamp 489910652249713000
unfolding bare point_at run_length fraction_in digit_of with_digit number_on number_in stamp_of seconds_of seconds_in leap_day day_of is_date day_in is_clock clock_in seconds_from dated_in earliest between since_of
date = refl

-- From the end of February to March: a leap year has a day between, another year has none. `(2024-02-29 00:00:00.0)`, `(2024-03-01 00:00:00.0)`.
leap_february : dated_in (40 ∷ 50 ∷ 48 ∷ 50 ∷ 52 ∷ 45 ∷ 48 ∷ 50 ∷ 45 ∷ 50 ∷ 57 ∷ []) (48 ∷ 48 ∷ 58 ∷ 48 ∷ 48 ∷ 58 ∷ 48 ∷ 48 ∷ 46 ∷ 48 ∷ 41 ∷ []) ≡ a_stamp 762566400000000000
unfolding bare point_at run_length fraction_in digit_of with_digit number_on number_in stamp_of seconds_of seconds_in leap_day day_of is_date day_in is_clock clock_in seconds_from dated_in earliest between since_of
leap_february = refl

-- The same.
leap_march : dated_in (40 ∷ 50 ∷ 48 ∷ 50 ∷ 52 ∷ 45 ∷ 48 ∷ 51 ∷ 45 ∷ 48 ∷ 49 ∷ []) (48 ∷ 48 ∷ 58 ∷ 48 ∷ 48 ∷ 58 ∷ 48 ∷ 48 ∷ 46 ∷ 48 ∷ 41 ∷ []) ≡ a_stamp 762652800000000000
unfolding bare point_at run_length fraction_in digit_of with_digit number_on number_in stamp_of seconds_of seconds_in leap_day day_of is_date day_in is_clock clock_in seconds_from dated_in earliest between since_of
leap_march = refl

-- The last second of a year and the first of the next: `(2025-12-31 23:59:59.999999999)`, `(2026-01-01 00:00:00.0)`.
old_year : dated_in (40 ∷ 50 ∷ 48 ∷ 50 ∷ 53 ∷ 45 ∷ 49 ∷ 50 ∷ 45 ∷ 51 ∷ 49 ∷ []) (50 ∷ 51 ∷ 58 ∷ 53 ∷ 57 ∷ 58 ∷ 53 ∷ 57 ∷ 46 ∷ 57 ∷ 57 ∷ 57 ∷ 57 ∷ 57 ∷ 57 ∷ 57 ∷ 57 ∷ 57 ∷ 41 ∷ []) ≡ a_stamp 820627199999999999
unfolding bare point_at run_length fraction_in digit_of with_digit number_on number_in stamp_of seconds_of seconds_in leap_day day_of is_date day_in is_clock clock_in seconds_from dated_in earliest between since_of
old_year = refl

-- The same.
new_year : dated_in (40 ∷ 50 ∷ 48 ∷ 50 ∷ 54 ∷ 45 ∷ 48 ∷ 49 ∷ 45 ∷ 48 ∷ 49 ∷ []) (48 ∷ 48 ∷ 58 ∷ 48 ∷ 48 ∷ 58 ∷ 48 ∷ 48 ∷ 46 ∷ 48 ∷ 41 ∷ []) ≡ a_stamp 820627200000000000
unfolding bare point_at run_length fraction_in digit_of with_digit number_on number_in stamp_of seconds_of seconds_in leap_day day_of is_date day_in is_clock clock_in seconds_from dated_in earliest between since_of
new_year = refl

-- Rounded down, and 0 for a time before the start.
rounded : since_of (a_stamp 1000000) (a_stamp 751999999) ≡ At 750
unfolding bare point_at run_length fraction_in digit_of with_digit number_on number_in stamp_of seconds_of seconds_in leap_day day_of is_date day_in is_clock clock_in seconds_from dated_in earliest between since_of
rounded = refl

-- The same.
before : since_of (a_stamp 1000000) (a_stamp 1) ≡ At 0
unfolding bare point_at run_length fraction_in digit_of with_digit number_on number_in stamp_of seconds_of seconds_in leap_day day_of is_date day_in is_clock clock_in seconds_from dated_in earliest between since_of
before = refl

-- 2^32 - 1 milliseconds are the last.
last : since_of (a_stamp 1) (a_stamp 4294967296000000) ≡ At 4294967295
unfolding bare point_at run_length fraction_in digit_of with_digit number_on number_in stamp_of seconds_of seconds_in leap_day day_of is_date day_in is_clock clock_in seconds_from dated_in earliest between since_of
last = refl

-- The same.
past : since_of (a_stamp 1) (a_stamp 4294967296000001) ≡ Beyond
unfolding bare point_at run_length fraction_in digit_of with_digit number_on number_in stamp_of seconds_of seconds_in leap_day day_of is_date day_in is_clock clock_in seconds_from dated_in earliest between since_of
past = refl
