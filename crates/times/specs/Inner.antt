-- What the inner functions of `times` answer, and what its proofs speak of; no public contract and no promise cites it.
use Rattle.std.specs.Prelude.{ℕ, cond, not, List}
use Rattle.joining.specs.Frame.{sender_of}
use Rattle.joining.specs.Run.{session_of}
use Rattle.bus.specs.Room.{sessions_in}
use Rattle.times.specs.declared.Came.{Came}
use Rattle.times.specs.declared.Came.TheVariants.{InTime, Late, Before, Unfit}
use Rattle.times.specs.declared.Last.{Last}
use Rattle.times.specs.declared.Station.{Station}
use Rattle.times.specs.Timed.{fit_last, is_before, is_late}

-- How a time stands to the last one, those tests in their order.
unfoldable pub came_at : Last → ℕ → Came
came_at l t = cond (not (fit_last l)) Unfit (cond (is_before l t) Before (cond (is_late l t) Late InTime))

-- The session of a frame's sender in lent bytes, and that last time.
abbrev pub station_in : List ℕ → Last → ℕ → Station
station_in room l id = record { session = session_of (sender_of id) (sessions_in room); last = l }
