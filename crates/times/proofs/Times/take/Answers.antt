-- `times::Times::take` meets its contract: the array has the length of a room.
-- Assumes nothing.
use mathlib.Core.Path.{subst}
use mathlib.Core.List.{List}
use Prim.Native.Nat.{ℕ}
use Rattle.times.specs.Run.{stations_in, timed_at, Takes}
use Rattle.times.proofs.Times.take.Goals as goal

pub returns : goal.returns
returns c =
    subst (λ (q : List ℕ). Takes (stations_in q c.args.self.now) (timed_at c.args.time c.args.id c.args.«data».now) c.timed.result c.timed.new.room c.timed.new.self)
    c.whole.ensures.1 c.timed.ensures
