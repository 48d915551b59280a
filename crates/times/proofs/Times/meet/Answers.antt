-- `times::Times::meet` meets its contract: the array has the length of a room.
-- Assumes nothing.
use mathlib.Core.Path.{subst}
use mathlib.Core.List.{List}
use Prim.Native.Nat.{ℕ}
use Rattle.times.specs.Run.{stations_in, Meets}
use Rattle.times.proofs.Times.meet.Goals as goal

pub returns : goal.returns
returns c =
    subst (λ (q : List ℕ). Meets (stations_in q c.args.self.now) c.args.time c.args.id c.args.«data».now c.meet_in.result c.meet_in.new.room c.meet_in.new.self)
    c.whole.ensures.1 c.meet_in.ensures
