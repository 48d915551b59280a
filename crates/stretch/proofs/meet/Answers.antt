-- The time and the frame are read off its 16 bytes.
-- Assumes nothing.
use mathlib.Core.Path.{◌≡◌, subst}
use mathlib.Core.List.{List}
use Prim.Native.Nat.{ℕ}
use Rattle.wire.specs.Bytes.{number, part}
use Rattle.std.specs.Prelude.{Result}
use Rattle.refusal.specs.declared.Refusal.{Refusal}
use Rattle.times.specs.declared.Last.{Last}
use Rattle.times.specs.declared.Times.{Times}
use Rattle.times.specs.Run.{Stations, stations_in, Meets}
use Rattle.stretch.proofs.meet.Goals as goal

met : (b : Stations) (v : List ℕ) {t id : ℕ} {r : Result Last Refusal} {room : List ℕ} {left : Times} → t ≡ number (part 0 4 v) → id ≡ number (part 4 4 v)
    → Meets b t id (part 8 8 v) r room left → Meets b (number (part 0 4 v)) (number (part 4 4 v)) (part 8 8 v) r room left
met b v {t} {id} {r} {room} {left} e f m =
    subst (λ (x : ℕ). Meets b x (number (part 4 4 v)) (part 8 8 v) r room left) e (subst (λ (x : ℕ). Meets b t x (part 8 8 v) r room left) f m)

pub returns : goal.returns
returns c =
    let a = c.args in
    met (stations_in c.args.room.now c.args.times.now) c.args.value.now c.read32-time.ensures c.read32-id.ensures c.meet.ensures
