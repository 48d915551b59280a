-- A part by its ends is a part by its length.
-- Assumes nothing.
use mathlib.Core.Path.{◌≡◌, ap}
use mathlib.Core.List.{List}
use Prim.Native.Nat.{ℕ, ◌+◌, ◌-◌}
use native.Mathlib.Omega.{arith}
use lib.ListN.{take, drop}
use Rattle.wire.specs.Bytes.{part}
use Rattle.stretch.proofs.value_at.Goals as goal

ends : (l : List ℕ) (at : ℕ) {m n : ℕ} → m ≡ n → take (at + m - at) (drop at l) ≡ part at n l
ends l at {m} {n} e =
    let long : at + m - at ≡ n = omega arith in
    ap (λ (k : ℕ). take k (drop at l)) long

pub returns : goal.returns
returns c = ends _ _ c.read16.ensures
