use Rattle.std.proofs.Common.{◌≡◌, ℕ, ◌<◌, length, get_or}
use Rattle.wire.proofs.bytes_at.Given as goal

abbrev pub invariant-loop-i : goal.invariant-loop-i
invariant-loop-i g l = record { long : length l.b-items ≡ g.row.N; read : (k : ℕ) → k < l.i → get_or l.b-items k 0 ≡ get_or l.rest k 0 }
