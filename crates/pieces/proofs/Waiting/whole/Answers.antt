-- `pieces::Waiting::whole` meets its contract: the head says how many bytes there are.
-- Assumes nothing.
use mathlib.Core.Path.{ap}
use Prim.Native.Nat.{ℕ, ◌+◌}
use lib.Dec.{leb}
use Rattle.pieces.specs.Machine.{is_whole}
use Rattle.pieces.proofs.Waiting.whole.Goals as goal

pub returns : goal.returns
unfolding is_whole
returns c = ap (λ (n : ℕ). leb (3 + n) c.args.self.have) c.read16.ensures
