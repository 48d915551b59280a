-- `bench::announcement` meets its contract: it lists the announcement's bytes.
-- Assumes nothing.
use native.Mathlib.Omega.{arith}
use Rattle.bench.proofs.Sending.{announcement-bytes}
use Rattle.bench.proofs.announcement.Goals as goal

pub returns : goal.returns
returns c = announcement-bytes c.args.size (omega arith) c.packets.ensures
