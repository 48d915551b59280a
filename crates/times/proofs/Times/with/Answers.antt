-- `times::Times::with` meets its contract: both arrays are stored to, or stay where the sender is past their end.
-- Assumes nothing.
use mathlib.Core.Path.{◌≡◌, sym}
use native.Mathlib.Omega.{arith}
use lib.ListN.{length}
use lib.Seq.{set_out}
use borrow.Author.Rules.{rules}
use Rattle.times.proofs.Times.with.Goals as goal

pub returns-else-k-lt-SENDERS : goal.returns-else-k-lt-SENDERS
returns-else-k-lt-SENDERS c =
    let a = c.args in
    let ks : length c.args.self.known ≡ 254 = search rules in
    let ts : length c.args.self.at ≡ 254 = search rules in
    let known = set_out c.args.self.known c.args.sender c.args.last.known (omega arith) in
    let at = set_out c.args.self.at c.args.sender c.args.last.at (omega arith) in
    λ i. record { known = sym known i; at = sym at i }
