-- `times::Times::of` meets its contract: what is stored for the sender, and past the end of both arrays what stands for none.
-- Assumes nothing.
use mathlib.Core.Path.{◌≡◌, sym}
use mathlib.Core.Bool.{false}
use Prim.Native.Nat.{ℕ}
use native.Mathlib.Omega.{arith}
use lib.ListN.{length, get_or-eq_default}
use borrow.Author.Rules.{rules}
use Rattle.times.proofs.Times.of.Goals as goal

pub returns-then-k-ge-SENDERS : goal.returns-then-k-ge-SENDERS
returns-then-k-ge-SENDERS c =
    let a = c.args in
    let ks : length c.args.self.now.known ≡ 254 = search rules in
    let ts : length c.args.self.now.at ≡ 254 = search rules in
    let known = get_or-eq_default c.args.self.now.known false {n = c.args.sender} (omega arith) in
    let at = get_or-eq_default {A = ℕ} c.args.self.now.at 0 {n = c.args.sender} (omega arith) in
    λ i. record { known = sym known i; at = sym at i }
