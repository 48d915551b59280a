-- `dump::put_pairs` meets its contract: what is stored and the pairs that are left make them all.
-- Assumes nothing.
use mathlib.Core.Path.{◌≡◌, ◌∙◌}
use Prim.Native.Nat.{◌+◌, ◌*◌}
use native.Mathlib.Omega.{arith}
use lib.Seq.{sets}
use Rattle.lines.specs.Words.{word_at}
use Rattle.dump.specs.Dump.{pair_of}
use Rattle.dump.proofs.Texts.{pairs_turn}
use Rattle.dump.proofs.put_pairs.Goals as goal

pub loop-i-preserved : goal.loop-i-preserved
loop-i-preserved c =
    let left : c.put_pair.new.room ≡ sets c.loop-i.room (c.args.at + 2 * c.loop-i.i) (pair_of (word_at (2 + c.loop-i.i) c.args.f.now)) = cc in
    pairs_turn c.args.f.now c.loop-i.room c.args.at c.loop-i.i c.args.k (omega arith) left ∙ c.loop-i.invariant
