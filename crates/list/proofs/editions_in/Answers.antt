-- The invariant: the places so far have their names' editions.
-- Assumes nothing.
use mathlib.Core.Path.{◌≡◌, refl, subst}
use Prim.Native.Nat.{◌%◌}
use native.Mathlib.Omega.{arith}
use borrow.Author.Rules.{rules}
use Rattle.list.proofs.Reading.{Read, read_more, read_all}
use Rattle.list.proofs.editions_in.Goals as goal

pub loop-i-init : goal.loop-i-init
loop-i-init c = record { room = search rules; whole = refl; first = λ k h. absurd (omega arith) }

pub loop-i-preserved : goal.loop-i-preserved
loop-i-preserved c = read_more (λ n. n % 4097) c.args.names c.loop-i.i c.loop-i.editions (omega arith) refl c.loop-i.invariant

pub returns : goal.returns
returns c =
    let all : c.loop-i.i ≡ 16 = omega arith in
    read_all (λ n. n % 4097) c.args.names c.loop-i.editions (subst (λ n. Read (λ n. n % 4097) c.args.names n c.loop-i.editions) all c.loop-i.invariant)
