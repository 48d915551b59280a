-- The tests are those of the definition: two scores are equal where their bits are.
-- Assumes nothing.
use native.Mathlib.Omega.{arith}
use mir.Syntax.{w32}
use Rattle.std.proofs.lemmas.Grind.{common_steps}
use Rattle.laws.proofs.Words.{same_bits}
use Rattle.list.specs.Inner.{turns}
use Rattle.list.proofs.Bar.turns.Goals as goal

pub returns-then-self : goal.returns-then-self
unfolding turns
returns-then-self c =
    let bits = same_bits w32 c.args.score c.args.self.score c.ranges.score (record { sfits = c.struct_told-1.given.1.1.0.1 }) in
    grind (arith, common_steps, bits)

pub returns-else-self : goal.returns-else-self
unfolding turns
returns-else-self c =
    let bits = same_bits w32 c.args.score c.args.self.score c.ranges.score (record { sfits = c.struct_told-1.given.1.1.0.1 }) in
    grind (arith, common_steps, bits)
