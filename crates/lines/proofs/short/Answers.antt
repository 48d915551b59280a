-- `lines::short` meets its contract: a number of at most 32,768 is also one below zero of two bytes.
-- Assumes nothing.
use Rattle.std.proofs.Common.{◌≡◌, ◌≤◌, arith, pos, neg_ℤ, ◌-ℤ◌, to_z, of_z, w64}
use Rattle.std.proofs.lemmas.Grind.{common_steps}
use Rattle.std.proofs.lemmas.Int.{ints}
use mir.Syntax.{w16}
use Rattle.lines.proofs.Numbers.{number_most}
use Rattle.lines.specs.Numbers.{short_in}
use Rattle.lines.proofs.short.Goals as goal

pub returns-in-45 : goal.returns-in-45
unfolding short_in
returns-in-45 c =
    let low : c.in_ok-n.n ≤ 32768 = grind (arith, common_steps, number_most) in
    let below : to_z w16 (of_z w16 (to_z w64 (of_z w64 (pos 0 -ℤ to_z w64 (of_z w64 c.from.result))))) ≡ neg_ℤ (pos c.in_ok-n.n) = omega (arith, ints) in
    rw below (grind (arith, common_steps))
