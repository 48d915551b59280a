-- `capture::hexadecimal` meets its contract: the pairs that are passed are bytes, so the rest decides.
-- Assumes nothing.
use Rattle.std.proofs.Common.{◌≡◌, sym, ◌∙◌, ◌+◌, ◌-◌, ◌*◌, arith, is_some, true, false}
use Rattle.std.proofs.lemmas.Grind.{common_steps}
use Rattle.capture.proofs.Texts.{hex_odd, hex_more, hex_stop}
use Rattle.capture.proofs.hexadecimal.Goals as goal

pub returns-then-s-ne0 : goal.returns-then-s-ne0
returns-then-s-ne0 c = hex_odd c.args.s.now c.if-s-ne0.true

pub returns-then-is_none : goal.returns-then-is_none
returns-then-is_none c =
    let two : 2 * c.loop-k.k + 2 - 2 * c.loop-k.k ≡ 2 = omega arith in
    let none : is_some c.number.result ≡ false = grind (arith, common_steps) in
    sym (hex_stop c.args.s.now c.loop-k.k c.number.result (rw two at c.number.ensures) (omega arith) none) ∙ c.loop-k.invariant

pub loop-k-preserved : goal.loop-k-preserved
loop-k-preserved c =
    let two : 2 * c.loop-k.k + 2 - 2 * c.loop-k.k ≡ 2 = omega arith in
    let some : is_some c.number.result ≡ true = grind (arith, common_steps) in
    sym (hex_more c.args.s.now c.loop-k.k c.number.result (rw two at c.number.ensures) (omega arith) some) ∙ c.loop-k.invariant
