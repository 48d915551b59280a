-- What `run` was given and printed, turn by turn.
use Rattle.std.proofs.Common.{◌≡◌, ℕ, take, refl, ap, arith, rules}
use Rattle.cart.proofs.Handing.{none_left, took_within, came, running_begun, running_read, running_took, left_of, all_handed_over, handed_over}
use Rattle.cart.proofs.run.Goals as goal

pub loop-init : goal.loop-init
loop-init g c = record { within = omega arith; small = omega arith; running = running_begun _ _ c.fresh-log.ensures c.nothing-waiting.ensures refl }

pub loop-preserved-then-at-n : goal.loop-preserved-then-at-n
loop-preserved-then-at-n g c =
    let l = c.loop in
    record {
      within = omega arith;
      small = omega (arith, c.in-Ok.ensures.bound.0);
      running = running_read l.invariant.running _ _ (none_left l.space c.if-at-n.true) (came _ _ c.read.new.buf c.in-Ok.read c.in-Ok.ensures.bytes.0);
    }

pub loop-preserved : goal.loop-preserved
loop-preserved g c =
    let l = c.loop in
    let t = c.of-turn.ensures.turns in
    let few = took_within l.n l.at l.space t in
    record {
      within = omega (arith, few, l.invariant.within);
      small = l.invariant.small;
      running = running_took l.invariant.running _ t (left_of l.n l.at c.of-turn.result.taken l.space few) (c.of-turn.ensures.printed (search rules));
    }

-- The claim: where all was read and printed, what the writer holds more is the text of all that the reader gave.
pub returns-in-Ok-eq0 : goal.returns-in-Ok-eq0
returns-in-Ok-eq0 g c =
    let l = c.loop in
    let zero : c.in-Ok-eq0.field-0 ≡ 0 = omega (arith, c.in-Ok-eq0.field-0-test) in
    let none = ap (λ (k : ℕ). take k c.read.new.buf) zero in
    let r = running_read l.invariant.running _ _ (none_left l.space c.if-at-n.true) c.in-Ok-eq0.ensures.bytes.0 in
    let all = handed_over r none c.end.ensures.ends in
    λ f. all_handed_over _ _ _ r (c.in-Ok-eq0.ensures.bytes.1 zero (omega arith)) all (c.end.ensures.printed f)
