-- `Input::next` meets its contract: what was taken in all turns is the line that is answered.
use Rattle.std.proofs.Common.{ap, refl, ◌∙◌}
use Rattle.input.specs.declared.Input.{Input}
use Rattle.input.proofs.Reading.{none-handed, handed_on, comes}
use Rattle.input.proofs.Input.next.Goals as goal

pub loop-init : goal.loop-init
loop-init g c =
    let s = c.next_line-s.result in
    let w = ap (λ (i : Input). i.whole) c.next_line-s.ensures in
    (w, refl, none-handed _ c.args.line.now s w (ap (λ (i : Input). i.size) c.next_line-s.ensures))

pub loop-preserved : goal.loop-preserved
loop-preserved g c =
    let i = c.loop.invariant in
    let t = c.take_and_read-s.ensures in
    (c.if-s.false, t.number ∙ i.1, handed_on i.0 i.2 t)

pub returns-then-s : goal.returns-then-s
returns-then-s g c =
    let i = c.loop.invariant in
    let t = c.take_and_read-s in
    rw c.answer.ensures
    (comes c.args.self c.args.line.now c.args.space.now t.new.line t.new.space t.result c.next_line-s.ensures (handed_on i.0 i.2 t.ensures) (t.ensures.number ∙ i.1))

pub returns : goal.returns
returns g c =
    let l = c.loop in
    rw c.answer-2.ensures
    (comes c.args.self c.args.line.now c.args.space.now l.line l.space l.s c.next_line-s.ensures l.invariant.2 l.invariant.1)
