-- `joining::packet` meets its contract: at each `return` the tests that led there say which case of `packet` holds, and the payload is read behind the store.
-- Assumes nothing.
use mathlib.Core.Path.{refl}
use Rattle.joining.specs.Inner.{session_with}
use Rattle.joining.proofs.Reached.{fit_open}
use Rattle.joining.proofs.Steps.{none_open, stray, kept, last}
use Rattle.refusal.specs.declared.Refusal.TheVariants.{NotOpen, OutOfSequence}
use Rattle.refusal.proofs.Answers.{refusal_back}
use Rattle.joining.proofs.packet.Goals as goal

pub returns-then-size-eq0 : goal.returns-then-size-eq0
returns-then-size-eq0 c =
    let a = c.args in
    let s = session_with c.args.bytes.now c.args.size c.args.count c.args.next in
    rw (none_open s a.«data».now c.if-size-eq0.true, refusal_back NotOpen) (record { value = c.refused.ensures; bytes_after = refl })

pub returns-then-byte-next : goal.returns-then-byte-next
returns-then-byte-next c =
    let a = c.args in
    let s = session_with c.args.bytes.now c.args.size c.args.count c.args.next in
    rw (stray s a.«data».now c.if-size-eq0.false c.byte.ensures c.if-byte-next.true, refusal_back OutOfSequence) (record { value = c.refused-then-byte-next.ensures; bytes_after = refl })

pub overflow_sub-next : goal.overflow_sub-next
overflow_sub-next c =
    let a = c.args in
    let s = session_with c.args.bytes.now c.args.size c.args.count c.args.next in
    (fit_open s c.requires c.if-size-eq0.false).first

pub returns-then-next-count : goal.returns-then-next-count
returns-then-next-count c =
    let a = c.args in
    let s = session_with c.args.bytes.now c.args.size c.args.count c.args.next in
    rw (kept s a.«data».now c.if-size-eq0.false c.byte.ensures c.if-byte-next.false c.if-next-count.true) (record { value = refl; bytes_after = c.store.ensures })

pub returns : goal.returns
returns c =
    let a = c.args in
    let s = session_with c.args.bytes.now c.args.size c.args.count c.args.next in
    let store = c.store.ensures in
    rw (last s a.«data».now c.if-size-eq0.false c.byte.ensures c.if-byte-next.false c.if-next-count.false) (record { value = rw (c.answered.ensures, c.front.ensures, ← store); bytes_after = store })
