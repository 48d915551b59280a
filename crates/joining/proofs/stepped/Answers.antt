-- `joining::stepped` meets its contract: 1 to 3 come first, then 24, and then the announcement's or the packet's own refusals.
-- Assumes nothing.
use mathlib.Core.Path.{refl, sym, ◌∙◌}
use borrow.Author.Tests.{eq-eqb, ne_eqb, not-true}
use Rattle.report.proofs.Places.{passes}
use Rattle.joining.specs.Inner.{session_with}
use Rattle.joining.proofs.Frames.{frame_let}
use Rattle.joining.proofs.Steps.{fit_numbers, stopped, unfit, announcing, carrying}
use mathlib.Core.Path.{ap}
use mathlib.Core.Bool.{not}
use Rattle.refusal.specs.declared.Refusal.TheVariants.{Unfit}
use Rattle.refusal.proofs.Answers.{refusal_back}
use Rattle.joining.proofs.stepped.Goals as goal

pub returns-in-Err : goal.returns-in-Err
returns-in-Err c =
    let a = c.args in
    let s = session_with c.args.bytes.now c.args.size c.args.count c.args.next in
    rw (stopped s c.args.id a.«data».now _ c.in-Err.ensures, refusal_back c.in-Err.refusal) (record { value = c.refused.ensures; bytes_after = refl })

pub returns-then-not-numbers_fit : goal.returns-then-not-numbers_fit
returns-then-not-numbers_fit c =
    let a = c.args in
    let s = session_with c.args.bytes.now c.args.size c.args.count c.args.next in
    let e = frame_let c.args.id a.«data».now c.in_default.ensures in
    let f = sym (fit_numbers s) ∙ sym c.numbers_fit.ensures ∙ not-true _ (ap not c.if-not-numbers_fit.true) in
    rw (unfit s c.args.id a.«data».now e f, refusal_back Unfit) (record { value = c.refused-then-not-numbers_fit.ensures; bytes_after = refl })

pub packet-requires : goal.packet-requires
packet-requires c =
    let s = session_with c.args.bytes.now c.args.size c.args.count c.args.next in
    sym (fit_numbers s) ∙ passes _ c.numbers_fit.ensures (ap not c.if-not-numbers_fit.false)

pub returns-then-id-eq-ANNOUNCEMENT : goal.returns-then-id-eq-ANNOUNCEMENT
returns-then-id-eq-ANNOUNCEMENT c =
    let a = c.args in
    let s = session_with c.args.bytes.now c.args.size c.args.count c.args.next in
    let e = frame_let c.args.id a.«data».now c.in_default.ensures in
    let f = sym (fit_numbers s) ∙ passes _ c.numbers_fit.ensures (ap not c.if-not-numbers_fit.false) in
    rw (announcing s c.args.id a.«data».now e f (eq-eqb _ _ c.if-id-eq-ANNOUNCEMENT.true)) (record { value = c.announced.ensures.value; bytes_after = c.announced.ensures.bytes_after })

pub returns-else-id-eq-ANNOUNCEMENT : goal.returns-else-id-eq-ANNOUNCEMENT
returns-else-id-eq-ANNOUNCEMENT c =
    let a = c.args in
    let s = session_with c.args.bytes.now c.args.size c.args.count c.args.next in
    let e = frame_let c.args.id a.«data».now c.in_default.ensures in
    let f = sym (fit_numbers s) ∙ passes _ c.numbers_fit.ensures (ap not c.if-not-numbers_fit.false) in
    rw (carrying s c.args.id a.«data».now e f (ne_eqb _ _ c.if-id-eq-ANNOUNCEMENT.false)) (record { value = c.packet.ensures.value; bytes_after = c.packet.ensures.bytes_after })
