-- `joining::announced` meets its contract: without a refusal the session is opened, with 4 it stays, and with another it is closed.
-- Assumes nothing.
use mathlib.Core.Path.{refl, sym, ap, ◌∙◌}
use denote.Enum.Bare.{same_true, same_false}
use Rattle.refusal.specs.contracts.Refusal.{the_type}
use Rattle.refusal.specs.declared.Refusal.TheVariants.{NotAnAnnouncement}
use Rattle.refusal.specs.Numbers.{number_of}
use Rattle.refusal.proofs.Numbers.{number_above}
use native.Mathlib.Omega.{arith}
use Rattle.joining.specs.Inner.{session_with}
use Rattle.joining.proofs.Fitness.{carried_range}
use Rattle.joining.proofs.Steps.{announcement_let, announcement_stopped, is_4, opens, stays, closes, good_size}
use Rattle.refusal.proofs.Answers.{refusal_back}
use Rattle.joining.proofs.announced.Goals as goal

pub overflow_cast-result : goal.overflow_cast-result
overflow_cast-result c =
    let e = announcement_let _ c.in-Ok.ensures in
    record { fits = omega (arith, c.read16-whole.ensures, (carried_range _ (good_size _ e)).1) }

pub overflow_cast-result-in-Ok : goal.overflow_cast-result-in-Ok
overflow_cast-result-in-Ok c =
    let e = announcement_let _ c.in-Ok.ensures in
    record { fits = omega (arith, c.packets.ensures, c.read16-whole.ensures, (carried_range _ (good_size _ e)).1) }

pub returns-in-Ok : goal.returns-in-Ok
returns-in-Ok c =
    let a = c.args in
    let s = session_with c.args.bytes.now c.args.size c.args.count c.args.next in
    let e = announcement_let _ c.in-Ok.ensures in
    rw (opens s a.«data».now e, c.packets.ensures, c.read16-whole.ensures) (record { value = refl; bytes_after = refl })

pub returns-in-Err : goal.returns-in-Err
returns-in-Err c =
    let a = c.args in
    let s = session_with c.args.bytes.now c.args.size c.args.count c.args.next in
    let this = same_true the_type tt c.in-Err.refusal NotAnAnnouncement (sym c.if-eq.ensures) in
    let e = announcement_stopped _ c.in-Err.ensures in
    rw (stays s a.«data».now (e ∙ ap number_of this), refusal_back NotAnAnnouncement) (record { value = c.refused.ensures ∙ rw this; bytes_after = refl })

pub returns-in-Err-2 : goal.returns-in-Err-2
returns-in-Err-2 c =
    let a = c.args in
    let s = session_with c.args.bytes.now c.args.size c.args.count c.args.next in
    let other = same_false the_type c.in-Err.refusal NotAnAnnouncement (sym c.if-eq.ensures) in
    let e = announcement_stopped _ c.in-Err.ensures in
    rw (closes s a.«data».now (λ z. absurd (omega (arith, z, e, number_above c.in-Err.refusal))) (λ z. other (is_4 c.in-Err.refusal (sym e ∙ z))), e, refusal_back c.in-Err.refusal)
    (record { value = c.refused-in-Err-2.ensures; bytes_after = refl })
