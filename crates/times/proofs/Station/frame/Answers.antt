-- `times::Station::frame` meets its contract: the refusals that come before those of the last time, in their order.
-- Assumes nothing.
use mathlib.Core.Path.{sym, ◌∙◌, ap}
use Prim.Native.Nat.{ℕ}
use native.Mathlib.Omega.{arith}
use Rattle.times.specs.Timed.{turned}
use Rattle.times.specs.Run.{timed_at}
use Rattle.refusal.proofs.Numbers.{number_above}
use Rattle.joining.proofs.Frames.{frame_let, frame_stopped}
use Rattle.times.proofs.Steps.{foreign_stays, unfit_stays}
use Rattle.times.proofs.Station.frame.Goals as goal

pub returns-in-Err : goal.returns-in-Err
returns-in-Err c =
    let a = c.args in
    let e = frame_stopped c.args.id a.«data».now c.in-Err.ensures in
    c.turned.ensures
    ∙ ap (λ (n : ℕ). turned n c.args.self) (sym e)
    ∙ sym (foreign_stays c.args.self (timed_at c.args.time c.args.id a.«data».now) (λ z. absurd (omega (arith, z, e, number_above c.in-Err.refusal))))

pub timed-requires : goal.timed-requires
timed-requires c = (frame_let c.args.id c.args.«data».now c.in_default.ensures, sym c.fit.ensures ∙ c.if-fit.true)

pub returns : goal.returns
returns c =
    let a = c.args in
    let e = frame_let c.args.id c.args.«data».now c.in_default.ensures in
    c.turned-2.ensures ∙ sym (unfit_stays c.args.self c.args.time (record { identifier = c.args.id; data_bytes = a.«data».now }) e (rw (sym c.fit.ensures ∙ c.if-fit.false)))
