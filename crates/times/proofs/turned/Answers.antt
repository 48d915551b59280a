-- `times::turned` meets its contract: each refusal where its tests have failed so far.
-- Assumes nothing.
use mathlib.Core.Path.{sym, ◌∙◌}
use borrow.Author.Tests.{ne_eqb}
use native.Mathlib.Omega.{arith}
use Rattle.refusal.specs.declared.Refusal.TheVariants.{Unfit}
use Rattle.refusal.specs.Numbers.{number_of}
use Rattle.refusal.proofs.Numbers.{number_above}
use Rattle.refusal.proofs.Answers.{refused}
use Rattle.joining.proofs.Frames.{frame_let, frame_stopped}
use Rattle.times.proofs.turned.Goals as goal

pub returns-in-Err : goal.returns-in-Err
returns-in-Err c =
    let e = frame_stopped c.args.id c.args.«data».now c.in-Err.ensures in
    refused {A = Unit {0}} _ tt c.in-Err.refusal (rw (e, ne_eqb (number_of c.in-Err.refusal) 0 (λ z. absurd (omega (arith, z, number_above c.in-Err.refusal)))))

pub returns-then-fit : goal.returns-then-fit
returns-then-fit c = refused {A = Unit {0}} _ tt c.args.last (rw (frame_let c.args.id c.args.«data».now c.in_default.ensures, sym c.fit.ensures ∙ c.if-fit.true))

pub returns : goal.returns
returns c = refused {A = Unit {0}} _ tt Unfit (rw (frame_let c.args.id c.args.«data».now c.in_default.ensures, sym c.fit.ensures ∙ c.if-fit.false))
