-- `times::stopped` meets its contract: each way that a time can stand to the last one.
-- Assumes nothing.
use mathlib.Core.Path.{sym, ◌∙◌}
use Rattle.joining.specs.Frame.{sender_of}
use Rattle.times.proofs.Steps.{tests}
use Rattle.times.proofs.Lent.{unchanged}
use Rattle.times.proofs.stopped.Goals as goal

pub returns-in-InTime : goal.returns-in-InTime
returns-in-InTime c =
    let x = tests c.args.last c.args.time (sym c.in-InTime.is ∙ c.compared-came.ensures) in
    record { value = rw (x.0, x.1); room_after = unchanged c.args.room.now (sender_of c.args.id) c.requires.0 (rw (x.0, x.1, x.2)) }

pub returns-in-Late : goal.returns-in-Late
returns-in-Late c =
    let x = tests c.args.last c.args.time (sym c.in-Late.is ∙ c.compared-came.ensures) in
    record { value = rw (x.0, x.1); room_after = rw (x.0, x.1, x.2) c.shut.ensures }

pub returns-in-Before : goal.returns-in-Before
returns-in-Before c =
    let x = tests c.args.last c.args.time (sym c.in-Before.is ∙ c.compared-came.ensures) in
    record { value = rw (x.0, x.1) c.turned.ensures; room_after = unchanged c.args.room.now (sender_of c.args.id) c.requires.0 (rw (x.0, x.1)) }

pub returns-in-Unfit : goal.returns-in-Unfit
returns-in-Unfit c =
    let x = tests c.args.last c.args.time (sym c.in-Unfit.is ∙ c.compared-came.ensures) in
    record { value = rw x c.turned-in-Unfit.ensures; room_after = unchanged c.args.room.now (sender_of c.args.id) c.requires.0 (rw x) }
