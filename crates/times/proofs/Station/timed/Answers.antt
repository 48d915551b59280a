-- `times::Station::timed` meets its contract: each way that a time can stand to the last one.
-- Assumes nothing.
use mathlib.Core.Path.{sym, ◌∙◌}
use Rattle.times.proofs.Steps.{tests, in_time, unfit_stays, turned_back, settled}
use Rattle.times.proofs.Station.timed.Goals as goal

pub returns-in-InTime : goal.returns-in-InTime
returns-in-InTime c =
    let a = c.args in
    let x = tests c.args.self.last c.args.time (sym c.in-InTime.is ∙ c.compared-came.ensures) in
    rw (in_time c.args.self x.0 c.args.time (record { identifier = c.args.id; data_bytes = a.«data».now }) x.1 x.2) c.settled.ensures

pub returns-in-Late : goal.returns-in-Late
returns-in-Late c =
    let a = c.args in
    let x = tests c.args.self.last c.args.time (sym c.in-Late.is ∙ c.compared-came.ensures) in
    rw (settled c.args.self (record { session = c.requires.1; last = x.0 }) c.args.time (record { identifier = c.args.id; data_bytes = a.«data».now }) c.requires.0 x.1, x.2, ← c.closed.ensures) c.settled-in-Late.ensures

pub returns-in-Before : goal.returns-in-Before
returns-in-Before c =
    let a = c.args in
    let x = tests c.args.self.last c.args.time (sym c.in-Before.is ∙ c.compared-came.ensures) in
    rw (turned_back c.args.self (record { session = c.requires.1; last = x.0 }) c.args.time (record { identifier = c.args.id; data_bytes = a.«data».now }) c.requires.0 x.1) c.turned.ensures

pub returns-in-Unfit : goal.returns-in-Unfit
returns-in-Unfit c =
    let a = c.args in
    let x = tests c.args.self.last c.args.time (sym c.in-Unfit.is ∙ c.compared-came.ensures) in
    rw (unfit_stays c.args.self c.args.time (record { identifier = c.args.id; data_bytes = a.«data».now }) c.requires.0 (rw (c.requires.1, x))) c.turned-in-Unfit.ensures
