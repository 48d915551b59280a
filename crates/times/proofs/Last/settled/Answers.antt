-- `times::Last::settled` meets its contract: the session's own answer settles the last time.
-- Assumes nothing.
use mathlib.Core.Path.{◌∙◌, ap}
use Rattle.times.specs.declared.Last.{Last}
use Rattle.times.specs.declared.Heard.{Heard}
use Rattle.times.specs.Timed.{kept_at}
use Rattle.times.proofs.Last.settled.Goals as goal

pub returns : goal.returns
returns c =
    let t = c.lend-taken in
    let a = c.args in
    let put : Last → Heard = λ l. record { answer = c.lend-taken.result.answer; station = record { session = c.lend-taken.result.session; last = l } } in
    ap put c.after-last.ensures ∙ ap (kept_at c.args.time c.args.self) c.lend-taken.ensures
