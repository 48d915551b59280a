-- `journal::Log::item` meets its contract: it is counted, judged, and then done by what it says.
-- Assumes nothing.
use mathlib.Core.Path.{refl, ◌∙◌}
use native.Mathlib.Omega.{arith}
use Rattle.refusal.proofs.Numbers.{number_above}
use Rattle.journal.proofs.Calls.{skips, passes}
use Rattle.journal.proofs.Log.item.Goals as goal

pub returns-in-Err : goal.returns-in-Err
returns-in-Err c =
    skips c.args.self c.args.tag c.args.value.now c.with_item-log.ensures c.read-item.ensures (c.number.ensures ∙ c.in-Err.ensures)
    (λ z. absurd (omega (arith, z, c.number.ensures, number_above c.in-Err.refusal))) c.refused.ensures

pub returns-in-Ok : goal.returns-in-Ok
returns-in-Ok c =
    passes c.args.self c.args.tag c.args.value.now c.with_item-log.ensures c.read-item.ensures c.in-Ok.ensures refl c.data_in.ensures c.by_item.ensures
