-- `bus::fit_in` meets its contract: fitness is that of the three numbers, which stand behind the payload bytes.
-- Assumes nothing.
use mathlib.Core.Path.{◌∙◌}
use mathlib.Core.List.{[]}
use Prim.Native.Nat.{◌+◌}
use lib.ListN.{get_or}
use Rattle.joining.proofs.Steps.{fit_numbers}
use Rattle.bus.proofs.Placed.{fit_read}
use Rattle.bus.proofs.fit_in.Goals as goal

pub returns : goal.returns
returns c =
    let room = c.args.room.now in
    let at = c.args.at in
    c.numbers_fit.ensures ∙ fit_numbers (record { bytes = []; size = get_or room (at + 89) 0; count = get_or room (at + 90) 0; next = get_or room (at + 91) 0 }) ∙ fit_read room at
