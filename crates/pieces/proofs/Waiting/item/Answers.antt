-- `pieces::Waiting::item` meets its contract: the value is what stands behind the head.
-- Assumes nothing.
use mathlib.Core.Path.{ap, ap₂, ◌∙◌}
use Prim.Native.Nat.{ℕ}
use lib.ListN.{take, drop}
use Rattle.journal.specs.Log.{item_done}
use Rattle.pieces.specs.Machine.{value_end, value_in}
use Rattle.journal.proofs.Calls.{outcome_is}
use Rattle.pieces.proofs.Waiting.item.Goals as goal

pub returns : goal.returns
unfolding value_in
returns c =
    let a = c.args in
    let end = c.value_end-end.ensures ∙ ap value_end c.read16.ensures in
    let value = c.behind_head.ensures ∙ ap (drop 3) (c.front.ensures ∙ ap (λ (n : ℕ). take n c.args.self.bytes) end) in
    outcome_is (ap₂ (item_done c.args.log) c.byte-tag.ensures value) c.item.ensures
