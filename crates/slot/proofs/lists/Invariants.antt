use mathlib.Core.Path.{◌≡◌}
use lib.Dec.{ltb}
use lib.ListN.{drop}
use Rattle.list.specs.Lines.{all_of}
use Rattle.slot.proofs.lists.Given as goal

abbrev pub invariant-loop-name : goal.invariant-loop-name
invariant-loop-name l = all_of (ltb l.limit) (drop l.name-index l.name-items) ≡ all_of (ltb l.limit) l.name-items
