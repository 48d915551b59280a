use mathlib.Core.Path.{◌≡◌}
use lib.ListN.{length, take}
use Rattle.text.proofs.Places.{Put}
use Rattle.journal.specs.Inner.{steps_lines}
use Rattle.journal.proofs.put_searches.Given as goal

abbrev pub invariant-loop-i : goal.invariant-loop-i
invariant-loop-i l =
    (length l.out ≡ length l.initial.out) × Put l.initial.out l.at (steps_lines l.item 0 (take l.i l.steps)) l.next l.out
