use Rattle.std.proofs.Common.{◌≡◌, ◌++◌, ◌≤◌, length, drop}
use Rattle.text.specs.Text.{decimal}
use Rattle.text.proofs.spell.Given as goal

abbrev pub invariant-loop-i : goal.invariant-loop-i
invariant-loop-i l = record { room_left : length (decimal l.rest) ≤ l.i; told : decimal l.rest ++ drop l.i l.room ≡ decimal l.n }
