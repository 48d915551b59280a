-- Turn by turn the line is the first of what came so far, and not whole yet.
use Rattle.std.proofs.Common.{◌≡◌, false}
use Rattle.input.specs.Lines.{unread}
use Rattle.input.specs.Reading.{Handed}
use Rattle.input.proofs.Input.next.Given as goal

abbrev pub invariant-loop : goal.invariant-loop
invariant-loop g l =
    (l.s.whole ≡ false) × (l.s.number ≡ l.initial.s.number) × Handed (unread l.initial.s l.initial.space) l.initial.line l.s l.line (unread l.s l.space)
