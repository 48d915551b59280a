-- `joining::size_held` meets its contract: it tests the place of the note's tag, behind the numbers of the edition.
-- Assumes nothing.
use native.Mathlib.Omega.{arith}
use borrow.Author.Tests.{eq-eqb, ne_eqb}
use Rattle.report.specs.Payload.{edition_in}
use Rattle.report.proofs.Places.{plain_to}
use borrow.Author.Rules.{rules}
use Rattle.joining.proofs.size_held.Goals as goal

pub overflow_add-result : goal.overflow_add-result
overflow_add-result c = omega (arith, c.plain_in-plain.ensures, plain_to (edition_in c.args.bytes.now))

pub overflow_add-plain : goal.overflow_add-plain
overflow_add-plain c = omega (arith, c.plain_in-plain.ensures, plain_to (edition_in c.args.bytes.now))

pub overflow_add-result-then-byte-eq-TAG : goal.overflow_add-result-then-byte-eq-TAG
overflow_add-result-then-byte-eq-TAG c = let low = plain_to (edition_in c.args.bytes.now) in search rules

pub returns-then-byte-eq-TAG : goal.returns-then-byte-eq-TAG
returns-then-byte-eq-TAG c = rw (← c.plain_in-plain.ensures, ← c.byte.ensures, eq-eqb _ _ c.if-byte-eq-TAG.true, c.read16.ensures)

pub returns-else-byte-eq-TAG : goal.returns-else-byte-eq-TAG
returns-else-byte-eq-TAG c = rw (← c.plain_in-plain.ensures, ← c.byte.ensures, ne_eqb _ _ c.if-byte-eq-TAG.false)
