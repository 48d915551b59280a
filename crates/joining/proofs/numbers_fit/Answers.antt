-- `joining::numbers_fit` meets its contract: with size 0 the other two are 0, and with another size they are those of an open session.
-- Assumes nothing.
use Prim.Native.Nat.{ℕ}
use mathlib.Core.List.{[]}
use Rattle.joining.specs.declared.Session.{Session}
use mathlib.Core.Path.{sym, ◌∙◌}
use borrow.Author.Tests.{lt-ltb, le-ltb, eq-eqb, ne_eqb, not-true}
use Rattle.report.proofs.Places.{passes}
use Rattle.joining.specs.Joining.{is_open}
use Rattle.joining.proofs.Fitness.{fit_zero, fit_other}
use mathlib.Core.Path.{ap}
use mathlib.Core.Bool.{not}
use Rattle.joining.proofs.numbers_fit.Goals as goal

-- The numbers as a session.
abbrev three : ℕ → ℕ → ℕ → Session
three size count next = record { bytes = []; size = size; count = count; next = next }

pub returns-then-count-eq0 : goal.returns-then-count-eq0
unfolding is_open
returns-then-count-eq0 c = sym (fit_zero (three c.args.size c.args.count c.args.next) c.if-size-eq0.true ∙ rw (eq-eqb _ _ c.if-count-eq0.true))

pub returns-else-count-eq0 : goal.returns-else-count-eq0
unfolding is_open
returns-else-count-eq0 c = sym (fit_zero (three c.args.size c.args.count c.args.next) c.if-size-eq0.true ∙ rw (ne_eqb _ _ c.if-count-eq0.false))

pub returns-then-not-carries : goal.returns-then-not-carries
unfolding is_open
returns-then-not-carries c = sym (fit_other (three c.args.size c.args.count c.args.next) c.if-size-eq0.false ∙ rw (sym c.carries.ensures ∙ not-true _ (ap not c.if-not-carries.true)))

pub returns-then-count-packets : goal.returns-then-count-packets
unfolding is_open
returns-then-count-packets c = sym (fit_other (three c.args.size c.args.count c.args.next) c.if-size-eq0.false ∙ rw (passes _ c.carries.ensures (ap not c.if-not-carries.false), ← c.packets.ensures, ne_eqb _ _ c.if-count-packets.true))

pub returns-then-next-gt0 : goal.returns-then-next-gt0
unfolding is_open
returns-then-next-gt0 c = sym (fit_other (three c.args.size c.args.count c.args.next) c.if-size-eq0.false ∙ rw (passes _ c.carries.ensures (ap not c.if-not-carries.false), ← c.packets.ensures, eq-eqb _ _ c.if-count-packets.false, lt-ltb _ _ c.if-next-gt0.true))

pub returns-else-next-gt0 : goal.returns-else-next-gt0
unfolding is_open
returns-else-next-gt0 c = sym (fit_other (three c.args.size c.args.count c.args.next) c.if-size-eq0.false ∙ rw (passes _ c.carries.ensures (ap not c.if-not-carries.false), ← c.packets.ensures, eq-eqb _ _ c.if-count-packets.false, le-ltb _ _ c.if-next-gt0.false))
