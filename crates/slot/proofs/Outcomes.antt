-- Any two outcomes that a contract allows are equal, since each contract is an equation.
-- Assumes nothing.
use mathlib.Core.Path.{sym, ◌∙◌}
use Rattle.laws.proofs.Outcomes.{OneAnswer}
use Rattle.slot.proofs.set_in.Kinds as set-in-kinds
use Rattle.slot.proofs.set_in.Reads as set-in-reads
use Rattle.slot.proofs.empty_refusal.Kinds as empty-refusal-kinds
use Rattle.slot.proofs.empty_refusal.Reads as empty-refusal-reads
use Rattle.slot.proofs.emptied.Kinds as emptied-kinds
use Rattle.slot.proofs.emptied.Reads as emptied-reads
use Rattle.slot.proofs.read_in.Kinds as read-in-kinds
use Rattle.slot.proofs.read_in.Reads as read-in-reads
use Rattle.slot.proofs.turn.Kinds as turn-kinds
use Rattle.slot.proofs.turn.Reads as turn-reads
use Rattle.slot.proofs.fit.Kinds as fit-kinds
use Rattle.slot.proofs.fit.Reads as fit-reads
use Rattle.slot.proofs.gauge.Gauge.of.Kinds as gauge-kinds
use Rattle.slot.proofs.gauge.Gauge.of.Reads as gauge-reads
use Rattle.slot.proofs.gauge.Gauge.quiet.Kinds as quiet-kinds
use Rattle.slot.proofs.gauge.Gauge.quiet.Reads as quiet-reads
use Rattle.slot.proofs.gauge.Gauge.of_slots.Kinds as gauges-kinds
use Rattle.slot.proofs.gauge.Gauge.of_slots.Reads as gauges-reads
use Rattle.slot.proofs.gauge.Gauge.in_use.Kinds as in-use-kinds
use Rattle.slot.proofs.gauge.Gauge.in_use.Reads as in-use-reads

set_in_once : OneAnswer 1 set-in-kinds.ps set-in-kinds.r set-in-reads.Post
set_in_once κs a x y s t p q = p ∙ sym q

empty_refusal_once : OneAnswer 0 empty-refusal-kinds.ps empty-refusal-kinds.r empty-refusal-reads.Post
empty_refusal_once κs a x y s t p q = p ∙ sym q

emptied_once : OneAnswer 0 emptied-kinds.ps emptied-kinds.r emptied-reads.Post
emptied_once κs a x y s t p q = p ∙ sym q

read_in_once : OneAnswer 0 read-in-kinds.ps read-in-kinds.r read-in-reads.Post
read_in_once κs a x y s t p q = p ∙ sym q

turn_once : OneAnswer 1 turn-kinds.ps turn-kinds.r turn-reads.Post
turn_once κs a x y s t p q = p ∙ sym q

fit_once : OneAnswer 0 fit-kinds.ps fit-kinds.r fit-reads.Post
fit_once κs a x y s t p q = p ∙ sym q

gauge_once : OneAnswer 0 gauge-kinds.ps gauge-kinds.r gauge-reads.Post
gauge_once κs a x y s t p q = p ∙ sym q

quiet_once : OneAnswer 0 quiet-kinds.ps quiet-kinds.r quiet-reads.Post
quiet_once κs a x y s t p q = p ∙ sym q

gauges_once : OneAnswer 0 gauges-kinds.ps gauges-kinds.r gauges-reads.Post
gauges_once κs a x y s t p q = p ∙ sym q

in_use_once : OneAnswer 0 in-use-kinds.ps in-use-kinds.r in-use-reads.Post
in_use_once κs a x y s t p q = p ∙ sym q
