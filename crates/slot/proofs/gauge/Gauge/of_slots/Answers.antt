-- `slot::gauge::Gauge::of_slots` meets its contract: `map` makes a gauge of each slot, in their order.
-- Assumes nothing.
use borrow.Author.Rules.{rules}
use Rattle.list.proofs.Reading.{mapped}
use Rattle.slot.specs.Gauges.{no_question, gauge_of}
use Rattle.slot.proofs.gauge.Gauge.of_slots.Goals as goal

pub returns : goal.returns
returns c = mapped gauge_of no_question (search rules) c.map.ensures.items (λ p q x y h. search rules)
