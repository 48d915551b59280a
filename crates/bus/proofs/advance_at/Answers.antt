-- `bus::advance_at` meets its contract: 24 comes first, and then the announcement's or the packet's own refusals.
-- Assumes nothing.
use mathlib.Core.Path.{refl, sym, ◌∙◌}
use borrow.Author.Tests.{eq-eqb, ne_eqb, not-true}
use Rattle.report.proofs.Places.{passes}
use Rattle.bus.specs.Room.{session_in}
use Rattle.bus.proofs.Places.{whole}
use Rattle.joining.proofs.Steps.{fit_numbers, unfit, announcing, carrying}
use Rattle.bus.proofs.Placed.{step}
use mathlib.Core.Path.{ap}
use Rattle.std.specs.Prelude.{Err}
use mathlib.Core.Bool.{not}
use Rattle.refusal.specs.declared.Refusal.TheVariants.{Unfit}
use Rattle.refusal.proofs.Answers.{refusal_back}
use Rattle.bus.proofs.advance_at.Goals as goal

pub returns-then-not-numbers_fit : goal.returns-then-not-numbers_fit
returns-then-not-numbers_fit c =
    let p = c.args.place.now in
    let d = c.args.«data».now in
    let both = step (unfit (session_in p) c.args.id d c.requires.data_value (sym (fit_numbers (session_in p)) ∙ sym c.numbers_fit.ensures ∙ not-true _ (ap not c.if-not-numbers_fit.true))) (ap (λ f. Err f) (sym (refusal_back Unfit))) (sym (whole p c.requires.place_len)) in
    record { value = both.0; place_after = both.1 }

pub packet_at-requires : goal.packet_at-requires
packet_at-requires c = record { place_len = c.requires.place_len; place_value = sym (fit_numbers (session_in c.args.place.now)) ∙ passes _ c.numbers_fit.ensures (ap not c.if-not-numbers_fit.false) }

pub returns-then-id-eq-ANNOUNCEMENT : goal.returns-then-id-eq-ANNOUNCEMENT
returns-then-id-eq-ANNOUNCEMENT c =
    let p = c.args.place.now in
    let d = c.args.«data».now in
    let fine = sym (fit_numbers (session_in p)) ∙ passes _ c.numbers_fit.ensures (ap not c.if-not-numbers_fit.false) in
    let both = step (announcing (session_in p) c.args.id d c.requires.data_value fine (eq-eqb _ _ c.if-id-eq-ANNOUNCEMENT.true)) c.announced_at.ensures.value c.announced_at.ensures.place_after in
    record { value = both.0; place_after = both.1 }

pub returns-else-id-eq-ANNOUNCEMENT : goal.returns-else-id-eq-ANNOUNCEMENT
returns-else-id-eq-ANNOUNCEMENT c =
    let p = c.args.place.now in
    let d = c.args.«data».now in
    let fine = sym (fit_numbers (session_in p)) ∙ passes _ c.numbers_fit.ensures (ap not c.if-not-numbers_fit.false) in
    let both = step (carrying (session_in p) c.args.id d c.requires.data_value fine (ne_eqb _ _ c.if-id-eq-ANNOUNCEMENT.false)) c.packet_at.ensures.value c.packet_at.ensures.place_after in
    record { value = both.0; place_after = both.1 }
