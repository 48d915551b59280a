-- Each turn does one item where the log stands: one for a slot, or a frame, whose report gives each slot in use its turn.
-- Assumes nothing.
use mathlib.Core.Path.{◌≡◌, refl, sym, ap, subst, ◌∙◌}
use mathlib.Core.Bool.{Bool, true, false, ◌&&◌}
use mathlib.Core.List.{List}
use Prim.Native.Nat.{ℕ, ◌+◌, ◌-◌, ◌^◌, ◌≤◌, ◌<◌}
use native.Mathlib.Omega.{arith}
use borrow.Author.Rules.{rules}
use lib.ListN.{length, get_or}
use Rattle.wire.specs.Bytes.{part}
use Rattle.wire.proofs.Fields.{length_part}
use Rattle.window.specs.declared.Window.{Window}
use Rattle.question.specs.declared.Question.{Question}
use Rattle.slot.specs.declared.gauge.Gauge.{Gauge}
use Rattle.times.specs.declared.Times.{Times}
use Rattle.times.specs.Run.{Timed, Stations}
use Rattle.journal.specs.declared.Log.{Log}
use Rattle.journal.specs.Log.{frame_in}
use Rattle.coming.specs.Coming.{size_at, comes, has_room, is_frame}
use Rattle.coming.specs.Inner.{frame_size}
use Rattle.coming.proofs.Coming.{Framed, Slot}
use Rattle.stretch.specs.declared.Begun.{Begun}
use Rattle.stretch.specs.Inner.{frame_of, Begins, log_in}
use Rattle.stretch.proofs.Times.{due_other, due-later, due-next, hears_stopped, hears_then}
use Rattle.stretch.proofs.Times as times
use Rattle.stretch.proofs.Going.{went_none}
use Rattle.stretch.proofs.Gauging.{gauged_of}
use Rattle.stretch.proofs.Rowing.{rowed_of}
use Rattle.stretch.proofs.Stands.{Stands, turns_quiet, turns_more, item_there, slot_there, frame_there, stands_slot, stands_none, turns-begin, stands_enters, stands_runs}
use Rattle.stretch.proofs.run.Goals as goal

-- What the loop's test says of the item at its place.
module _ {log₀ : Log} {bytes out₀ : List ℕ} {at₀ : ℕ} (small : length out₀ < 2 ^ 64) {items : ℕ} {w : Window} {rows : ℕ} {slots : List Question} {gauges : List Gauge} {used : ℕ} {bus : List ℕ} {lasts : Times} {i at : ℕ} {out : List ℕ}
    (l : Stands log₀ bytes out₀ at₀ items w rows slots gauges used bus lasts i at out) {go : Bool} (e-go : go ≡ (comes w.counts.size bytes i && has_room (length out) at)) (goes : go ≡ true)
    {r : Bool} (e : r ≡ is_frame (get_or bytes i 0)) where
  -- It is one for a slot.
  a_slot : r ≡ false → Slot bytes i
  a_slot h = slot_there log₀ bytes out₀ at₀ small l e-go goes refl refl (sym e ∙ h)

  slot_few : r ≡ false → {v : List ℕ} {s : ℕ} → v ≡ part (i + 3) (size_at bytes i) bytes → s ≡ get_or v 0 0 → s < 32
  slot_few h e-v e-s = subst (λ (n : ℕ). n < 32) (sym (e-s ∙ ap (λ (x : List ℕ). get_or x 0 0) e-v)) (a_slot h).few

  value_fits : r ≡ false → {v : List ℕ} → v ≡ part (i + 3) (size_at bytes i) bytes → i + (3 + length v) ≤ length bytes
  value_fits h e-v =
      let there = (a_slot h).there in
      omega (arith, there, ap (λ (x : List ℕ). length x) e-v ∙ length_part bytes (i + 3) (size_at bytes i) (omega (arith, there)))

  -- It is a frame.
  framed : r ≡ true → Framed bytes i (get_or bytes i 0)
  framed h = frame_there log₀ bytes out₀ at₀ small l e-go goes refl refl (sym e ∙ h)

  module _ (h : r ≡ true) {b : Stations} {f : Timed} {last g : Begun} {room : List ℕ} {left : Times} (begins : Begins b f (i + (3 + frame_size (get_or bytes i 0))) last g room left) where
    -- The item's end is where its frame's is.
    ends_there : g.place + 15 ≤ length bytes
    ends_there = omega (arith, begins.ends, (framed h).there)

    smaller : length bytes - (g.place + 15) < length bytes - i
    smaller = omega (arith, begins.ends, ends_there)

    same_frame : (frame_in (part (g.place + 3) 12 bytes)).frame ≡ (frame_of (get_or bytes i 0) (part (i + 3) (frame_size (get_or bytes i 0)) bytes)).frame
    same_frame = times.frame_there (framed h).which i g.place bytes begins.ends

pub loop-gauges-init : goal.loop-gauges-init
loop-gauges-init c =
    let a = c.args in (
      record {
        inside = omega arith;
        same = refl;
        room = c.requires;
        all_slots = c.well_formed.0.1.1.1.0.1.1.1.0.1.0.1;
        went = went_none (log_in c.args.from c.args.bus.now c.args.times.now) c.args.bytes.now c.args.out.now c.args.from.at (search rules);
        gauged = gauged_of c.args.from.board.slots c.of_slots-gauges.ensures c.in_use-used.ensures;
        rowed = rowed_of c.args.from.board.window.rows.names c.rows_in-filled.ensures;
      },
      tt,
    )

pub bounds-bytes-i : goal.bounds-bytes-i
bounds-bytes-i c =
    let small : length c.args.out.now < 2 ^ 64 = search rules in
    item_there _ _ _ _ small c.loop-gauges.invariant.0 c.goes_on.ensures c.loop-gauges-test.true refl refl

pub value_at-value-requires : goal.value_at-value-requires
value_at-value-requires c =
    let small : length c.args.out.now < 2 ^ 64 = search rules in
    (a_slot small c.loop-gauges.invariant.0 c.goes_on.ensures c.loop-gauges-test.true c.is_frame.ensures c.if-not-is_frame.true).there

pub bounds-slots-s : goal.bounds-slots-s
bounds-slots-s c =
    let small : length c.args.out.now < 2 ^ 64 = search rules in
    slot_few small c.loop-gauges.invariant.0 c.goes_on.ensures c.loop-gauges-test.true c.is_frame.ensures c.if-not-is_frame.true c.value_at-value.ensures c.byte-s.ensures

pub bounds-slots-s-then-not-is_frame : goal.bounds-slots-s-then-not-is_frame
bounds-slots-s-then-not-is_frame c =
    let small : length c.args.out.now < 2 ^ 64 = search rules in
    slot_few small c.loop-gauges.invariant.0 c.goes_on.ensures c.loop-gauges-test.true c.is_frame.ensures c.if-not-is_frame.true c.value_at-value.ensures c.byte-s.ensures

pub bounds-gauges-s : goal.bounds-gauges-s
bounds-gauges-s c =
    let small : length c.args.out.now < 2 ^ 64 = search rules in
    slot_few small c.loop-gauges.invariant.0 c.goes_on.ensures c.loop-gauges-test.true c.is_frame.ensures c.if-not-is_frame.true c.value_at-value.ensures c.byte-s.ensures

pub overflow_add-i : goal.overflow_add-i
overflow_add-i c =
    let short : length c.args.bytes.now < 2 ^ 64 = search rules in
    let small : length c.args.out.now < 2 ^ 64 = search rules in
    omega (arith, short, value_fits small c.loop-gauges.invariant.0 c.goes_on.ensures c.loop-gauges-test.true c.is_frame.ensures c.if-not-is_frame.true c.value_at-value.ensures)

pub overflow_add-i-then-not-is_frame : goal.overflow_add-i-then-not-is_frame
overflow_add-i-then-not-is_frame c =
    let short : length c.args.bytes.now < 2 ^ 64 = search rules in
    let small : length c.args.out.now < 2 ^ 64 = search rules in
    omega (arith, short, value_fits small c.loop-gauges.invariant.0 c.goes_on.ensures c.loop-gauges-test.true c.is_frame.ensures c.if-not-is_frame.true c.value_at-value.ensures)

pub loop-gauges-smaller-then-not-is_frame : goal.loop-gauges-smaller-then-not-is_frame
loop-gauges-smaller-then-not-is_frame c =
    let small : length c.args.out.now < 2 ^ 64 = search rules in
    omega (arith, value_fits small c.loop-gauges.invariant.0 c.goes_on.ensures c.loop-gauges-test.true c.is_frame.ensures c.if-not-is_frame.true c.value_at-value.ensures)

pub loop-gauges-preserved-then-not-is_frame : goal.loop-gauges-preserved-then-not-is_frame
loop-gauges-preserved-then-not-is_frame c =
    let small : length c.args.out.now < 2 ^ 64 = search rules in (
      stands_slot _ _ _ _ small c.loop-gauges.invariant.0 c.goes_on.ensures c.loop-gauges-test.true refl c.next_item-items.ensures (sym c.is_frame.ensures ∙ c.if-not-is_frame.true)
          c.value_at-value.ensures c.byte-s.ensures c.serve-slot.ensures c.of.ensures c.in_use-used-then-not-is_frame.ensures refl,
      due-later _ _ c.loop-gauges.invariant.1 _ (omega arith),
    )

pub begin-begun-requires : goal.begin-begun-requires
begin-begun-requires c =
    let small : length c.args.out.now < 2 ^ 64 = search rules in
    ((framed small c.loop-gauges.invariant.0 c.goes_on.ensures c.loop-gauges-test.true c.is_frame.ensures c.if-not-is_frame.false).there, c.loop-gauges.invariant.0.room, due_other _ _ c.loop-gauges.invariant.1)

pub overflow_add-i-in-Some : goal.overflow_add-i-in-Some
overflow_add-i-in-Some c =
    let short : length c.args.bytes.now < 2 ^ 64 = search rules in
    let small : length c.args.out.now < 2 ^ 64 = search rules in
    omega (arith, short, ends_there small c.loop-gauges.invariant.0 c.goes_on.ensures c.loop-gauges-test.true c.is_frame.ensures c.if-not-is_frame.false c.begin-begun.ensures)

pub loop-gauges-smaller-in-Some : goal.loop-gauges-smaller-in-Some
loop-gauges-smaller-in-Some c =
    let small : length c.args.out.now < 2 ^ 64 = search rules in
    smaller small c.loop-gauges.invariant.0 c.goes_on.ensures c.loop-gauges-test.true c.is_frame.ensures c.if-not-is_frame.false c.begin-begun.ensures

pub loop-gauges-preserved-in-Some : goal.loop-gauges-preserved-in-Some
loop-gauges-preserved-in-Some c =
    let small : length c.args.out.now < 2 ^ 64 = search rules in (
      stands_none _ _ _ _ small c.loop-gauges.invariant.0 c.goes_on.ensures c.loop-gauges-test.true refl c.next_item-items.ensures (sym c.is_frame.ensures ∙ c.if-not-is_frame.false)
          refl (hears_stopped c.begin-begun.ensures c.in-Some.is c.number.ensures) refl (c.put_refusal-at.ensures.value, c.put_refusal-at.ensures.out_after) c.begin-begun.ensures.ends,
      due-next _ _ c.begin-begun.ensures c.loop-gauges.invariant.1,
    )

pub hear-brought-requires : goal.hear-brought-requires
hear-brought-requires c =
    let small : length c.args.out.now < 2 ^ 64 = search rules in
    ends_there small c.loop-gauges.invariant.0 c.goes_on.ensures c.loop-gauges-test.true c.is_frame.ensures c.if-not-is_frame.false c.begin-begun.ensures

-- What the frame brings.
pub overflow_add-i-in-loop-gauges : goal.overflow_add-i-in-loop-gauges
overflow_add-i-in-loop-gauges c =
    let short : length c.args.bytes.now < 2 ^ 64 = search rules in
    let small : length c.args.out.now < 2 ^ 64 = search rules in
    omega (arith, short, ends_there small c.loop-gauges.invariant.0 c.goes_on.ensures c.loop-gauges-test.true c.is_frame.ensures c.if-not-is_frame.false c.begin-begun.ensures)

pub loop-gauges-smaller-then-brought-eq0 : goal.loop-gauges-smaller-then-brought-eq0
loop-gauges-smaller-then-brought-eq0 c =
    let small : length c.args.out.now < 2 ^ 64 = search rules in
    smaller small c.loop-gauges.invariant.0 c.goes_on.ensures c.loop-gauges-test.true c.is_frame.ensures c.if-not-is_frame.false c.begin-begun.ensures

pub loop-gauges-preserved-then-brought-eq0 : goal.loop-gauges-preserved-then-brought-eq0
loop-gauges-preserved-then-brought-eq0 c =
    let small : length c.args.out.now < 2 ^ 64 = search rules in (
      stands_none _ _ _ _ small c.loop-gauges.invariant.0 c.goes_on.ensures c.loop-gauges-test.true refl c.next_item-items.ensures (sym c.is_frame.ensures ∙ c.if-not-is_frame.false)
          refl (hears_then c.begin-begun.ensures c.in_default.is (same_frame small c.loop-gauges.invariant.0 c.goes_on.ensures c.loop-gauges-test.true c.is_frame.ensures c.if-not-is_frame.false c.begin-begun.ensures) c.hear-brought.ensures) c.if-brought-eq0.true (c.put_refusal-at-in-loop-gauges.ensures.value, c.put_refusal-at-in-loop-gauges.ensures.out_after) c.begin-begun.ensures.ends,
      due-next _ _ c.begin-begun.ensures c.loop-gauges.invariant.1,
    )

pub loop-slot-init : goal.loop-slot-init
loop-slot-init c =
    let small : length c.args.out.now < 2 ^ 64 = search rules in
    turns-begin _ _ _ _ small c.loop-gauges.invariant.0 c.goes_on.ensures c.loop-gauges-test.true refl c.next_item-items.ensures (sym c.is_frame.ensures ∙ c.if-not-is_frame.false)
    refl (hears_then c.begin-begun.ensures c.in_default.is (same_frame small c.loop-gauges.invariant.0 c.goes_on.ensures c.loop-gauges-test.true c.is_frame.ensures c.if-not-is_frame.false c.begin-begun.ensures) c.hear-brought.ensures) c.place-place.ensures c.put_row-filled.ensures (c.put_refusal-at-in-loop-gauges.ensures.value, c.put_refusal-at-in-loop-gauges.ensures.out_after)

pub loop-gauges-smaller : goal.loop-gauges-smaller
loop-gauges-smaller c =
    let small : length c.args.out.now < 2 ^ 64 = search rules in
    smaller small c.loop-gauges.invariant.0 c.goes_on.ensures c.loop-gauges-test.true c.is_frame.ensures c.if-not-is_frame.false c.begin-begun.ensures

pub loop-gauges-preserved : goal.loop-gauges-preserved
loop-gauges-preserved c =
    let small : length c.args.out.now < 2 ^ 64 = search rules in (
      stands_enters _ _ _ _ small c.loop-gauges.invariant.0 c.goes_on.ensures c.loop-gauges-test.true refl c.next_item-items.ensures (sym c.is_frame.ensures ∙ c.if-not-is_frame.false)
          refl (hears_then c.begin-begun.ensures c.in_default.is (same_frame small c.loop-gauges.invariant.0 c.goes_on.ensures c.loop-gauges-test.true c.is_frame.ensures c.if-not-is_frame.false c.begin-begun.ensures) c.hear-brought.ensures) c.if-brought-eq0.false c.place-place.ensures c.put_row-filled.ensures (c.put_refusal-at-in-loop-gauges.ensures.value, c.put_refusal-at-in-loop-gauges.ensures.out_after) c.begin-begun.ensures.ends c.loop-slot.invariant (omega arith),
      due-next _ _ c.begin-begun.ensures c.loop-gauges.invariant.1,
    )

pub loop-slot-preserved-then-quiet : goal.loop-slot-preserved-then-quiet
loop-slot-preserved-then-quiet c = turns_quiet c.loop-slot.invariant (omega arith) _ c.values-values.ensures c.quiet.ensures c.if-quiet.true

pub loop-slot-preserved : goal.loop-slot-preserved
loop-slot-preserved c = turns_more c.loop-slot.invariant (omega arith) c.turn-turned.ensures (c.put_search-at.ensures.value, c.put_search-at.ensures.out_after) c.of-in-loop-slot.ensures

pub shape_of-out : goal.shape_of-out
shape_of-out c = c.loop-gauges.invariant.0.same

pub returns : goal.returns
returns c =
    let a = c.args in
    stands_runs c.args.from (log_in c.args.from c.args.bus.now c.args.times.now) c.args.bytes.now c.args.out.now c.loop-gauges.invariant.0 c.goes_on.ensures c.loop-gauges-test.false c.end_of_run.ensures
