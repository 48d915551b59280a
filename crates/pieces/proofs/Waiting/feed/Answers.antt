-- Each turn takes a stretch of items, or one byte.
-- Assumes nothing.
use mathlib.Core.Path.{◌≡◌, refl, sym, ap, ◌∙◌}
use mathlib.Core.Bool.{true, false, ◌&&◌}
use mathlib.Core.List.{List, []}
use Prim.Native.Nat.{ℕ, ◌+◌, ◌-◌, ◌^◌, ◌≤◌, ◌<◌}
use native.Mathlib.Omega.{arith}
use borrow.Author.Tests.{ltb-true, lt-ltb, not-true, not-false}
use lib.Dec.{ltb}
use lib.ListN.{length, get_or, take, drop, length-drop}
use lib.Seq.{length-sets, take_all}
use Rattle.laws.proofs.Tests.{and_both}
use Rattle.text.proofs.Places.{none}
use Rattle.journal.specs.Log.{item_done}
use Rattle.coming.specs.Coming.{has_room}
use Rattle.pieces.specs.Machine.{nothing, value_in}
use Rattle.pieces.specs.declared.Waiting.{Waiting}
use Rattle.pieces.proofs.Feeding.{Ran, ran_none, ran_more, ran_feeds, place_fits, came-whole, came_not}
use Rattle.pieces.proofs.Stretches.{stretch_fed}
use borrow.Author.Rules.{rules}
use mathlib.Core.Bool.{not}
use Rattle.pieces.proofs.Waiting.feed.Goals as goal

no_room : (i n at : ℕ) {o p : ℕ} → o ≡ p → i < n → ltb i n && has_room o at ≡ false → has_room p at ≡ false
no_room i n at e h f = ap (λ (k : ℕ). has_room k at) (sym e) ∙ (rw (lt-ltb i n h) at f)

-- What is left of a piece, by its ends.
tail : (i : ℕ) (l : List ℕ) → take (length l - i) (drop i l) ≡ drop i l
tail i l = take_all (length l - i) (drop i l) (omega (arith, length-drop i l))

-- A stretch is done.
pub loop-next-init : goal.loop-next-init
loop-next-init c =
    let a = c.args in
    (omega arith, refl, search rules, ran_none c.args.log c.args.self c.args.piece.now c.args.out.now)

pub slice_bounds-starts-start : goal.slice_bounds-starts-start
slice_bounds-starts-start c =
    let more : c.loop-next.i < length (c.args.piece.now) = ltb-true c.loop-next.i (length (c.args.piece.now)) (and_both (ltb c.loop-next.i (length (c.args.piece.now))) _ (sym c.goes_on.ensures ∙ c.loop-next-test.true)).0 in
    let h = more in search rules

pub slice_bounds-starts-end : goal.slice_bounds-starts-end
slice_bounds-starts-end c =
    let more : c.loop-next.i < length (c.args.piece.now) = ltb-true c.loop-next.i (length (c.args.piece.now)) (and_both (ltb c.loop-next.i (length (c.args.piece.now))) _ (sym c.goes_on.ensures ∙ c.loop-next-test.true)).0 in
    let h = more in search rules

pub slice_bounds-take-start : goal.slice_bounds-take-start
slice_bounds-take-start c =
    let more : c.loop-next.i < length (c.args.piece.now) = ltb-true c.loop-next.i (length (c.args.piece.now)) (and_both (ltb c.loop-next.i (length (c.args.piece.now))) _ (sym c.goes_on.ensures ∙ c.loop-next-test.true)).0 in
    let h = more in search rules

pub slice_bounds-take-end : goal.slice_bounds-take-end
slice_bounds-take-end c =
    let more : c.loop-next.i < length (c.args.piece.now) = ltb-true c.loop-next.i (length (c.args.piece.now)) (and_both (ltb c.loop-next.i (length (c.args.piece.now))) _ (sym c.goes_on.ensures ∙ c.loop-next-test.true)).0 in
    let h = more in search rules

pub overflow_add-i : goal.overflow_add-i
overflow_add-i c =
    let short : length (c.args.piece.now) < 2 ^ 64 = search rules in
    let small : length (c.args.out.now) < 2 ^ 64 = search rules in
    let roomy : has_room (length (c.args.out.now)) c.loop-next.at ≡ true = ap (λ (n : ℕ). has_room n c.loop-next.at) (sym c.loop-next.invariant.1)
    ∙ (and_both (ltb c.loop-next.i (length (c.args.piece.now))) _ (sym c.goes_on.ensures ∙ c.loop-next-test.true)).1 in
    let stretched : Ran c.args.log c.args.self (c.args.piece.now) (c.args.out.now) (c.loop-next.i + c.take-done.result.taken) c.take-done.result.log nothing c.take-done.result.at c.take-done.new.out
    × (1 ≤ c.take-done.result.taken) × (c.loop-next.i + c.take-done.result.taken ≤ length (c.args.piece.now)) = let l = c.loop-next in
    stretch_fed c.args.log c.args.self (c.args.piece.now) (c.args.out.now) (small) l.i l.invariant.0 l.invariant.3 l.invariant.2
    c.starts.ensures c.if-starts.true (roomy) (tail l.i (c.args.piece.now)) c.take-done.ensures refl in
    omega (arith, short, (stretched).2)

pub loop-next-smaller-then-starts : goal.loop-next-smaller-then-starts
loop-next-smaller-then-starts c =
    let small : length (c.args.out.now) < 2 ^ 64 = search rules in
    let roomy : has_room (length (c.args.out.now)) c.loop-next.at ≡ true = ap (λ (n : ℕ). has_room n c.loop-next.at) (sym c.loop-next.invariant.1)
    ∙ (and_both (ltb c.loop-next.i (length (c.args.piece.now))) _ (sym c.goes_on.ensures ∙ c.loop-next-test.true)).1 in
    let stretched : Ran c.args.log c.args.self (c.args.piece.now) (c.args.out.now) (c.loop-next.i + c.take-done.result.taken) c.take-done.result.log (c.nothing-next.result) c.take-done.result.at c.take-done.new.out
    × (1 ≤ c.take-done.result.taken) × (c.loop-next.i + c.take-done.result.taken ≤ length (c.args.piece.now)) = let l = c.loop-next in
    stretch_fed c.args.log c.args.self (c.args.piece.now) (c.args.out.now) (small) l.i l.invariant.0 l.invariant.3 l.invariant.2
    c.starts.ensures c.if-starts.true (roomy) (tail l.i (c.args.piece.now)) c.take-done.ensures (c.nothing-next.ensures) in
    omega (arith, (stretched).1, (stretched).2)

pub loop-next-preserved-then-starts : goal.loop-next-preserved-then-starts
loop-next-preserved-then-starts c =
    let small : length (c.args.out.now) < 2 ^ 64 = search rules in
    let roomy : has_room (length (c.args.out.now)) c.loop-next.at ≡ true = ap (λ (n : ℕ). has_room n c.loop-next.at) (sym c.loop-next.invariant.1)
    ∙ (and_both (ltb c.loop-next.i (length (c.args.piece.now))) _ (sym c.goes_on.ensures ∙ c.loop-next-test.true)).1 in
    let stretched : Ran c.args.log c.args.self (c.args.piece.now) (c.args.out.now) (c.loop-next.i + c.take-done.result.taken) c.take-done.result.log (c.nothing-next.result) c.take-done.result.at c.take-done.new.out
    × (1 ≤ c.take-done.result.taken) × (c.loop-next.i + c.take-done.result.taken ≤ length (c.args.piece.now)) = let l = c.loop-next in
    stretch_fed c.args.log c.args.self (c.args.piece.now) (c.args.out.now) (small) l.i l.invariant.0 l.invariant.3 l.invariant.2
    c.starts.ensures c.if-starts.true (roomy) (tail l.i (c.args.piece.now)) c.take-done.ensures (c.nothing-next.ensures) in
    let r = stretched in
    (r.2, rw (r.0.stored.bytes, length-sets), ap (λ (w : Waiting). length w.bytes) c.nothing-next.ensures, r.0)

pub bounds-piece-i : goal.bounds-piece-i
bounds-piece-i c =
    let more : c.loop-next.i < length (c.args.piece.now) = ltb-true c.loop-next.i (length (c.args.piece.now)) (and_both (ltb c.loop-next.i (length (c.args.piece.now))) _ (sym c.goes_on.ensures ∙ c.loop-next-test.true)).0 in
    more

pub overflow_add-i-in-loop-next : goal.overflow_add-i-in-loop-next
overflow_add-i-in-loop-next c =
    let short : length (c.args.piece.now) < 2 ^ 64 = search rules in
    let more : c.loop-next.i < length (c.args.piece.now) = ltb-true c.loop-next.i (length (c.args.piece.now)) (and_both (ltb c.loop-next.i (length (c.args.piece.now))) _ (sym c.goes_on.ensures ∙ c.loop-next-test.true)).0 in
    omega (arith, short, more)

pub loop-next-smaller-then-not-whole : goal.loop-next-smaller-then-not-whole
loop-next-smaller-then-not-whole c =
    let more : c.loop-next.i < length (c.args.piece.now) = ltb-true c.loop-next.i (length (c.args.piece.now)) (and_both (ltb c.loop-next.i (length (c.args.piece.now))) _ (sym c.goes_on.ensures ∙ c.loop-next-test.true)).0 in
    omega (arith, more)

pub loop-next-preserved-then-not-whole : goal.loop-next-preserved-then-not-whole
loop-next-preserved-then-not-whole c =
    let small : length (c.args.out.now) < 2 ^ 64 = search rules in
    let more : c.loop-next.i < length (c.args.piece.now) = ltb-true c.loop-next.i (length (c.args.piece.now)) (and_both (ltb c.loop-next.i (length (c.args.piece.now))) _ (sym c.goes_on.ensures ∙ c.loop-next-test.true)).0 in
    let roomy : has_room (length (c.args.out.now)) c.loop-next.at ≡ true = ap (λ (n : ℕ). has_room n c.loop-next.at) (sym c.loop-next.invariant.1)
    ∙ (and_both (ltb c.loop-next.i (length (c.args.piece.now))) _ (sym c.goes_on.ensures ∙ c.loop-next-test.true)).1 in
    let l = c.loop-next in
    let e = came_not c.loop-next.left c.loop-next.next (get_or (c.args.piece.now) c.loop-next.i 0) c.with_byte-come.ensures (sym c.whole.ensures ∙ not-true _ (ap not c.if-not-whole.true)) in
    let r = ran_more c.args.log c.args.self (c.args.piece.now) (c.args.out.now) [] (small) (more) c.loop-next.invariant.3 (roomy) e (none c.loop-next.out c.loop-next.at (place_fits (c.args.out.now) 0 _ c.loop-next.invariant.3.stored)) in
    (omega (arith, more), rw (r.stored.bytes, length-sets), search rules, r)

pub loop-next-smaller : goal.loop-next-smaller
loop-next-smaller c =
    let more : c.loop-next.i < length (c.args.piece.now) = ltb-true c.loop-next.i (length (c.args.piece.now)) (and_both (ltb c.loop-next.i (length (c.args.piece.now))) _ (sym c.goes_on.ensures ∙ c.loop-next-test.true)).0 in
    omega (arith, more)

pub loop-next-preserved : goal.loop-next-preserved
loop-next-preserved c =
    let small : length (c.args.out.now) < 2 ^ 64 = search rules in
    let more : c.loop-next.i < length (c.args.piece.now) = ltb-true c.loop-next.i (length (c.args.piece.now)) (and_both (ltb c.loop-next.i (length (c.args.piece.now))) _ (sym c.goes_on.ensures ∙ c.loop-next-test.true)).0 in
    let roomy : has_room (length (c.args.out.now)) c.loop-next.at ≡ true = ap (λ (n : ℕ). has_room n c.loop-next.at) (sym c.loop-next.invariant.1)
    ∙ (and_both (ltb c.loop-next.i (length (c.args.piece.now))) _ (sym c.goes_on.ensures ∙ c.loop-next-test.true)).1 in
    let l = c.loop-next in
    let s = c.item-done.ensures in
    let e = came-whole c.loop-next.left c.loop-next.next (get_or (c.args.piece.now) c.loop-next.i 0) c.with_byte-come.ensures (sym c.whole.ensures ∙ not-false _ (ap not c.if-not-whole.false)) in
    let come = c.with_byte-come.result in
    let d = item_done c.loop-next.left (get_or c.with_byte-come.result.bytes 0 0) (value_in come) in
    let r = ran_more c.args.log c.args.self (c.args.piece.now) (c.args.out.now) d.text (small) (more) c.loop-next.invariant.3 (roomy)
    (e ∙ (λ k. record { text = d.text; log = sym c.item-done.ensures.leaves k; waiting = sym c.nothing-next-in-loop-next.ensures k })) (record { place = c.item-done.ensures.place; bytes = c.item-done.ensures.stored }) in
    (omega (arith, more), rw (r.stored.bytes, length-sets), ap (λ (w : Waiting). length w.bytes) c.nothing-next-in-loop-next.ensures, r)

pub shape_of-out : goal.shape_of-out
shape_of-out c = c.loop-next.invariant.1

pub returns : goal.returns
returns c =
    let a = c.args in
    let l = c.loop-next in
    ran_feeds c.args.log c.args.self c.args.piece.now c.args.out.now c.loop-next.invariant.0 c.loop-next.invariant.3
    (λ h. no_room c.loop-next.i (length c.args.piece.now) c.loop-next.at c.loop-next.invariant.1 h (sym c.goes_on.ensures ∙ c.loop-next-test.false))
