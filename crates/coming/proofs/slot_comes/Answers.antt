-- The tag alone tells which length the item must have.
-- Assumes nothing.
use mathlib.Core.Path.{◌≡◌, sym, ap, ap₂, ◌∙◌}
use mathlib.Core.Bool.{true, false, and-false, and-true}
use Prim.Native.Nat.{ℕ, ◌≤◌, ◌<◌}
use native.Mathlib.Omega.{arith}
use borrow.Author.Tests.{lt-ltb, le-ltb, eq-eqb, ne_eqb}
use lib.Dec.{ltb}
use Rattle.coming.specs.Coming.{item_comes, slot_comes}
use Rattle.coming.specs.Inner.{slot_size}
use Rattle.coming.proofs.Coming.{slot_tag, slot_small}
use Rattle.coming.proofs.slot_comes.Goals as goal

no_slot : {s n : ℕ} → s ≡ n → 32 ≤ s → ltb n 32 ≡ false
no_slot {s} {n} e h = le-ltb n 32 (omega arith)

a_slot : {s n : ℕ} → s ≡ n → s < 32 → ltb n 32 ≡ true
a_slot {s} {n} e h = lt-ltb n 32 (omega arith)

pub returns-then-size-eq0 : goal.returns-then-size-eq0
returns-then-size-eq0 c =
    let size = c.slot_size-size.ensures ∙ ap slot_size c.byte-tag.ensures in
    rw (slot_tag c.args.bytes.now c.args.i, eq-eqb _ 0 (sym size ∙ c.if-size-eq0.true))

pub item_comes-requires : goal.item_comes-requires
item_comes-requires c = (c.requires, rw c.slot_size-size.ensures (slot_small c.byte-tag.result))

pub returns-then-byte-lt-SLOTS : goal.returns-then-byte-lt-SLOTS
returns-then-byte-lt-SLOTS c =
    let tag = c.byte-tag.ensures in
    let size = c.slot_size-size.ensures ∙ ap slot_size tag in
    rw (slot_tag c.args.bytes.now c.args.i, ne_eqb _ 0 (λ e. c.if-size-eq0.false (size ∙ e)), a_slot c.byte.ensures c.if-byte-lt-SLOTS.true, and-true)
    (c.item_comes.ensures ∙ ap₂ (item_comes c.args.bytes.now c.args.i) tag size)

pub returns-else-byte-lt-SLOTS : goal.returns-else-byte-lt-SLOTS
unfolding slot_comes
returns-else-byte-lt-SLOTS c = rw (no_slot c.byte.ensures c.if-byte-lt-SLOTS.false, and-false) (le-ltb _ _ c.if-byte-lt-SLOTS.false)
