-- `joining::store` meets its contract: what is left of the size is taken of the packet's bytes behind its number; nothing is stored where either is empty.
-- Assumes nothing.
use mathlib.Core.Path.{◌≡◌, sym, ◌∙◌, ap}
use mathlib.Core.List.{List, [], ◌∷◌}
use Prim.Native.Nat.{ℕ, ◌-◌, ◌*◌, ◌≤◌}
use native.Mathlib.Omega.{arith}
use lib.ListN.{length, take, drop, length-drop}
use lib.Seq.{sets, take_all, take-nil}
use Rattle.joining.proofs.store.Goals as goal

-- A packet with no bytes, or one that begins past the size.
no_packet : (n : ℕ) (d : List ℕ) → length d ≡ 0 → take n (drop 1 d) ≡ []
no_packet n [] h = take-nil n
no_packet n (b ∷ d) h = absurd (omega (arith, h))

none_left : (size at : ℕ) (d : List ℕ) → size ≤ at → take (size - at) d ≡ []
none_left size at d h = let e : size - at ≡ 0 = omega arith in rw e

pub returns-then-data-eq0 : goal.returns-then-data-eq0
returns-then-data-eq0 c =
    let a = c.args in
    sym (ap (sets c.args.bytes.now (7 * c.args.sent)) (no_packet (c.args.size - 7 * c.args.sent) a.«data».now c.if-data-eq0.true))

pub returns-then-end-at : goal.returns-then-end-at
returns-then-end-at c =
    let a = c.args in
    sym (ap (sets c.args.bytes.now (7 * c.args.sent)) (none_left c.args.size (7 * c.args.sent) (drop 1 a.«data».now) c.if-end-at.true))

pub returns : goal.returns
returns c =
    let a = c.args in
    let d = a.«data».now in
    c.put_all.ensures
    ∙ ap (sets c.args.bytes.now (7 * c.args.sent))
    (c.front.ensures
    ∙ ap (take (c.args.size - 7 * c.args.sent)) (take_all (length d - 1) (drop 1 d) (rw length-drop (omega arith))))
