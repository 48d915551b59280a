-- What the inner functions of `coming` answer, and what its proofs speak of; no public contract and no promise cites it.
use Rattle.std.specs.Prelude.{ℕ, cond, eqb}

-- The length of a frame's item, by its tag.
unfoldable pub frame_size : ℕ → ℕ
frame_size tag = cond (eqb tag 21) 16 12

-- The length of an item for a slot; 0 where a tag is no such item's.
unfoldable pub slot_size : ℕ → ℕ
slot_size tag = cond (eqb tag 20) 1 (cond (eqb tag 19) 1 (cond (eqb tag 17) 6 (cond (eqb tag 22) 8 (cond (eqb tag 23) 9 0))))
