-- What comes next in a log's bytes, and whether it can be done where the log stands.
use Rattle.std.specs.Prelude.{ℕ, ◌+◌, Bool, ◌&&◌, ◌||◌, List, length, get_or, leb, ltb, eqb}
use Rattle.wire.specs.Bytes.{number, part}
use Rattle.window.specs.Rows.{sized}
use Rattle.slot.specs.Gauges.{slot_count}

-- The length that the head of the item at a place says.
abbrev pub size_at : List ℕ → ℕ → ℕ
size_at bytes i = number (part (i + 1) 2 bytes)

-- A whole item of that tag and length stands at a place.
unfoldable pub item_comes : List ℕ → (i tag size : ℕ) → Bool
item_comes bytes i tag size = leb (i + (3 + size)) (length bytes) && eqb (get_or bytes i 0) tag && eqb (size_at bytes i) size

-- An item that sets, removes or shows a question (rules 11.1, 17.7 and 18.6), in a slot that there is.
unfoldable pub slot_comes : List ℕ → ℕ → Bool
slot_comes bytes i =
    (item_comes bytes i 20 1 || item_comes bytes i 19 1 || item_comes bytes i 17 6 || item_comes bytes i 22 8 || item_comes bytes i 23 9) && ltb (get_or bytes (i + 3) 0) slot_count

-- A frame without a time (rule 11.1), or with one (rule 15.1).
unfoldable pub frame_comes : List ℕ → ℕ → Bool
frame_comes bytes i = item_comes bytes i 18 12 || item_comes bytes i 21 16

-- There is a window, and a frame or an item for a slot comes: such an item changes one session, one row or one slot.
unfoldable pub comes : ℕ → List ℕ → ℕ → Bool
comes rows bytes i = sized rows && (frame_comes bytes i || slot_comes bytes i)

-- A room of that length has space from `at` on for the most that one item prints: 32 S lines of 33 bytes.
unfoldable pub has_room : ℕ → ℕ → Bool
has_room room at = leb (at + 1056) room

-- A tag is a frame's.
unfoldable pub is_frame : ℕ → Bool
is_frame tag = eqb tag 18 || eqb tag 21
