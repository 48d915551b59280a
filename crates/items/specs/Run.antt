-- Items one after the other, as a log has them.
use Rattle.std.specs.Prelude.{ℕ, zero, suc, ◌+◌, List, [], ◌∷◌, ◌++◌, Option, Some, None, length, drop}
use Rattle.wire.specs.Bytes.{part, field_at}
use Rattle.wire.specs.declared.Field.{Field}
use Rattle.items.specs.declared.Item.{Item}
use Rattle.items.specs.Items.{item_bytes, data_of, item_in}

-- An item whole: what it says, and the data bytes of a frame; other items have none.
pub record Meant : Type 0 where
  pub item : Item
  pub data_bytes : List ℕ

-- What is meant by a tag and a value.
abbrev pub meant_by : ℕ → List ℕ → Meant
meant_by tag v = record { item = item_in tag v; data_bytes = data_of (item_in tag v) v }

-- The bytes of items in a row.
unfoldable pub run_bytes : List Meant → List ℕ
run_bytes [] = []
run_bytes (m ∷ ms) = item_bytes m.item m.data_bytes ++ run_bytes ms

-- The first field's item, and then the others; a field that the bytes end in is no item.
abbrev pub first_then : List ℕ → (List ℕ → List Meant) → Option Field → List Meant
first_then bs others (Some f) = meant_by f.tag (part f.start f.size bs) ∷ others (drop (f.start + f.size) bs)
first_then bs others None = []

-- At most n of the items that bytes hold.
unfoldable pub items_in : ℕ → List ℕ → List Meant
items_in zero bs = []
items_in (suc n) bs = first_then bs (λ r. items_in n r) (field_at bs 0)

-- All of them: there are no more than bytes.
unfoldable pub read_items : List ℕ → List Meant
read_items bs = items_in (length bs) bs
