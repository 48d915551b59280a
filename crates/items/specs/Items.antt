-- The log's items (docs/RULES.md, rules 11.1, 15.1, 17.7 and 18.6): a window, a question that is set, without a weight for heat, with one, and with a tie
-- rule too, a frame without a time and with one, a question that is removed, a list that is shown, each with its tag, its length and its value.
use Rattle.std.specs.Prelude.{ℕ, ◌-◌, List, [], ◌∷◌, ◌++◌, Bool, cond, ◌&&◌, length, get_or, ltb, eqb, ℤ, pos, negsuc}
use Rattle.wire.specs.Bytes.{number, bytes, part, field}
use Rattle.items.specs.declared.Setting.{Setting}
use Rattle.items.specs.declared.Item.{Item}
use Rattle.items.specs.declared.Item.TheVariants.{Window, Set, Frame, Remove, Show, Timed, SetHeat, SetTies, Unknown}

-- A number with a sign in two bytes: what they stand for, and the other way.
unfoldable pub signed16 : ℕ → ℤ
signed16 n = cond (ltb n 32768) (pos n) (negsuc (65535 - n))

unfoldable pub unsigned16 : ℤ → ℕ
unsigned16 (pos n) = n
unsigned16 (negsuc n) = 65535 - n

-- ---- writing

-- Rule 11.1: slot, k and the weights for loss and shake, these with a sign in two bytes each.
unfoldable pub setting_bytes : Setting → List ℕ
setting_bytes s = s.slot ∷ (s.k ∷ (bytes 2 (unsigned16 s.loss) ++ bytes 2 (unsigned16 s.shake)))

-- Rule 17.7: the same, and the weight for heat at the end.
unfoldable pub heat_bytes : Setting → List ℕ
heat_bytes s = setting_bytes s ++ bytes 2 (unsigned16 s.heat)

-- Rules 11.1 and 18.6: the same, and the tie rule at the end.
unfoldable pub ties_bytes : Setting → List ℕ
ties_bytes s = heat_bytes s ++ (s.ties ∷ [])

-- An item's tag; no log knows 0.
abbrev pub tag_of : Item → ℕ
tag_of (Window n) = 16
tag_of (Set s) = 17
tag_of (Frame id) = 18
tag_of (Remove slot) = 19
tag_of (Show slot) = 20
tag_of (Timed time id) = 21
tag_of (SetHeat s) = 22
tag_of (SetTies s) = 23
tag_of Unknown = 0

-- Its value. A frame's data bytes stand beside the item; in the log they follow the identifier (rule 10.2), and a time stands before that (rule 15.1).
abbrev pub value_of : Item → List ℕ → List ℕ
value_of (Window n) ds = bytes 2 n
value_of (Set s) ds = setting_bytes s
value_of (Frame id) ds = bytes 4 id ++ ds
value_of (Remove slot) ds = slot ∷ []
value_of (Show slot) ds = slot ∷ []
value_of (Timed time id) ds = bytes 4 time ++ (bytes 4 id ++ ds)
value_of (SetHeat s) ds = heat_bytes s
value_of (SetTies s) ds = ties_bytes s
value_of Unknown ds = []

-- Its bytes: a tagged field.
abbrev pub item_bytes : Item → List ℕ → List ℕ
item_bytes i ds = field (tag_of i) (value_of i ds)

-- ---- reading

-- A tag and a value of this length.
abbrev pub is_item : ℕ → List ℕ → ℕ → ℕ → Bool
is_item tag v want size = eqb tag want && eqb (length v) size

-- The question in a value. One of 6 bytes has nothing from place 6 on, so its weight for heat is 0; one of 6 or 8 has nothing at place 8, so its tie rule is
-- 0 (rule 18.6).
abbrev pub setting_in : List ℕ → Setting
setting_in v =
    record { slot = get_or v 0 0; k = get_or v 1 0; loss = signed16 (number (part 2 2 v)); shake = signed16 (number (part 4 2 v)); heat = signed16 (number (part 6 2 v)); ties = get_or v 8 0 }

-- The data bytes in the value of an item: a frame's follow its identifier, and this the time if it has one. Other items have none.
abbrev pub data_of : Item → List ℕ → List ℕ
data_of (Window n) v = []
data_of (Set s) v = []
data_of (Frame id) v = part 4 8 v
data_of (Remove slot) v = []
data_of (Show slot) v = []
data_of (Timed time id) v = part 8 8 v
data_of (SetHeat s) v = []
data_of (SetTies s) v = []
data_of Unknown v = []

-- What an item of this tag and value says; any other tag, or another length, is unknown.
unfoldable pub item_in : ℕ → List ℕ → Item
item_in tag v =
    cond (is_item tag v 16 2) (Window (number (part 0 2 v)))
    (cond (is_item tag v 17 6) (Set (setting_in v))
    (cond (is_item tag v 18 12) (Frame (number (part 0 4 v)))
    (cond (is_item tag v 19 1) (Remove (get_or v 0 0))
    (cond (is_item tag v 20 1) (Show (get_or v 0 0))
    (cond (is_item tag v 21 16) (Timed (number (part 0 4 v)) (number (part 4 4 v)))
    (cond (is_item tag v 22 8) (SetHeat (setting_in v))
    (cond (is_item tag v 23 9) (SetTies (setting_in v))
    Unknown)))))))
