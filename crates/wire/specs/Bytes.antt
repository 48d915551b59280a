-- Numbers of more than one byte, and tagged fields (docs/RULES.md, section 1).
use Rattle.std.specs.Prelude.{ℕ, zero, suc, ◌+◌, ◌*◌, ◌/◌, ◌%◌, List, [], ◌∷◌, ◌++◌, Bool, true, false, cond, ◌&&◌, Option, Some, None, length, get_or, take, drop, leb, eqb}
use Rattle.wire.specs.declared.Field.{Field}

-- Rule 1.1: the number that bytes stand for, the lowest byte first.
unfoldable pub number : List ℕ → ℕ
number [] = 0
number (b ∷ bs) = b + 256 * number bs

-- The other way: the `n` bytes of the number x.
unfoldable pub bytes : ℕ → ℕ → List ℕ
bytes zero x = []
bytes (suc n) x = x % 256 ∷ bytes n (x / 256)

-- The `n` bytes from place `at` on, or as many of them as there are.
abbrev pub part : ℕ → ℕ → List ℕ → List ℕ
part at n s = take n (drop at s)

-- A field's first three bytes.
unfoldable pub head : ℕ → ℕ → List ℕ
head tag size = tag ∷ bytes 2 size

-- Rule 1.2: a tag, the length in two bytes, the value.
unfoldable pub field : ℕ → List ℕ → List ℕ
field tag value = head tag (length value) ++ value

-- The whole field that stands at a place, with its tag, where its value starts and its length; none where the bytes end inside it.
unfoldable pub field_at : List ℕ → ℕ → Option Field
field_at s at =
    cond (leb (at + 3) (length s))
    (cond (leb (at + 3 + number (part (at + 1) 2 s)) (length s))
    (Some (record { tag = get_or s at 0; start = at + 3; size = number (part (at + 1) 2 s) }))
    None)
    None

-- A whole field of this tag and this length.
abbrev pub is_field : Option Field → ℕ → ℕ → Bool
is_field (Some f) tag size = eqb f.tag tag && eqb f.size size
is_field None tag size = false

-- The same bytes in the same order.
abbrev pub same : List ℕ → List ℕ → Bool
same [] [] = true
same [] (b ∷ t) = false
same (a ∷ s) [] = false
same (a ∷ s) (b ∷ t) = eqb a b && same s t
