-- The lines that the log program prints (docs/RULES.md, section 11).
use Rattle.std.specs.Prelude.{ℕ, zero, suc, ◌+◌, ◌-◌, ◌*◌, ◌/◌, ◌%◌, ◌^◌, min, List, [], ◌∷◌, ◌++◌, cond, length, ltb, ℤ, pos, negsuc}

-- The digits of n in ASCII, at most k of them before the last.
unfoldable pub spelled : ℕ → ℕ → List ℕ
spelled zero n = (48 + n) ∷ []
spelled (suc k) n = cond (ltb n 10) ((48 + n) ∷ []) (spelled k (n / 10) ++ (48 + n % 10) ∷ [])

-- Rule 11.5: decimal, with no zero in front: no number n has more than n digits before its last.
unfoldable pub decimal : ℕ → List ℕ
decimal n = spelled n n

-- Rule 11.5: with a minus where it is below 0.
unfoldable pub signed_decimal : ℤ → List ℕ
signed_decimal (pos n) = decimal n
signed_decimal (negsuc n) = 45 ∷ decimal (suc n)

-- A space and a number.
unfoldable pub spaced : ℕ → List ℕ
spaced n = 32 ∷ decimal n

-- Rule 11.2: the line of a search; by 11.5 a line ends in byte 10.
unfoldable pub s_line : ℕ → ℕ → ℕ → List ℕ
s_line item slot steps = 83 ∷ [] ++ spaced item ++ spaced slot ++ spaced steps ++ 10 ∷ []

-- Rule 11.4: the line of a refusal.
unfoldable pub r_line : ℕ → ℕ → List ℕ
r_line item code = 82 ∷ [] ++ spaced item ++ spaced code ++ 10 ∷ []

-- A report on a question's list.
pub record Entry : Type 0 where
  pub number : ℕ
  pub score : ℤ

-- Rule 11.3: an entry in the line of a list.
unfoldable pub entry_text : Entry → List ℕ
entry_text e = spaced e.number ++ 58 ∷ [] ++ signed_decimal e.score

-- Entries in a row.
unfoldable pub entries_text : List Entry → List ℕ
entries_text [] = []
entries_text (e ∷ es) = entry_text e ++ entries_text es

-- Rule 11.3: the line of a list.
unfoldable pub q_line : ℕ → List Entry → List ℕ
q_line slot es = 81 ∷ [] ++ spaced slot ++ spaced (length es) ++ entries_text es ++ 10 ∷ []

-- The entries that numbers and scores beside each other stand for.
unfoldable pub entries_of : List ℕ → List ℤ → List Entry
entries_of [] ss = []
entries_of (n ∷ ns) [] = []
entries_of (n ∷ ns) (s ∷ ss) = record { number = n; score = s } ∷ entries_of ns ss

-- The place behind a text that starts at `at`; where a `usize` is too small for it, the largest one.
unfoldable pub behind : ℕ → List ℕ → ℕ
behind at text = min (at + length text) (2 ^ 64 - 1)

-- The other way, for the promise on `decimal`: the number that ASCII digits stand for, where those before them stand for n.
unfoldable pub read_on : ℕ → List ℕ → ℕ
read_on n [] = n
read_on n (d ∷ ds) = read_on (10 * n + (d - 48)) ds
