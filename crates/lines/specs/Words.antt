-- A line of text as words between blanks.
use Rattle.std.specs.Prelude.{ℕ, zero, suc, List, Bool, not, take, drop, leb, ltb, eqb}
use Rattle.std.specs.List.{prefix_len}
use Rattle.lines.specs.declared.Run.{Run}
use Rattle.lines.specs.declared.Run.TheVariants.{Blanks, Letters, Until}

-- A blank is the space or a byte below it, a letter any other byte.
abbrev pub is_of_kind : Run → ℕ → Bool
is_of_kind Blanks b = leb b 32
is_of_kind Letters b = ltb 32 b
is_of_kind (Until end) b = not (eqb b end)

-- How many bytes at the front are of the kind.
unfoldable pub run_length : Run → List ℕ → ℕ
run_length kind s = prefix_len (is_of_kind kind) s

-- Without the blanks at the front, and without the letters there.
unfoldable pub trimmed : List ℕ → List ℕ
trimmed s = drop (run_length Blanks s) s

unfoldable pub behind_word : List ℕ → List ℕ
behind_word s = drop (run_length Letters s) s

-- What is left behind the first n words, without blanks before it.
unfoldable pub tail_at : ℕ → List ℕ → List ℕ
tail_at zero s = trimmed s
tail_at (suc n) s = trimmed (behind_word (tail_at n s))

-- The word n, counted from 0.
unfoldable pub word_at : ℕ → List ℕ → List ℕ
word_at n s = take (run_length Letters (tail_at n s)) (tail_at n s)
