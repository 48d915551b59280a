-- What a report must pass to touch a question, read off its list.
use Rattle.std.specs.Prelude.{ℕ, zero, suc, ◌+◌, ◌*◌, min, Bool, not, cond, ◌&&◌, List, [], ◌∷◌, map, get_or, ltb, eqb, ℤ, pos}
use Rattle.values.specs.declared.Values.{Values}
use Rattle.values.specs.Names.{editions}
use Rattle.ranking.specs.Cells.{no_rule}
use Rattle.ranking.specs.Standing.{Entry, might_pass}
use Rattle.question.specs.declared.Question.{Question}
use Rattle.question.specs.Lines.{lines}
use Rattle.slot.specs.declared.gauge.Gauge.{Gauge}

-- The last line's score; with no line, the largest that an `i32` holds.
abbrev pub last_score : List Entry → ℤ
last_score [] = pos 2147483647
last_score (x ∷ []) = x.score
last_score (x ∷ y ∷ ys) = last_score (y ∷ ys)

unfoldable pub least_of : Question → ℤ
least_of q = last_score (lines q)

-- The lowest of some numbers; of none, the largest that a `u32` holds.
abbrev pub lowest : List ℕ → ℕ
lowest [] = 4294967295
lowest (n ∷ ns) = min n (lowest ns)

-- The lowest name on the list; 0 while the list has room, as no name is below that.
unfoldable pub lowest_of : Question → ℕ
lowest_of q = cond (ltb q.len q.k) 0 (lowest (map (λ e. e.name) (lines q)))

abbrev pub gauge_of : Question → Gauge
gauge_of q = record { weights = q.rule.weights; least = least_of q; low = lowest_of q }

-- The greatest name of a report of that number: names up to it are those of numbers up to that one.
abbrev pub last_name : ℕ → ℕ
last_name number = editions * number + 4096

-- The list is full, a report of these values would have no place on it even if it counts, and none of a number up to `gone` is on it.
unfoldable pub is_quiet : Gauge → ℕ → Values → Bool
is_quiet g gone v = not (might_pass g.weights v g.least) && ltb (last_name gone) g.low

-- What stands past the last slot.
abbrev pub no_question : Question
no_question = record { k = 0; rule = no_rule; names = []; scores = []; len = 0; next = 0 }

-- Rule 6.1: there are so many slots.
abbrev pub slot_count : ℕ
slot_count = 32

-- A slot with no k and no lines.
abbrev pub is_idle : Question → Bool
is_idle q = eqb q.k 0 && eqb q.len 0

-- Of the first n places of a list, how many there are up to the last one that isn't blank.
unfoldable pub up_to_last : {A : Type 0} → (A → Bool) → A → ℕ → List A → ℕ
up_to_last blank d zero l = 0
up_to_last blank d (suc n) l = cond (blank (get_or l n d)) (up_to_last blank d n l) (suc n)

-- How many of the first n slots there are up to the last one that isn't idle.
abbrev pub in_use : ℕ → List Question → ℕ
in_use n slots = up_to_last is_idle no_question n slots
