-- A list in its two columns: its lines, and how they are stored (docs/RULES.md, rules 6.4 and 9.6).
use Rattle.std.specs.Prelude.{ℕ, ◌/◌, ◌%◌, Bool, true, ◌&&◌, List, [], ◌∷◌, ◌++◌, map, eqb, length, take, replicate, ℤ, pos}
use Rattle.laws.specs.Whole.{equal}
use Rattle.values.specs.Names.{editions}
use Rattle.ranking.specs.Standing.{Entry}
use Rattle.list.specs.declared.Lines.{Lines}

-- How many lines a list has room for.
abbrev pub most_lines : ℕ
most_lines = 16

-- The lines of a list, from their names and scores.
abbrev pub lines_of : List ℕ → List ℤ → List Entry
lines_of [] ss = []
lines_of (n ∷ ns) [] = []
lines_of (n ∷ ns) (s ∷ ss) = record { name = n; score = s } ∷ lines_of ns ss

-- A list as it is stored, and its columns: unused places are 0 (rule 9.6).
abbrev pub names_of : List Entry → List ℕ
names_of l = take most_lines (map (λ e. e.name) l ++ replicate most_lines 0)

abbrev pub scores_of : List Entry → List ℤ
scores_of l = take most_lines (map (λ e. e.score) l ++ replicate most_lines (pos 0))

abbrev pub columns_of : List Entry → Lines
columns_of l = record { names = names_of l; scores = scores_of l; len = length l }

-- The lines that a list has.
abbrev pub lines_in : Lines → List Entry
lines_in l = take l.len (lines_of l.names l.scores)

-- Each passes the test.
abbrev pub all_of : {A : Type 0} → (A → Bool) → List A → Bool
all_of p [] = true
all_of p (x ∷ xs) = p x && all_of p xs

-- Rule 9.5: each line ranks above the next.
abbrev pub falls : (Entry → Entry → Bool) → List Entry → Bool
falls above [] = true
falls above (x ∷ []) = true
falls above (x ∷ y ∷ l) = above x y && falls above (y ∷ l)

-- Rule 9.6: an unused place is 0.
abbrev pub blank : Entry → Bool
blank e = eqb e.name 0 && equal e.score (pos 0)

-- Rule 17.6: what names have in them, a number and an edition's number each.
abbrev pub numbers_in : List ℕ → List ℕ
numbers_in names = map (λ n. n / editions) names

abbrev pub editions_in : List ℕ → List ℕ
editions_in names = map (λ n. n % editions) names
