-- What the inner functions of `list` answer, and what its proofs speak of; no public contract and no promise cites it.
use Rattle.std.specs.Prelude.{◌≡◌, ℕ, suc, ◌/◌, Bool, true, cond, not, ◌&&◌, ◌||◌, List, [], ◌∷◌, ◌++◌, length, take, drop, replicate, ℤ, negsuc, eqb}
use Rattle.laws.specs.Whole.{equal}
use Rattle.search.specs.Best.{placed}
use Rattle.values.specs.Names.{editions}
use Rattle.ranking.specs.declared.Rule.{Rule}
use Rattle.ranking.specs.Standing.{Held, Entry, later_first, top}
use Rattle.list.specs.Lines.{most_lines, columns_of}
use Rattle.list.specs.declared.Bar.{Bar}

-- The columns have their room.
pub record Roomy (ns : List ℕ) (ss : List ℤ) : Type 0 where
  pub names : length ns ≡ most_lines
  pub scores : length ss ≡ most_lines

-- x at a place, and what stood from there to the place `last` one place back; what stood at `last` goes.
abbrev pub slid : {A : Type 0} → (at last : ℕ) → A → List A → List A
slid at last x l = take at l ++ (x ∷ (drop at (take last l) ++ drop (suc last) l))

module _ {E : Type 0} (above : E → E → Bool) where
  -- How many lines rank above an entry, before the first that doesn't.
  abbrev pub rank_in : E → List E → ℕ
  rank_in x [] = 0
  rank_in x (y ∷ ys) = cond (above y x) (suc (rank_in x ys)) 0

  -- The line at an entry's rank is another.
  abbrev pub new_in : E → List E → Bool
  new_in x [] = true
  new_in x (y ∷ ys) = cond (above y x) (new_in x ys) (above x y)

  -- The lines `new` have, as their first r, the first `len` of `old` with an entry in its rank, at most `most` of them; the rest is as it was.
  pub record Placing (e : E) (len most : ℕ) (old new : List E) (r : ℕ) : Type 0 where
    pub count : r ≡ length (take most (placed above e (take len old)))
    pub front : take r new ≡ take most (placed above e (take len old))
    pub rest : drop r new ≡ drop r old

-- No entry with a lower score passes it: the last line's score, or the least that an `i32` holds.
unfoldable pub least_at : Bar → ℤ
least_at bar = cond bar.full bar.score (negsuc 2147483647)

-- A full list's last line has that score, and of equal ones the newer goes first.
unfoldable pub turns : Rule → Bar → ℤ → Bool
turns rule bar s = equal s bar.score && bar.full && later_first rule

-- An entry passes the bar: the number in its name isn't 0, and where the list is full it ranks above the last line.
unfoldable pub admits : (Entry → Entry → Bool) → Bar → Entry → Bool
admits above bar e =
    not (eqb (e.name / editions) 0) && (not bar.full || above e (record { name = bar.name; score = bar.score }))

-- The first n of a column, and d in the places past them.
abbrev pub wiped : {A : Type 0} → ℕ → A → List A → List A
wiped n d l = take most_lines (take n l ++ replicate most_lines d)

-- Two columns and a length are the best k of some reports, as a list stores them.
abbrev pub Gathered : Rule → ℕ → List Held → List ℕ → List ℤ → ℕ → Type 0
Gathered rule k hs ns ss len = record { names = ns; scores = ss; len = len } ≡ columns_of (top rule k hs)
