-- The search over cells, for any rank order, cells and visiting order.
use Rattle.std.specs.Prelude.{Bool, true, false, not, ◌&&◌, List, [], ◌∷◌, map, ℕ, zero, suc, eqb, length, take, drop}
use Rattle.laws.specs.Lists.{on_last, only}
use Rattle.search.specs.Best.{best}

-- What a search goes by: entries E of a list, and things I that are held.
pub record Search (E I : Type 0) : Type 0 where
  -- the first ranks above the second
  pub above : E → E → Bool
  -- a held thing that doesn't count stands on no list
  pub counts : I → Bool
  -- how one that counts stands there
  pub entry : I → E
  pub cell_of : I → ℕ
  -- the cell's best possible score is not below the entry's
  pub reaches : ℕ → E → Bool
  -- the cells, in the order in which they are taken
  pub order : List ℕ

-- c is among the cells
abbrev pub has : ℕ → List ℕ → Bool
has c [] = false
has c (d ∷ ds) = elim (eqb c d) [ true ↦ true | false ↦ has c ds ]

-- the least number from n on that passes the test, looked for among `fuel` numbers
abbrev pub least : (ℕ → Bool) → ℕ → ℕ → ℕ
least p zero n = n
least p (suc fuel) n = elim (p n) [ true ↦ n | false ↦ least p fuel (suc n) ]

module _ {E I : Type 0} (s : Search E I) where
  -- the entries of all that is held and counts
  abbrev pub entries : List I → List E
  entries hs = map s.entry (only s.counts hs)

  -- what is held in those cells
  abbrev pub held_in : List ℕ → List I → List I
  held_in cs hs = only (λ i. has (s.cell_of i) cs) hs

  -- those of it that count
  abbrev pub counted_in : List ℕ → List I → List I
  counted_in cs hs = only s.counts (held_in cs hs)

  -- rule 7.5: after n steps, the best k of what the first n cells hold
  abbrev pub list_after : ℕ → List I → ℕ → List E
  list_after k hs n = best s.above k (entries (held_in (take n s.order) hs))

  -- rule 7.6: the search ends where no cell is left, or the list has k entries and the next cell doesn't reach the last of them
  abbrev pub stops : ℕ → List E → List ℕ → Bool
  stops k l [] = true
  stops k l (c ∷ left) = eqb (length l) k && on_last (λ e. not (s.reaches c e)) l

  abbrev pub ended : ℕ → List I → ℕ → Bool
  ended k hs n = stops k (list_after k hs n) (drop n s.order)

  -- the number of steps: the first after which the search has ended
  unfoldable pub steps : ℕ → List I → ℕ
  steps k hs = least (ended k hs) (length s.order) 0

  -- the list that a search leaves
  abbrev pub found : ℕ → List I → List E
  found k hs = list_after k hs (steps k hs)

  -- rule 7.5: the cells that a search has taken
  abbrev pub marks : ℕ → List I → List ℕ
  marks k hs = take (steps k hs) s.order
