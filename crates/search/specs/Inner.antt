-- What the inner functions of `search` answer, and what its proofs speak of; no public contract and no promise cites it.
use Rattle.std.specs.Prelude.{Bool, ◌||◌, List, ℕ, ltb, length}
use Rattle.laws.specs.Lists.{on_last}
use Rattle.search.specs.Best.{best}
use Rattle.search.specs.Search.{Search, entries}

module _ {E I : Type 0} (s : Search E I) where
  -- the cell could put an entry on the list of all that is held and counts: it is short, or the cell reaches its last entry
  abbrev pub matters : ℕ → List I → ℕ → Bool
  matters k hs c =
      let true_list = best s.above k (entries s hs) in
      ltb (length true_list) k || on_last (s.reaches c) true_list
