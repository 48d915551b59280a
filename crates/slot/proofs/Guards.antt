-- A question's marks guard its list: the laws of any search, read over the entries that its rule makes.
-- Assumes nothing.
use mathlib.Core.Path.{◌≡◌, sym, ap, ◌∙◌, subst}
use mathlib.Core.List.{List, ◌∷◌}
use Prim.Native.Nat.{ℕ, ◌≤◌}
use Rattle.laws.specs.Lists.{◌∈◌}
use Rattle.laws.proofs.Tests.{Tested, passed, failed, tested}
use Rattle.search.specs.Best.{best}
use Rattle.search.specs.Search.{marks}
use Rattle.search.proofs.Search.{All}
use Rattle.search.proofs.Guard.{Guarded, guard_search, guard_unmarked, guard_enter}
use Rattle.ranking.specs.Cells.{cell}
use Rattle.ranking.specs.Standing.{Held, Permitted, above, is_counted, entry, entries, top, search_of}
use Rattle.ranking.specs.declared.Rule.{Rule}
use Rattle.ranking.proofs.Entries.{entries_cons, top_out}
use Rattle.ranking.proofs.Standing.{sound, reach_rises}

module _ (rule : Rule) (k : ℕ) (positive : 1 ≤ k) where
  -- The marks of a search guard its list.
  pub marks_guard : (hs : List Held) → All Permitted hs → Guarded (search_of rule) k (marks (search_of rule) k hs) (top rule k hs)
  unfolding entries
  marks_guard hs good = guard_search (search_of rule) (sound rule) k positive hs good

  module _ (marked : List ℕ) (hs : List Held) (guarded : Guarded (search_of rule) k marked (top rule k hs)) (h : Held) where
    -- A report in a cell without a mark changes nothing.
    pub unmarked_same : Permitted h → (cell h.values ∈ marked → ⊥) → top rule k (h ∷ hs) ≡ top rule k hs
    unmarked_same p out = go (tested (is_counted rule h))
      where
        go : Tested (is_counted rule h) → top rule k (h ∷ hs) ≡ top rule k hs
        go (passed c) =
            ap (best (above rule) k) (entries_cons rule h hs c)
            ∙ guard_unmarked (search_of rule) (sound rule) k positive marked (entries rule hs) guarded h p c out
        go (failed c) = top_out rule k h hs c

    -- They go on guarding the list with one report more.
    pub guard_kept : Guarded (search_of rule) k marked (top rule k (h ∷ hs))
    guard_kept = go (tested (is_counted rule h))
      where
        go : Tested (is_counted rule h) → Guarded (search_of rule) k marked (top rule k (h ∷ hs))
        go (passed c) =
            subst (λ l. Guarded (search_of rule) k marked (best (above rule) k l)) (sym (entries_cons rule h hs c))
            (guard_enter (search_of rule) (sound rule) k positive (reach_rises rule) marked (entry rule h) (entries rule hs) guarded)
        go (failed c) = subst (Guarded (search_of rule) k marked) (sym (top_out rule k h hs c)) guarded
