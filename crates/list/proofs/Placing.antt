-- What entries that are put in their rank come to, one after the other: the best k of them all.
-- Assumes nothing.
use mathlib.Core.Path.{◌≡◌, sym, ap, ◌∙◌}
use mathlib.Core.Bool.{Bool}
use mathlib.Core.List.{List, []}
use Prim.Native.Nat.{ℕ, ◌+◌, ◌≤◌, ◌<◌}
use native.Mathlib.Omega.{arith}
use lib.IntN.{ℤ}
use lib.ListN.{take}
use lib.Seq.{take-nil}
use Rattle.search.specs.Best.{best, placed}
use Rattle.ranking.specs.Standing.{Entry}
use Rattle.laws.proofs.Orders.{StrictTotal}
use Rattle.search.proofs.Best.{best_snoc, length_best_le}
use Rattle.list.specs.declared.Lines.{Lines}
use Rattle.list.specs.Lines.{lines_of, lines_in, columns_of}
use Rattle.list.proofs.Stored.{Roomy, line_at, take_line, lines_back}

pub best_none : (above : Entry → Entry → Bool) (k : ℕ) → columns_of [] ≡ columns_of (best above k [])
best_none above k = ap columns_of (sym (take-nil k))

module _ (above : Entry → Entry → Bool) (strict : StrictTotal above) where
  -- what the best k of some are, read back
  pub best_back : (k : ℕ) → k ≤ 16 → (l : List Entry) → lines_in (columns_of (best above k l)) ≡ best above k l
  best_back k small l = lines_back (best above k l) (omega (arith, length_best_le above strict k l))

  -- one line more
  module _ (ns : List ℕ) (ss : List ℤ) (r : Roomy ns ss) (n : ℕ) (h : n ≤ 16) (i : ℕ) (g : i < n) where
    pub best_more : (k : ℕ) → k ≤ 16 → (l : Lines) → l ≡ columns_of (best above k (take i (take n (lines_of ns ss)))) → columns_of (take k (placed above (line_at ns ss i) (lines_in l))) ≡ columns_of (best above k (take (i + 1) (take n (lines_of ns ss))))
    best_more k small l e =
        ap (λ m. columns_of (take k (placed above (line_at ns ss i) m))) (ap lines_in e ∙ best_back k small (take i (take n (lines_of ns ss))))
        ∙ ap columns_of
        (sym (best_snoc above strict k (take i (take n (lines_of ns ss))) (line_at ns ss i)) ∙ ap (best above k) (sym (take_line ns ss r n h i g)))
