-- How many bytes at the front are of a kind: no more than there are, and the run of two texts joined goes on in the second where it fills the first.
-- Assumes nothing.
use mathlib.Core.Path.{◌≡◌, refl, sym, ◌∙◌, ap}
use mathlib.Core.Bool.{Bool, true, false, cond, ◌&&◌}
use mathlib.Core.List.{List, [], ◌∷◌, ◌++◌}
use Prim.Native.Nat.{ℕ, suc, ◌+◌, ◌-◌, ◌≤◌, ◌<◌}
use native.Mathlib.Numerals.{add-one}
use native.Mathlib.Omega.{arith}
use borrow.Author.Tests.{eq-eqb, ne_eqb}
use lib.Dec.{eqb}
use Rattle.std.proofs.lemmas.List.Sums.{prefix_len-le-length}
use Rattle.std.proofs.lemmas.List.Folds.{prefix_len-append}
use Rattle.std.specs.List.{prefix_len}
use lib.ListN.{length, get_or, take, drop, length-drop, drop_of_length-le}
use lib.Seq.{drop-cons, drop-drop, take_all}
use Rattle.wire.specs.Bytes.{same}
use Rattle.lines.specs.declared.Run.{Run}
use Rattle.lines.specs.declared.Run.TheVariants.{Blanks, Letters}
use Rattle.lines.specs.Words.{is_of_kind, run_length, trimmed, behind_word, tail_at}

pub run_within : (kind : Run) (s : List ℕ) → run_length kind s ≤ length s
unfolding run_length
run_within kind s = prefix_len-le-length (is_of_kind kind) s

-- A part to the end is all that stands behind.
pub all-behind : (s : List ℕ) (w : ℕ) → take (length s - w) (drop w s) ≡ drop w s
all-behind s w = take_all (length s - w) (drop w s) (omega (arith, length-drop w s))

-- A run that fills a text goes on in what stands behind it, and one that doesn't ends there.
pub run_over : (kind : Run) (p t : List ℕ) → length p ≤ run_length kind p → run_length kind (p ++ t) ≡ length p + run_length kind t
unfolding run_length
run_over kind p t h = rw (prefix_len-append (is_of_kind kind) p t, eq-eqb (prefix_len (is_of_kind kind) p) (length p) (omega (arith, run_within kind p)))

pub run_short : (kind : Run) (p t : List ℕ) → run_length kind p < length p → run_length kind (p ++ t) ≡ run_length kind p
unfolding run_length
run_short kind p t h = rw (prefix_len-append (is_of_kind kind) p t, ne_eqb (prefix_len (is_of_kind kind) p) (length p) (λ e. omega arith))
