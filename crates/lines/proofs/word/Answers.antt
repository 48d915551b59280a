-- `lines::word` meets its contract: a word is within what is left of its line.
-- Assumes nothing.
use native.Mathlib.Omega.{arith}
use lib.ListN.{length-take}
use Rattle.lines.proofs.Words.{run_within}
use Rattle.lines.specs.declared.Run.TheVariants.{Letters}
use Rattle.lines.proofs.word.Goals as goal

pub slice_bounds-result-end : goal.slice_bounds-result-end
slice_bounds-result-end c = let s = c.tail-rest.result.now in omega (arith, length-take c.length.result s, c.length.ensures, run_within Letters s)
