-- The invariant: the list is the best k of the lines so far.
-- Assumes nothing.
use mathlib.Core.Path.{◌≡◌, ap, ◌∙◌}
use Prim.Native.Nat.{min}
use native.Mathlib.Omega.{arith}
use borrow.Author.Rules.{rules}
use lib.IntN.{pos}
use lib.ListN.{take, get_or}
use mir.Syntax.{w32}
use Rattle.search.specs.Best.{best, placed}
use Rattle.ranking.specs.Standing.{above}
use Rattle.laws.proofs.Words.{kept}
use Rattle.ranking.proofs.Entries.{above_strict}
use Rattle.list.specs.Lines.{lines_in, columns_of}
use Rattle.list.proofs.Stored.{roomy_known, all_lines}
use Rattle.list.proofs.Placing.{best_none, best_more}
use Rattle.list.proofs.Lines.best.Goals as goal

pub loop-i-init : goal.loop-i-init
loop-i-init c =
    let l = c.args.self in
    let good = c.well_formed.0.1.1 in (
      search rules,
      roomy_known c.args.self.names c.args.self.scores c.well_formed.0.1.1.0.1.0.1 c.well_formed.0.1.1.1.0.1.0.1,
      c.none-list.ensures ∙ best_none (above c.args.rule) (min c.args.k 16),
    )

pub loop-i-preserved : goal.loop-i-preserved
loop-i-preserved c =
    let a = c.args in
    let l = c.args.self in
    let n = c.line_count-i-end.result in
    let i = c.loop-i.i in
    let inv = c.loop-i.invariant in
    let back = kept w32 (get_or c.args.self.scores i (pos 0)) (search rules) in (
      c.loop-i.invariant.0,
      c.loop-i.invariant.1,
      c.placed-list.ensures
          ∙ ap (λ s. columns_of (take (min c.args.k 16) (placed (above c.args.rule) (record { name = get_or c.args.self.names i 0; score = s }) (lines_in c.loop-i.list)))) back
          ∙ best_more (above c.args.rule) (above_strict c.args.rule) c.args.self.names c.args.self.scores c.loop-i.invariant.1 n c.loop-i.invariant.0 i (search rules) (min c.args.k 16) (omega arith) c.loop-i.list c.loop-i.invariant.2,
    )

pub returns : goal.returns
returns c =
    let a = c.args in
    let n = c.line_count-i-end.result in
    let inv = c.loop-i.invariant in
    let all : c.loop-i.i ≡ n = omega arith in
    c.loop-i.invariant.2
    ∙ ap (λ l. columns_of (best (above c.args.rule) (min c.args.k 16) l))
    (all_lines c.args.self c.loop-i.invariant.1 n c.line_count-i-end.ensures c.loop-i.i all)
