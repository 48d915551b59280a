-- The invariant: the lines before i rank above the entry.
-- Assumes nothing.
use mathlib.Core.Path.{◌≡◌, sym, ap, ◌∙◌}
use native.Mathlib.Omega.{arith}
use borrow.Author.Rules.{rules}
use lib.ListN.{take, get_or}
use lib.IntN.{pos}
use mir.Facts.{to_z-of_z}
use mir.Syntax.{w32}
use mir.Val.{to_z, of_z}
use Rattle.ranking.specs.Standing.{Entry, above}
use Rattle.laws.proofs.Words.{kept}
use Rattle.ranking.proofs.Entries.{above_strict}
use Rattle.list.specs.Lines.{lines_of}
use Rattle.list.specs.Inner.{rank_in}
use Rattle.list.proofs.Stored.{line_at, drop_line, none_left}
use Rattle.list.proofs.Placed.{ranked_none, ranked_on, ranked_here, ranked_end}
use Rattle.list.proofs.rank_in.Goals as goal

pub loop-i-init : goal.loop-i-init
loop-i-init c = (
  c.requires.0,
  c.requires.1,
  ranked_none (above c.args.rule) (above_strict c.args.rule) _ _,
)

pub returns-then-not-above : goal.returns-then-not-above
returns-then-not-above c =
    let a = c.args in
    let ns = c.args.names.now in
    let ss = c.args.scores.now in
    let i = c.loop-i.i in
    let inv = c.loop-i.invariant in
    let x : Entry = record { name = c.args.name; score = to_z w32 (of_z w32 c.args.score) } in
    ranked_here (above c.args.rule) (above_strict c.args.rule) x (line_at ns ss i) (take c.args.len (lines_of ns ss)) _ i c.loop-i.invariant.2
    (drop_line ns ss c.loop-i.invariant.1 c.args.len c.loop-i.invariant.0 i (search rules))
    (ap (λ s. above c.args.rule (record { name = get_or ns i 0; score = s }) x) (sym (kept w32 (get_or ss i (pos 0)) c.above-arg-in-loop-i-1.given))
    ∙ sym c.above.ensures
    ∙ c.if-not-above.true)
    ∙ ap (λ s. rank_in (above c.args.rule) (record { name = c.args.name; score = s }) (take c.args.len (lines_of ns ss))) (to_z-of_z c.ranges.score)

pub loop-i-preserved : goal.loop-i-preserved
loop-i-preserved c =
    let a = c.args in
    let ns = c.args.names.now in
    let ss = c.args.scores.now in
    let i = c.loop-i.i in
    let inv = c.loop-i.invariant in
    let x : Entry = record { name = c.args.name; score = to_z w32 (of_z w32 c.args.score) } in (
      c.loop-i.invariant.0,
      c.loop-i.invariant.1,
      ranked_on (above c.args.rule) (above_strict c.args.rule) x (line_at ns ss i) (take c.args.len (lines_of ns ss)) i c.loop-i.invariant.2
          (drop_line ns ss c.loop-i.invariant.1 c.args.len c.loop-i.invariant.0 i (search rules))
          (ap (λ s. above c.args.rule (record { name = get_or ns i 0; score = s }) x) (sym (kept w32 (get_or ss i (pos 0)) c.above-arg-in-loop-i-1.given))
          ∙ sym c.above.ensures
          ∙ c.if-not-above.false),
    )

pub returns : goal.returns
returns c =
    let a = c.args in
    let ns = c.args.names.now in
    let ss = c.args.scores.now in
    let inv = c.loop-i.invariant in
    let all : c.loop-i.i ≡ c.args.len = omega arith in
    sym all
    ∙ ranked_end (above c.args.rule) (above_strict c.args.rule) _ (take c.args.len (lines_of ns ss)) c.loop-i.i c.loop-i.invariant.2 (none_left ns ss c.loop-i.invariant.1 c.args.len c.loop-i.invariant.0 c.loop-i.i all)
    ∙ ap (λ s. rank_in (above c.args.rule) (record { name = c.args.name; score = s }) (take c.args.len (lines_of ns ss))) (to_z-of_z c.ranges.score)
