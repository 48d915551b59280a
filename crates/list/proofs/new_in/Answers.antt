-- The line at the rank is read, if there is one.
-- Assumes nothing.
use mathlib.Core.Path.{sym, ap, ap₂, ◌∙◌}
use native.Mathlib.Omega.{arith}
use borrow.Author.Tests.{le-leb}
use lib.IntN.{pos}
use lib.ListN.{take, get_or}
use mir.Facts.{to_z-of_z}
use mir.Syntax.{w32}
use Rattle.ranking.specs.Standing.{Entry, above}
use Rattle.laws.proofs.Words.{kept}
use Rattle.ranking.proofs.Entries.{above_strict}
use Rattle.list.specs.Lines.{lines_of}
use Rattle.list.proofs.Stored.{line_at, line_at_lem, length_front}
use Rattle.list.proofs.Placed.{new_there, new_last}
use Rattle.list.proofs.new_in.Goals as goal

abbrev none : Entry
none = record { name = 0; score = pos 0 }

pub returns-else-len-at : goal.returns-else-len-at
returns-else-len-at c =
    let a = c.args in
    let ns = c.args.names.now in
    let ss = c.args.scores.now in
    let room = c.requires.1 in
    let few = c.requires.0 in
    let x : Entry = record { name = c.args.name; score = c.args.score } in
    let l = take c.args.len (lines_of ns ss) in
    let line = line_at ns ss c.args.at in
    c.above.ensures
    ∙ ap₂ (λ s t. above c.args.rule (record { name = c.args.name; score = s }) (record { name = line.name; score = t })) (to_z-of_z c.ranges.score) (kept w32 line.score c.above-arg-else-len-at-1.given)
    ∙ sym
    (new_there (above c.args.rule) (above_strict c.args.rule) x l none (omega (arith, length_front ns ss room c.args.len few, c.if-len-at.false, c.requires.2))
    ∙ ap (above c.args.rule x) (ap (λ i. get_or l i none) (sym c.requires.2) ∙ line_at_lem ns ss room c.args.len few c.args.at c.if-len-at.false))

pub returns-then-len-at : goal.returns-then-len-at
returns-then-len-at c =
    let a = c.args in
    let ns = c.args.names.now in
    let ss = c.args.scores.now in
    let room = c.requires.1 in
    le-leb c.args.len c.args.at c.if-len-at.true ∙ sym
    (new_last (above c.args.rule) (above_strict c.args.rule) (record { name = c.args.name; score = c.args.score }) (take c.args.len (lines_of ns ss))
    (omega (arith, length_front ns ss room c.args.len c.requires.0, c.if-len-at.true, c.requires.2)))
