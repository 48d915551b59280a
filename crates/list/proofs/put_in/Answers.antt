-- By the entry's rank: it is past the room, there already, or new.
-- Assumes nothing.
use mathlib.Core.Path.{◌≡◌, sym, ap, ◌∙◌, subst}
use Prim.Native.Nat.{◌+◌, ◌≤◌}
use borrow.Author.Tests.{not-true, not-false}
use lib.ListN.{length, take}
use mir.Facts.{to_z-of_z}
use Rattle.ranking.specs.Standing.{above}
use Rattle.ranking.proofs.Entries.{above_strict}
use Rattle.list.specs.Lines.{lines_of}
use Rattle.list.specs.Inner.{rank_in, new_in, slid, Placing}
use Rattle.list.proofs.Stored.{length-all}
use Rattle.list.proofs.Sliding.{placing_over, placing_old, placing_new, at_last, last_low, slid-roomy, slid-lines}
use mathlib.Core.Bool.{not}
use Rattle.list.proofs.put_in.Goals as goal

pub returns-then-most-at : goal.returns-then-most-at
returns-then-most-at c =
    let long : length ((lines_of c.args.names.now c.args.scores.now)) ≡ 16 = length-all c.args.names.now c.args.scores.now c.requires.2 in
    let found : c.rank_in-at.result ≡ rank_in (above c.args.rule) ((record { name = c.args.name; score = c.args.score })) (take c.args.len ((lines_of c.args.names.now c.args.scores.now))) = c.rank_in-at.ensures
    ∙ ap (λ s. rank_in (above c.args.rule) (record { name = c.args.name; score = s }) (take c.args.len ((lines_of c.args.names.now c.args.scores.now)))) (to_z-of_z c.ranges.score) in
    let a = c.args in
    (placing_over (above a.rule) (above_strict a.rule) ((record { name = c.args.name; score = c.args.score })) a.len a.most ((lines_of c.args.names.now c.args.scores.now)) (long) c.requires.0 (subst (λ n. a.most ≤ n) (found) c.if-most-at.true), c.requires.2)

pub returns-then-not-new_in : goal.returns-then-not-new_in
returns-then-not-new_in c =
    let long : length ((lines_of c.args.names.now c.args.scores.now)) ≡ 16 = length-all c.args.names.now c.args.scores.now c.requires.2 in
    let is_new : c.new_in.result ≡ new_in (above c.args.rule) ((record { name = c.args.name; score = c.args.score })) (take c.args.len ((lines_of c.args.names.now c.args.scores.now))) = c.new_in.ensures
    ∙ ap (λ s. new_in (above c.args.rule) (record { name = c.args.name; score = s }) (take c.args.len ((lines_of c.args.names.now c.args.scores.now)))) (to_z-of_z c.ranges.score) in
    let a = c.args in
    (placing_old (above a.rule) (above_strict a.rule) ((record { name = c.args.name; score = c.args.score })) a.len a.most ((lines_of c.args.names.now c.args.scores.now)) (long) c.requires.0 (sym (is_new) ∙ not-true _ (ap not c.if-not-new_in.true)) c.min.result c.min.ensures, c.requires.2)

pub slide-requires : goal.slide-requires
slide-requires c =
    let long : length ((lines_of c.args.names.now c.args.scores.now)) ≡ 16 = length-all c.args.names.now c.args.scores.now c.requires.2 in
    let found : c.rank_in-at.result ≡ rank_in (above c.args.rule) ((record { name = c.args.name; score = c.args.score })) (take c.args.len ((lines_of c.args.names.now c.args.scores.now))) = c.rank_in-at.ensures
    ∙ ap (λ s. rank_in (above c.args.rule) (record { name = c.args.name; score = s }) (take c.args.len ((lines_of c.args.names.now c.args.scores.now)))) (to_z-of_z c.ranges.score) in
    let a = c.args in
    let under = c.if-most-at.false in (
      at_last (above a.rule) (above_strict a.rule) ((record { name = c.args.name; score = c.args.score })) a.len a.most ((lines_of c.args.names.now c.args.scores.now)) (long) c.requires.0 c.requires.1 c.rank_in-at.result (found) under c.min-last.result c.min-last.ensures,
      last_low (above a.rule) (above_strict a.rule) ((record { name = c.args.name; score = c.args.score })) a.len a.most ((lines_of c.args.names.now c.args.scores.now)) (long) c.requires.0 c.requires.1 c.rank_in-at.result (found) under c.min-last.result c.min-last.ensures,
      c.requires.2,
    )

pub returns : goal.returns
returns c =
    let long : length ((lines_of c.args.names.now c.args.scores.now)) ≡ 16 = length-all c.args.names.now c.args.scores.now c.requires.2 in
    let found : c.rank_in-at.result ≡ rank_in (above c.args.rule) ((record { name = c.args.name; score = c.args.score })) (take c.args.len ((lines_of c.args.names.now c.args.scores.now))) = c.rank_in-at.ensures
    ∙ ap (λ s. rank_in (above c.args.rule) (record { name = c.args.name; score = s }) (take c.args.len ((lines_of c.args.names.now c.args.scores.now)))) (to_z-of_z c.ranges.score) in
    let is_new : c.new_in.result ≡ new_in (above c.args.rule) ((record { name = c.args.name; score = c.args.score })) (take c.args.len ((lines_of c.args.names.now c.args.scores.now))) = c.new_in.ensures
    ∙ ap (λ s. new_in (above c.args.rule) (record { name = c.args.name; score = s }) (take c.args.len ((lines_of c.args.names.now c.args.scores.now)))) (to_z-of_z c.ranges.score) in
    let a = c.args in
    let under = c.if-most-at.false in
    let at = c.rank_in-at.result in
    let last = c.min-last.result in
    let order = at_last (above a.rule) (above_strict a.rule) ((record { name = c.args.name; score = c.args.score })) a.len a.most ((lines_of c.args.names.now c.args.scores.now)) (long) c.requires.0 c.requires.1 at (found) under last c.min-last.ensures in
    let low = last_low (above a.rule) (above_strict a.rule) ((record { name = c.args.name; score = c.args.score })) a.len a.most ((lines_of c.args.names.now c.args.scores.now)) (long) c.requires.0 c.requires.1 at (found) under last c.min-last.ensures in
    let right = c.slide.ensures.1 ∙ ap (λ s. slid at last s a.scores.now) (to_z-of_z c.ranges.score) in (
      subst (λ l. Placing (above a.rule) ((record { name = c.args.name; score = c.args.score })) a.len a.most ((lines_of c.args.names.now c.args.scores.now)) l (last + 1)) (sym (slid-lines c.requires.2 at last a.name a.score order low c.slide.ensures.0 right))
          (placing_new (above a.rule) (above_strict a.rule) ((record { name = c.args.name; score = c.args.score })) a.len a.most ((lines_of c.args.names.now c.args.scores.now)) (long) c.requires.0 c.requires.1 at (found) under last c.min-last.ensures
          (sym (is_new) ∙ not-false _ (ap not c.if-not-new_in.false))),
      slid-roomy c.requires.2 at last a.name a.score order low c.slide.ensures.0 right,
    )
