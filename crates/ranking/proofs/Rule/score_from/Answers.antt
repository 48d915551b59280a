-- Each branch is a case of the definition: below the least there is none, whether or not the values count. Where heat has no weight any edition will do.
-- Assumes nothing.
use mathlib.Core.Path.{◌≡◌, sym, ap, ap₂, ◌∙◌}
use Prim.Native.Nat.{ℕ}
use lib.IntN.{ℤ}
use lib.Signed.{lt_z}
use mir.Facts.{to_z-of_z}
use mir.Syntax.{w32}
use Rattle.std.specs.Prelude.{Some}
use Rattle.laws.proofs.Words.{kept}
use Rattle.values.specs.declared.Edition.{Edition}
use Rattle.values.specs.declared.Values.{Values}
use Rattle.values.specs.Range.{low}
use Rattle.values.proofs.Facts.{low_in}
use Rattle.ranking.specs.Cells.{score, ScoreFits, from_least, values_named}
use Rattle.ranking.specs.Inner.{Words, edition_by}
use Rattle.ranking.specs.declared.Rule.{Rule}
use Rattle.ranking.proofs.Cells.{from_hottest, from_low, from_counted, from_out, score-named, points-fit, word_fits}
use Rattle.ranking.proofs.Rule.score_from.Goals as goal

fits_low : (rule : Rule) (v : Values) → Words rule.weights → ScoreFits rule (low v)
fits_low rule v words = points-fit rule (low v) (word_fits rule (low v) words (low_in v))

same_named : (rule : Rule) (loss shake name : ℕ) (least : ℤ) (e : Edition) → e ≡ edition_by rule.weights name
    → from_least least (score rule (low (record { loss = loss; shake = shake; edition = e }))) ≡ from_least least (score rule (low (values_named loss shake name)))
same_named rule loss shake name least e is =
    ap (from_least least) (ap (λ d. score rule (low (record { loss = loss; shake = shake; edition = d }))) is ∙ score-named rule loss shake name)

pub returns-then-most-least : goal.returns-then-most-least
returns-then-most-least c =
    let v = values_named c.args.loss c.args.shake c.args.name in
    let lower = ap₂ lt_z (kept w32 c.most.result c.most.type_inv ∙ c.most.ensures.0) (to_z-of_z c.ranges.least) in
    (sym (from_hottest c.args.self (low v) c.args.least (low_in v) (sym lower ∙ c.if-most-least.true)), fits_low c.args.self v c.most.ensures.1)

pub returns-then-sum-least : goal.returns-then-sum-least
returns-then-sum-least c =
    let v = values_named c.args.loss c.args.shake c.args.name in
    let own = low (record { loss = c.args.loss; shake = c.args.shake; edition = c.edition_in.result }) in
    let below = ap₂ lt_z (kept w32 c.sum-sum.result c.sum-sum.type_inv ∙ c.sum-sum.ensures) (to_z-of_z c.ranges.least) in (
      sym (from_low c.args.self own c.args.least (sym below ∙ c.if-sum-least.true))
          ∙ same_named c.args.self c.args.loss c.args.shake c.args.name c.args.least c.edition_in.result c.edition_in.ensures,
      fits_low c.args.self v c.most.ensures.1,
    )

pub returns-then-counts : goal.returns-then-counts
returns-then-counts c =
    let v = values_named c.args.loss c.args.shake c.args.name in
    let own = low (record { loss = c.args.loss; shake = c.args.shake; edition = c.edition_in.result }) in
    let is = kept w32 c.sum-sum.result c.sum-sum.type_inv ∙ c.sum-sum.ensures in
    let below = ap₂ lt_z is (to_z-of_z c.ranges.least) in (
      ap Some is
          ∙ sym (from_counted c.args.self own c.args.least (sym c.counts.ensures ∙ c.if-counts.true) (sym below ∙ c.if-sum-least.false))
          ∙ same_named c.args.self c.args.loss c.args.shake c.args.name c.args.least c.edition_in.result c.edition_in.ensures,
      fits_low c.args.self v c.most.ensures.1,
    )

pub returns : goal.returns
returns c =
    let v = values_named c.args.loss c.args.shake c.args.name in
    let own = low (record { loss = c.args.loss; shake = c.args.shake; edition = c.edition_in.result }) in (
      sym (from_out c.args.self own c.args.least (sym c.counts.ensures ∙ c.if-counts.false))
          ∙ same_named c.args.self c.args.loss c.args.shake c.args.name c.args.least c.edition_in.result c.edition_in.ensures,
      fits_low c.args.self v c.most.ensures.1,
    )
