-- There are as many cells as columns times rows.
-- Assumes nothing.
use mathlib.Core.Path.{◌≡◌, sym, ap, ap₂, ◌∙◌, subst}
use Prim.Native.Nat.{◌*◌, ◌-◌, ◌≤◌}
use native.Mathlib.Nat.{mul-le-mul}
use native.Mathlib.Omega.{arith}
use Rattle.ranking.specs.declared.Stripes.{Stripes}
use Rattle.ranking.proofs.Columns.{width, most_steps_lem, width_small}
use Rattle.ranking.proofs.Rule.most_steps.Goals as goal

pub overflow_mul-result : goal.overflow_mul-result
unfolding width
overflow_mul-result c =
    let across : c.width.result ≡ width (c.args.self).ranges.loss = c.width.ensures ∙ ap (λ (s : Stripes). s.end - s.first) c.stripes-columns.ensures in
    let down : c.width-2.result ≡ width (c.args.self).ranges.shake = c.width-2.ensures ∙ ap (λ (s : Stripes). s.end - s.first) c.stripes-rows.ensures in
    let a = subst (λ n. n ≤ 16) (sym (across)) (width_small (c.args.self).ranges.loss) in
    let b = subst (λ n. n ≤ 16) (sym (down)) (width_small (c.args.self).ranges.shake) in
    record { fits = omega (arith, mul-le-mul a b) }

pub returns : goal.returns
unfolding width
returns c =
    let across : c.width.result ≡ width (c.args.self).ranges.loss = c.width.ensures ∙ ap (λ (s : Stripes). s.end - s.first) c.stripes-columns.ensures in
    let down : c.width-2.result ≡ width (c.args.self).ranges.shake = c.width-2.ensures ∙ ap (λ (s : Stripes). s.end - s.first) c.stripes-rows.ensures in
    ap₂ (λ m n. m * n) (across) (down) ∙ sym (most_steps_lem (c.args.self))
