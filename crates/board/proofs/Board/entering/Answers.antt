-- The loop fills three arrays, and when it ends they hold what entering leaves of every question.
use Rattle.std.proofs.Common.{◌≡◌, ◌<◌, ◌∙◌, refl, sym, length, arith}
use Rattle.board.proofs.Refusals.{Enterable, enterable}
use Rattle.board.proofs.Filling.{turns-none, turns_more, new_name, turns-all}
use Rattle.board.proofs.Board.entering.Goals as goal

pub overflow_add-number : goal.overflow_add-number
overflow_add-number c =
    let may_enter : Enterable c.args.self.window.counts c.args.values = enterable c.args.self.window.counts c.args.values c.requires in
    omega (arith, (may_enter).room)

pub leaving-gone-requires : goal.leaving-gone-requires
leaving-gone-requires c =
    let may_enter : Enterable c.args.self.window.counts c.args.values = enterable c.args.self.window.counts c.args.values c.requires in
    (may_enter).room

pub loop-i-init : goal.loop-i-init
loop-i-init c =
    let all_slots : length c.args.self.slots ≡ 32 = c.well_formed.0.1.1.1.0.1.0.1 in
    turns-none _ _ _ _ _ _ refl (sym all_slots)

pub loop-i-preserved : goal.loop-i-preserved
loop-i-preserved c =
    let below : c.loop-i.i < length c.args.self.slots = omega (arith, c.loop-i-test.true) in
    turns_more _ _ _ _ below c.loop-i.invariant c.turn-turned.result c.turn-turned.ensures

pub returns : goal.returns
returns c =
    let may_enter : Enterable c.args.self.window.counts c.args.values = enterable c.args.self.window.counts c.args.values c.requires in
    let name = c.of.ensures ∙ new_name c.args.self.window.counts.entered c.args.values.edition (may_enter).room in
    turns-all c.args.self c.args.values c.requires (λ i. record { loss = c.args.values.loss; shake = c.args.values.shake; name = name i }) c.leaving-gone.ensures c.added-window.ensures (omega (arith, c.loop-i-test.false)) c.loop-i.invariant
