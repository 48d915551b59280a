-- A walk over the slots.
use Rattle.std.proofs.Common.{◌≡◌, true, false, rules}
use Rattle.std.proofs.lemmas.Iterator.{cases_from_all, YieldsList-from_slice}
use borrow.Author.Tests.{tests}
use Rattle.slot.specs.Fitness.{slot_fit}
use Rattle.slot.specs.Gauges.{no_question}
use Rattle.board.proofs.Slots.{all_told}
use Rattle.board.proofs.Board.slots_fit.Goals as goal

pub returns : goal.returns
returns c =
    all_told no_question (slot_fit c.args.self.window) c.args.self.slots c.all.result
    (cases_from_all c.all.new.self _ _ (λ q. slot_fit c.args.self.window q ≡ true) (λ q. slot_fit c.args.self.window q ≡ false) c.all.ensures.ran
    (YieldsList-from_slice c.args.self.slots cc) (λ x q k. search (rules, tests)) (λ x q k. search (rules, tests)))
