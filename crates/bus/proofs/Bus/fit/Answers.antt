-- `bus::Bus::fit` meets its contract: the session that stands in the sender's place, or none.
-- Assumes nothing.
use mathlib.Core.Path.{sym, ◌∙◌, ap}
use Rattle.joining.specs.Joining.{fit}
use Rattle.bus.proofs.Places.{session_of_lem}
use Rattle.bus.proofs.Placed.{none_unfit}
use borrow.Author.Rules.{rules}
use Rattle.bus.proofs.Bus.fit.Goals as goal

pub returns-then-k-ge-SENDERS : goal.returns-then-k-ge-SENDERS
returns-then-k-ge-SENDERS c = none_unfit c.args.room.now c.args.sender (search rules)

pub returns : goal.returns
returns c = c.fit_in.ensures ∙ ap fit (sym (session_of_lem 254 c.args.sender c.args.room.now (search rules)))
