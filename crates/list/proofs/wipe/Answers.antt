-- A fill of what stands from the place on leaves 0 there, and the rest as it was.
-- Assumes nothing.
use borrow.Author.Rules.{rules}
use lib.IntN.{pos}
use Rattle.list.proofs.Sliding.{wiped_filled}
use Rattle.list.proofs.wipe.Goals as goal

pub returns : goal.returns
returns c = (
  wiped_filled 0 c.args.from c.args.names.now _ c.requires.0 c.requires.1.names (search rules),
  wiped_filled (pos 0) c.args.from c.args.scores.now _ c.requires.0 c.requires.1.scores (search rules),
)
