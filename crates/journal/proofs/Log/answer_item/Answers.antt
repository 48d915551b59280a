-- `journal::Log::answer_item` meets its contract: by the three answers; a frame that is kept prints nothing.
-- Assumes nothing.
use mathlib.Core.Path.{◌≡◌, refl}
use borrow.Author.Rules.{rules}
use Rattle.std.specs.Prelude.{None}
use Rattle.journal.proofs.Calls.{silent}
use Rattle.journal.proofs.Log.answer_item.Goals as goal

pub returns-in-Ok-None : goal.returns-in-Ok-None
returns-in-Ok-None c =
    let none : c.in-Ok-None.field-0 ≡ None = rw c.in-Ok-None.is at c.in-Ok-None.field-0-is in
    rw (c.in-Ok-None.is, none) (silent c.args.out.now c.args.at c.args.self (search rules) refl)
