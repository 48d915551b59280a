-- What the code answers of a call that Calls.antt says in numbers: the refusal of its number, or what else stands there.
use Rattle.std.specs.Prelude.{Result}
use Rattle.refusal.specs.declared.Refusal.{Refusal}
use Rattle.refusal.specs.Answers.{answered}
use Rattle.board.specs.Answers.{searches}
use Rattle.ledger.specs.declared.Ledger.{Ledger}
use Rattle.ledger.specs.declared.Placed as placed
use Rattle.ledger.specs.declared.Entered as entered
use Rattle.ledger.specs.Calls.{NewLedger, Placed, Removed, Entered}

abbrev pub made_answer : NewLedger → Result Ledger Refusal
made_answer m = answered m.refusal m.ledger

abbrev pub placed_answer : Placed → Result placed.Placed Refusal
placed_answer p = answered p.refusal (record { steps = p.steps; ledger = p.ledger })

abbrev pub removed_answer : Removed → Result Ledger Refusal
removed_answer r = answered r.refusal r.ledger

abbrev pub entered_answer : Entered → Result entered.Entered Refusal
entered_answer e = answered e.refusal (record { number = e.number; steps = searches e.searched e.steps; ledger = e.ledger })
