-- There is no such slot, or its list is what the slot answers.
-- Assumes nothing.
use mathlib.Core.Path.{sym, ap, ◌∙◌}
use borrow.Author.Rules.{rules}
use Rattle.refusal.specs.Answers.{refusal_of}
use Rattle.slot.specs.Answers.{shown_answer}
use Rattle.board.proofs.Seats.{read_nowhere, read_there}
use Rattle.board.proofs.Board.read_work.Goals as goal

pub returns-then-slot-ge-SLOTS : goal.returns-then-slot-ge-SLOTS
unfolding refusal_of
returns-then-slot-ge-SLOTS c = ap shown_answer (sym (read_nowhere c.args.self c.args.slot c.if-slot-ge-SLOTS.true))

pub returns : goal.returns
returns c = c.read_in.ensures ∙ ap shown_answer (sym (read_there c.args.self c.args.slot (search rules)))
