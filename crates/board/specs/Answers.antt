-- What the code answers of a call that Work.antt and Calls.antt say in numbers: the refusal of its number, or what else stands there.
use Rattle.std.specs.Prelude.{ℕ, Bool, cond, List, [], ◌∷◌, Option, None, Some, Result, eqb}
use Rattle.refusal.specs.declared.Refusal.{Refusal}
use Rattle.refusal.specs.Answers.{answered}
use Rattle.board.specs.declared.Board.{Board}
use Rattle.board.specs.declared.Placed as placed
use Rattle.board.specs.declared.Entered as entered
use Rattle.board.specs.declared.Arrival as code
use Rattle.board.specs.Work.{NewBoard, Placed, Removed, Entered, Arrival}

abbrev pub made_answer : NewBoard → Result Board Refusal
made_answer m = answered m.refusal m.board

abbrev pub placed_answer : Placed → Result placed.Placed Refusal
placed_answer p = answered p.refusal (record { steps = p.steps; board = p.board })

abbrev pub removed_answer : Removed → Result Board Refusal
removed_answer r = answered r.refusal r.board

-- The steps of each question that was searched.
abbrev pub searches : List Bool → List ℕ → List (Option ℕ)
searches [] ns = []
searches (b ∷ bs) [] = []
searches (b ∷ bs) (n ∷ ns) = cond b (Some n) None ∷ searches bs ns

abbrev pub entered_answer : Entered → Result entered.Entered Refusal
entered_answer e = answered e.refusal (record { number = e.number; steps = searches e.searched e.steps; board = e.board })

-- A number, where it isn't 0.
abbrev pub some_number : ℕ → Option ℕ
some_number n = cond (eqb n 0) None (Some n)

abbrev pub arrival_answer : Arrival → Result code.Arrival Refusal
arrival_answer a = answered a.refusal (record { number = a.number; name = a.name; oldest = some_number a.oldest })
