-- Which boards are reached (docs/RULES.md, rule 9.8).
use Rattle.std.specs.Prelude.{ℕ, ◌<◌, ◌≡◌, cond, List, [], ◌∷◌, ◌++◌, eqb}
use Rattle.values.specs.declared.Values.{Values}
use Rattle.ranking.specs.declared.Rule.{Rule}
use Rattle.question.specs.Calls.{step_call, begin_call}
use Rattle.slot.specs.Gauges.{slot_count}
use Rattle.board.specs.Work.{slot_at, with_slot, fresh_board}
use Rattle.board.specs.Calls.{set_call, remove_call, enter_call}
use Rattle.board.specs.declared.Board.{Board}

-- What was entered, where a call that brought these values was answered with that refusal, 0 for none.
abbrev pub past_after : List Values → Values → ℕ → List Values
past_after past v refusal = cond (eqb refusal 0) (past ++ (v ∷ [])) past

-- Rule 9.8: a fresh board, and what a call leaves of a reached one, a stepped or begun question put back in its slot. `past` is what was entered, in that order.
pub data Reached (n : ℕ) : List Values → Board → Type 0 where
  fresh : (fresh_board n).refusal ≡ 0 → Reached n [] (fresh_board n).board
  set : {past : List Values} {b : Board} → Reached n past b → (slot k : ℕ) (rule : Rule) → Reached n past (set_call b slot k rule).board
  remove : {past : List Values} {b : Board} → Reached n past b → (slot : ℕ) → Reached n past (remove_call b slot).board
  enter : {past : List Values} {b : Board} → Reached n past b → (v : Values) → Reached n (past_after past v (enter_call b v).refusal) (enter_call b v).board
  begin : {past : List Values} {b : Board} → Reached n past b → (slot : ℕ) → slot < slot_count → Reached n past (with_slot b slot (begin_call b.window (slot_at b slot)).question)
  step : {past : List Values} {b : Board} → Reached n past b → (slot : ℕ) → slot < slot_count → Reached n past (with_slot b slot (step_call b.window (slot_at b slot)).question)
