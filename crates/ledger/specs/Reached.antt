-- Which ledgers are reached (docs/RULES.md, rule 9.8).
use Rattle.std.specs.Prelude.{ℕ, ◌<◌, ◌≡◌, cond, List, [], ◌∷◌, ◌++◌, map, eqb}
use Rattle.values.specs.declared.Values.{Values}
use Rattle.ranking.specs.declared.Rule.{Rule}
use Rattle.question.specs.Calls.{step_call, begin_call}
use Rattle.slot.specs.Gauges.{slot_count}
use Rattle.board.specs.Work.{slot_at, with_slot}
use Rattle.tally.specs.declared.FromSender.{FromSender}
use Rattle.ledger.specs.declared.Ledger.{Ledger}
use Rattle.ledger.specs.Calls.{with_board, fresh_ledger, set_call, remove_call, enter_call}

-- What was entered, where a call that brought this report was answered with that refusal, 0 for none.
abbrev pub past_after : List FromSender → FromSender → ℕ → List FromSender
past_after past x refusal = cond (eqb refusal 0) (past ++ (x ∷ [])) past

-- Of what was entered, the values: what the board's history has.
abbrev pub values_of : List FromSender → List Values
values_of past = map (λ (x : FromSender). x.values) past

-- Rule 9.8: a fresh ledger, and what a call leaves of a reached one, a stepped or begun question put back in its slot. `past` is what was entered, in that order.
pub data Reached (n : ℕ) : List FromSender → Ledger → Type 0 where
  fresh : (fresh_ledger n).refusal ≡ 0 → Reached n [] (fresh_ledger n).ledger
  set : {past : List FromSender} {g : Ledger} → Reached n past g → (slot k : ℕ) (rule : Rule) → Reached n past (set_call g slot k rule).ledger
  remove : {past : List FromSender} {g : Ledger} → Reached n past g → (slot : ℕ) → Reached n past (remove_call g slot).ledger
  enter : {past : List FromSender} {g : Ledger} → Reached n past g → (x : FromSender) → Reached n (past_after past x (enter_call g x.sender x.values).refusal) (enter_call g x.sender x.values).ledger
  begin : {past : List FromSender} {g : Ledger} → Reached n past g → (slot : ℕ) → slot < slot_count → Reached n past (with_board g (with_slot g.board slot (begin_call g.board.window (slot_at g.board slot)).question))
  step : {past : List FromSender} {g : Ledger} → Reached n past g → (slot : ℕ) → slot < slot_count → Reached n past (with_board g (with_slot g.board slot (step_call g.board.window (slot_at g.board slot)).question))
