-- What setting, removing, reading and entering do to a board, whatever it holds (docs/RULES.md, sections 6 and 8).
use Rattle.std.specs.Prelude.{ℕ, ◌+◌, ◌-◌, Bool, false, List, cond, map, get_or, set, replicate, ltb, eqb}
use Rattle.values.specs.declared.Values.{Values}
use Rattle.values.specs.Range.{in_range}
use Rattle.values.specs.Names.{named}
use Rattle.ranking.specs.declared.Rule.{Rule}
use Rattle.ranking.specs.Standing.{Held}
use Rattle.window.specs.declared.Counts.{Counts}
use Rattle.window.specs.declared.Window.{Window}
use Rattle.window.specs.Rows.{report_limit, fresh_window, refusal_in, window_in, added}
use Rattle.question.specs.declared.Question.{Question}
use Rattle.question.specs.Lines.{empty_slot, in_rows}
use Rattle.slot.specs.Asking.{Shown, set_in, empty_refusal, emptied, not_shown, read_in}
use Rattle.slot.specs.Turn.{Turned, turn}
use Rattle.slot.specs.Gauges.{no_question, slot_count}
use Rattle.board.specs.declared.Board.{Board}

-- What the calls come to in numbers: the refusal's, or 0, and what else is answered, 0 where it is refused. Answers.antt has what the code answers.
pub record NewBoard : Type 0 where
  pub refusal : ℕ
  pub board : Board

pub record Placed : Type 0 where
  pub refusal : ℕ
  pub steps : ℕ
  pub board : Board

pub record Removed : Type 0 where
  pub refusal : ℕ
  pub board : Board

pub record Entered : Type 0 where
  pub refusal : ℕ
  pub number : ℕ
  pub searched : List Bool
  pub steps : List ℕ
  pub board : Board

-- What a report's entry comes to in numbers: the refusal's, and where it is 0, for none, the others; 0 for no report that leaves.
pub record Arrival : Type 0 where
  pub refusal : ℕ
  pub number : ℕ
  pub name : ℕ
  pub oldest : ℕ

-- Rule 6.1: what a slot holds.
abbrev pub slot_at : Board → ℕ → Question
slot_at b slot = get_or b.slots slot no_question

-- The board with that question in that slot.
abbrev pub with_slot : Board → ℕ → Question → Board
with_slot b slot q = record { window = b.window; slots = set b.slots slot q }

-- A window with 32 empty slots.
abbrev pub empty_board : Window → Board
empty_board w = record { window = w; slots = replicate slot_count empty_slot }

-- A fresh window with 32 empty slots; refusal 18, where no window has that size.
unfoldable pub fresh_board : ℕ → NewBoard
fresh_board n = record { refusal = refusal_in (fresh_window n); board = empty_board (window_in (fresh_window n)) }

-- Refusal 13, where there is no such slot; then what setting answers in that slot.
unfoldable pub set_work : Board → ℕ → ℕ → Rule → Placed
set_work b slot k rule =
    cond (ltb slot slot_count)
    (let seated = set_in (slot_at b slot) k rule (in_rows b.window) in
    record { refusal = seated.refusal; steps = seated.steps; board = with_slot b slot seated.question })
    (record { refusal = 13; steps = 0; board = b })

-- Refusal 13, where there is no such slot, 17, where it is empty; then that slot is emptied.
unfoldable pub remove_work : Board → ℕ → Removed
remove_work b slot =
    cond (ltb slot slot_count)
    (record { refusal = empty_refusal (slot_at b slot).k; board = with_slot b slot (emptied (slot_at b slot)) })
    (record { refusal = 13; board = b })

-- Refusal 13, where there is no such slot; then what reading answers in that slot.
unfoldable pub read_work : Board → ℕ → Shown
read_work b slot = cond (ltb slot slot_count) (read_in (slot_at b slot)) (not_shown 13)

-- Rule 8.2: the number of the report that leaves, where one is added; 0 for none.
unfoldable pub leaving : Counts → ℕ
leaving c = cond (ltb c.held c.size) 0 (c.entered + 1 - c.size)

-- The report that enters a window.
abbrev pub new_report : Window → Values → Held
new_report w v = record { number = w.counts.entered + 1; values = v }

-- The number of the report that leaves when one enters a window; 0 for none.
abbrev pub outgoing : Window → ℕ
outgoing w = leaving w.counts

-- The turn of one question: over the reports that the window then holds.
abbrev pub turned : Window → Values → Question → Turned
turned w v q = turn q (new_report w v) (outgoing w) (in_rows (added w v))

-- Rule 9.1: the refusal's number, and 0 for all else.
abbrev pub not_entered : Board → ℕ → Entered
not_entered b refusal =
    record { refusal = refusal; number = 0; searched = replicate slot_count false; steps = replicate slot_count 0; board = b }

-- Refusal 12, values out of their range, then 11, no report more can enter (rule 9.4).
unfoldable pub enter_refusal : Counts → Values → ℕ
enter_refusal c v = cond (in_range v) (cond (ltb c.entered report_limit) 0 11) 12

-- What a report's entry comes to, before any question is looked at.
unfoldable pub arrival : Counts → Values → Arrival
arrival c v =
    cond (eqb (enter_refusal c v) 0)
    (record { refusal = 0; number = c.entered + 1; name = named (c.entered + 1) v.edition; oldest = leaving c })
    (record { refusal = enter_refusal c v; number = 0; name = 0; oldest = 0 })

-- Rule 8.3: the report's number, which questions were searched, and the steps of each.
unfoldable pub enter_work : Board → Values → Entered
enter_work b v =
    cond (eqb (enter_refusal b.window.counts v) 0)
    (record {
      refusal = 0;
      number = b.window.counts.entered + 1;
      searched = map (λ q. (turned b.window v q).searched) b.slots;
      steps = map (λ q. (turned b.window v q).steps) b.slots;
      board = record { window = added b.window v; slots = map (λ q. (turned b.window v q).question) b.slots };
    })
    (not_entered b (enter_refusal b.window.counts v))
