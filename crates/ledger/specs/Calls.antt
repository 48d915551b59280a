-- Which ledgers are fit, and what each call answers (docs/RULES.md, sections 9 and 19).
use Rattle.std.specs.Prelude.{ℕ, Bool, false, List, cond, Option, Result, Ok, Err, ◌&&◌, replicate, eqb}
use Rattle.values.specs.declared.Values.{Values}
use Rattle.ranking.specs.declared.Rule.{Rule}
use Rattle.slot.specs.Asking.{Shown, not_shown}
use Rattle.slot.specs.Gauges.{slot_count}
use Rattle.board.specs.declared.Board.{Board}
use Rattle.board.specs.Work as board
use Rattle.board.specs.Work.{fresh_board, set_work, remove_work, read_work, enter_work}
use Rattle.board.specs.Calls.{fit_board}
use Rattle.senders.specs.declared.Senders.{Senders}
use Rattle.refusal.specs.declared.Refusal.{Refusal}
use Rattle.refusal.specs.declared.Refusal.TheVariants.{Unfit}
use Rattle.tally.specs.declared.Tally.{Tally}
use Rattle.tally.specs.declared.FromSender.{FromSender}
use Rattle.senders.specs.Rows.{fit_senders, fresh_senders}
use Rattle.senders.specs.Calls.{entered, sent_refusal, told, traced}
use Rattle.ledger.specs.declared.Ledger.{Ledger}

-- What the calls come to in numbers: the refusal's, or 0, and what else is answered, 0 where it is refused. Answers.antt has what the code answers.
pub record NewLedger : Type 0 where
  pub refusal : ℕ
  pub ledger : Ledger

pub record Placed : Type 0 where
  pub refusal : ℕ
  pub steps : ℕ
  pub ledger : Ledger

pub record Removed : Type 0 where
  pub refusal : ℕ
  pub ledger : Ledger

pub record Entered : Type 0 where
  pub refusal : ℕ
  pub number : ℕ
  pub searched : List Bool
  pub steps : List ℕ
  pub ledger : Ledger

-- The board is fit, and so are senders and tallies beside its window (rule 19.6).
unfoldable pub fit_ledger : Ledger → Bool
fit_ledger g = fit_board g.board && fit_senders g.board.window g.senders

abbrev pub with_board : Ledger → Board → Ledger
with_board g b = record { board = b; senders = g.senders }

-- A fresh board, and no report's sender; refusal 18, where no window has that size.
unfoldable pub fresh_ledger : ℕ → NewLedger
fresh_ledger n = record { refusal = (fresh_board n).refusal; ledger = record { board = (fresh_board n).board; senders = fresh_senders } }

-- Setting: 24, then the board's 13, 14, 15, 30, 33, 16 (rule 9.4). Senders and tallies stay.
unfoldable pub set_call : Ledger → ℕ → ℕ → Rule → Placed
set_call g slot k rule =
    let placed = set_work g.board slot k rule in
    cond (fit_ledger g) (record { refusal = placed.refusal; steps = placed.steps; ledger = with_board g placed.board }) (record { refusal = 24; steps = 0; ledger = g })

-- Removing, and reading: 24, then the board's 13, 17 (rule 9.4).
unfoldable pub remove_call : Ledger → ℕ → Removed
remove_call g slot =
    let removed = remove_work g.board slot in
    cond (fit_ledger g) (record { refusal = removed.refusal; ledger = with_board g removed.board }) (record { refusal = 24; ledger = g })

unfoldable pub read_call : Ledger → ℕ → Shown
read_call g slot = cond (fit_ledger g) (read_work g.board slot) (not_shown 24)

-- Rule 9.1: the refusal's number, and 0 for all else.
abbrev pub not_entered : Ledger → ℕ → Entered
not_entered g refusal =
    record { refusal = refusal; number = 0; searched = replicate slot_count false; steps = replicate slot_count 0; ledger = g }

-- What the board answers, with these senders and tallies beside what it leaves.
abbrev pub entered_with : board.Entered → Senders → Entered
entered_with done s =
    record { refusal = done.refusal; number = done.number; searched = done.searched; steps = done.steps; ledger = record { board = done.board; senders = s } }

-- Entering: 24, then 3, 12, 11 (rule 9.4). The board enters the report, its row keeps its sender, and every tally is what a fresh pass over the reports then held gives (rule 19.3).
unfoldable pub enter_call : Ledger → ℕ → Values → Entered
enter_call g sender v =
    let refusal = sent_refusal g.board.window.counts sender v in
    cond (fit_ledger g)
    (cond (eqb refusal 0) (entered_with (enter_work g.board v) (entered g.board.window g.senders sender v)) (not_entered g refusal))
    (not_entered g 24)

-- Reading a sender's tally: 24, 3 (rule 9.4).
unfoldable pub tally_call : Ledger → ℕ → Result Tally Refusal
tally_call g sender = cond (fit_ledger g) (told g.senders sender) (Err Unfit)

-- Reading one held report: 24 (rule 9.4).
unfoldable pub report_call : Ledger → ℕ → Result (Option FromSender) Refusal
report_call g number = cond (fit_ledger g) (Ok (traced g.board.window g.senders number)) (Err Unfit)
