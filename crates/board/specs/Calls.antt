-- Which boards are fit, and what each call answers (docs/RULES.md, section 9): 24 where the board is unfit, else what the work answers.
use Rattle.std.specs.Prelude.{ℕ, Bool, cond, ◌&&◌}
use Rattle.values.specs.declared.Values.{Values}
use Rattle.ranking.specs.declared.Rule.{Rule}
use Rattle.window.specs.Rows.{fit_window}
use Rattle.list.specs.Lines.{all_of}
use Rattle.slot.specs.Asking.{Shown, not_shown}
use Rattle.slot.specs.Fitness.{slot_fit}
use Rattle.board.specs.Work.{Placed, Removed, Entered, set_work, remove_work, read_work, not_entered, enter_work}
use Rattle.board.specs.declared.Board.{Board}

-- The window is fit, and so is every slot.
unfoldable pub fit_board : Board → Bool
fit_board b = fit_window b.window && all_of (slot_fit b.window) b.slots

-- Setting: 24, then the work's 13, 14, 15, 30, 33, 16 (rule 9.4).
unfoldable pub set_call : Board → ℕ → ℕ → Rule → Placed
set_call b slot k rule = cond (fit_board b) (set_work b slot k rule) (record { refusal = 24; steps = 0; board = b })

-- Removing, and reading: 24, then the work's 13, 17 (rule 9.4).
unfoldable pub remove_call : Board → ℕ → Removed
remove_call b slot = cond (fit_board b) (remove_work b slot) (record { refusal = 24; board = b })

unfoldable pub read_call : Board → ℕ → Shown
read_call b slot = cond (fit_board b) (read_work b slot) (not_shown 24)

-- Entering: 24, then the work's 12, 11 (rule 9.4).
unfoldable pub enter_call : Board → Values → Entered
enter_call b v = cond (fit_board b) (enter_work b v) (not_entered b 24)
