-- What is promised of every log that items lead to: its sessions and last times are fit, and so is its board once there is a window, so that no call answers 24; its window holds what its frames
-- brought, every question in use lists the best k of that; and no item prints more than `Waiting::MOST` bytes. Each is read off what the log keeps its own.
-- Assumes nothing.
use mathlib.Core.Path.{◌≡◌, refl, sym, ap, ap₂, ◌∙◌, subst}
use mathlib.Core.Logic.{◌⊎◌, inl, inr}
use mathlib.Core.Bool.{true, false}
use mathlib.Core.List.{List, [], ◌∷◌}
use Prim.Native.Nat.{ℕ, zero, suc, ◌-◌, ◌^◌, ◌/◌, ◌≤◌, ◌<◌}
use native.Mathlib.Omega.{arith}
use borrow.Author.Tests.{lt-ltb, ne_eqb, eqb-false}
use lib.Dec.{eqb}
use lib.IntN.{ℤ}
use lib.ListN.{length, take}
use lib.Seq.{drop-nil}
use Rattle.values.specs.declared.Values.{Values}
use Rattle.ranking.specs.Standing.{Held, top}
use Rattle.ranking.specs.declared.Rule.{Rule}
use Rattle.window.specs.Rows.{report_limit, fresh_window, held_reports}
use Rattle.window.specs.History.{numbered, latest}
use Rattle.window.proofs.Reports.{empty_holds}
use Rattle.list.specs.Lines.{lines_of, numbers_in}
use Rattle.question.specs.Lines.{lines}
use Rattle.board.specs.Work.{slot_at, fresh_board, set_work, remove_work, read_work, enter_work}
use Rattle.slot.specs.Asking.{read_in}
use Rattle.board.specs.Calls.{fit_board, set_call, remove_call, read_call, enter_call}
use Rattle.board.specs.Reached as board
use Rattle.board.specs.declared.Board.{Board}
use Rattle.board.proofs.Known.{set_known, remove_known, read_known, enter_known}
use Rattle.board.proofs.Demands.{demand_2, reached_holds}
use Rattle.board.proofs.Kept.{kept}
use Rattle.joining.specs.Frame.{Frame}
use Rattle.joining.specs.Run.{fresh_sessions, sessions_after_all, answers_to_all}
use Rattle.joining.specs.Answers.{Answer}
use Rattle.times.specs.Timed.{fresh_times}
use Rattle.times.specs.Run.{Stations, station_of, fresh_stations, stations_after_all, timed_answers, untimed}
use Rattle.times.proofs.Steps.{Fit}
use Rattle.times.proofs.Reached.{reached_fit}
use Rattle.times.proofs.Mixing.{untimed_run}
use Rattle.text.specs.Text.{Entry, r_line, q_line, entries_of}
use Rattle.journal.specs.declared.Log.{Log}
use Rattle.journal.specs.Log.{Outcome, next_item, stations_of, item_done, show_item, unless}
use Rattle.journal.specs.Reached.{Reached, fresh, item, frames_of, completed, entered_by, shown_as}
use Rattle.journal.proofs.Printed.{Code, at_most, never}
use Rattle.journal.proofs.Answers.{none_yet}
use Rattle.journal.proofs.Items.{show_done}
use Rattle.journal.proofs.Own.{Own, Boarded, none, window, fresh_own, item_does, fresh-empty, no_window, has_window, slot_ended}

pub own : {log : Log} → (r : Reached log) → Own (frames_of r) log
own fresh = fresh_own
own (item {log} r tag v) = (item_does (frames_of r) log (own r) tag v).own

-- ---- text

-- An item's number fits a `u64`, so its lines are short.
pub next_small : (n : ℕ) → next_item n < 2 ^ 64
unfolding next_item
next_small n = omega arith

none_held : held_reports (fresh_board 0).board.window ≡ []
unfolding fresh_board fresh_window
none_held = empty_holds 0

-- ---- a list as it is printed

shown_lines : (n : ℕ) (ns : List ℕ) (ss : List ℤ) → take n (entries_of (numbers_in ns) ss) ≡ shown_as (take n (lines_of ns ss))
unfolding entries_of
shown_lines zero ns ss = refl
shown_lines (suc n) [] ss = refl
shown_lines (suc n) (x ∷ ns) [] = refl
shown_lines (suc n) (x ∷ ns) (s ∷ ss) = ap (λ (l : List Entry). record { number = x / 4097; score = s } ∷ l) (shown_lines n ns ss)

show_text : (log : Log) (slot : ℕ) → eqb log.board.window.counts.size 0 ≡ false → slot < 32 → ((slot_at log.board slot).k ≡ 0 → ⊥)
    → (item_done log 20 (slot ∷ [])).text ≡ q_line slot (take (slot_at log.board slot).len (entries_of (numbers_in (slot_at log.board slot).names) (slot_at log.board slot).scores))
unfolding show_item read_work read_in unless
show_text log slot there h used =
    ap (λ (o : Outcome). o.text) (show_done log (eqb-false log.board.window.counts.size 0 there) slot) ∙ rw (lt-ltb slot 32 h, ne_eqb (slot_at log.board slot).k 0 used)

-- an item is refused 1 to 23, 26 or 33
no_code : (n : ℕ) → 24 ≤ n → (n ≡ 26 → ⊥) → n < 33 → Code n → ⊥
no_code n h e k (inl c) = omega arith
no_code n h e k (inr (inl c)) = e c
no_code n h e k (inr (inr c)) = omega arith

module _ {log : Log} (reached : Reached log) where
  -- `Waiting::MOST`: what any next item prints.
  pub item_short : (tag : ℕ) (v : List ℕ) → length (item_done log tag v).text ≤ 1056
  item_short tag v = at_most (next_item log.items) (next_small log.items) (item_does (frames_of reached) log (own reached) tag v).prints

  -- ---- refusals 24 and 30

  -- No item is refused 24: what a log keeps is fit.
  pub no_24 : (tag : ℕ) (v : List ℕ) (n : ℕ) → (item_done log tag v).text ≡ r_line n 24 → ⊥
  no_24 tag v n e = never (item_does (frames_of reached) log (own reached) tag v).prints 24 (no_code 24 (omega arith) (λ e. omega arith) (omega arith)) n e

  -- None is refused 30: no item gives a range.
  pub no_30 : (tag : ℕ) (v : List ℕ) (n : ℕ) → (item_done log tag v).text ≡ r_line n 30 → ⊥
  no_30 tag v n e = never (item_does (frames_of reached) log (own reached) tag v).prints 30 (no_code 30 (omega arith) (λ e. omega arith) (omega arith)) n e

  -- The sessions and last times are those that the log's frames lead to.
  pub log_stations : stations_of log ≡ stations_after_all fresh_stations (frames_of reached)
  log_stations = (own reached).heard

  pub session_fit : (k : ℕ) → k < 254 → Fit (station_of k (stations_of log))
  session_fit k h = subst (λ (b : Stations). Fit (station_of k b)) (sym log_stations) (reached_fit (frames_of reached) k h)

  -- A log whose frames have no times has the sessions that these lead to, no times, and the reports that they complete.
  pub record Untimed (fs : List Frame) : Type 0 where
    pub sessions : log.sessions ≡ sessions_after_all fresh_sessions fs
    pub times : log.times ≡ fresh_times
    pub entered : entered_by (frames_of reached) ≡ take report_limit (completed (answers_to_all fresh_sessions fs))

  pub untimed-log : (fs : List Frame) → frames_of reached ≡ untimed fs → Untimed fs
  unfolding entered_by
  untimed-log fs e =
      let run = untimed_run fresh_stations fs in
      let left = log_stations ∙ ap (stations_after_all fresh_stations) e ∙ run.0 in
      record {
        sessions = ap (λ (b : Stations). b.sessions) left;
        times = ap (λ (b : Stations). b.times) left;
        entered = ap (λ (l : List Answer). take report_limit (completed l)) (ap (timed_answers fresh_stations) e ∙ run.1);
      }

  -- There is no window yet, or the board is fit.
  pub board_fit : (log.board ≡ (fresh_board 0).board) ⊎ (fit_board log.board ≡ true)
  board_fit = go (own reached).board_is
    where
      go : Boarded (frames_of reached) log.board → (log.board ≡ (fresh_board 0).board) ⊎ (fit_board log.board ≡ true)
      go (none first e) = inl e
      go (window r f same) = inr f

  -- Where there is a window, the board is one that the board's calls lead to, with the reports that the log's frames completed entered; so all that is promised of such a board holds.
  pub log_board : (log.board.window.counts.size ≡ 0 → ⊥) → board.Reached log.board.window.counts.size (entered_by (frames_of reached)) log.board × (fit_board log.board ≡ true)
  log_board there = go (own reached).board_is
    where
      go : Boarded (frames_of reached) log.board → board.Reached log.board.window.counts.size (entered_by (frames_of reached)) log.board × (fit_board log.board ≡ true)
      go (none first e) = absurd (there (ap (λ (b : Board). b.window.counts.size) e ∙ no_window))
      go (window {n} r f same) =
          (subst (λ (m : ℕ). board.Reached m (entered_by (frames_of reached)) log.board) (sym (kept r).since.of_size) (subst (λ (past : List Values). board.Reached n past log.board) same r), f)

  -- The public calls answer what the items do, so that an item's refusals are the calls' own.
  pub record Answered : Type 0 where
    pub set : (slot k : ℕ) (rule : Rule) → set_call log.board slot k rule ≡ set_work log.board slot k rule
    pub remove : (slot : ℕ) → remove_call log.board slot ≡ remove_work log.board slot
    pub read : (slot : ℕ) → read_call log.board slot ≡ read_work log.board slot
    pub enter : (v : Values) → enter_call log.board v ≡ enter_work log.board v

  pub same-answers : (log.board.window.counts.size ≡ 0 → ⊥) → Answered
  same-answers there =
      let f = (log_board there).1 in
      record { set = set_known log.board f; remove = remove_known log.board f; read = read_known log.board f; enter = enter_known log.board f }

  -- ---- demand 2

  -- After every item, every question in use has as its list the best k of the held reports that count.
  pub log_demand_2 : (slot : ℕ) → slot < 32 → ((slot_at log.board slot).k ≡ 0 → ⊥)
      → lines (slot_at log.board slot) ≡ top (slot_at log.board slot).rule (slot_at log.board slot).k (held_reports log.board.window)
  log_demand_2 slot h used = go (own reached).board_is
    where
      go : Boarded (frames_of reached) log.board → lines (slot_at log.board slot) ≡ top (slot_at log.board slot).rule (slot_at log.board slot).k (held_reports log.board.window)
      go (none first e) = absurd (used (ap (λ (b : Board). (slot_at b slot).k) e ∙ ap (λ q. q.k) (fresh-empty 0 slot h)))
      go (window r f same) = demand_2 r slot h (slot_ended log.board r f slot h used)

  -- The held reports are the last min(N, entered) of those that the log's frames completed, the first 1,000,000 of them, numbered in their order.
  pub log-holds : held_reports log.board.window ≡ latest log.board.window.counts.size (numbered 1 (entered_by (frames_of reached)))
  log-holds = go (own reached).board_is
    where
      go : Boarded (frames_of reached) log.board → held_reports log.board.window ≡ latest log.board.window.counts.size (numbered 1 (entered_by (frames_of reached)))
      go (none first e) =
          ap (λ (b : Board). held_reports b.window) e ∙ none_held
          ∙ sym (ap (λ (vs : List Values). latest log.board.window.counts.size (numbered 1 vs)) (ap entered_by first ∙ none_yet) ∙ drop-nil (0 - log.board.window.counts.size))
      go (window r f same) = reached_holds r ∙ ap₂ (λ (n : ℕ) (vs : List Values). latest n (numbered 1 vs)) (sym (kept r).since.of_size) same

  -- Showing a question in use prints the best k of the last N reports that the log's frames completed, of those that count.
  pub show_prints : (slot : ℕ) → slot < 32 → ((slot_at log.board slot).k ≡ 0 → ⊥)
      → (item_done log 20 (slot ∷ [])).text
      ≡ q_line slot (shown_as (top (slot_at log.board slot).rule (slot_at log.board slot).k (latest log.board.window.counts.size (numbered 1 (entered_by (frames_of reached))))))
  show_prints slot h used =
      let q = slot_at log.board slot in
      show_text log slot (has_window_used (own reached).board_is) h used
      ∙ ap (q_line slot) (shown_lines q.len q.names q.scores ∙ ap shown_as (log_demand_2 slot h used ∙ ap (λ (hs : List Held). top q.rule q.k hs) log-holds))
    where
      has_window_used : Boarded (frames_of reached) log.board → eqb log.board.window.counts.size 0 ≡ false
      has_window_used (none first e) = absurd (used (ap (λ (b : Board). (slot_at b slot).k) e ∙ ap (λ q. q.k) (fresh-empty 0 slot h)))
      has_window_used (window r f same) = has_window log.board f
