-- Demand 3 for the log: an S line says the steps of the search that the board's call ran, which are exact, since the log's board is one that the calls lead to.
-- Assumes nothing.
use mathlib.Core.Path.{◌≡◌, sym, ap, ◌∙◌, subst}
use mathlib.Core.Bool.{true, false}
use mathlib.Core.List.{List}
use Prim.Native.Nat.{ℕ, ◌<◌}
use lib.ListN.{get_or}
use Rattle.items.specs.Items.{setting_in}
use Rattle.window.specs.Rows.{added}
use Rattle.board.specs.Work.{slot_at, enter_refusal}
use Rattle.board.specs.Calls.{set_call, enter_call}
use Rattle.board.specs.declared.Board.{Board}
use Rattle.board.specs.Work.{Placed}
use Rattle.board.specs.Work.{Entered}
use Rattle.board.proofs.Refusals.{zero_is}
use Rattle.board.proofs.Demands.{Exactly, set_exact, enter_exact}
use Rattle.report.specs.declared.Report.{Report}
use Rattle.std.specs.Prelude.{Some, Ok}
use Rattle.times.specs.Run.{Timed, stations_after, timed_answer}
use Rattle.text.specs.Text.{s_line}
use Rattle.journal.specs.declared.Log.{Log}
use Rattle.journal.specs.Log.{Outcome, next_item, with_item, stations_of, with_board, with_stations, unless, rule_in, set_item, s_lines, enter_item, answer_item, frame_item, item_done}
use Rattle.journal.specs.Reached.{Reached}
use Rattle.journal.proofs.Answers.{enter-refusal}
use Rattle.journal.proofs.Reached.{log_board, same-answers}

module _ {log : Log} (reached : Reached log) (there : log.board.window.counts.size ≡ 0 → ⊥) (v : List ℕ) where
  abbrev b : Board
  b = log.board

  -- ---- setting

  abbrev slot : ℕ
  slot = get_or v 0 0

  -- What the board's call answers to the item that sets a question.
  abbrev placed : Placed
  placed = set_call b slot (get_or v 1 0) (rule_in v)

  -- An item of tag 17, 22 or 23 (`set_done`, `set_heat_done`, `set_ties_done`) that isn't refused.
  module _ (tag : ℕ) (is : item_done log tag v ≡ set_item (with_item log) (setting_in v)) (taken : placed.refusal ≡ 0) where
    -- It prints the steps of its search.
    pub set_prints : item_done log tag v ≡ record { text = s_line (next_item log.items) slot placed.steps; log = with_board (with_item log) placed.board }
    unfolding set_item unless
    set_prints =
        let done : Placed → Outcome = λ r. record { text = s_line (next_item log.items) slot r.steps; log = with_board (with_item log) r.board } in
        let same = (same-answers reached there).set slot (get_or v 1 0) (rule_in v) in
        is ∙ zero_is _ _ (sym (ap (λ (r : Placed). r.refusal) same) ∙ taken) ∙ sym (ap done same)

    -- And that search is exact.
    pub set-steps : Exactly b.window (get_or v 1 0) (rule_in v) placed.steps (slot_at (item_done log tag v).log.board slot)
    set-steps =
        let own = log_board reached there in
        subst (λ (o : Outcome). Exactly b.window (get_or v 1 0) (rule_in v) placed.steps (slot_at o.log.board slot)) (sym set_prints)
        (set_exact own.0 own.1 slot (get_or v 1 0) (rule_in v) taken)

  -- ---- entering

  -- A frame, of tag 18 or 21 (`frame_done`, `timed_done`), that completes a report which enters.
  module _ (tag : ℕ) (f : Timed) (is : item_done log tag v ≡ frame_item (with_item log) f) (r : Report) (completes : timed_answer (stations_of log) f ≡ Ok (Some r))
      (taken : enter_refusal b.window.counts r.values ≡ 0) where
    -- What the board's call answers to the report.
    abbrev entered : Entered
    entered = enter_call b r.values

    -- The frame prints the steps of each search that the entry ran.
    pub enter_prints : item_done log tag v
        ≡ record {
          text = s_lines (next_item log.items) 0 entered.searched entered.steps;
          log = with_board (with_stations (with_item log) (stations_after (stations_of log) f)) entered.board;
        }
    unfolding frame_item enter_item unless
    enter_prints =
        let next = with_stations (with_item log) (stations_after (stations_of log) f) in
        let done : Entered → Outcome = λ x. record { text = s_lines (next_item log.items) 0 x.searched x.steps; log = with_board next x.board } in
        is ∙ ap (answer_item next) completes ∙ zero_is _ _ (enter-refusal b r.values ∙ taken) ∙ sym (ap done ((same-answers reached there).enter r.values))

    -- And each of these is exact, over the reports held after the entry.
    pub enter-steps : (i : ℕ) → i < 32 → get_or entered.searched i false ≡ true
        → Exactly (added b.window r.values) (slot_at b i).k (slot_at b i).rule (get_or entered.steps i 0) (slot_at (item_done log tag v).log.board i)
    enter-steps i h s =
        let own = log_board reached there in
        subst (λ (o : Outcome). Exactly (added b.window r.values) (slot_at b i).k (slot_at b i).rule (get_or entered.steps i 0) (slot_at o.log.board i)) (sym enter_prints)
        (enter_exact own.0 own.1 r.values taken i h s)
