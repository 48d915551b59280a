-- What a log holds is its own: its board has no window yet, or was reached by the board's calls and is fit, and its sessions and last times were reached by its frames, whose reports are
-- those that entered. Every item keeps that, and prints what such a state can print.
-- Assumes nothing.
use mathlib.Core.Path.{◌≡◌, refl, sym, ap, ◌∙◌, subst}
use mathlib.Core.Logic.{◌⊎◌, inl, inr}
use mathlib.Core.Bool.{Bool, true, false, cond, ◌&&◌, false≢true}
use mathlib.Core.List.{List, [], ◌∷◌, ◌++◌, append-nil}
use Prim.Native.Nat.{ℕ, ◌≤◌, ◌<◌}
use native.Mathlib.Omega.{arith}
use borrow.Author.Tests.{eqb-true, eqb-false, ne_eqb, ltb-true, ltb-false}
use lib.Dec.{eqb, ltb, leb}
use lib.ListN.{length, take, length-map, length-take, get_or-replicate}
use Rattle.values.specs.declared.Values.{Values}
use Rattle.values.specs.Range.{in_range}
use Rattle.ranking.specs.Cells.{weights_fit, ranges_proper, ties_known}
use Rattle.ranking.specs.declared.Rule.{Rule}
use Rattle.laws.proofs.Tests.{Tested, passed, failed, tested, and_both, if_so, if_not, either}
use Rattle.laws.proofs.Lists.{get_d_in}
use Rattle.window.specs.Rows.{sized, fresh_window, refusal_in, fit_window, added}
use Rattle.window.specs.declared.Counts.{Counts}
use Rattle.window.proofs.Fitness.{fit_facts}
use Rattle.question.specs.declared.Question.{Question}
use Rattle.question.specs.Lines.{empty_slot, finished, in_rows}
use Rattle.list.specs.Lines.{all_of, numbers_in}
use Rattle.list.proofs.Blank.{all_in}
use Rattle.board.specs.Work.{slot_at, fresh_board, set_work, remove_work, read_work, new_report, outgoing, turned, enter_refusal, enter_work}
use Rattle.board.specs.Calls.{fit_board, enter_call}
use Rattle.board.specs.Reached as board
use Rattle.slot.specs.Asking.{Shown}
use Rattle.slot.specs.Asking.{read_in}
use Rattle.slot.specs.Fitness.{slot_fit}
use Rattle.slot.specs.Gauges.{no_question}
use Rattle.slot.proofs.Standing.{Slot, stands_ended, not_searching}
use Rattle.slot.proofs.Standing as state
use Rattle.slot.proofs.Setting.{set-refusal, set_few}
use Rattle.slot.proofs.Turns.{turn_few}
use Rattle.board.specs.declared.Board.{Board}
use Rattle.board.specs.Work.{NewBoard}
use Rattle.board.specs.Work.{Placed}
use Rattle.board.specs.Work.{Removed}
use Rattle.board.specs.Work.{Entered}
use Rattle.board.proofs.Seats.{set_nowhere, set_there, set_kept, settable, remove_kept}
use Rattle.board.proofs.Kept.{kept, slot_of}
use Rattle.board.proofs.Demands.{reached_fit}
use Rattle.board.proofs.Fit.{fit-set, fit-remove, fit-enter}
use Rattle.board.proofs.Known.{set_known, remove_known, enter_known}
use Rattle.report.specs.declared.Report.{Report}
use Rattle.joining.specs.Answers.{Answer}
use Rattle.std.specs.Prelude.{Some, None, Ok, Err}
use Rattle.refusal.specs.Numbers.{number_of}
use Rattle.times.specs.Run.{Timed, Stations, fresh_stations, stations_after, timed_answer, timed_at, untimed_at, stations_after_all}
use Rattle.times.proofs.Driving.{stations_more}
use Rattle.times.proofs.Steps.{Named}
use Rattle.times.proofs.Reached.{reached_named}
use Rattle.text.specs.Text.{q_line}
use Rattle.text.specs.Text as text
use Rattle.text.proofs.Lengths.{listed_in_range}
use Rattle.items.specs.declared.Setting.{Setting}
use Rattle.items.specs.declared.Item.{Item}
use Rattle.items.specs.declared.Item.TheVariants.{Window, Set, Remove, Show, SetHeat, SetTies, Unknown}
use Rattle.items.specs.declared.Item.TheVariants as item
use Rattle.items.specs.Items.{data_of, item_in}
use Rattle.journal.specs.declared.Log.{Log}
use Rattle.journal.specs.Log.{Outcome, fresh_log, with_item, next_item, stations_of, with_board, with_stations, unless, early, item_refusal, window_item, setting_rule, set_item, remove_item, show_item, s_lines, enter_item, answer_item, frame_item, by_item, item_done}
use Rattle.journal.specs.Reached.{framed, frame_of, entered_by}
use Rattle.journal.proofs.Printed.{Code, Prints, nothing, refusal, search, searches, list}
use Rattle.journal.proofs.Answers.{none_yet, answer, nothing_more, one_more, enter-refusal, enters_when}
use Rattle.journal.proofs.Shown.{Small, slot_small, map_few}

-- The board that frames lead to.
pub data Boarded (fs : List Timed) (b : Board) : Type 0 where
  none : fs ≡ [] → b ≡ (fresh_board 0).board → Boarded fs b
  window : {n : ℕ} {past : List Values} → board.Reached n past b → fit_board b ≡ true → past ≡ entered_by fs → Boarded fs b

pub record Own (fs : List Timed) (log : Log) : Type 0 where
  pub board_is : Boarded fs log.board
  pub heard : stations_of log ≡ stations_after_all fresh_stations fs

-- An item's outcome: the log stays its own, and the text is one of those that an item prints.
pub record Does (fs : List Timed) (item : ℕ) (o : Outcome) : Type 0 where
  pub own : Own fs o.log
  pub prints : Prints item o.text

-- The numbers that the board's calls refuse with, or 0.
abbrev Few : ℕ → Type 0
Few n = (n ≤ 23) ⊎ (n ≡ 33)

coded : {n : ℕ} → (n ≡ 0 → ⊥) → Few n → Code n
coded positive (inl h) = inl (omega arith, h)
coded positive (inr e) = inr (inr e)

-- The two cases of a call.
module _ {fs : List Timed} (log : Log) (n : ℕ) where
  refuses : (done : Outcome) → Own fs log → Few n → eqb n 0 ≡ false → Does fs log.items (unless log n done)
  unfolding unless
  refuses done own few t =
      subst (Does fs log.items) (sym (if_not _ _ t)) (record { own = own; prints = refusal n (coded (eqb-false n 0 t) few) refl })

  does : {done : Outcome} → eqb n 0 ≡ true → Does fs log.items done → Does fs log.items (unless log n done)
  unfolding unless
  does t d = subst (Does fs log.items) (sym (if_so _ _ t)) d

-- ---- the window

-- A chain of refusals.
code : (t : Bool) (n : ℕ) {x : ℕ} → n ≤ 23 → x ≤ 23 → cond t x n ≤ 23
code t n k h = either (λ (m : ℕ). m ≤ 23) t (λ e. h) (λ e. k)

fresh_code : (n : ℕ) → (fresh_board n).refusal ≤ 23
unfolding fresh_board fresh_window
fresh_code n = either (λ r. refusal_in r ≤ 23) (sized n) (λ t. omega arith) (λ t. omega arith)

pub fresh-empty : (n slot : ℕ) → slot < 32 → slot_at (fresh_board n).board slot ≡ empty_slot
unfolding fresh_board
fresh-empty n slot h = get_or-replicate 32 slot empty_slot no_question h

window_does : {fs : List Timed} (log : Log) → Own fs log → fs ≡ [] → (n : ℕ) → Does fs log.items (window_item log n)
unfolding window_item
window_does {fs} log own first n = go (tested (eqb made.refusal 0))
  where
    made : NewBoard
    made = fresh_board n

    left : made.refusal ≡ 0 → Boarded fs made.board
    left e = window (board.fresh e) (reached_fit (board.fresh e) (λ slot h. inl (fresh-empty _ slot h))) (sym (ap entered_by first ∙ none_yet))

    go : Tested (eqb made.refusal 0) → Does fs log.items (window_item log n)
    go (passed t) = does log made.refusal t (record { own = record { board_is = left (eqb-true _ 0 t); heard = own.heard }; prints = nothing refl })
    go (failed t) = refuses log made.refusal _ own (inl (fresh_code _)) t

-- ---- the board's calls

-- An item gives no range, so 30 isn't its refusal.
set_code : (b : Board) (slot k : ℕ) (s : Setting) → Few (set_work b slot k (setting_rule s)).refusal
unfolding ranges_proper
set_code b slot k s = go (tested (ltb slot 32))
  where
    rule : Rule
    rule = setting_rule s

    few : (t : Bool) {n x : ℕ} → Few n → Few x → Few (cond t x n)
    few t k h = either Few t (λ e. h) (λ e. k)

    go : Tested (ltb slot 32) → Few (set_work b slot k rule).refusal
    go (failed t) = inl (omega (arith, ap (λ (r : Placed). r.refusal) (set_nowhere b slot k rule (ltb-false slot 32 t))))
    go (passed t) =
        subst Few (sym (ap (λ (r : Placed). r.refusal) (set_there b slot k rule (ltb-true slot 32 t)) ∙ set-refusal (slot_at b slot) k rule (in_rows b.window)))
        (few (leb 1 k && leb k 16) (inl (omega arith))
        (few (weights_fit rule) (inl (omega arith))
        (few (ties_known rule) (inr refl) (inl (code (eqb (slot_at b slot).k 0) 16 {x = 0} (omega arith) (omega arith))))))

remove_code : (b : Board) (slot : ℕ) → (remove_work b slot).refusal ≤ 23
unfolding remove_work
remove_code b slot = either (λ (r : Removed). r.refusal ≤ 23) (ltb slot 32) (λ t. code (eqb (slot_at b slot).k 0) 0 {x = 17} (omega arith) (omega arith)) (λ t. omega arith)

enter_code : (c : Counts) (v : Values) → enter_refusal c v ≤ 23
unfolding enter_refusal
enter_code c v = code (in_range v) 12 (omega arith) (code (ltb c.entered 1000000) 11 {x = 0} (omega arith) (omega arith))

-- A fit board.
module _ (b : Board) {n : ℕ} {past : List Values} (reached : board.Reached n past b) (fits : fit_board b ≡ true) where
  slot_fit_lem : (slot : ℕ) → slot < 32 → slot_fit b.window (slot_at b slot) ≡ true
  unfolding fit_board
  slot_fit_lem slot h =
      all_in (slot_fit b.window) b.slots (and_both (fit_window b.window) (all_of (slot_fit b.window) b.slots) fits).1 (slot_at b slot)
      (get_d_in no_question b.slots slot (omega (arith, (kept reached).many)))

  -- A question in use has ended its search.
  pub slot_ended : (slot : ℕ) → slot < 32 → ((slot_at b slot).k ≡ 0 → ⊥) → finished (slot_at b slot) ≡ true
  slot_ended slot h used = go (slot_of b (kept reached) slot h)
    where
      go : Slot b.window (slot_at b slot) → finished (slot_at b slot) ≡ true
      go (state.empty e) = absurd (used (ap (λ q. q.k) e))
      go (state.stands s) = stands_ended b.window (kept reached).since.fit (slot_at b slot) s
      go (state.searches s) = absurd (not_searching b.window (kept reached).since.fit (slot_at b slot) (slot_fit_lem slot h) s)

  pub slots_small : (slot : ℕ) → slot < 32 → Small (slot_at b slot)
  slots_small slot h = slot_small b.window (kept reached).since.fit (slot_at b slot) (slot_fit_lem slot h) (slot_of b (kept reached) slot h)

  -- Setting and removing enter nothing.
  module _ (fs : List Timed) (same : past ≡ entered_by fs) where
    set_board : (slot k : ℕ) (rule : Rule) → Boarded fs (set_work b slot k rule).board
    set_board slot k rule = subst (λ (r : Placed). Boarded fs r.board) (set_known b fits slot k rule) (window (board.set reached slot k rule) (fit-set b (kept reached) fits slot k rule) same)

    remove_board : (slot : ℕ) → Boarded fs (remove_work b slot).board
    remove_board slot = subst (λ (r : Removed). Boarded fs r.board) (remove_known b fits slot) (window (board.remove reached slot) (fit-remove b (kept reached) fits slot) same)

    -- A completed report enters as the frames' next one.
    enter_board : (f : Timed) (r : Report) → answer fs f ≡ Ok (Some r) → in_range r.values ≡ true → Boarded (fs ++ f ∷ []) (enter_work b r.values).board
    enter_board f r e may =
        let v : Values = r.values in
        let known = enter_known b fits v in
        let when : eqb (enter_call b v).refusal 0 ≡ ltb (length past) 1000000 =
        ap (λ (x : Entered). eqb x.refusal 0) known ∙ ap (λ (m : ℕ). eqb m 0) (enter-refusal b v) ∙ enters_when b.window.counts v may
        ∙ ap (λ (m : ℕ). ltb m 1000000) (kept reached).since.all-entered in
        subst (λ (x : Entered). Boarded (fs ++ f ∷ []) x.board) known
        (window (board.enter reached v) (fit-enter b (kept reached) fits v)
        (ap (λ (t : Bool). cond t (past ++ v ∷ []) past) when
        ∙ ap (λ (l : List Values). cond (ltb (length l) 1000000) (l ++ v ∷ []) l) same ∙ sym (one_more fs f r e)))

-- The items of a log by what its board's calls leave.
module _ (fs : List Timed) (log : Log) (heard : stations_of log ≡ stations_after_all fresh_stations fs) where
  abbrev b : Board
  b = log.board

  owns : {c : Board} → Boarded fs c → Own fs (with_board log c)
  owns is = record { board_is = is; heard = heard }

  refused_does : (n : ℕ) (done : Outcome) → Boarded fs b → Few n → eqb n 0 ≡ false → Does fs log.items (unless log n done)
  refused_does n done is few t = refuses log n done (record { board_is = is; heard = heard }) few t

  set_does : (s : Setting) → Boarded fs (set_work b s.slot s.k (setting_rule s)).board → Does fs log.items (set_item log s)
  unfolding set_item
  set_does s is = go (tested (eqb placed.refusal 0))
    where
      slot : ℕ
      slot = s.slot

      k : ℕ
      k = s.k

      rule : Rule
      rule = setting_rule s

      placed : Placed
      placed = set_work b s.slot s.k (setting_rule s)

      few : slot < 32 → placed.steps ≤ 256
      few h = subst (λ (r : Placed). r.steps ≤ 256) (sym (set_there b slot k rule h)) (set_few (slot_at b slot) k rule (in_rows b.window))

      go : Tested (eqb placed.refusal 0) → Does fs log.items (set_item log s)
      go (passed t) =
          let there = (settable b slot k rule (eqb-true _ 0 t)).there in
          does log placed.refusal t (record { own = owns is; prints = search slot _ there (few there) refl })
      go (failed t) =
          refused_does placed.refusal _ (subst (Boarded fs) (set_kept b slot k rule (eqb-false _ 0 t)) is) (set_code b slot k s) t

  remove_does : (slot : ℕ) → Boarded fs (remove_work b slot).board → Does fs log.items (remove_item log slot)
  unfolding remove_item
  remove_does slot is = go (tested (eqb (remove_work b slot).refusal 0))
    where
      go : Tested (eqb (remove_work b slot).refusal 0) → Does fs log.items (remove_item log slot)
      go (passed t) = does log (remove_work b slot).refusal t (record { own = owns is; prints = nothing refl })
      go (failed t) = refused_does (remove_work b slot).refusal _ (subst (Boarded fs) (remove_kept b slot (eqb-false _ 0 t)) is) (inl (remove_code b slot)) t

  enter_does : length b.slots ≡ 32 → (v : Values) → Boarded fs (enter_work b v).board → Does fs log.items (enter_item log v)
  unfolding enter_item enter_work
  enter_does many v = go (tested (eqb (enter_refusal b.window.counts v) 0))
    where
      P : Entered → Type 0
      P r = Boarded fs r.board → Does fs log.items (unless log r.refusal (record { text = s_lines log.items 0 r.searched r.steps; log = with_board log r.board }))

      steps : Question → ℕ
      steps q = (turned b.window v q).steps

      go : Tested (eqb (enter_refusal b.window.counts v) 0) → P (enter_work b v)
      go (passed t) =
          subst P (sym (if_so _ _ t))
          (λ is.
          does log 0 refl
          (record {
            own = owns is;
            prints = searches _ _ (length-map b.slots (λ q. (turned b.window v q).searched) ∙ many) (map_few steps (λ q. turn_few q (new_report b.window v) (outgoing b.window) (in_rows (added b.window v))) b.slots) refl;
          }))
      go (failed t) = subst P (sym (if_not _ _ t)) (λ is. refuses log (enter_refusal b.window.counts v) _ (owns is) (inl (enter_code b.window.counts v)) t)

  show_does : (slot : ℕ) → Boarded fs b → ((slot : ℕ) → slot < 32 → Small (slot_at b slot)) → Does fs log.items (show_item log slot)
  unfolding show_item read_work read_in
  show_does slot is each = go (tested (ltb slot 32)) (tested (eqb (slot_at b slot).k 0))
    where
      P : Shown → Type 0
      P r = Does fs log.items (unless log r.refusal (record { text = q_line slot (take r.len (text.entries_of r.numbers r.scores)); log = log }))

      go : Tested (ltb slot 32) → Tested (eqb (slot_at b slot).k 0) → P (read_work b slot)
      go (passed t) (failed u) =
          let there = ltb-true slot 32 t in
          let q = slot_at b slot in
          let small = each slot there in
          let short : length (take q.len (text.entries_of (numbers_in q.names) q.scores)) ≤ 16 = simp length-take (omega (arith, small.few)) in
          subst P (sym (if_so _ _ t ∙ if_not _ _ u))
          (does log 0 refl (record { own = owns is; prints = list slot _ there short (listed_in_range q.len (numbers_in q.names) q.scores small.numbers small.scores) refl }))
      go (passed t) (passed u) = subst P (sym (if_so _ _ t ∙ if_so _ _ u)) (refused_does 17 _ is (inl (omega arith)) refl)
      go (failed t) u = subst P (sym (if_not _ _ t)) (refused_does 13 _ is (inl (omega arith)) refl)

-- ---- a frame

named : {n : ℕ} → ((1 ≤ n) × (n ≤ 10)) ⊎ (n ≡ 26) → Code n
named (inl h) = inl (h.0, omega arith)
named (inr e) = inr (inl e)

-- What a frame's answer brings, to a log whose session has taken the frame.
module _ (fs : List Timed) (f : Timed) (log : Log) (heard : stations_of log ≡ stations_after_all fresh_stations (fs ++ f ∷ [])) {n : ℕ} {past : List Values} (reached : board.Reached n past log.board)
    (fits : fit_board log.board ≡ true) (same : past ≡ entered_by fs) where
  answered_does : (a : Answer) → answer fs f ≡ a → Named a → Does (fs ++ f ∷ []) log.items (answer_item log a)
  answered_does (Err m) e h =
      record { own = record { board_is = window reached fits (same ∙ sym (nothing_more fs f (Err m) e refl)); heard = heard }; prints = refusal (number_of m) (named h) refl }
  answered_does (Ok None) e h = record { own = record { board_is = window reached fits (same ∙ sym (nothing_more fs f (Ok None) e refl)); heard = heard }; prints = nothing refl }
  answered_does (Ok (Some r)) e h =
      enter_does (fs ++ f ∷ []) log heard (kept reached).many r.values (enter_board log.board reached fits fs same f r e h)

frame_does : (fs : List Timed) (log : Log) → stations_of log ≡ stations_after_all fresh_stations fs → {n : ℕ} {past : List Values} → board.Reached n past log.board → fit_board log.board ≡ true
    → past ≡ entered_by fs → (f : Timed) → Does (fs ++ f ∷ []) log.items (frame_item log f)
unfolding frame_item answer
frame_does fs log heard reached fits same f =
    answered_does fs f (with_stations log (stations_after (stations_of log) f)) (ap (λ (b : Stations). stations_after b f) heard ∙ sym (stations_more fresh_stations fs f)) reached fits same
    (timed_answer (stations_of log) f) (ap (λ (b : Stations). timed_answer b f) (sym heard)) (subst (λ (b : Stations). Named (timed_answer b f)) (sym heard) (reached_named fs f))

-- ---- an item

-- An item that passes is the window's where there is none yet, and any other where there is one.
first_one : (z : Bool) → ◌≡◌ {A = ℕ} (cond z 0 23) 0 → z ≡ true
first_one true e = refl
first_one false e = absurd (omega arith)

later_one : (z : Bool) → ◌≡◌ {A = ℕ} (cond z 23 0) 0 → z ≡ false
later_one true e = absurd (omega arith)
later_one false e = refl

early_code : (log : Log) → early log ≤ 23
early_code log = code (eqb log.board.window.counts.size 0) 0 {x = 23} (omega arith) (omega arith)

item_code : (log : Log) (i : Item) → item_refusal log i ≤ 23
unfolding item_refusal
item_code log Unknown = omega arith
item_code log (Window n) = code (eqb log.board.window.counts.size 0) 23 {x = 0} (omega arith) (omega arith)
item_code log (Set s) = early_code log
item_code log (item.Frame id) = early_code log
item_code log (Remove slot) = early_code log
item_code log (Show slot) = early_code log
item_code log (item.Timed time id) = early_code log
item_code log (SetHeat s) = early_code log
item_code log (SetTies s) = early_code log

pub no_window : (fresh_board 0).board.window.counts.size ≡ 0
unfolding fresh_board fresh_window
no_window = refl

-- A fit board has a window.
pub has_window : (b : Board) → fit_board b ≡ true → eqb b.window.counts.size 0 ≡ false
unfolding fit_board
has_window b fits =
    let ranges = (fit_facts b.window (and_both (fit_window b.window) (all_of (slot_fit b.window) b.slots) fits).0).ranges in
    ne_eqb b.window.counts.size 0 (λ e. omega (arith, ranges.ring.positive))

module _ (fs : List Timed) (log : Log) (own : Own fs log) where
  -- Where there is a window, the board is one that the board's calls lead to.
  standing : {P : Type 0} → early log ≡ 0
      → ((n : ℕ) (past : List Values) → board.Reached n past log.board → fit_board log.board ≡ true → past ≡ entered_by fs → P) → P
  standing {P} passes each = go own.board_is
    where
      go : Boarded fs log.board → P
      go (none first e) =
          absurd (false≢true (sym (later_one _ passes) ∙ ap (λ (b : Board). eqb b.window.counts.size 0) e ∙ ap (λ m. eqb m 0) no_window))
      go (window {n} {past} r fits same) = each n past r fits same

  -- And before there is one, no frame has been taken.
  not_yet : eqb log.board.window.counts.size 0 ≡ true → fs ≡ []
  not_yet z = go own.board_is
    where
      go : Boarded fs log.board → fs ≡ []
      go (none first e) = first
      go (window r fits same) = absurd (false≢true (sym (has_window log.board fits) ∙ z))

  no_frame : {o : Outcome} → Does fs log.items o → Does (fs ++ []) log.items o
  no_frame {o} d = subst (λ gs. Does gs log.items o) (sym (append-nil fs)) d

  asks : (s : Setting) → early log ≡ 0 → Does (fs ++ []) log.items (set_item log s)
  asks s passes = standing passes (λ n past r fits same. no_frame (set_does fs log own.heard s (set_board log.board r fits fs same s.slot s.k (setting_rule s))))

  by_item_does : (i : Item) (ds : List ℕ) → item_refusal log i ≡ 0 → Does (fs ++ framed i ds) log.items (by_item log i ds)
  unfolding item_refusal by_item
  by_item_does Unknown ds passes = absurd (omega arith)
  by_item_does (Window n) ds passes = no_frame (window_does log own (not_yet (first_one _ passes)) n)
  by_item_does (Set s) ds passes = asks s passes
  by_item_does (item.Frame id) ds passes = standing passes (λ n past r fits same. frame_does fs log own.heard r fits same (untimed_at id ds))
  by_item_does (Remove slot) ds passes = standing passes (λ n past r fits same. no_frame (remove_does fs log own.heard slot (remove_board log.board r fits fs same slot)))
  by_item_does (Show slot) ds passes = standing passes (λ n past r fits same. no_frame (show_does fs log own.heard slot own.board_is (slots_small log.board r fits)))
  by_item_does (item.Timed time id) ds passes = standing passes (λ n past r fits same. frame_does fs log own.heard r fits same (timed_at time id ds))
  by_item_does (SetHeat s) ds passes = asks s passes
  by_item_does (SetTies s) ds passes = asks s passes

pub fresh_own : Own [] fresh_log
unfolding fresh_log stations_after_all
fresh_own = record { board_is = none refl refl; heard = refl }

-- Every item keeps what the log holds its own, and prints what an item can print.
pub item_does : (fs : List Timed) (log : Log) → Own fs log → (tag : ℕ) (v : List ℕ) → Does (fs ++ frame_of log tag v) (next_item log.items) (item_done log tag v)
unfolding item_done
item_does fs log own tag v = go (tested (eqb code_of 0))
  where
    i : Item
    i = item_in tag v

    code_of : ℕ
    code_of = item_refusal (with_item log) i

    more : Own fs (with_item log)
    more = record { board_is = own.board_is; heard = own.heard }

    A : List Timed → Type 0
    A gs = Does gs (next_item log.items) (item_done log tag v)

    go : Tested (eqb code_of 0) → A (fs ++ frame_of log tag v)
    go (failed t) = subst A (sym (ap (λ x. fs ++ cond x (framed i (data_of i v)) []) t ∙ append-nil fs)) (refuses (with_item log) code_of _ more (inl (item_code (with_item log) i)) t)
    go (passed t) =
        subst A (sym (ap (λ x. fs ++ cond x (framed i (data_of i v)) []) t))
        (does (with_item log) code_of t (by_item_does fs (with_item log) more i (data_of i v) (eqb-true _ 0 t)))
