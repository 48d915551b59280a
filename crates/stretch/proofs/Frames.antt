-- A frame, done where the log stands: it changes one session and its time, and a report that enters its row and the slots that have a turn.
-- Assumes nothing.
use mathlib.Core.Path.{◌≡◌, refl, sym, ap, subst, ◌∙◌}
use mathlib.Core.Bool.{true, false, cond, ◌||◌}
use mathlib.Core.Logic.{◌⊎◌, inl, inr}
use mathlib.Core.List.{List, [], ◌++◌, map}
use Prim.Native.Nat.{ℕ, ◌+◌, ◌-◌, ◌≤◌, ◌<◌}
use native.Mathlib.Nat.{mod-lt}
use native.Mathlib.Omega.{arith}
use borrow.Author.Tests.{eqb-true, ne_eqb, eq-eqb}
use lib.Dec.{eqb}
use lib.ListN.{length, set, length-map}
use lib.Seq.{take_all}
use Rattle.values.specs.declared.Values.{Values}
use Rattle.values.specs.Range.{in_range, low}
use Rattle.values.proofs.Facts.{range_facts, low_edition_same}
use Rattle.values.proofs.Names.{name_edition}
use Rattle.ranking.specs.Standing.{Held}
use Rattle.laws.proofs.Tests.{Tested, passed, failed, tested, clash, if_so}
use Rattle.window.specs.declared.Window.{Window}
use Rattle.window.specs.declared.Place.{Place}
use Rattle.window.specs.Rows.{sized, values_at, report_at, rows_with, standing, added, place_for}
use Rattle.window.proofs.Fitness.{size_range, added-taken}
use Rattle.question.specs.declared.Question.{Question}
use Rattle.question.specs.Lines.{in_rows}
use Rattle.list.specs.Rows.{rows_in}
use Rattle.slot.specs.Turn.{Turned}
use Rattle.slot.specs.Turn.{takes, lists}
use Rattle.slot.specs.Turn as one
use Rattle.slot.specs.Gauges.{is_idle}
use Rattle.slot.proofs.Filling.{filled_all}
use Rattle.slot.proofs.Gauges.{idle_untouched}
use Rattle.slot.proofs.Turns.{turn_still, rows_alone}
use Rattle.board.specs.Work.{outgoing, turned, enter_refusal, enter_work, arrival}
use Rattle.board.proofs.Refusals.{enterable}
use Rattle.board.proofs.Filling.{as_row, row_report}
use Rattle.times.specs.Run.{Timed, Stations, stations_after, timed_answer}
use Rattle.joining.specs.Answers.{Answer}
use Rattle.std.specs.Prelude.{Some, None, Ok, Err}
use Rattle.text.specs.Text.{r_line}
use Rattle.journal.specs.declared.Log.{Log}
use Rattle.journal.specs.Log.{next_item, stations_of, with_item, with_board, refused, unless, s_lines, enter_item, answer_item, frame_item, item_done}
use Rattle.journal.proofs.Items as items
use Rattle.stretch.specs.declared.Brought.{Brought}
use Rattle.coming.specs.Inner.{frame_size}
use Rattle.stretch.specs.Inner.{brought, frame_of}
use Rattle.serving.proofs.Serving.{some_rows}
use Rattle.stretch.proofs.Turns.{Turning, search_lines}

-- ---- a question's turn

-- The report that was brought, and its values as its row has them.
abbrev pub report : Brought → Held
report b = report_at b.row

abbrev pub values : Brought → Values
values b = values_at b.row

-- What its entry leaves of a question.
abbrev pub turn : Brought → Window → Question → Turned
turn b w q = one.turn q (report b) b.gone (in_rows w)

module _ (b : Brought) (w : Window) (q : Question) where
  -- A turn over the rows in use is one over all rows.
  pub turned-is : (rows : ℕ) → standing (rows_in w.rows) rows ≡ standing (rows_in w.rows) 1024
      → one.turn q (report b) b.gone (standing (rows_in w.rows) rows) ≡ turn b w q
  unfolding in_rows
  turned-is rows all = ap (one.turn q (report b) b.gone) (all ∙ rows_alone w 1024)

  -- A question that takes no report and loses none stays.
  pub turn_stays : takes q (low (values b)) || lists q b.gone ≡ false → record { searched = false; steps = 0; question = q } ≡ turn b w q
  turn_stays e = sym (turn_still q (report b) b.gone (in_rows w) e)

  -- A slot with no k and no lines takes no report, and lists none.
  pub turn_idle : is_idle q ≡ true → record { searched = false; steps = 0; question = q } ≡ turn b w q
  turn_idle e = turn_stays (idle_untouched q b.gone (low (values b)) e)

-- ---- what a frame's answer brings

-- The row of a report has its values, where they are permitted.
row_values : (m : ℕ) (v : Values) → in_range v ≡ true → values_at (as_row m v) ≡ v
row_values m v may =
    let edition = name_edition m v.edition ∙ low_edition_same v.edition (range_facts v may).heat_fits in
    λ j. record { loss = v.loss; shake = v.shake; edition = edition j }

module _ (log : Log) where
  abbrev w : Window
  w = log.board.window

  abbrev gives : Answer → Brought
  gives a = brought a w.counts

  enter-refused : (v : Values) → (enter_refusal w.counts v ≡ 0 → ⊥) → enter_item log v ≡ refused log (enter_refusal w.counts v)
  unfolding enter_item enter_work unless
  enter-refused v e =
      let t = ne_eqb (enter_refusal w.counts v) 0 e in
      rw t (rw t)

  -- No report enters: the line of a refusal, or nothing.
  pub brought-none : (a : Answer) → (gives a).number ≡ 0 → answer_item log a ≡ record { text = cond (gives a).refused (r_line log.items (gives a).code) []; log = log }
  unfolding arrival
  brought-none (Err n) e = refl
  brought-none (Ok None) e = refl
  brought-none (Ok (Some r)) e = go (tested (eqb (enter_refusal w.counts r.values) 0)) e
    where
      go : Tested (eqb (enter_refusal w.counts r.values) 0) → (gives (Ok (Some r))).number ≡ 0
          → answer_item log (Ok (Some r)) ≡ record { text = cond (gives (Ok (Some r))).refused (r_line log.items (gives (Ok (Some r))).code) []; log = log }
      go (passed t) z = absurd (omega (arith, rw t at z))
      go (failed t) z = rw t (rw t (enter-refused r.values (λ e. clash (eq-eqb (enter_refusal w.counts r.values) 0 e) t)))

  -- A report enters.
  pub record Enters (a : Answer) : Type 0 where
    pub silent : (gives a).refused ≡ false
    pub next : (gives a).number ≡ w.counts.entered + 1
    pub so : (gives a).row ≡ as_row (w.counts.entered + 1) (values (gives a))
    pub oldest : (gives a).gone ≡ outgoing w
    pub free : enter_refusal w.counts (values (gives a)) ≡ 0
    pub is : answer_item log a ≡ enter_item log (values (gives a))

  pub brought_some : (a : Answer) → ((gives a).number ≡ 0 → ⊥) → Enters a
  unfolding arrival
  brought_some (Err n) e = absurd (e refl)
  brought_some (Ok None) e = absurd (e refl)
  brought_some (Ok (Some r)) e = go (tested (eqb (enter_refusal w.counts r.values) 0)) e
    where
      go : Tested (eqb (enter_refusal w.counts r.values) 0) → ((gives (Ok (Some r))).number ≡ 0 → ⊥) → Enters (Ok (Some r))
      go (passed t) z =
          let free = eqb-true (enter_refusal w.counts r.values) 0 t in
          let row : (gives (Ok (Some r))).row ≡ as_row (w.counts.entered + 1) r.values = rw t in
          let whole : values (gives (Ok (Some r))) ≡ r.values = ap values_at row ∙ row_values (w.counts.entered + 1) r.values (enterable w.counts r.values free).permitted in
          record {
            silent = rw t;
            next = rw t;
            so = row ∙ ap (as_row (w.counts.entered + 1)) (sym whole);
            oldest = rw t;
            free = ap (enter_refusal w.counts) whole ∙ free;
            is = ap (enter_item log) (sym whole);
          }
      go (failed t) z = absurd (z (rw t))

  pub enter_so : (v : Values) → enter_refusal w.counts v ≡ 0
      → enter_item log v ≡ record { text = s_lines log.items 0 (map (λ q. (turned w v q).searched) log.board.slots) (map (λ q. (turned w v q).steps) log.board.slots); log = with_board log (record { window = added w v; slots = map (λ q. (turned w v q).question) log.board.slots }) }
  unfolding enter_item enter_work unless
  enter_so v e = rw (eq-eqb (enter_refusal w.counts v) 0 e)

  -- When all slots have had their turn, the report has entered.
  entered_done : (a : Answer) → ((gives a).number ≡ 0 → ⊥) → {window : Window} {slots : List Question} {n at₀ at : ℕ} {out₀ out : List ℕ} → window ≡ added w (values (gives a))
      → length log.board.slots ≤ n → Turning (turn (gives a) window) log.items log.board.slots out₀ at₀ n slots at out
      → answer_item log a ≡ record { text = cond (gives a).refused (r_line log.items (gives a).code) [] ++ search_lines (turn (gives a) window) log.items log.board.slots out₀ at₀ n; log = with_board log (record { window = window; slots = slots }) }
  entered_done a positive {window} {slots} {n} {at₀} {at} {out₀} {out} grown all t =
      let old = log.board.slots in
      let b = gives a in
      let e = brought_some a positive in
      let may = enterable w.counts (values b) e.free in
      let new = ap report_at e.so ∙ row_report (w.counts.entered + 1) (values b) may.permitted in
      let f = turn b window in
      let slots_are = filled_all (λ q. (f q).question) old n slots all t.first ∙ (λ i. map (λ q. (one.turn q (new i) (e.oldest i) (in_rows (grown i))).question) old) in
      let again-are = take_all n (map (λ q. (f q).searched) old) (omega (arith, length-map old (λ q. (f q).searched))) ∙ (λ i. map (λ q. (one.turn q (new i) (e.oldest i) (in_rows (grown i))).searched) old) in
      let steps_are = take_all n (map (λ q. (f q).steps) old) (omega (arith, length-map old (λ q. (f q).steps))) ∙ (λ i. map (λ q. (one.turn q (new i) (e.oldest i) (in_rows (grown i))).steps) old) in
      e.is ∙ enter_so (values b) e.free
      ∙ sym (λ i. record { text = cond (e.silent i) (r_line log.items b.code) [] ++ s_lines log.items 0 (again-are i) (steps_are i); log = with_board log (record { window = grown i; slots = slots_are i }) })

-- ---- a whole frame

-- The row is one of the window's.
pub row_fits : (w : Window) → sized w.counts.size ≡ true → {p : Place} → p ≡ place_for w.counts → p.row < 1024
unfolding place_for
row_fits w window {p} q =
    let range = size_range w.counts.size window in
    let row = ap (λ (r : Place). r.row) (q ∙ if_so _ _ window) in
    omega (arith, row, mod-lt (w.counts.entered + 1 - 1) range.0, range.1)

-- An item of either tag is its frame's.
pub frame_is : (log : Log) → sized log.board.window.counts.size ≡ true → {tag : ℕ} (v : List ℕ) → (tag ≡ 18) ⊎ (tag ≡ 21) → length v ≡ frame_size tag
    → item_done log tag v ≡ frame_item (with_item log) (frame_of tag v)
unfolding frame_size frame_of
frame_is log window {tag} v which = go which
  where
    P : ℕ → Type 0
    P n = length v ≡ frame_size n → item_done log n v ≡ frame_item (with_item log) (frame_of n v)

    go : (tag ≡ 18) ⊎ (tag ≡ 21) → P tag
    go (inl e) = subst P (sym e) (λ long. items.frame_done log (some_rows log window) v long)
    go (inr e) = subst P (sym e) (λ long. items.timed_done log (some_rows log window) v long)

module _ (log : Log) (window : sized log.board.window.counts.size ≡ true) (tag : ℕ) (v : List ℕ) (f : Timed) {item : ℕ} {left : Stations} {b : Brought} (done : item_done log tag v ≡ frame_item (with_item log) f) (e-item : item ≡ next_item log.items)
    (e-left : left ≡ stations_after (stations_of log) f) (e : b ≡ gives log (timed_answer (stations_of log) f)) where
  abbrev after : Log
  after = record { items = item; board = log.board; sessions = left.sessions; times = left.times }

  abbrev answer : Answer
  answer = timed_answer (stations_of log) f

  frame_done : item_done log tag v ≡ answer_item after answer
  unfolding frame_item
  frame_done = done ∙ sym (λ j. answer_item (record { items = e-item j; board = log.board; sessions = (e-left j).sessions; times = (e-left j).times }) answer)

  pub frame-none : b.number ≡ 0 → item_done log tag v ≡ record { text = cond b.refused (r_line item b.code) []; log = after }
  frame-none z =
      frame_done ∙ brought-none after answer (sym (ap (λ (g : Brought). g.number) e) ∙ z)
      ∙ sym (ap (λ (g : Brought). record { text = cond g.refused (r_line item g.code) []; log = after }) e)

  module _ (positive : b.number ≡ 0 → ⊥) where
    enters : Enters log answer
    enters = brought_some log answer (λ z. positive (ap (λ (h : Brought). h.number) e ∙ z))

    -- The report's row takes it.
    pub row_takes : {p : Place} → p ≡ place_for log.board.window.counts
        → record { rows = rows_with log.board.window.rows p.row b.row; counts = record { size = log.board.window.counts.size; entered = b.number; held = p.held } } ≡ added log.board.window (values b)
    unfolding place_for
    row_takes placed =
        let w = log.board.window in
        let may = enterable w.counts (values (gives log answer)) enters.free in
        let number = ap (λ (h : Brought). h.number) e ∙ enters.next in
        let row = subst (λ (h : Brought). h.row ≡ as_row (w.counts.entered + 1) (values h)) (sym e) enters.so in
        let place = placed ∙ if_so _ _ window in
        (λ j. record { rows = record { losses = set w.rows.losses (place j).row b.row.loss; shakes = set w.rows.shakes (place j).row b.row.shake; names = set w.rows.names (place j).row (row j).name }; counts = record { size = w.counts.size; entered = number j; held = (place j).held } })
        ∙ sym (added-taken w (values b) window may.room)

    pub frame_enters : {new : Window} {slots : List Question} {n at₀ at : ℕ} {out₀ out : List ℕ} → new ≡ added log.board.window (values b)
        → length log.board.slots ≤ n → Turning (turn b new) item log.board.slots out₀ at₀ n slots at out
        → item_done log tag v ≡ record { text = cond b.refused (r_line item b.code) [] ++ search_lines (turn b new) item log.board.slots out₀ at₀ n; log = record { items = item; board = record { window = new; slots = slots }; sessions = left.sessions; times = left.times } }
    frame_enters {new} {slots} {n} {at₀} {at} {out₀} {out} grown all t =
        frame_done
        ∙ subst (λ (g : Brought). (g.number ≡ 0 → ⊥) → new ≡ added log.board.window (values g) → Turning (turn g new) item log.board.slots out₀ at₀ n slots at out
        → answer_item after answer ≡ record { text = cond g.refused (r_line item g.code) [] ++ search_lines (turn g new) item log.board.slots out₀ at₀ n; log = record { items = item; board = record { window = new; slots = slots }; sessions = left.sessions; times = left.times } })
        (sym e) (λ m g u. entered_done after answer m g all u) positive grown t
