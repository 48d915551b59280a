-- The log stands in the locals of the loop: each item changes the part that it is for, and the rest goes on saying what it said.
-- Assumes nothing.
use mathlib.Core.Path.{◌≡◌, refl, sym, ap, subst, ◌∙◌}
use mathlib.Core.Bool.{Bool, true, false, cond, ◌&&◌}
use mathlib.Core.List.{List, [], map}
use Prim.Native.Nat.{ℕ, ◌+◌, ◌-◌, ◌^◌, min, ◌≤◌, ◌<◌}
use native.Mathlib.Omega.{arith}
use lib.ListN.{length, get_or, set, length-set}
use lib.Seq.{sets, length-sets}
use Rattle.wire.specs.Bytes.{part}
use Rattle.wire.proofs.Fields.{length_part}
use Rattle.laws.proofs.Tests.{and_both}
use Rattle.values.specs.declared.Values.{Values}
use Rattle.values.specs.Range.{low}
use Rattle.window.specs.declared.Rows.{Rows}
use Rattle.window.specs.declared.Window.{Window}
use Rattle.window.specs.declared.Place.{Place}
use Rattle.window.specs.Rows.{sized, standing, added, place_for}
use Rattle.question.specs.declared.Question.{Question}
use Rattle.list.specs.Rows.{rows_in}
use Rattle.slot.specs.declared.gauge.Gauge.{Gauge}
use Rattle.slot.specs.Gauges.{no_question, gauge_of, is_quiet, is_idle, in_use}
use Rattle.slot.specs.Turn as one
use Rattle.slot.proofs.Gauges.{quiet_untouched}
use Rattle.bus.specs.Room.{room_bytes, sessions_in}
use Rattle.joining.specs.Answers.{Answer}
use Rattle.times.specs.declared.Times.{Times}
use Rattle.times.specs.Run.{Stations, stations_in, stations_after, timed_answer}
use Rattle.times.proofs.Lent.{next_room}
use Rattle.text.specs.Text.{behind, r_line, s_line}
use Rattle.text.proofs.Places.{Put, put, then}
use Rattle.journal.specs.declared.Log.{Log}
use Rattle.journal.specs.Log.{next_item, with_item, frame_item, item_done}
use Rattle.stretch.specs.declared.Brought.{Brought}
use Rattle.stretch.specs.declared.Standing.{Standing}
use Rattle.slot.specs.Turn.{Turned}
use Rattle.slot.specs.declared.Turned as code
use Rattle.slot.specs.Answers.{turned_answer}
use Rattle.journal.specs.Log.{steps_line}
use Rattle.journal.proofs.Searches.{line_of}
use Rattle.coming.specs.Coming.{size_at, comes, has_room, is_frame}
use Rattle.serving.specs.Serving.{served, Serves}
use Rattle.coming.specs.Inner.{frame_size}
use Rattle.stretch.specs.Inner.{brought, Stored, window_of, frame_of, Hears, log_in, Runs}
use Rattle.stretch.specs.Doing.{Did, item_at}
use Rattle.coming.proofs.Coming.{Framed, Slot, has_window, a_frame, for_slot, whole_there}
use Rattle.serving.proofs.Serving.{slot_here}
use Rattle.stretch.proofs.Frames.{report, values, turn, turned-is, turn_stays, turn_idle, frame_is, frame-none, row_fits, row_takes, frame_enters}
use Rattle.stretch.proofs.Turns.{Turning, turning_none, turning_more, turning_still, turning_rest, still_old}
use Rattle.stretch.proofs.Gauging.{Gauged, gauged_of, gauge_at, gauges_set}
use Rattle.stretch.proofs.Rowing.{Rowed, rowed_with, rowed_all}
use Rattle.stretch.proofs.Going.{Went, went_more, went_all}

abbrev pub log_of : (items : ℕ) → Window → List Question → Stations → Log
log_of items w slots b = record { items = items; board = record { window = w; slots = slots }; sessions = b.sessions; times = b.times }

-- A place behind a text is one that a `usize` holds.
pub place_fits : {room : List ℕ} {at : ℕ} {text : List ℕ} {next : ℕ} {left : List ℕ} → Put room at text next left → next < 2 ^ 64
unfolding behind
place_fits p = omega (arith, p.place)

kept : {room : List ℕ} {at : ℕ} {text : List ℕ} {next : ℕ} {left : List ℕ} → Put room at text next left → length left ≡ length room
kept {room} {at} {text} p = ap (λ (l : List ℕ). length l) p.bytes ∙ length-sets room at text

-- ---- the slots' turns

-- The first n slots have had their turn.
pub record Turns (b : Brought) (w : Window) (items rows : ℕ) (slots₀ : List Question) (used : ℕ) (out₀ : List ℕ) (at₀ n : ℕ) (slots : List Question) (gauges : List Gauge) (at : ℕ) (out : List ℕ) : Type 0 where
  pub within : n ≤ used
  pub few : used ≤ 32
  pub small : length out₀ < 2 ^ 64
  pub all_slots : length slots₀ ≡ 32
  pub same : length out ≡ length out₀
  pub turning : Turning (turn b w) items slots₀ out₀ at₀ n slots at out
  pub each : gauges ≡ map gauge_of slots
  pub rowed : Rowed w.rows.names rows

module _ {b : Brought} {w : Window} {items rows : ℕ} {slots₀ : List Question} {used : ℕ} {out₀ : List ℕ} {at₀ : ℕ} where
  pub turns-none : {gauges₀ : List Gauge} → Gauged slots₀ gauges₀ used → length slots₀ ≡ 32 → length out₀ < 2 ^ 64 → at₀ < 2 ^ 64 → Rowed w.rows.names rows → Turns b w items rows slots₀ used out₀ at₀ 0 slots₀ gauges₀ at₀ out₀
  turns-none g many small fits rowed =
      record { within = omega arith; few = g.few; small = small; all_slots = many; same = refl; turning = turning_none (turn b w) items slots₀ out₀ at₀ fits; each = g.each; rowed = rowed }

  module _ {n : ℕ} {slots : List Question} {gauges : List Gauge} {at : ℕ} {out : List ℕ} (t : Turns b w items rows slots₀ used out₀ at₀ n slots gauges at out) (less : n < used) where
    below : n < length slots₀
    below = omega (arith, t.few, t.all_slots)

    -- A slot that the report leaves alone.
    pub turns_quiet : (d : Gauge) {v : Values} {r : Bool} → v ≡ values b → r ≡ is_quiet (get_or gauges n d) b.gone (low v) → r ≡ true → Turns b w items rows slots₀ used out₀ at₀ (n + 1) slots gauges at out
    turns_quiet d {v} e-v e q =
        let is = gauge_at slots n d t.each (omega (arith, t.turning.first.whole, below)) in
        let quiet = (λ j. is_quiet (sym is j) b.gone (low (sym e-v j))) ∙ sym e ∙ q in
        record {
          within = omega arith;
          few = t.few;
          small = t.small;
          all_slots = t.all_slots;
          same = t.same;
          turning = turning_still (turn b w) items slots₀ out₀ at₀ t.turning below t.small (place_fits t.turning.printed) (turn_stays b w (get_or slots n no_question) (quiet_untouched (get_or slots n no_question) b.gone (low (values b)) quiet));
          each = t.each;
          rowed = t.rowed;
        }

    turns_by : {r : Turned} {g : Gauge} {at₁ : ℕ} {out₁ : List ℕ} → r ≡ one.turn (get_or slots n no_question) (report b) b.gone (standing (rows_in w.rows) (min rows 1024))
        → (at₁ ≡ behind at (cond r.searched (s_line items n r.steps) [])) × (out₁ ≡ sets out at (cond r.searched (s_line items n r.steps) [])) → g ≡ gauge_of r.question
        → Turns b w items rows slots₀ used out₀ at₀ (n + 1) (set slots n r.question) (set gauges n g) at₁ out₁
    turns_by {r} e p f =
        let is = e ∙ turned-is b w (get_or slots n no_question) (min rows 1024) (rowed_all (rows_in w.rows) t.rowed) in
        record {
          within = omega arith;
          few = t.few;
          small = t.small;
          all_slots = t.all_slots;
          same = kept (put p) ∙ t.same;
          turning = turning_more (turn b w) items slots₀ out₀ at₀ t.turning below t.small is (put p);
          each = gauges_set slots n r.question t.each f;
          rowed = t.rowed;
        }

    -- A slot that has its turn.
    pub turns_more : {r : code.Turned} {g : Gauge} {at₁ : ℕ} {out₁ : List ℕ} → r ≡ turned_answer (one.turn (get_or slots n no_question) (report b) b.gone (standing (rows_in w.rows) (min rows 1024)))
        → (at₁ ≡ behind at (steps_line items n r.steps)) × (out₁ ≡ sets out at (steps_line items n r.steps)) → g ≡ gauge_of r.question
        → Turns b w items rows slots₀ used out₀ at₀ (n + 1) (set slots n r.question) (set gauges n g) at₁ out₁
    turns_more {g = g} {at₁ = at₁} {out₁ = out₁} e p f =
        let s = one.turn (get_or slots n no_question) (report b) b.gone (standing (rows_in w.rows) (min rows 1024)) in
        let line = ap (λ (x : code.Turned). steps_line items n x.steps) e ∙ line_of items n s.searched s.steps in
        let left = ap (λ (x : code.Turned). x.question) e in
        subst (λ q. Turns b w items rows slots₀ used out₀ at₀ (n + 1) (set slots n q) (set gauges n g) at₁ out₁) (sym left)
        (turns_by {r = s} refl (p.0 ∙ ap (behind at) line, p.1 ∙ ap (sets out at) line) (f ∙ ap gauge_of left))

-- ---- the items

module _ (log₀ : Log) (bytes out₀ : List ℕ) (at₀ : ℕ) where
  -- The items up to place i are done, and this is what they leave.
  pub record Stands (items : ℕ) (w : Window) (rows : ℕ) (slots : List Question) (gauges : List Gauge) (used : ℕ) (bus : List ℕ) (times : Times) (i at : ℕ) (out : List ℕ) : Type 0 where
    pub inside : i ≤ length bytes
    pub same : length out ≡ length out₀
    pub room : length bus ≡ room_bytes
    pub all_slots : length slots ≡ 32
    pub went : Went log₀ bytes out₀ at₀ i (log_of items w slots (stations_in bus times)) at out
    pub gauged : Gauged slots gauges used
    pub rowed : Rowed w.rows.names rows

  module _ (small : length out₀ < 2 ^ 64) {items : ℕ} {w : Window} {rows : ℕ} {slots : List Question} {gauges : List Gauge} {used : ℕ} {bus : List ℕ} {times : Times} {i at : ℕ} {out : List ℕ}
      (l : Stands items w rows slots gauges used bus times i at out) {go : Bool} (e-go : go ≡ (comes w.counts.size bytes i && has_room (length out) at)) (goes : go ≡ true)
      {tag items₁ : ℕ} (e-tag : tag ≡ get_or bytes i 0) (e-items : items₁ ≡ next_item items) where
    here : comes w.counts.size bytes i && has_room (length out₀) at ≡ true
    here = ap (λ (n : ℕ). comes w.counts.size bytes i && has_room n at) (sym l.same) ∙ sym e-go ∙ goes

    next : comes w.counts.size bytes i ≡ true
    next = (and_both (comes w.counts.size bytes i) (has_room (length out₀) at) here).0

    pub item_there : i < length bytes
    item_there = omega (arith, (whole_there bytes i w.counts.size next).0)

    pub slot_there : is_frame tag ≡ false → Slot bytes i
    slot_there = for_slot bytes i w.counts.size next e-tag

    pub frame_there : is_frame tag ≡ true → Framed bytes i tag
    frame_there = a_frame bytes i w.counts.size next e-tag

    -- An item for a slot.
    pub stands_slot : is_frame tag ≡ false → {v : List ℕ} {s : ℕ} {q : Question} {g : Gauge} {used₁ at₁ i₁ : ℕ} {out₁ : List ℕ} → v ≡ part (i + 3) (size_at bytes i) bytes → s ≡ get_or v 0 0
        → Serves (served tag items₁ v (get_or slots s no_question) (standing (rows_in w.rows) 1024)) out at q at₁ out₁ → g ≡ gauge_of q → used₁ ≡ in_use 32 (set slots s q) → i₁ ≡ i + (3 + length v)
        → Stands items₁ w rows (set slots s q) (set gauges s g) used₁ bus times i₁ at₁ out₁
    stands_slot other {v} {s} {q} {g} {used₁} {at₁} {i₁} e-v e-s d e-g e-used e-i =
        let c = slot_there other in
        let log = log_of items w slots (stations_in bus times) in
        let long : i₁ ≡ i + (3 + size_at bytes i) = e-i ∙ ap (λ (n : ℕ). i + (3 + n)) (ap (λ (x : List ℕ). length x) e-v ∙ length_part bytes (i + 3) (size_at bytes i) (omega (arith, c.there))) in
        let p = put (d.place, d.stored) in
        record {
          inside = omega (arith, c.there, long);
          same = kept p ∙ l.same;
          room = l.room;
          all_slots = length-set slots s q ∙ l.all_slots;
          went = went_more log₀ bytes out₀ at₀ l.went _ small (omega (arith, c.there)) here (slot_here log (has_window bytes i w.counts.size next e-tag) c.known c.few e-tag e-items e-v e-s d.holds) p long;
          gauged = gauged_of (set slots s q) (gauges_set slots s q l.gauged.each e-g) e-used;
          rowed = l.rowed;
        }

    -- A frame.
    module _ (is : is_frame tag ≡ true) {v : List ℕ} {b : Brought} {bus₁ : List ℕ} {times₁ : Times} (e-v : v ≡ part (i + 3) (frame_size tag) bytes)
        (heard : Hears (stations_in bus times) (frame_of tag v) w.counts b bus₁ times₁) where
      there : i + (3 + frame_size tag) ≤ length bytes
      there = (frame_there is).there

      long : length v ≡ frame_size tag
      long = ap (λ (x : List ℕ). length x) e-v ∙ length_part bytes (i + 3) (frame_size tag) (omega (arith, there))

      brings : b ≡ brought (timed_answer (stations_in bus times) (frame_of tag v)) w.counts
      brings = heard.brings ∙ ap (λ (a : Answer). brought a w.counts) heard.takes.answers

      left_room : length bus₁ ≡ room_bytes
      left_room = ap (λ (x : List ℕ). length x) heard.takes.sessions ∙ (next_room bus times (frame_of tag v) l.room).0

      left : stations_in bus₁ times₁ ≡ stations_after (stations_in bus times) (frame_of tag v)
      left =
          let sessions = ap sessions_in heard.takes.sessions ∙ (next_room bus times (frame_of tag v) l.room).1 in
          λ j. record { sessions = sessions j; times = heard.takes.times j }

      abbrev log : Log
      log = log_of items w slots (stations_in bus times)

      window : sized w.counts.size ≡ true
      window = has_window bytes i w.counts.size next e-tag

      inside : {i₁ : ℕ} → i₁ ≡ i + (3 + frame_size tag) → i₁ ≤ length bytes
      inside e = omega (arith, there, e)

      end : {i₁ : ℕ} → i₁ ≡ i + (3 + frame_size tag) → i₁ ≡ i + (3 + size_at bytes i)
      end e = e ∙ ap (λ (n : ℕ). i + (3 + n)) (sym (frame_there is).long)

      is-frame : item_at log bytes i ≡ item_done log tag v
      is-frame = (λ j. item_done log ((frame_there is).starts j) (part (i + 3) ((frame_there is).long j) bytes)) ∙ ap (item_done log tag) (sym e-v)

      done : item_done log tag v ≡ frame_item (with_item log) (frame_of tag v)
      done = frame_is log window v (frame_there is).which long

      pub row_there : {p : Place} → p ≡ place_for w.counts → p.row < 1024
      row_there e = row_fits w window e

      -- A report enters: the slots have their turns.
      pub turns-begin : {r : Place} → r ≡ place_for w.counts → {new : Rows} {rows₁ : ℕ} → Stored w.rows rows r.row b.row rows₁ new
          → {at₁ : ℕ} {out₁ : List ℕ} → (at₁ ≡ behind at (cond b.refused (r_line items₁ b.code) [])) × (out₁ ≡ sets out at (cond b.refused (r_line items₁ b.code) []))
          → Turns b (window_of (record { size = w.counts.size; entered = b.number; held = r.held }) new) items₁ rows₁ slots used out₁ at₁ 0 slots gauges at₁ out₁
      turns-begin {r} e-r {rows₁ = rows₁} st p =
          turns-none l.gauged l.all_slots (omega (arith, kept (put p), l.same, small)) (place_fits (put p))
          (subst (λ (ns : List ℕ). Rowed ns rows₁) (sym (ap (λ (r : Rows). r.names) st.rows)) (rowed_with l.rowed r.row b.row.name (row_there e-r) st.used))

      -- It brings no report.
      pub stands_none : b.number ≡ 0 → {at₁ i₁ : ℕ} {out₁ : List ℕ} → (at₁ ≡ behind at (cond b.refused (r_line items₁ b.code) [])) × (out₁ ≡ sets out at (cond b.refused (r_line items₁ b.code) [])) → i₁ ≡ i + (3 + frame_size tag)
          → Stands items₁ w rows slots gauges used bus₁ times₁ i₁ at₁ out₁
      stands_none z p e-i =
          record {
            inside = inside e-i;
            same = kept (put p) ∙ l.same;
            room = left_room;
            all_slots = l.all_slots;
            went = went_more log₀ bytes out₀ at₀ l.went _ small (omega (arith, there)) here (is-frame ∙ frame-none log window tag v (frame_of tag v) done e-items left brings z) (put p) (end e-i);
            gauged = l.gauged;
            rowed = l.rowed;
          }

      -- A report enters, and the slots in use have had their turns.
      pub stands_enters : (b.number ≡ 0 → ⊥) → {r : Place} → r ≡ place_for w.counts → {new : Rows} {rows₁ : ℕ} → Stored w.rows rows r.row b.row rows₁ new
          → {at₁ i₁ : ℕ} {out₁ : List ℕ} → (at₁ ≡ behind at (cond b.refused (r_line items₁ b.code) [])) × (out₁ ≡ sets out at (cond b.refused (r_line items₁ b.code) [])) → i₁ ≡ i + (3 + frame_size tag)
          → {n at₂ : ℕ} {slots₂ : List Question} {gauges₂ : List Gauge} {out₂ : List ℕ} → Turns b (window_of (record { size = w.counts.size; entered = b.number; held = r.held }) new) items₁ rows₁ slots used out₁ at₁ n slots₂ gauges₂ at₂ out₂ → used ≤ n
          → Stands items₁ (window_of (record { size = w.counts.size; entered = b.number; held = r.held }) new) rows₁ slots₂ gauges₂ used bus₁ times₁ i₁ at₂ out₂
      stands_enters positive {r} e-r {new} {rows₁} st {at₁} {i₁} {out₁} p e-i {n} {at₂} {slots₂} {gauges₂} {out₂} m end_of_lem =
          let fuller : Window = window_of (record { size = w.counts.size; entered = b.number; held = r.held }) new in
          let grown : fuller ≡ added w (values b) =
          (λ j. record { rows = st.rows j; counts = record { size = w.counts.size; entered = b.number; held = r.held } })
          ∙ row_takes log window tag v (frame_of tag v) done e-items left brings positive e-r in
          let idle : (k : ℕ) → n ≤ k → k < length slots → record { searched = false; steps = 0; question = get_or slots k no_question } ≡ turn b fuller (get_or slots k no_question) =
          λ k h f. turn_idle b fuller (get_or slots k no_question) (l.gauged.idle k (omega (arith, m.within)) (omega (arith, l.all_slots))) in
          let all = turning_rest (turn b fuller) items₁ slots out₁ at₁ (32 - n) n (omega (arith, m.within, m.few, l.all_slots)) m.turning idle m.small (place_fits m.turning.printed) in
          let whole : length slots ≤ length slots = omega arith in
          let e = is-frame ∙ frame_enters log window tag v (frame_of tag v) done e-items left brings positive grown whole all in
          record {
            inside = inside e-i;
            same = m.same ∙ kept (put p) ∙ l.same;
            room = left_room;
            all_slots = m.turning.first.whole ∙ l.all_slots;
            went = went_more log₀ bytes out₀ at₀ l.went _ small (omega (arith, there)) here e (then (omega (arith, l.same, small)) (put p) all.printed) (end e-i);
            gauged = record { each = m.each; few = m.few; idle = λ k h f. ap is_idle (still_old (turn b fuller) items₁ slots out₁ at₁ m.turning k (omega (arith, m.within))) ∙ l.gauged.idle k h f };
            rowed = m.rowed;
          }

-- Where no item comes that is done in place, or no room is left, this is what all of them leave.
pub stands_runs : (from : Standing) (log : Log) (bytes out₀ : List ℕ) {items : ℕ} {w : Window} {rows : ℕ} {slots : List Question} {gauges : List Gauge} {used : ℕ} {bus : List ℕ} {times : Times} {i at : ℕ} {out : List ℕ}
    → Stands log bytes out₀ from.at items w rows slots gauges used bus times i at out → {go : Bool} → go ≡ (comes w.counts.size bytes i && has_room (length out) at) → go ≡ false
    → {r : Standing} → r ≡ record { items = items; board = record { window = w; slots = slots }; taken = i; at = at } → Runs from log bytes out₀ r (log_in r bus times) out
stands_runs from log bytes out₀ {w = w} {bus = bus} {times = times} {i = i} {at = at} l e-go ends e =
    let no = ap (λ (n : ℕ). comes w.counts.size bytes i && has_room n at) (sym l.same) ∙ sym e-go ∙ ends in
    let is = went_all log bytes out₀ from.at l.went no in
    let text-is = sym (ap (λ (d : Did). d.text) is) in
    record {
      leaves = ap (λ (r : Standing). log_in r bus times) e ∙ sym (ap (λ (d : Did). d.log) is);
      taken = ap (λ (r : Standing). r.taken) e ∙ sym (ap (λ (d : Did). d.next) is);
      place = ap (λ (r : Standing). r.at) e ∙ l.went.stored.place ∙ ap (behind from.at) text-is;
      stored = l.went.stored.bytes ∙ ap (sets out₀ from.at) text-is;
    }
