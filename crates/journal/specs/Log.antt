-- The text that a whole log fixes, item by item (docs/RULES.md, sections 11 and 15, and rules 17.7 and 18.6).
use Rattle.std.specs.Prelude.{ℕ, zero, suc, ◌+◌, ◌-◌, ◌^◌, min, ◌≡◌, Bool, Option, Some, None, cond, List, [], ◌∷◌, ◌++◌, length, take, drop, eqb}
use Rattle.std.proofs.lemmas.List.Edits.{sets}
use Rattle.wire.specs.Bytes.{number, part, field_at}
use Rattle.wire.specs.declared.Field.{Field}
use Rattle.items.specs.declared.Setting.{Setting}
use Rattle.items.specs.declared.Item.{Item}
use Rattle.items.specs.declared.Item.TheVariants.{Window, Set, Remove, Show, SetHeat, SetTies, Unknown}
use Rattle.items.specs.declared.Item.TheVariants as item
use Rattle.items.specs.Items.{setting_in, data_of, item_in}
use Rattle.values.specs.declared.Values.{Values}
use Rattle.ranking.specs.declared.Rule.{Rule}
use Rattle.ranking.specs.declared.Weights.{Weights}
use Rattle.ranking.specs.Cells.{rule_of, tied_by}
use Rattle.board.specs.declared.Board.{Board}
use Rattle.board.specs.Work.{fresh_board, set_work, remove_work, read_work, enter_work}
use Rattle.joining.specs.Run.{fresh_sessions}
use Rattle.joining.specs.Answers.{Answer}
use Rattle.std.specs.Prelude.{Ok, Err}
use Rattle.refusal.specs.Numbers.{number_of}
use Rattle.times.specs.Timed.{fresh_times}
use Rattle.times.specs.Run.{Timed, Stations, stations_after, timed_answer, timed_at, untimed_at}
use Rattle.text.specs.Text.{s_line, r_line, q_line, entries_of, behind}
use Rattle.journal.specs.declared.Log.{Log}

-- No item yet, no window, fresh sessions and no times.
unfoldable pub fresh_log : Log
fresh_log = record { items = 0; board = (fresh_board 0).board; sessions = fresh_sessions; times = fresh_times }

-- What an item prints, and the log that it leaves.
pub record Outcome : Type 0 where
  pub text : List ℕ
  pub log : Log

-- The outcome, where its text is stored from `at` on in the bytes that are lent.
pub record Stores (done : Outcome) (room : List ℕ) (at : ℕ) (log : Log) (next : ℕ) (left : List ℕ) : Type 0 where
  pub leaves : log ≡ done.log
  pub place : next ≡ behind at done.text
  pub stored : left ≡ sets room at done.text

-- Rule 11.1: the next item's number; where a `u64` is too small for it, the largest one.
unfoldable pub next_item : ℕ → ℕ
next_item items = min (items + 1) (2 ^ 64 - 1)

-- All senders' sessions and last times.
abbrev pub stations_of : Log → Stations
stations_of log = record { sessions = log.sessions; times = log.times }

-- The log with one item more, with that board, with those sessions and times.
abbrev pub with_item : Log → Log
with_item log = record { items = next_item log.items; board = log.board; sessions = log.sessions; times = log.times }

abbrev pub with_board : Log → Board → Log
with_board log b = record { items = log.items; board = b; sessions = log.sessions; times = log.times }

abbrev pub with_stations : Log → Stations → Log
with_stations log b = record { items = log.items; board = log.board; sessions = b.sessions; times = b.times }

-- An item that prints nothing.
abbrev pub no_text : Log → Outcome
no_text log = record { text = []; log = log }

-- Rules 11.4 and 9.2: a refusal prints its line, and changes nothing.
abbrev pub refused : Log → ℕ → Outcome
refused log code = record { text = r_line log.items code; log = log }

-- What a call does that answers this refusal, 0 for none.
unfoldable pub unless : Log → ℕ → Outcome → Outcome
unless log refusal done = cond (eqb refusal 0) done (refused log refusal)

-- Refusal 23, of an item that needs a window, where there is none. A window has rows; 0 for no refusal.
abbrev pub early : Log → ℕ
early log = cond (eqb log.board.window.counts.size 0) 23 0

-- Refusal 22, of an item that no log knows, before 23.
unfoldable pub item_refusal : Log → Item → ℕ
item_refusal log Unknown = 22
item_refusal log (Window n) = cond (eqb log.board.window.counts.size 0) 0 23
item_refusal log (Set s) = early log
item_refusal log (item.Frame id) = early log
item_refusal log (Remove slot) = early log
item_refusal log (Show slot) = early log
item_refusal log (item.Timed time id) = early log
item_refusal log (SetHeat s) = early log
item_refusal log (SetTies s) = early log

-- Rule 11.1, tag 16: the window is made.
unfoldable pub window_item : Log → ℕ → Outcome
window_item log n =
    let made = fresh_board n in
    unless log made.refusal (no_text (with_board log made.board))

-- The weights a, b and c of a question that is to be set, its rule, and that in an item's value.
abbrev pub weights_of : Setting → Weights
weights_of s = record { loss = s.loss; shake = s.shake; heat = s.heat }

abbrev pub setting_rule : Setting → Rule
setting_rule s = tied_by s.ties (rule_of (weights_of s))

abbrev pub rule_in : List ℕ → Rule
rule_in v = setting_rule (setting_in v)

-- Tags 17, 22 and 23: a question is set, and so searched; the S line of that search (rule 11.2).
unfoldable pub set_item : Log → Setting → Outcome
set_item log s =
    let placed = set_work log.board s.slot s.k (setting_rule s) in
    unless log placed.refusal (record { text = s_line log.items s.slot placed.steps; log = with_board log placed.board })

-- Tag 19: a question is removed.
unfoldable pub remove_item : Log → ℕ → Outcome
remove_item log slot =
    let removed = remove_work log.board slot in
    unless log removed.refusal (no_text (with_board log removed.board))

-- Tag 20: the Q line of a question's list (rule 11.3).
unfoldable pub show_item : Log → ℕ → Outcome
show_item log slot =
    let shown = read_work log.board slot in
    unless log shown.refusal (record { text = q_line slot (take shown.len (entries_of shown.numbers shown.scores)); log = log })

-- Rule 11.2: the S lines of the searches that an item ran, from this slot on.
unfoldable pub s_lines : ℕ → ℕ → List Bool → List ℕ → List ℕ
s_lines item slot [] steps = []
s_lines item slot (b ∷ bs) [] = []
s_lines item slot (b ∷ bs) (n ∷ ns) = cond b (s_line item slot n) [] ++ s_lines item (slot + 1) bs ns

-- The line of a slot that was searched with so many steps, or none.
abbrev pub steps_line : ℕ → ℕ → Option ℕ → List ℕ
steps_line item slot None = []
steps_line item slot (Some n) = s_line item slot n

-- Rule 5.3: a report is entered with its last packet.
unfoldable pub enter_item : Log → Values → Outcome
enter_item log v =
    let entered = enter_work log.board v in
    unless log entered.refusal
    (record { text = s_lines log.items 0 entered.searched entered.steps; log = with_board log entered.board })

-- What a frame's answer brings: a refusal is printed, a report enters.
abbrev pub answer_item : Log → Answer → Outcome
answer_item log (Err e) = refused log (number_of e)
answer_item log (Ok None) = no_text log
answer_item log (Ok (Some r)) = enter_item log r.values

-- The frame in the value of tag 18 (rule 10.2), and in that of tag 21, where its time stands before it (rule 15.1).
abbrev pub frame_in : List ℕ → Timed
frame_in v = untimed_at (number (part 0 4 v)) (part 4 8 v)

abbrev pub timed_in : List ℕ → Timed
timed_in v = timed_at (number (part 0 4 v)) (number (part 4 4 v)) (part 8 8 v)

-- Tags 18 and 21: the frame's sender's session takes it, by the time that it came at if it has one.
unfoldable pub frame_item : Log → Timed → Outcome
frame_item log f = answer_item (with_stations log (stations_after (stations_of log) f)) (timed_answer (stations_of log) f)

-- What an item does, with the data bytes that a frame has beside it. An unknown one is refused before.
unfoldable pub by_item : Log → Item → List ℕ → Outcome
by_item log (Window n) ds = window_item log n
by_item log (Set s) ds = set_item log s
by_item log (item.Frame id) ds = frame_item log (untimed_at id ds)
by_item log (Remove slot) ds = remove_item log slot
by_item log (Show slot) ds = show_item log slot
by_item log (item.Timed time id) ds = frame_item log (timed_at time id ds)
by_item log (SetHeat s) ds = set_item log s
by_item log (SetTies s) ds = set_item log s
by_item log Unknown ds = no_text log

-- Rules 11.1 and 9.4: an item counts, also where it is skipped; 22, 23, then the refusals of its call. (21 is `ending`.)
unfoldable pub item_done : Log → ℕ → List ℕ → Outcome
item_done log tag v =
    let i = item_in tag v in
    unless (with_item log) (item_refusal (with_item log) i) (by_item (with_item log) i (data_of i v))

-- Whole items one after the other: their text, the log that they leave, and the bytes behind the last of them.
pub record Consumed : Type 0 where
  pub text : List ℕ
  pub log : Log
  pub rest : List ℕ

-- A text, and then that of the items behind it.
abbrev pub after : List ℕ → Consumed → Consumed
after text c = record { text = text ++ c.text; log = c.log; rest = c.rest }

-- No whole item.
abbrev pub no_item : Log → List ℕ → Consumed
no_item log bs = record { text = []; log = log; rest = bs }

-- The item that the bytes start with, and then the others; a field that the bytes end in is no item yet.
abbrev pub first_then : Log → List ℕ → (Log → List ℕ → Consumed) → Option Field → Consumed
first_then log bs others (Some f) =
    let done = item_done log f.tag (part f.start f.size bs) in
    after done.text (others done.log (drop (f.start + f.size) bs))
first_then log bs others None = no_item log bs

-- Rule 11.1: items are tagged fields: at most n of the whole ones that the bytes start with.
unfoldable pub consumed_up_to : ℕ → Log → List ℕ → Consumed
consumed_up_to zero log bs = no_item log bs
consumed_up_to (suc n) log bs = first_then log bs (λ l r. consumed_up_to n l r) (field_at bs 0)

-- All whole items that the bytes start with: there are no more than bytes.
unfoldable pub consumed : Log → List ℕ → Consumed
consumed log bs = consumed_up_to (length bs) log bs

-- Refusal 21, where the log ends inside an item; between items it just ends.
unfoldable pub ending : Log → List ℕ → List ℕ
ending log [] = []
ending log (b ∷ bs) = r_line (next_item log.items) 21

-- The text of the bytes that a log goes on with, to its end.
unfoldable pub text_from : Log → List ℕ → List ℕ
text_from log bs =
    let c = consumed log bs in
    c.text ++ ending c.log c.rest

-- The text of a whole log.
unfoldable pub log_text : List ℕ → List ℕ
log_text bs = text_from fresh_log bs
