-- Which logs are reached (docs/RULES.md, rule 9.8), by which frames, and what these entered.
use Rattle.std.specs.Prelude.{ℕ, cond, List, [], ◌∷◌, ◌++◌, map, take, eqb}
use Rattle.items.specs.declared.Item.{Item}
use Rattle.items.specs.declared.Item.TheVariants as said
use Rattle.items.specs.Items.{data_of, item_in}
use Rattle.ranking.specs.Standing as ranked
use Rattle.values.specs.declared.Values.{Values}
use Rattle.slot.specs.Turn.{number_named}
use Rattle.window.specs.Rows.{report_limit}
use Rattle.text.specs.Text.{Entry}
use Rattle.times.specs.Run.{Timed, fresh_stations, timed_answers, timed_at, untimed_at}
use Rattle.joining.specs.Answers.{Answer}
use Rattle.std.specs.Prelude.{Some, None, Ok, Err}
use Rattle.journal.specs.declared.Log.{Log}
use Rattle.journal.specs.Log.{fresh_log, with_item, item_refusal, item_done}

-- A fresh one, and what any whole item of any tag leaves of a reached one, also where it is skipped.
pub data Reached : Log → Type 0 where
  fresh : Reached fresh_log
  item : {log : Log} → Reached log → (tag : ℕ) (v : List ℕ) → Reached (item_done log tag v).log

-- The frame that an item is, if it is one, with its time if it has one and its data bytes beside it.
abbrev pub framed : Item → List ℕ → List Timed
framed (said.Frame id) ds = untimed_at id ds ∷ []
framed (said.Timed time id) ds = timed_at time id ds ∷ []
framed (said.Window n) ds = []
framed (said.Set s) ds = []
framed (said.Remove slot) ds = []
framed (said.Show slot) ds = []
framed (said.SetHeat s) ds = []
framed (said.SetTies s) ds = []
framed said.Unknown ds = []

-- The frame of an item that isn't skipped, if it is one.
abbrev pub frame_of : Log → ℕ → List ℕ → List Timed
frame_of log tag v = cond (eqb (item_refusal (with_item log) (item_in tag v)) 0) (framed (item_in tag v) (data_of (item_in tag v) v)) []

-- The frames of all items that led to a log, in their order.
abbrev pub frames_of : {log : Log} → Reached log → List Timed
frames_of fresh = []
frames_of (item {log} r tag v) = frames_of r ++ frame_of log tag v

-- The reports that answers bring, in their order.
abbrev pub completed : List Answer → List Values
completed [] = []
completed (Err e ∷ l) = completed l
completed (Ok None ∷ l) = completed l
completed (Ok (Some r) ∷ l) = r.values ∷ completed l

-- Rules 5.2 and 5.3: every report that a frame completes is entered, as long as any can.
unfoldable pub entered_by : List Timed → List Values
entered_by fs = take report_limit (completed (timed_answers fresh_stations fs))

-- The entries of a list, as a Q line has them: of a name its number.
abbrev pub shown_as : List ranked.Entry → List Entry
shown_as l = map (λ (e : ranked.Entry). record { number = number_named e; score = e.score }) l
