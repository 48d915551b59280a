-- The text that a log fixes where every item makes the calls that keep senders and tallies (docs/RULES.md, rule 19.7): the same lines, each from what such a call answers.
use Rattle.std.specs.Prelude.{ℕ, zero, suc, ◌+◌, cond, Option, Some, None, List, [], ◌++◌, length, take, drop, eqb}
use Rattle.wire.specs.Bytes.{part, field_at}
use Rattle.wire.specs.declared.Field.{Field}
use Rattle.values.specs.declared.Values.{Values}
use Rattle.items.specs.declared.Setting.{Setting}
use Rattle.items.specs.declared.Item.{Item}
use Rattle.items.specs.declared.Item.TheVariants.{Window, Set, Remove, Show, SetHeat, SetTies, Unknown}
use Rattle.items.specs.declared.Item.TheVariants as kind
use Rattle.items.specs.Items.{data_of, item_in}
use Rattle.joining.specs.Answers.{Answer}
use Rattle.std.specs.Prelude.{Ok, Err}
use Rattle.refusal.specs.Numbers.{number_of}
use Rattle.times.specs.Run.{Timed, Stations, sender, timed_answer, timed_at, untimed_at}
use Rattle.text.specs.Text.{s_line, r_line, q_line, entries_of}
use Rattle.ledger.specs.declared.Ledger.{Ledger}
use Rattle.ledger.specs.Calls.{fresh_ledger, set_call, remove_call, read_call, enter_call}
use Rattle.journal.specs.declared.Log.{Log}
use Rattle.journal.specs.Log.{fresh_log, with_item, stations_of, with_board, item_refusal, setting_rule, s_lines, item_done, ending}

-- What an item's call prints, and the ledger that it leaves.
pub record Spoken : Type 0 where
  pub text : List ℕ
  pub ledger : Ledger

abbrev pub silent : Ledger → Spoken
silent g = record { text = []; ledger = g }

abbrev pub refused : ℕ → Ledger → ℕ → Spoken
refused item g code = record { text = r_line item code; ledger = g }

-- What a call says that answers this refusal, 0 for none. A refused one leaves all as it was (rule 9.2).
unfoldable pub unless : ℕ → Ledger → ℕ → Spoken → Spoken
unless item g refusal said = cond (eqb refusal 0) said (refused item g refusal)

unfoldable pub window_said : ℕ → Ledger → ℕ → Spoken
window_said item g n =
    let made = fresh_ledger n in
    unless item g made.refusal (silent made.ledger)

unfoldable pub set_said : ℕ → Ledger → Setting → Spoken
set_said item g s =
    let placed = set_call g s.slot s.k (setting_rule s) in
    unless item g placed.refusal (record { text = s_line item s.slot placed.steps; ledger = placed.ledger })

unfoldable pub remove_said : ℕ → Ledger → ℕ → Spoken
remove_said item g slot =
    let removed = remove_call g slot in
    unless item g removed.refusal (silent removed.ledger)

unfoldable pub show_said : ℕ → Ledger → ℕ → Spoken
show_said item g slot =
    let shown = read_call g slot in
    unless item g shown.refusal (record { text = q_line slot (take shown.len (entries_of shown.numbers shown.scores)); ledger = g })

unfoldable pub enter_said : ℕ → Ledger → ℕ → Values → Spoken
enter_said item g sender v =
    let entered = enter_call g sender v in
    unless item g entered.refusal (record { text = s_lines item 0 entered.searched entered.steps; ledger = entered.ledger })

-- What a frame's answer brings; a report enters with the frame's sender (rule 19.1).
abbrev pub answer_said : ℕ → Ledger → ℕ → Answer → Spoken
answer_said item g sender (Err e) = refused item g (number_of e)
answer_said item g sender (Ok None) = silent g
answer_said item g sender (Ok (Some r)) = enter_said item g sender r.values

unfoldable pub frame_said : ℕ → Ledger → Stations → Timed → Spoken
frame_said item g b f = answer_said item g (sender f) (timed_answer b f)

unfoldable pub said_by : ℕ → Ledger → Stations → Item → List ℕ → Spoken
said_by item g b (Window n) ds = window_said item g n
said_by item g b (Set s) ds = set_said item g s
said_by item g b (kind.Frame id) ds = frame_said item g b (untimed_at id ds)
said_by item g b (Remove slot) ds = remove_said item g slot
said_by item g b (Show slot) ds = show_said item g slot
said_by item g b (kind.Timed time id) ds = frame_said item g b (timed_at time id ds)
said_by item g b (SetHeat s) ds = set_said item g s
said_by item g b (SetTies s) ds = set_said item g s
said_by item g b Unknown ds = silent g

-- An item: 22 and 23 as in any log, then its call. Of the log before it, its count of items is read, and its sessions and times; its board is the ledger's.
unfoldable pub item_said : Log → Ledger → ℕ → List ℕ → Spoken
item_said log g tag v =
    let i = item_in tag v in
    let l = with_item (with_board log g.board) in
    unless l.items g (item_refusal l i) (said_by l.items g (stations_of l) i (data_of i v))

-- The item that the bytes start with, and then the others, or the end. Sessions and times go on as in any log.
abbrev pub first_said : Log → Ledger → List ℕ → (Log → Ledger → List ℕ → List ℕ) → Option Field → List ℕ
first_said log g bs others (Some f) =
    let v = part f.start f.size bs in
    (item_said log g f.tag v).text ++ others (item_done (with_board log g.board) f.tag v).log (item_said log g f.tag v).ledger (drop (f.start + f.size) bs)
first_said log g bs others None = ending log bs

unfoldable pub said_up_to : ℕ → Log → Ledger → List ℕ → List ℕ
said_up_to zero log g bs = ending log bs
said_up_to (suc n) log g bs = first_said log g bs (λ l h r. said_up_to n l h r) (field_at bs 0)

-- The text of a whole log, said so.
unfoldable pub tallied_text : List ℕ → List ℕ
tallied_text bs = said_up_to (length bs) fresh_log (fresh_ledger 0).ledger bs
