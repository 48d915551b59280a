-- Whole items done one after the other, as long as the next can be done where the log stands and there is room for what it prints.
use Rattle.std.specs.Prelude.{ℕ, zero, suc, ◌+◌, ◌≡◌, cond, ◌&&◌, List, [], ◌++◌, length, get_or}
use Rattle.std.proofs.lemmas.List.Edits.{sets}
use Rattle.wire.specs.Bytes.{part}
use Rattle.text.specs.Text.{behind}
use Rattle.journal.specs.declared.Log.{Log}
use Rattle.journal.specs.Log.{Outcome, item_done}
use Rattle.stretch.specs.declared.Stretch.{Stretch}
use Rattle.coming.specs.Coming.{size_at, comes, has_room}

-- What the whole item at a place does.
abbrev pub item_at : Log → List ℕ → ℕ → Outcome
item_at log bytes i = item_done log (get_or bytes i 0) (part (i + 3) (size_at bytes i) bytes)

-- The text of the items that were done, the log that they leave, and the place behind them.
pub record Did : Type 0 where
  pub text : List ℕ
  pub log : Log
  pub next : ℕ

-- An item's text, and then that of the items behind it.
abbrev pub after : List ℕ → Did → Did
after text d = record { text = text ++ d.text; log = d.log; next = d.next }

-- From place i on, at most n items.
unfoldable pub did : ℕ → (room at : ℕ) → Log → List ℕ → ℕ → Did
did zero room at log bytes i = record { text = []; log = log; next = i }
did (suc n) room at log bytes i =
    let done = item_at log bytes i in
    cond (comes log.board.window.counts.size bytes i && has_room room at)
    (after done.text (did n room (behind at done.text) done.log bytes (i + (3 + size_at bytes i))))
    (record { text = []; log = log; next = i })

-- All that there are: no more than bytes.
abbrev pub did_all : (room at : ℕ) → Log → List ℕ → Did
did_all room at log bytes = did (length bytes) room at log bytes 0

-- The items are done, and their text is stored from `at` on.
pub record Does (log : Log) (bytes room : List ℕ) (at : ℕ) (r : Stretch) (left : List ℕ) : Type 0 where
  pub leaves : r.log ≡ (did_all (length room) at log bytes).log
  pub taken : r.taken ≡ (did_all (length room) at log bytes).next
  pub place : r.at ≡ behind at (did_all (length room) at log bytes).text
  pub stored : left ≡ sets room at (did_all (length room) at log bytes).text
