-- What a program prints that hands a log over in calls of `feed`, as its bytes come, and then ends it.
use Rattle.std.specs.Prelude.{ℕ, ◌^◌, ◌≤◌, ◌<◌, ◌≡◌, List, [], ◌++◌, length, get_or, take, drop}
use Rattle.std.proofs.lemmas.List.Edits.{sets}
use Rattle.text.specs.Text.{behind}
use Rattle.journal.specs.declared.Log.{Log}
use Rattle.pieces.specs.declared.Waiting.{Waiting}
use Rattle.pieces.specs.declared.Fed.{Fed}
use Rattle.journal.specs.Log.{fresh_log}
use Rattle.pieces.specs.Machine.{nothing, bytes_came, Feeds, end_line}

-- These bytes came, this text was handed over for printing, and this is the log, and what waits, that they leave.
pub record Handed (come said : List ℕ) (log : Log) (w : Waiting) : Type 0 where
  pub bytes : (i : ℕ) → get_or come i 0 < 256
  pub leaves : bytes_came fresh_log nothing come ≡ record { text = said; log = log; waiting = w }

-- From this log and what waits, with these bytes to come, that is printed.
pub data Program : Log → Waiting → (bytes printed : List ℕ) → Type 0 where
  -- `feed` is lent the bytes that have come, the piece, and a room of any size that a `usize` counts. What it wrote there is printed; what it did not take is still to come.
  feeds : {log : Log} {w : Waiting} {r : Fed} {left printed : List ℕ} (piece later room : List ℕ) → length room < 2 ^ 64 → Feeds log w piece room r left
      → Program r.log r.waiting (drop r.taken piece ++ later) printed → Program log w (piece ++ later) (take r.written left ++ printed)
  -- At the end of the log `finish` is lent a room for one R line, and what it wrote there is printed.
  finishes : {log : Log} {w : Waiting} {left : List ℕ} {next : ℕ} (room : List ℕ) → length room < 2 ^ 64 → 27 ≤ length room
      → next ≡ behind 0 (end_line log w) → left ≡ sets room 0 (end_line log w) → Program log w [] (take next left)
