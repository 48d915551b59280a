-- A log that comes in pieces of any size: what each byte brings, and what waits for the next.
use Rattle.std.specs.Prelude.{ℕ, ◌+◌, ◌≤◌, ◌<◌, min, ◌≡◌, Bool, true, false, cond, List, [], ◌∷◌, ◌++◌, length, get_or, set, take, drop, replicate, leb, eqb}
use Rattle.std.proofs.lemmas.List.Edits.{sets}
use Rattle.wire.specs.Bytes.{number, part}
use Rattle.text.specs.Text.{r_line, behind}
use Rattle.journal.specs.declared.Log.{Log}
use Rattle.pieces.specs.declared.Waiting.{Waiting}
use Rattle.pieces.specs.declared.Fed.{Fed}
use Rattle.journal.specs.Log.{next_item, item_done}
use Rattle.coming.specs.Coming.{has_room}

-- What is kept of an item: its first 19 bytes.
abbrev pub kept_bytes : ℕ
kept_bytes = 19

-- Nothing has come of the next item.
abbrev pub nothing : Waiting
nothing = record { bytes = replicate kept_bytes 0; have = 0 }

-- One byte more; those past the 19th are counted only.
unfoldable pub with_byte : Waiting → ℕ → Waiting
with_byte w b = record { bytes = set w.bytes w.have b; have = min (w.have + 1) 65538 }

-- The length that the item's head says.
abbrev pub size_in : Waiting → ℕ
size_in w = number (part 1 2 w.bytes)

-- All bytes of the item have come.
unfoldable pub is_whole : Waiting → Bool
is_whole w = leb (3 + size_in w) w.have

-- Where a value of that size ends; at its start where it is too long for every known item.
unfoldable pub value_end : ℕ → ℕ
value_end size = cond (leb size 16) (3 + size) 3

-- Its value; none where it is too long, as its length is wrong either way.
unfoldable pub value_in : Waiting → List ℕ
value_in w = drop 3 (take (value_end (size_in w)) w.bytes)

-- The text of bytes that came, the log that they leave, and what then waits.
pub record Came : Type 0 where
  pub text : List ℕ
  pub log : Log
  pub waiting : Waiting

-- A byte comes: the item is done, or waits for more.
unfoldable pub came : Log → Waiting → ℕ → Came
came log w b =
    let n = with_byte w b in
    cond (is_whole n)
    (let done = item_done log (get_or n.bytes 0 0) (value_in n) in
    record { text = done.text; log = done.log; waiting = nothing })
    (record { text = []; log = log; waiting = n })

-- Bytes come one after the other.
unfoldable pub bytes_came : Log → Waiting → List ℕ → Came
bytes_came log w [] = record { text = []; log = log; waiting = w }
bytes_came log w (b ∷ bs) =
    let c = came log w b in
    let r = bytes_came c.log c.waiting bs in
    record { text = c.text ++ r.text; log = r.log; waiting = r.waiting }

-- What is left of a piece's first n bytes.
abbrev pub front_came : Log → Waiting → List ℕ → ℕ → Came
front_came log w piece n = bytes_came log w (take n piece)

-- A piece is taken as long as there is room, and no further.
pub record Feeds (log : Log) (w : Waiting) (piece room : List ℕ) (r : Fed) (left : List ℕ) : Type 0 where
  pub within : r.taken ≤ length piece
  pub leaves : r.log ≡ (front_came log w piece r.taken).log
  pub waits : r.waiting ≡ (front_came log w piece r.taken).waiting
  pub place : r.written ≡ behind 0 (front_came log w piece r.taken).text
  pub stored : left ≡ sets room 0 (front_came log w piece r.taken).text
  pub roomy : (j : ℕ) → j < r.taken → has_room (length room) (behind 0 (front_came log w piece j).text) ≡ true
  pub full : r.taken < length piece → has_room (length room) r.written ≡ false

-- Refusal 21: the line of a log that ends inside an item.
unfoldable pub end_line : Log → Waiting → List ℕ
end_line log w = cond (eqb w.have 0) [] (r_line (next_item log.items) 21)
