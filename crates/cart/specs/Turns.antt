-- A turn of the log program and its end: which bytes are handed over for printing.
use Rattle.std.specs.Prelude.{ℕ, ◌≤◌, ◌≡◌, Option, List, ◌++◌, length, take}
use Rattle.std.specs.Io.KnownBytes.{Appends, Consumes}
use Rattle.journal.specs.declared.Log.{Log}
use Rattle.journal.specs.Log.{log_text}
use Rattle.pieces.specs.declared.Waiting.{Waiting}
use Rattle.pieces.specs.Program.{Handed}
use Rattle.cart.specs.declared.Printed.{Printed}
use Rattle.cart.specs.declared.Turn.{Turn}

-- A turn takes bytes of a piece, and of the room it hands over the first ones. Whatever came and was handed over before, that and this is then what came and its text.
pub record Turns (log : Log) (w : Waiting) (piece : List ℕ) (r : Turn) (room : List ℕ) : Type 0 where
  pub within : r.taken ≤ length piece
  pub tells : (come said : List ℕ) → Handed come said log w → Handed (come ++ take r.taken piece) (said ++ take r.printed.count room) r.log r.waiting

-- At the end, whatever came and was handed over before, that and what is handed over of the room is the text of the whole log.
pub record Ends (log : Log) (w : Waiting) (r : Printed) (room : List ℕ) : Type 0 where
  pub ends : (come said : List ℕ) → Handed come said log w → said ++ take r.count room ≡ log_text come

-- All bytes that were read: those that were taken, whose text was handed over, and those of the last read that are left.
pub record SoFar (log : Log) (w : Waiting) (left : List ℕ) : Type 0 where
  pub all : List ℕ
  pub come : List ℕ
  pub said : List ℕ
  pub split : all ≡ come ++ left
  pub handed : Handed come said log w

-- A run so far: all bytes that were read are those that the reader gave, and what was handed over is what the writer holds more.
pub record Running (given₀ given held₀ held : Option (List ℕ)) (log : Log) (w : Waiting) (left : List ℕ) : Type 0 where
  pub so_far : SoFar log w left
  pub read : Consumes given₀ given so_far.all
  pub printed : Appends held₀ held so_far.said
