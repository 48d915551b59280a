-- What the inner functions of `input` answer, and what its proofs speak of; no public contract and no promise cites it.
use Rattle.std.specs.Prelude.{◌≡◌, ◌+◌, ◌%◌, ◌^◌, false, cond, nat_lt, Option, Some, None, Result, Ok, Err}
use Rattle.input.specs.declared.Input.{Input}
use Rattle.input.specs.declared.ReadFailed.{ReadFailed}
use Rattle.input.specs.declared.Source.{Source}
use Rattle.input.specs.declared.Source.TheVariants as source

-- At the start of the line behind.
abbrev pub next_line : Input → Input
next_line i = record { source = i.source; held = i.held; left = i.left; size = 0; whole = false; number = (i.number + 1) % 2 ^ 64 }

-- Reading changes nothing of the line.
pub record SameLine (i r : Input) : Type 0 where
  pub size : r.size ≡ i.size
  pub whole : r.whole ≡ i.whole
  pub number : r.number ≡ i.number

-- Why there is no line.
abbrev pub without : Source → Result (Option Input) ReadFailed
without source.Open = Ok None
without source.Ended = Ok None
without source.Failed = Err (record {})

-- A line, perhaps the last one and without an end; or why there is none.
unfoldable pub answer_of : Input → Result (Option Input) ReadFailed
answer_of i = cond i.whole (Ok (Some i)) (cond (nat_lt 0 i.size) (Ok (Some i)) (without i.source))
