-- Text that comes in pieces, and its lines. A line ends at a byte 10, or with the text.
use Rattle.std.specs.Prelude.{ℕ, ◌+◌, ◌-◌, min, Bool, false, List, length, take, drop, nat_lt}
use Rattle.lines.specs.declared.Run.TheVariants.{Until}
use Rattle.lines.specs.Words.{run_length}
use Rattle.input.specs.declared.Input.{Input}
use Rattle.input.specs.declared.Source.TheVariants.{Open}

-- The longest line that a program takes.
abbrev pub longest : ℕ
longest = 512

-- How long the first line of a text is, without its end.
abbrev pub line_size : List ℕ → ℕ
line_size text = run_length (Until 10) text

-- The first line of a text, whether its end stands there, and what stands behind it.
unfoldable pub first_line : List ℕ → List ℕ
first_line text = take (line_size text) text

unfoldable pub has_line_end : List ℕ → Bool
has_line_end text = nat_lt (line_size text) (length text)

unfoldable pub behind_line : List ℕ → List ℕ
behind_line text = drop (line_size text + 1) text

-- Nothing read, and no line yet.
abbrev pub fresh_input : Input
fresh_input = record { source = Open; held = 0; left = 0; size = 0; whole = false; number = 0 }

-- What was read last, as far as it is not taken yet: the last `left` of the first `held` bytes.
abbrev pub last_read : Input → List ℕ → List ℕ
last_read i space = take i.held space

unfoldable pub unread : Input → List ℕ → List ℕ
unread i space = drop (length (last_read i space) - i.left) (last_read i space)

-- The line with its next bytes, in `room` bytes that were lent for it: what was not taken up to the line's end, or all of it.
unfoldable pub line_taken : ℕ → Input → List ℕ → Input
line_taken room i space = record {
  source = i.source;
  held = i.held;
  left = length (unread i space) - (line_size (unread i space) + 1);
  size = min (i.size + line_size (unread i space)) (room + 1);
  whole = has_line_end (unread i space);
  number = i.number;
}
