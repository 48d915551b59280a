use Rattle.std.proofs.Common.{◌≡◌, length, take}
use Rattle.text.specs.Text.{entries_text, entries_of}
use Rattle.text.proofs.Places.{Put}
use Rattle.text.proofs.put_entries.Given as goal

abbrev pub invariant-loop-number : goal.invariant-loop-number
invariant-loop-number l =
    record {
      same : length l.buf ≡ length l.initial.buf;
      stored : Put l.initial.buf l.at (entries_text (take (length l.yielded) (entries_of l.numbers l.scores))) l.next l.buf;
    }
