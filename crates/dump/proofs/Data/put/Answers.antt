-- `dump::Data::put` meets its contract: behind the pairs, which are two letters each, stands the mark.
-- Assumes nothing.
use mathlib.Core.Path.{◌∙◌}
use lib.ListN.{length-append}
use Rattle.wire.proofs.Stores.{sets-append}
use Rattle.dump.specs.Dump.{text_of}
use Rattle.dump.proofs.Texts.{pairs_length}
use Rattle.dump.proofs.Data.put.Goals as goal

pub returns-in-Bytes : goal.returns-in-Bytes
unfolding text_of
returns-in-Bytes c = let e = c.in-Bytes.is in record { value = rw (e, length-append, pairs_length, c.put_mark.ensures.value, c.from-size.ensures, c.min-k.ensures); room_after = c.put_mark.ensures.room_after ∙ rw (e, sets-append, pairs_length, c.put_pairs.ensures, c.from-size.ensures, c.min-k.ensures) }
