-- What items do that are meant, one after the other, apart from the bytes that hold them.
use Rattle.std.specs.Prelude.{List, [], ◌∷◌, ◌++◌}
use Rattle.items.specs.Run.{Meant}
use Rattle.journal.specs.declared.Log.{Log}
use Rattle.journal.specs.Log.{Outcome, with_item, unless, item_refusal, by_item}

-- What is done for an item that is meant.
abbrev pub meant_done : Log → Meant → Outcome
meant_done l m = unless (with_item l) (item_refusal (with_item l) m.item) (by_item (with_item l) m.item m.data_bytes)

-- Items one after the other: their text, and the log that they leave.
abbrev pub run_done : Log → List Meant → Outcome
run_done l [] = record { text = []; log = l }
run_done l (m ∷ ms) = record { text = (meant_done l m).text ++ (run_done (meant_done l m).log ms).text; log = (run_done (meant_done l m).log ms).log }
