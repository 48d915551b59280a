-- A log does the items that its bytes are read as, one after the other: both go from field to field, and an item is done by what it says.
-- Assumes nothing.
use mathlib.Core.Path.{◌≡◌, refl, ap, ◌∙◌}
use mathlib.Core.List.{List, ◌++◌}
use Prim.Native.Nat.{ℕ, zero, suc, ◌+◌}
use lib.ListN.{length, drop}
use Rattle.wire.specs.Bytes.{part, field_at}
use Rattle.wire.specs.declared.Field.{Field}
use Rattle.std.proofs.Common.{Option, Some, None}
use Rattle.items.specs.Run as items
use Rattle.items.specs.Run.{Meant, meant_by, run_bytes, items_in, read_items}
use Rattle.items.proofs.Runs.{AllFit, reads_back}
use Rattle.journal.specs.declared.Log.{Log}
use Rattle.journal.specs.Log as log
use Rattle.journal.specs.Log.{Outcome, item_done, consumed}
use Rattle.journal.specs.Meaning.{meant_done, run_done}

done_as_meant : (l : Log) (tag : ℕ) (v : List ℕ) → item_done l tag v ≡ meant_done l (meant_by tag v)
unfolding item_done
done_as_meant l tag v = refl

-- What whole items bring, as an outcome.
abbrev brought : log.Consumed → Outcome
brought c = record { text = c.text; log = c.log }

one_more : (l : Log) (bs : List ℕ) (others : Log → List ℕ → log.Consumed) (meant : List ℕ → List Meant) (f : Option Field)
    → ((m : Log) (r : List ℕ) → brought (others m r) ≡ run_done m (meant r)) → brought (log.first_then l bs others f) ≡ run_done l (items.first_then bs meant f)
one_more l bs others meant (Some f) rest =
    let v = part f.start f.size bs in
    let r = drop (f.start + f.size) bs in
    let d = done_as_meant l f.tag v in
    (λ j. record { text = (d j).text ++ (others (d j).log r).text; log = (others (d j).log r).log })
    ∙ ap (λ (o : Outcome). record { text = (meant_done l (meant_by f.tag v)).text ++ o.text; log = o.log }) (rest (meant_done l (meant_by f.tag v)).log r)
one_more l bs others meant None rest = refl

items_run : (n : ℕ) (l : Log) (bs : List ℕ) → brought (log.consumed_up_to n l bs) ≡ run_done l (items_in n bs)
unfolding log.consumed_up_to items_in
items_run zero l bs = refl
items_run (suc n) l bs = one_more l bs (λ m r. log.consumed_up_to n m r) (λ r. items_in n r) (field_at bs 0) (λ m r. items_run n m r)

-- The text of whole items, and the log that they leave, are those of the items that the bytes are read as.
pub consumed_meant : (l : Log) (bs : List ℕ) → ◌≡◌ {A = Outcome} (record { text = (consumed l bs).text; log = (consumed l bs).log }) (run_done l (read_items bs))
unfolding consumed read_items
consumed_meant l bs = items_run (length bs) l bs

-- So what is written for items that fit is done as what was meant.
pub written_done : (l : Log) (ms : List Meant) → AllFit ms → ◌≡◌ {A = Outcome} (record { text = (consumed l (run_bytes ms)).text; log = (consumed l (run_bytes ms)).log }) (run_done l ms)
written_done l ms fits = consumed_meant l (run_bytes ms) ∙ ap (run_done l) (reads_back ms fits)
