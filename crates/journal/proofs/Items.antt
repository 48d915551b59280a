-- What is done for each tag once there is a window, and for an item that no log knows.
-- Assumes nothing.
use mathlib.Core.Path.{◌≡◌, ◌∙◌}
use mathlib.Core.List.{List, [], ◌∷◌}
use Prim.Native.Nat.{ℕ}
use native.Mathlib.Omega.{arith}
use borrow.Author.Tests.{ne_eqb}
use lib.ListN.{length, length-append}
use Rattle.items.specs.declared.Item.{Item}
use Rattle.items.specs.declared.Item.TheVariants.{Unknown}
use Rattle.items.specs.Items.{setting_in, data_of, item_in}
use Rattle.items.proofs.Reading.{with_zero, with_newest, set_read, frame_read, remove_read, show_read, timed_read, set_heat_read, set_ties_read, set_as_heat, heat_as_ties}
use Rattle.board.proofs.Refusals.{zero_is}
use Rattle.journal.specs.declared.Log.{Log}
use Rattle.journal.specs.Log.{with_item, refused, unless, early, item_refusal, set_item, remove_item, show_item, frame_in, timed_in, frame_item, by_item, item_done}

-- An item that isn't refused before its call.
pub done_by : (log : Log) (tag : ℕ) (v : List ℕ) {i : Item} → item_in tag v ≡ i → item_refusal (with_item log) i ≡ 0 → item_done log tag v ≡ by_item (with_item log) i (data_of i v)
unfolding item_done unless
done_by log tag v e passes = rw e (zero_is _ _ passes)

pub unknown_done : (log : Log) (tag : ℕ) (v : List ℕ) → item_in tag v ≡ Unknown → item_done log tag v ≡ refused (with_item log) 22
unfolding item_done item_refusal unless
unknown_done log tag v e = rw e

-- Rule 17.7: an item of tag 17 is one of tag 22 with the weight 0 behind its value, in any log.
pub tag_17 : (log : Log) (v : List ℕ) → length v ≡ 6 → item_done log 17 v ≡ item_done log 22 (with_zero v)
unfolding item_done item_refusal by_item
tag_17 log v e =
    let both = set_as_heat v e in
    rw (both.0, both.1)

-- Rule 18.6: an item of tag 22 is one of tag 23 with the tie rule 0 behind its value, and one of tag 17 is it with both.
pub tag_22 : (log : Log) (v : List ℕ) → length v ≡ 8 → item_done log 22 v ≡ item_done log 23 (with_newest v)
unfolding item_done item_refusal by_item
tag_22 log v e =
    let both = heat_as_ties v e in
    rw (both.0, both.1)

pub tag_17_ties : (log : Log) (v : List ℕ) → length v ≡ 6 → item_done log 17 v ≡ item_done log 23 (with_newest (with_zero v))
tag_17_ties log v e = tag_17 log v e ∙ tag_22 log (with_zero v) (omega (arith, length-append v (0 ∷ 0 ∷ [])))

module _ (log : Log) (there : log.board.window.counts.size ≡ 0 → ⊥) where
  in_place : early (with_item log) ≡ 0
  in_place = rw (ne_eqb log.board.window.counts.size 0 there)

  pub set_done : (v : List ℕ) → length v ≡ 6 → item_done log 17 v ≡ set_item (with_item log) (setting_in v)
  unfolding item_refusal by_item
  set_done v e = done_by log 17 v (set_read v e) in_place

  pub set_heat_done : (v : List ℕ) → length v ≡ 8 → item_done log 22 v ≡ set_item (with_item log) (setting_in v)
  unfolding item_refusal by_item
  set_heat_done v e = done_by log 22 v (set_heat_read v e) in_place

  pub set_ties_done : (v : List ℕ) → length v ≡ 9 → item_done log 23 v ≡ set_item (with_item log) (setting_in v)
  unfolding item_refusal by_item
  set_ties_done v e = done_by log 23 v (set_ties_read v e) in_place

  pub frame_done : (v : List ℕ) → length v ≡ 12 → item_done log 18 v ≡ frame_item (with_item log) (frame_in v)
  unfolding item_refusal by_item
  frame_done v e = done_by log 18 v (frame_read v e) in_place

  pub timed_done : (v : List ℕ) → length v ≡ 16 → item_done log 21 v ≡ frame_item (with_item log) (timed_in v)
  unfolding item_refusal by_item
  timed_done v e = done_by log 21 v (timed_read v e) in_place

  pub remove_done : (slot : ℕ) → item_done log 19 (slot ∷ []) ≡ remove_item (with_item log) slot
  unfolding item_refusal by_item
  remove_done slot = done_by log 19 (slot ∷ []) (remove_read slot) in_place

  pub show_done : (slot : ℕ) → item_done log 20 (slot ∷ []) ≡ show_item (with_item log) slot
  unfolding item_refusal by_item
  show_done slot = done_by log 20 (slot ∷ []) (show_read slot) in_place
