-- What waits stands for the bytes that came since the last whole item: the first 19 are the same, and all are counted.
-- Assumes nothing.
use mathlib.Core.Path.{◌≡◌, refl, sym, ap, ap₂, ◌∙◌}
use mathlib.Core.Logic.{⊎_elim}
use mathlib.Core.List.{List, [], ◌∷◌, ◌++◌}
use Prim.Native.Nat.{ℕ, ◌+◌, ◌*◌, ◌≤◌, ◌<◌}
use native.Mathlib.Omega.{arith}
use lib.Dec.{ltb}
use lib.ListN.{length, get_or, set, length-append, length-set, get_or-append}
use lib.Seq.{get_or-set_same, get_or-set_other, get_or-append_seam}
use Rattle.wire.specs.Bytes.{number, part}
use Rattle.wire.proofs.Numbers.{number_two}
use Rattle.text.proofs.Decimal.{below_or}
use Rattle.items.proofs.Reading.{long_unknown, empty_unknown}
use Rattle.journal.specs.declared.Log.{Log}
use Rattle.pieces.specs.declared.Waiting.{Waiting}
use Rattle.journal.specs.Log.{item_done}
use Rattle.journal.proofs.Items.{unknown_done}
use Rattle.pieces.specs.Machine.{nothing, with_byte, size_in}

pub record Holds (w : Waiting) (p : List ℕ) : Type 0 where
  pub room : length w.bytes ≡ 19
  pub counts : w.have ≡ length p
  pub front : (i : ℕ) → i < 19 → i < length p → get_or w.bytes i 0 ≡ get_or p i 0
  pub short : length p ≤ 65538

pub holds-nothing : Holds nothing []
holds-nothing = record { room = refl; counts = refl; front = λ i h k. absurd (omega arith); short = omega arith }

module _ (w : Waiting) (p : List ℕ) (b : ℕ) (h : Holds w p) where
  front_more : (i : ℕ) → i < 19 → i < length (p ++ b ∷ []) → get_or (set w.bytes w.have b) i 0 ≡ get_or (p ++ b ∷ []) i 0
  front_more i few inside =
      ⊎_elim
      (λ less.
      get_or-set_other w.bytes w.have i b 0 (λ e. omega (arith, h.counts, less)) ∙ h.front i few less
      ∙ sym (get_or-append p (b ∷ []) 0 i less))
      (λ last.
      let here : i ≡ w.have = omega (arith, h.counts, length-append p (b ∷ [])) in
      let there : i ≡ length p = omega (arith, length-append p (b ∷ [])) in
      ap (λ (k : ℕ). get_or (set w.bytes w.have b) k 0) here ∙ get_or-set_same w.bytes w.have b 0 (omega (arith, h.room))
      ∙ sym (ap (λ (k : ℕ). get_or (p ++ b ∷ []) k 0) there ∙ get_or-append_seam p b [] 0))
      (below_or i (length p) (ltb i (length p)) refl)

  pub holds_more : length p < 65538 → Holds (with_byte w b) (p ++ b ∷ [])
  unfolding with_byte
  holds_more less =
      record {
        room = length-set w.bytes w.have b ∙ h.room;
        counts = omega (arith, h.counts, length-append p (b ∷ []));
        front = front_more;
        short = omega (arith, length-append p (b ∷ []));
      }

pub holds-size : (w : Waiting) (p : List ℕ) → Holds w p → 3 ≤ length p → size_in w ≡ number (part 1 2 p)
holds-size w p h three =
    number_two w.bytes 1 ∙ ap₂ (λ (x y : ℕ). x + 256 * y) (h.front 1 (omega arith) (omega arith)) (h.front 2 (omega arith) (omega arith))
    ∙ sym (number_two p 1)

-- Of an item that is too long the value makes no difference: no item is known that has none, or one of more than 16 bytes.
pub too_long : (log : Log) (tag : ℕ) (v : List ℕ) → 16 < length v → item_done log tag v ≡ item_done log tag []
too_long log tag v h = unknown_done log tag v (long_unknown tag v h) ∙ sym (unknown_done log tag [] (empty_unknown tag))
