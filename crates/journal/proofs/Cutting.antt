-- Bytes of a log that come in two parts are done as if they came at once: a whole item stays the same whatever bytes come behind it, and
-- bytes that end inside an item wait.
-- Assumes nothing.
use mathlib.Core.Path.{◌≡◌, refl, sym, ap, ap₂, ◌∙◌}
use mathlib.Core.Logic.{◌⊎◌, inl, inr, ⊎_elim}
use mathlib.Core.List.{List, ◌++◌, append_assoc}
use Prim.Native.Nat.{ℕ, zero, suc, ◌+◌, ◌≤◌, ◌<◌}
use native.Mathlib.Omega.{arith}
use lib.Dec.{ltb}
use lib.ListN.{length, get_or, take, drop, length-append, length-drop, get_or-append}
use lib.Seq.{take-append-le, drop-append-le}
use Rattle.wire.specs.Bytes.{number, part, field_at}
use Rattle.std.proofs.Common.{None}
use Rattle.wire.proofs.Fields.{whole, cut_short, cut_over}
use Rattle.text.proofs.Decimal.{below_or}
use Rattle.journal.specs.declared.Log.{Log}
use Rattle.journal.specs.Log.{Outcome, Consumed, item_done, after, no_item, first_then, consumed_up_to, consumed}

-- The length that the first field's head says.
abbrev pub size : List ℕ → ℕ
size s = number (part 1 2 s)

-- What the first field brings, where it is whole.
abbrev pub done : Log → List ℕ → Outcome
done log s = item_done log (get_or s 0 0) (part 3 (size s) s)

abbrev IsWhole : List ℕ → Type 0
IsWhole s = 3 + size s ≤ length s

-- Bytes that are fewer than the head says, or than a head has, are no whole field.
pub is_cut_lem : (s : List ℕ) → length s < 3 + size s → None ≡ field_at s 0
is_cut_lem s over = ⊎_elim (λ short. cut_short s 0 short) (λ head. cut_over s 0 head over) (below_or (length s) 3 (ltb (length s) 3) refl)

whole_or_cut : (s : List ℕ) → IsWhole s ⊎ (None ≡ field_at s 0)
whole_or_cut s = ⊎_elim (λ over. inr (is_cut_lem s over)) (λ fits. inl fits) (below_or (length s) (3 + size s) (ltb (length s) (3 + size s)) refl)

items_whole : (n : ℕ) (log : Log) (s : List ℕ) → IsWhole s
    → consumed_up_to (suc n) log s ≡ after (done log s).text (consumed_up_to n (done log s).log (drop (3 + size s) s))
unfolding consumed_up_to
items_whole n log s h = ap (first_then log s (λ l r. consumed_up_to n l r)) (sym (whole s 0 h))

items_cut : (n : ℕ) (log : Log) (s : List ℕ) → None ≡ field_at s 0 → consumed_up_to (suc n) log s ≡ no_item log s
unfolding consumed_up_to
items_cut n log s e = ap (first_then log s (λ l r. consumed_up_to n l r)) (sym e)

items_none : (log : Log) (s : List ℕ) → consumed_up_to zero log s ≡ no_item log s
unfolding consumed_up_to
items_none log s = refl

-- There are no more items than bytes.
enough : (n m : ℕ) (log : Log) (s : List ℕ) → length s ≤ n → length s ≤ m → consumed_up_to n log s ≡ consumed_up_to m log s
enough zero zero log s h k = refl
enough zero (suc m) log s h k = items_none log s ∙ sym (items_cut m log s (cut_short s 0 (omega arith)))
enough (suc n) zero log s h k = items_cut n log s (cut_short s 0 (omega arith)) ∙ sym (items_none log s)
enough (suc n) (suc m) log s h k =
    ⊎_elim
    (λ w.
    let left = length-drop (3 + size s) s in
    items_whole n log s w ∙ ap (after (done log s).text) (enough n m (done log s).log (drop (3 + size s) s) (omega arith) (omega arith))
    ∙ sym (items_whole m log s w))
    (λ e. items_cut n log s e ∙ sym (items_cut m log s e))
    (whole_or_cut s)

pub consumed-whole : (log : Log) (s : List ℕ) → IsWhole s → consumed log s ≡ after (done log s).text (consumed (done log s).log (drop (3 + size s) s))
unfolding consumed
consumed-whole log s w =
    let left = length-drop (3 + size s) s in
    enough (length s) (suc (length s)) log s (omega arith) (omega arith) ∙ items_whole (length s) log s w
    ∙ ap (after (done log s).text) (enough (length s) (length (drop (3 + size s) s)) (done log s).log (drop (3 + size s) s) (omega arith) (omega arith))

pub consumed_cut : (log : Log) (s : List ℕ) → None ≡ field_at s 0 → consumed log s ≡ no_item log s
unfolding consumed
consumed_cut log s e = enough (length s) (suc (length s)) log s (omega arith) (omega arith) ∙ items_cut (length s) log s e

-- The first field, whatever comes behind it.
module _ (xs ys : List ℕ) (w : IsWhole xs) where
  head_stays : (at n : ℕ) → at + n ≤ length xs → part at n (xs ++ ys) ≡ part at n xs
  head_stays at n h =
      let left = length-drop at xs in
      ap (take n) (drop-append-le at xs ys (omega arith)) ∙ take-append-le n (drop at xs) ys (omega arith)

  size_stays : size (xs ++ ys) ≡ size xs
  size_stays = ap number (head_stays 1 2 (omega arith))

  done_stays : (log : Log) → done log (xs ++ ys) ≡ done log xs
  done_stays log =
      ap₂ (item_done log) (get_or-append xs ys 0 0 (omega arith))
      (ap (λ (n : ℕ). part 3 n (xs ++ ys)) size_stays ∙ head_stays 3 (size xs) (omega arith))

  rest_stays : drop (3 + size (xs ++ ys)) (xs ++ ys) ≡ drop (3 + size xs) xs ++ ys
  rest_stays = ap (λ (n : ℕ). drop (3 + n) (xs ++ ys)) size_stays ∙ drop-append-le (3 + size xs) xs ys w

  whole_stays : IsWhole (xs ++ ys)
  whole_stays = omega (arith, size_stays, length-append xs ys)

after-after : (t u : List ℕ) (c : Consumed) → after t (after u c) ≡ after (t ++ u) c
after-after t u c = λ i. record { text = sym (append_assoc t u c.text) i; log = c.log; rest = c.rest }

-- What more bytes bring, behind what was consumed.
abbrev more : Consumed → List ℕ → Consumed
more c ys = after c.text (consumed c.log (c.rest ++ ys))

none_yet : (log : Log) (xs ys : List ℕ) → None ≡ field_at xs 0 → consumed log (xs ++ ys) ≡ more (consumed log xs) ys
none_yet log xs ys e = sym (ap (λ (c : Consumed). more c ys) (consumed_cut log xs e))

cut_at : (m : ℕ) (log : Log) (xs ys : List ℕ) → length xs ≤ m → consumed log (xs ++ ys) ≡ more (consumed log xs) ys
cut_at zero log xs ys h = none_yet log xs ys (cut_short xs 0 (omega arith))
cut_at (suc m) log xs ys h =
    ⊎_elim
    (λ w.
    let left = length-drop (3 + size xs) xs in
    let d = done log xs in
    let rest = drop (3 + size xs) xs in
    consumed-whole log (xs ++ ys) (whole_stays xs ys w)
    ∙ ap₂ (λ (o : Outcome) (r : List ℕ). after o.text (consumed o.log r)) (done_stays xs ys w log) (rest_stays xs ys w)
    ∙ ap (after d.text) (cut_at m d.log rest ys (omega arith))
    ∙ after-after d.text (consumed d.log rest).text _
    ∙ sym (ap (λ (c : Consumed). more c ys) (consumed-whole log xs w)))
    (λ e. none_yet log xs ys e)
    (whole_or_cut xs)

-- Bytes that come in two parts.
pub consumed-append : (log : Log) (xs ys : List ℕ) → consumed log (xs ++ ys) ≡ more (consumed log xs) ys
consumed-append log xs ys = cut_at (length xs) log xs ys (omega arith)
