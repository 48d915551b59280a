-- The machine writes the text that its log fixes: byte by byte it prints the whole items that have come and leaves their log, and what waits
-- stands for the bytes behind them.
-- Assumes nothing.
use mathlib.Core.Path.{◌≡◌, refl, sym, ap, ap₂, ◌∙◌, subst}
use mathlib.Core.Bool.{true, false}
use mathlib.Core.Logic.{⊎_elim}
use mathlib.Core.List.{List, [], ◌∷◌, ◌++◌, append-nil}
use Prim.Native.Nat.{ℕ, zero, suc, ◌+◌, ◌≤◌, ◌<◌}
use native.Mathlib.Omega.{arith}
use borrow.Author.Tests.{le-leb, lt-leb, eq-eqb, ne_eqb}
use lib.Dec.{ltb}
use lib.ListN.{length, get_or, take, drop, length-append, length-take, length-drop, get_or-append, drop_of_length-le}
use lib.Seq.{append_snoc, get_or-take, get_or-drop, ext_get_or}
use Rattle.wire.specs.Bytes.{part}
use Rattle.wire.proofs.Numbers.{Bytes, number_two}
use Rattle.wire.proofs.Fields.{cut_short, length_part}
use Rattle.laws.proofs.Tests.{if_so, if_not}
use Rattle.text.proofs.Decimal.{below_or}
use Rattle.journal.specs.declared.Log.{Log}
use Rattle.pieces.specs.declared.Waiting.{Waiting}
use Rattle.journal.specs.Log.{Outcome, Consumed, item_done, after, consumed, ending, text_from, fresh_log, log_text}
use Rattle.pieces.specs.Machine.{Came, nothing, with_byte, size_in, is_whole, value_end, value_in, came, bytes_came, end_line}
use Rattle.journal.proofs.Cutting.{size, done, is_cut_lem, consumed-whole, consumed_cut, consumed-append}
use Rattle.pieces.proofs.Feeding.{came-whole, came_not}
use Rattle.pieces.proofs.Waits.{Holds, holds-nothing, holds_more, holds-size, too_long}

-- What waits stands for bytes that are no whole item.
pub record Stands (w : Waiting) (p : List ℕ) : Type 0 where
  pub holds : Holds w p
  pub bytes : Bytes p
  pub part-only : length p < 3 + size p

pub stands_nothing : Stands nothing []
stands_nothing = record { holds = holds-nothing; bytes = λ i. omega arith; part-only = omega arith }

-- What came is what the items bring that its bytes start with.
pub record Agrees (c : Came) (d : Consumed) : Type 0 where
  pub text : c.text ≡ d.text
  pub log : c.log ≡ d.log
  pub waits : Stands c.waiting d.rest

-- The length of two bytes is below 65,536.
size_below : (p : List ℕ) → Bytes p → size p < 65536
size_below p h = omega (arith, number_two p 1, h 1, h 2)

bytes_more : (p : List ℕ) (b : ℕ) → Bytes p → b < 256 → Bytes (p ++ b ∷ [])
bytes_more [] b h k zero = k
bytes_more [] b h k (suc i) = omega arith
bytes_more (a ∷ p) b h k zero = h 0
bytes_more (a ∷ p) b h k (suc i) = bytes_more p b (λ j. h (suc j)) k i

-- ---- the item that has come whole

module _ (log : Log) (n : Waiting) (q : List ℕ) (h : Holds n q) (exact : length q ≡ 3 + size q) where
  sized : size_in n ≡ size q
  sized = holds-size n q h (omega arith)

  tag_same : get_or n.bytes 0 0 ≡ get_or q 0 0
  tag_same = h.front 0 (omega arith) (omega arith)

  value_same : size q ≤ 16 → value_in n ≡ part 3 (size q) q
  unfolding value_in value_end
  value_same few =
      let end : value_end (size_in n) ≡ 3 + size q = ap value_end sized ∙ if_so _ _ (le-leb (size q) 16 few) in
      let room = h.room in
      let left : length (drop 3 (take (3 + size q) n.bytes)) ≡ size q = simp (length-drop, length-take) (omega arith) in
      let right : length (part 3 (size q) q) ≡ size q = length_part q 3 (size q) (omega arith) in
      ap (λ (e : ℕ). drop 3 (take e n.bytes)) end
      ∙ ext_get_or 0 (drop 3 (take (3 + size q) n.bytes)) (part 3 (size q) q) (left ∙ sym right)
      (λ i k.
      get_or-drop 3 (take (3 + size q) n.bytes) i 0 ∙ get_or-take (3 + size q) n.bytes (3 + i) 0 (omega arith) ∙ h.front (3 + i) (omega arith) (omega arith)
      ∙ sym (get_or-take (size q) (drop 3 q) i 0 (omega arith) ∙ get_or-drop 3 q i 0))

  value_none : 16 < size q → value_in n ≡ []
  unfolding value_in value_end
  value_none many =
      let end : value_end (size_in n) ≡ 3 = ap value_end sized ∙ if_not _ _ (lt-leb (size q) 16 many) in
      ap (λ (e : ℕ). drop 3 (take e n.bytes)) end ∙ drop_of_length-le (take 3 n.bytes) {i = 3} (simp length-take (omega arith))

  -- It is done as the field that stands there.
  pub item-same : item_done log (get_or n.bytes 0 0) (value_in n) ≡ done log q
  item-same =
      ⊎_elim
      (λ many.
      ap₂ (item_done log) tag_same (value_none many)
      ∙ sym (too_long log (get_or q 0 0) (part 3 (size q) q) (omega (arith, length_part q 3 (size q) (omega arith)))))
      (λ few. ap₂ (item_done log) tag_same (value_same few))
      (below_or 16 (size q) (ltb 16 (size q)) refl)

-- ---- one byte more

module _ (log : Log) (w : Waiting) (p : List ℕ) (b : ℕ) (s : Stands w p) (byte : b < 256) where
  more : List ℕ
  more = p ++ b ∷ []

  longer : length more ≡ length p + 1
  unfolding more
  longer = length-append p (b ∷ [])

  more_bytes : Bytes more
  unfolding more
  more_bytes = bytes_more p b s.bytes byte

  more_holds : Holds (with_byte w b) more
  unfolding more
  more_holds = holds_more w p b s.holds (omega (arith, s.part-only, size_below p s.bytes))

  head-same : (i : ℕ) → i < length p → get_or more i 0 ≡ get_or p i 0
  unfolding more
  head-same i h = get_or-append p (b ∷ []) 0 i h

  -- An item that is whole with this byte ends with it.
  at_most : length more ≤ 3 + size more
  at_most =
      ⊎_elim (λ short. omega (arith, longer))
      (λ head. omega (arith, longer, s.part-only, number_two p 1, number_two more 1, head-same 1 (omega arith), head-same 2 (omega arith)))
      (below_or (length p) 3 (ltb (length p) 3) refl)

  has-come : length more ≡ 3 + size more → is_whole (with_byte w b) ≡ true
  unfolding is_whole
  has-come exact = le-leb (3 + size_in (with_byte w b)) (with_byte w b).have (omega (arith, more_holds.counts, holds-size (with_byte w b) more more_holds (omega arith)))

  not_yet : length more < 3 + size more → is_whole (with_byte w b) ≡ false
  unfolding is_whole
  not_yet part-only =
      lt-leb (3 + size_in (with_byte w b)) (with_byte w b).have
      (⊎_elim (λ short. omega (arith, more_holds.counts)) (λ head. omega (arith, more_holds.counts, holds-size (with_byte w b) more more_holds head))
      (below_or (length more) 3 (ltb (length more) 3) refl))

  whole_agrees : length more ≡ 3 + size more → Agrees (came log w b) (consumed log more)
  whole_agrees exact =
      let c = came-whole log w b refl (has-come exact) ∙ ap (λ (o : Outcome). record { text = o.text; log = o.log; waiting = nothing }) (item-same log (with_byte w b) more more_holds exact) in
      let rest : drop (3 + size more) more ≡ [] = drop_of_length-le more {i = 3 + size more} (omega arith) in
      let d = consumed-whole log more (omega arith) ∙ ap (λ (r : List ℕ). after (done log more).text (consumed (done log more).log r)) rest
      ∙ ap (after (done log more).text) (consumed_cut (done log more).log [] (cut_short [] 0 (omega arith))) in
      record {
        text = ap (λ (x : Came). x.text) c ∙ sym (ap (λ (x : Consumed). x.text) d ∙ append-nil (done log more).text);
        log = ap (λ (x : Came). x.log) c ∙ sym (ap (λ (x : Consumed). x.log) d);
        waits = subst (λ (x : Came). Stands x.waiting (consumed log more).rest) (sym c) (subst (λ (x : Consumed). Stands nothing x.rest) (sym d) stands_nothing);
      }

  waits_agrees : length more < 3 + size more → Agrees (came log w b) (consumed log more)
  waits_agrees part-only =
      let c = came_not log w b refl (not_yet part-only) in
      let d = consumed_cut log more (is_cut_lem more part-only) in
      record {
        text = ap (λ (x : Came). x.text) c ∙ sym (ap (λ (x : Consumed). x.text) d);
        log = ap (λ (x : Came). x.log) c ∙ sym (ap (λ (x : Consumed). x.log) d);
        waits = subst (λ (x : Came). Stands x.waiting (consumed log more).rest) (sym c) (subst (λ (x : Consumed). Stands (with_byte w b) x.rest) (sym d) (record { holds = more_holds; bytes = more_bytes; part-only = part-only }));
      }

  pub came_agrees : Agrees (came log w b) (consumed log (p ++ b ∷ []))
  unfolding more
  came_agrees =
      ⊎_elim (λ less. waits_agrees less) (λ all. whole_agrees (omega (arith, at_most))) (below_or (length more) (3 + size more) (ltb (length more) (3 + size more)) refl)

-- ---- all bytes

pub run_agrees : (bs : List ℕ) (log : Log) (w : Waiting) (p : List ℕ) → Stands w p → Bytes bs → Agrees (bytes_came log w bs) (consumed log (p ++ bs))
unfolding bytes_came
run_agrees [] log w p s h =
    let d = ap (consumed log) (append-nil p) ∙ consumed_cut log p (is_cut_lem p s.part-only) in
    subst (Agrees (record { text = []; log = log; waiting = w })) (sym d) (record { text = refl; log = refl; waits = s })
run_agrees (b ∷ bs) log w p s h =
    let one = came_agrees log w p b s (h 0) in
    let c = consumed log (p ++ b ∷ []) in
    let rest = run_agrees bs (came log w b).log (came log w b).waiting c.rest one.waits (λ i. h (suc i)) in
    let d : consumed log (p ++ b ∷ bs) ≡ after c.text (consumed (came log w b).log (c.rest ++ bs)) =
    ap (consumed log) (sym (append_snoc p b bs)) ∙ consumed-append log (p ++ b ∷ []) bs
    ∙ ap (λ (l : Log). after c.text (consumed l (c.rest ++ bs))) (sym one.log) in
    subst (Agrees (bytes_came log w (b ∷ bs))) (sym d)
    (record { text = ap₂ ◌++◌ one.text rest.text; log = rest.log; waits = rest.waits })

-- What is printed at the end.
end_same : (log : Log) (w : Waiting) (p : List ℕ) → Holds w p → end_line log w ≡ ending log p
unfolding end_line ending
end_same log w [] h = if_so _ _ (eq-eqb w.have 0 h.counts)
end_same log w (b ∷ p) h = if_not _ _ (ne_eqb w.have 0 (λ e. omega (arith, h.counts)))

-- A log that goes on from what waits.
pub run_text : (bs : List ℕ) (log : Log) (w : Waiting) (p : List ℕ) → Stands w p → Bytes bs
    → (bytes_came log w bs).text ++ end_line (bytes_came log w bs).log (bytes_came log w bs).waiting ≡ text_from log (p ++ bs)
unfolding text_from
run_text bs log w p s h =
    let a = run_agrees bs log w p s h in
    ap₂ ◌++◌ a.text (ap (λ (l : Log). end_line l (bytes_came log w bs).waiting) a.log ∙ end_same (consumed log (p ++ bs)).log (bytes_came log w bs).waiting (consumed log (p ++ bs)).rest a.waits.holds)

-- The claim: the bytes of a whole log, one after the other, and then its end, print the text that the log fixes.
pub writes : (bs : List ℕ) → Bytes bs → (bytes_came fresh_log nothing bs).text ++ end_line (bytes_came fresh_log nothing bs).log (bytes_came fresh_log nothing bs).waiting ≡ log_text bs
unfolding log_text
writes bs h = run_text bs fresh_log nothing [] stands_nothing h
