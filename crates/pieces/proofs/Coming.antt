-- An item whose bytes come in a row is done with the last of them: none before it makes it whole, and then its value stands there.
-- Assumes nothing.
use mathlib.Core.Path.{◌≡◌, refl, sym, ap, ap₂, subst, ◌∙◌}
use mathlib.Core.Bool.{true, false}
use mathlib.Core.Logic.{⊎_elim}
use mathlib.Core.List.{List, [], ◌∷◌, ◌++◌, append-nil}
use Prim.Native.Nat.{ℕ, zero, suc, ◌+◌, ◌*◌, ◌-◌, ◌^◌, ◌≤◌, ◌<◌}
use native.Mathlib.Omega.{arith}
use borrow.Author.Tests.{le-leb, lt-leb}
use lib.Dec.{ltb}
use lib.ListN.{length, get_or, take, drop, length-drop}
use lib.Seq.{take_all, take-suc, take-take, take-add, get_or-take, get_or-drop, ext_get_or, length-take-le}
use Rattle.wire.specs.Bytes.{number, part}
use Rattle.wire.proofs.Numbers.{number_two}
use Rattle.wire.proofs.Fields.{length_part}
use Rattle.text.specs.Text.{behind}
use Rattle.text.proofs.Decimal.{below_or}
use Rattle.text.proofs.Places.{Put, then, said}
use Rattle.journal.specs.declared.Log.{Log}
use Rattle.pieces.specs.declared.Waiting.{Waiting}
use Rattle.journal.specs.Log.{Outcome, item_done}
use Rattle.coming.specs.Coming.{has_room}
use Rattle.coming.proofs.Parts.{part-part}
use Rattle.pieces.specs.Machine.{Came, nothing, with_byte, is_whole, size_in, value_end, value_in, bytes_came, front_came}
use Rattle.pieces.proofs.Waits.{Holds, holds_more, holds-size}
use Rattle.pieces.proofs.Feeding.{Ran, step, run_more, run_append, came-whole, came_not}

-- What has come is no whole item, and waits.
record Still (log : Log) (p : List ℕ) (c : Came) : Type 0 where
  text : c.text ≡ []
  same : c.log ≡ log
  holds : Holds c.waiting p

module _ (log : Log) (w : Waiting) (bs : List ℕ) (room : length w.bytes ≡ 19) (none : w.have ≡ 0) (v : ℕ) (few : v ≤ 16) (all : length bs ≡ 3 + v) (size : number (part 1 2 bs) ≡ v) where
  -- The length in what has come is that of the item, once its head has come.
  size_so : (n : Waiting) (m : ℕ) → 3 ≤ m → m ≤ 3 + v → Holds n (take m bs) → size_in n ≡ v
  size_so n m three most h =
      holds-size n (take m bs) h (omega (arith, length-take-le m bs (omega (arith, all))))
      ∙ number_two (take m bs) 1
      ∙ ap₂ (λ (x y : ℕ). x + 256 * y) (get_or-take m bs 1 0 (omega arith)) (get_or-take m bs 2 0 (omega arith))
      ∙ sym (number_two bs 1) ∙ size

  not_whole : (n : Waiting) (m : ℕ) → m < 3 + v → Holds n (take m bs) → is_whole n ≡ false
  unfolding is_whole
  not_whole n m less h =
      let have : n.have ≡ m = h.counts ∙ length-take-le m bs (omega (arith, all)) in
      ⊎_elim (λ head. lt-leb (3 + size_in n) n.have (omega arith))
      (λ three. lt-leb (3 + size_in n) n.have (omega (arith, size_so n m three (omega arith) h)))
      (below_or m 3 (ltb m 3) refl)

  next_byte : (m : ℕ) → m < 3 + v → take (suc m) bs ≡ take m bs ++ get_or bs m 0 ∷ []
  next_byte m h = take-suc bs m 0 (omega (arith, all))

  still_more : (m : ℕ) → suc m < 3 + v → (c : Came) → Still log (take m bs) c → Still log (take (suc m) bs) (step c (get_or bs m 0))
  still_more m less c s =
      let b = get_or bs m 0 in
      let n = with_byte c.waiting b in
      let more = holds_more c.waiting (take m bs) b s.holds (omega (arith, length-take-le m bs (omega (arith, all)))) in
      let here : Holds n (take (suc m) bs) = subst (Holds n) (sym (next_byte m (omega arith))) more in
      let not = came_not c.log c.waiting b refl (not_whole n (suc m) less here) in
      record {
        text = ap₂ (λ (x y : List ℕ). x ++ y) s.text (ap (λ (d : Came). d.text) not);
        same = ap (λ (d : Came). d.log) not ∙ s.same;
        holds = subst (λ (v : Waiting). Holds v (take (suc m) bs)) (sym (ap (λ (d : Came). d.waiting) not)) here;
      }

  still_none : Still log [] (bytes_came log w [])
  unfolding bytes_came
  still_none = record { text = refl; same = refl; holds = record { room = room; counts = none; front = λ i h k. absurd (omega arith); short = omega arith } }

  still : (m : ℕ) → m < 3 + v → Still log (take m bs) (bytes_came log w (take m bs))
  still zero less = still_none
  still (suc m) less =
      subst (Still log (take (suc m) bs)) (sym (run_more (take m bs) log w (get_or bs m 0)) ∙ ap (bytes_came log w) (sym (next_byte m (omega arith))))
      (still_more m less (bytes_came log w (take m bs)) (still m (omega arith)))

  -- With the last byte it is whole.
  module _ (tag : ℕ) (starts : get_or bs 0 0 ≡ tag) where
    abbrev end : ℕ
    end = 2 + v

    last_byte : take end bs ++ get_or bs end 0 ∷ [] ≡ bs
    last_byte = sym (next_byte end (omega arith)) ∙ take_all (suc end) bs (omega (arith, all))

    abbrev before : Came
    before = bytes_came log w (take end bs)

    abbrev last : Waiting
    last = with_byte before.waiting (get_or bs end 0)

    last_holds : Holds last bs
    last_holds =
        subst (Holds last) last_byte
        (holds_more before.waiting (take end bs) (get_or bs end 0) (still end (omega arith)).holds (omega (arith, length-take-le end bs (omega (arith, all)))))

    last_bytes : take (3 + v) last.bytes ≡ bs
    last_bytes =
        let long : length (take (3 + v) last.bytes) ≡ 3 + v = length-take-le (3 + v) last.bytes (omega (arith, last_holds.room)) in
        ext_get_or 0 (take (3 + v) last.bytes) bs (long ∙ sym all)
        (λ i h. get_or-take (3 + v) last.bytes i 0 (omega (arith, long)) ∙ last_holds.front i (omega (arith, long)) (omega (arith, all, long)))

    last_size : size_in last ≡ v
    last_size = holds-size last bs last_holds (omega (arith, all)) ∙ size

    last_whole : is_whole last ≡ true
    unfolding is_whole
    last_whole = le-leb (3 + size_in last) last.have (omega (arith, last_size, last_holds.counts, all))

    last_value : value_in last ≡ part 3 v bs
    unfolding value_in value_end
    last_value =
        rw (last_size, le-leb v 16 few)
        (ap (drop 3) last_bytes ∙ sym (take_all v (drop 3 bs) (omega (arith, length-drop 3 bs, all))))

    pub item_run : bytes_came log w bs ≡ record { text = (item_done log tag (part 3 v bs)).text; log = (item_done log tag (part 3 v bs)).log; waiting = nothing }
    item_run =
        let here = still end (omega arith) in
        let done = came-whole before.log before.waiting (get_or bs end 0) refl last_whole in
        let item : item_done before.log (get_or last.bytes 0 0) (value_in last) ≡ item_done log tag (part 3 v bs) =
        (λ i. item_done (here.same i) ((last_holds.front 0 (omega arith) (omega (arith, all)) ∙ starts) i) (last_value i)) in
        ap (bytes_came log w) (sym last_byte) ∙ run_more (take end bs) log w (get_or bs end 0)
        ∙ (λ i. record { text = here.text i ++ (done i).text; log = (done i).log; waiting = (done i).waiting })
        ∙ ap (λ (o : Outcome). record { text = o.text; log = o.log; waiting = nothing }) item

module _ (log : Log) (w : Waiting) (piece room : List ℕ) where
  later : (i j : ℕ) → front_came log w piece (i + j) ≡ record { text = (front_came log w piece i).text ++ (bytes_came (front_came log w piece i).log (front_came log w piece i).waiting (part i j piece)).text; log = (bytes_came (front_came log w piece i).log (front_came log w piece i).waiting (part i j piece)).log; waiting = (bytes_came (front_came log w piece i).log (front_came log w piece i).waiting (part i j piece)).waiting }
  later i j = ap (bytes_came log w) (take-add i j piece) ∙ run_append (take i piece) (part i j piece) log w

  pub ran_item : {i : ℕ} {log₁ log₂ : Log} {w₁ w₂ : Waiting} {at next : ℕ} {left₁ left₂ : List ℕ} (tag v : ℕ) (text : List ℕ) → v ≤ 16 → length room < 2 ^ 64 → i + (3 + v) ≤ length piece
      → Ran log w piece room i log₁ w₁ at left₁ → has_room (length room) at ≡ true
      → length w₁.bytes ≡ 19 → w₁.have ≡ 0 → get_or piece i 0 ≡ tag → number (part (i + 1) 2 piece) ≡ v
      → item_done log₁ tag (part (i + 3) v piece) ≡ record { text = text; log = log₂ } → w₂ ≡ nothing → Put left₁ at text next left₂
      → Ran log w piece room (i + (3 + v)) log₂ w₂ next left₂
  ran_item {i} {log₁} {log₂} {w₁} {w₂} tag v text few small h r has full none starts size e n p =
      let bs = part i (3 + v) piece in
      let all : length bs ≡ 3 + v = length_part piece i (3 + v) h in
      let there : get_or bs 0 0 ≡ tag = get_or-take (3 + v) (drop i piece) 0 0 (omega arith) ∙ get_or-drop i piece 0 0 ∙ ap (λ (k : ℕ). get_or piece k 0) (omega arith) ∙ starts in
      let long : number (part 1 2 bs) ≡ v = ap number (part-part 1 2 i (3 + v) piece (omega arith)) ∙ size in
      let whole : bytes_came log₁ w₁ bs ≡ record { text = text; log = log₂; waiting = nothing } =
      item_run log₁ w₁ bs full none v few all long tag there ∙ ap (λ (l : List ℕ). record { text = (item_done log₁ tag l).text; log = (item_done log₁ tag l).log; waiting = nothing }) (part-part 3 v i (3 + v) piece (omega arith))
      ∙ ap (λ (o : Outcome). record { text = o.text; log = o.log; waiting = nothing }) e in
      let here : bytes_came (front_came log w piece i).log (front_came log w piece i).waiting bs ≡ record { text = text; log = log₂; waiting = nothing } = (λ k. bytes_came (sym r.leaves k) (sym r.waits k) bs) ∙ whole in
      let next = later i (3 + v) ∙ ap (λ (d : Came). record { text = (front_came log w piece i).text ++ d.text; log = d.log; waiting = d.waiting }) here in
      record {
        leaves = sym (ap (λ (c : Came). c.log) next);
        waits = n ∙ sym (ap (λ (c : Came). c.waiting) next);
        stored = said (sym (ap (λ (c : Came). c.text) next)) (then small r.stored p);
        roomy =
            λ j k.
            ⊎_elim (λ less. r.roomy j less)
            (λ more.
            let m = j - i in
            let same : i + m ≡ j = omega arith in
            let silent : (bytes_came (front_came log w piece i).log (front_came log w piece i).waiting (part i m piece)).text ≡ [] =
            (λ q. (bytes_came (sym r.leaves q) (sym r.waits q) (part i m piece)).text) ∙ ap (λ (l : List ℕ). (bytes_came log₁ w₁ l).text) (sym (take-take m (3 + v) (drop i piece) (omega arith)))
            ∙ (still log₁ w₁ bs full none v few all long m (omega arith)).text in
            let text_so : (front_came log w piece j).text ≡ (front_came log w piece i).text =
            ap (λ (q : ℕ). (front_came log w piece q).text) (sym same) ∙ ap (λ (c : Came). c.text) (later i m) ∙ ap (λ (t : List ℕ). (front_came log w piece i).text ++ t) silent ∙ append-nil (front_came log w piece i).text in
            ap (λ (t : List ℕ). has_room (length room) (behind 0 t)) text_so ∙ ap (has_room (length room)) (sym r.stored.place) ∙ has)
            (below_or j i (ltb j i) refl);
      }
