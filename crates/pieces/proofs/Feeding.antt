-- One byte more is one step more: the text, the log and what waits grow at their ends.
-- Assumes nothing.
use mathlib.Core.Path.{◌≡◌, refl, sym, ap, ◌∙◌}
use mathlib.Core.Bool.{true, false}
use mathlib.Core.Logic.{⊎_elim}
use mathlib.Core.List.{List, [], ◌∷◌, ◌++◌, append_assoc, append-nil}
use Prim.Native.Nat.{ℕ, ◌+◌, ◌^◌, ◌≤◌, ◌<◌}
use native.Mathlib.Numerals.{add-one}
use native.Mathlib.Omega.{arith}
use lib.Dec.{ltb}
use lib.ListN.{length, get_or, take}
use lib.Seq.{take-suc}
use Rattle.laws.proofs.Tests.{if_so, if_not}
use Rattle.text.specs.Text.{behind}
use Rattle.text.proofs.Decimal.{below_or}
use Rattle.text.proofs.Places.{Put, then, said, none}
use Rattle.journal.specs.declared.Log.{Log}
use Rattle.pieces.specs.declared.Waiting.{Waiting}
use Rattle.journal.specs.Log.{item_done}
use Rattle.coming.specs.Coming.{has_room}
use Rattle.pieces.specs.Machine.{Came, nothing, with_byte, is_whole, value_in, came, bytes_came, front_came, Feeds}

-- What came, and what more bytes bring then.
abbrev pub follow : Came → List ℕ → Came
follow c bs =
    let d = bytes_came c.log c.waiting bs in
    record { text = c.text ++ d.text; log = d.log; waiting = d.waiting }

pub run_append : (bs cs : List ℕ) (log : Log) (w : Waiting) → bytes_came log w (bs ++ cs) ≡ follow (bytes_came log w bs) cs
unfolding bytes_came
run_append [] cs log w = refl
run_append (b ∷ bs) cs log w =
    let c = came log w b in
    let r = bytes_came c.log c.waiting bs in
    let d = bytes_came r.log r.waiting cs in
    let more = run_append bs cs c.log c.waiting in
    (λ i. record { text = c.text ++ (more i).text; log = (more i).log; waiting = (more i).waiting })
    ∙ (λ i. record { text = sym (append_assoc c.text r.text d.text) i; log = d.log; waiting = d.waiting })

-- What came, and a byte more.
abbrev pub step : Came → ℕ → Came
step c b =
    let d = came c.log c.waiting b in
    record { text = c.text ++ d.text; log = d.log; waiting = d.waiting }

follow_one : (c : Came) (b : ℕ) → follow c (b ∷ []) ≡ step c b
unfolding bytes_came
follow_one c b =
    let d = came c.log c.waiting b in
    λ i. record { text = c.text ++ append-nil d.text i; log = d.log; waiting = d.waiting }

pub run_more : (bs : List ℕ) (log : Log) (w : Waiting) (b : ℕ) → bytes_came log w (bs ++ b ∷ []) ≡ step (bytes_came log w bs) b
run_more bs log w b = run_append bs (b ∷ []) log w ∙ follow_one (bytes_came log w bs) b

-- The first i bytes of a piece have come.
pub record Ran (log : Log) (w : Waiting) (piece room : List ℕ) (i : ℕ) (log₁ : Log) (w₁ : Waiting) (at : ℕ) (left : List ℕ) : Type 0 where
  pub leaves : log₁ ≡ (front_came log w piece i).log
  pub waits : w₁ ≡ (front_came log w piece i).waiting
  pub stored : Put room 0 (front_came log w piece i).text at left
  pub roomy : (j : ℕ) → j < i → has_room (length room) (behind 0 (front_came log w piece j).text) ≡ true

module _ (log : Log) (w : Waiting) (piece room : List ℕ) where
  pub ran_none : Ran log w piece room 0 log w 0 room
  unfolding bytes_came
  ran_none = record { leaves = refl; waits = refl; stored = none room 0 (omega arith); roomy = λ j h. absurd (omega arith) }

  pub ran_next : (i : ℕ) → i < length piece → front_came log w piece (i + 1) ≡ step (front_came log w piece i) (get_or piece i 0)
  ran_next i h = ap (bytes_came log w) (ap (λ (n : ℕ). take n piece) (add-one i) ∙ take-suc piece i 0 h) ∙ run_more (take i piece) log w (get_or piece i 0)

  pub ran_more : {i : ℕ} {log₁ log₂ : Log} {w₁ w₂ : Waiting} {at next : ℕ} {left₁ left₂ : List ℕ} (text : List ℕ) → length room < 2 ^ 64 → i < length piece
      → Ran log w piece room i log₁ w₁ at left₁ → has_room (length room) at ≡ true
      → came log₁ w₁ (get_or piece i 0) ≡ record { text = text; log = log₂; waiting = w₂ } → Put left₁ at text next left₂
      → Ran log w piece room (i + 1) log₂ w₂ next left₂
  ran_more {i} {log₁} {log₂} {w₁} {w₂} text small h r has e p =
      let b = get_or piece i 0 in
      let here : came (front_came log w piece i).log (front_came log w piece i).waiting b ≡ record { text = text; log = log₂; waiting = w₂ } =
      (λ k. came (sym r.leaves k) (sym r.waits k) b) ∙ e in
      let next : front_came log w piece (i + 1) ≡ record { text = (front_came log w piece i).text ++ text; log = log₂; waiting = w₂ } =
      ran_next i h ∙ ap (λ (d : Came). record { text = (front_came log w piece i).text ++ d.text; log = d.log; waiting = d.waiting }) here in
      record {
        leaves = sym (ap (λ (c : Came). c.log) next);
        waits = sym (ap (λ (c : Came). c.waiting) next);
        stored = said (sym (ap (λ (c : Came). c.text) next)) (then small r.stored p);
        roomy =
            λ j k.
            ⊎_elim (λ less. r.roomy j less)
            (λ last.
            let same : j ≡ i = omega arith in
            ap (λ (m : ℕ). has_room (length room) (behind 0 (front_came log w piece m).text)) same ∙ ap (has_room (length room)) (sym r.stored.place) ∙ has)
            (below_or j i (ltb j i) refl);
      }

  -- What the first i bytes bring is what feeding answers, where there is no room for more.
  pub ran_feeds : {i : ℕ} {log₁ : Log} {w₁ : Waiting} {at : ℕ} {left : List ℕ} → i ≤ length piece → Ran log w piece room i log₁ w₁ at left
      → (i < length piece → has_room (length room) at ≡ false) → Feeds log w piece room (record { log = log₁; waiting = w₁; taken = i; written = at }) left
  ran_feeds h r full =
      record {
        within = h;
        leaves = r.leaves;
        waits = r.waits;
        place = r.stored.place;
        stored = r.stored.bytes;
        roomy = r.roomy;
        full = full;
      }

-- A place behind a text is one that a `usize` holds.
pub place_fits : (room : List ℕ) (at : ℕ) (text : List ℕ) {next : ℕ} {left : List ℕ} → Put room at text next left → next < 2 ^ 64
unfolding behind
place_fits room at text p = omega (arith, p.place)

-- The two cases of a byte.
module _ (log : Log) (w : Waiting) {n : Waiting} (b : ℕ) (e : n ≡ with_byte w b) where
  pub came-whole : is_whole n ≡ true
      → came log w b ≡ record { text = (item_done log (get_or n.bytes 0 0) (value_in n)).text; log = (item_done log (get_or n.bytes 0 0) (value_in n)).log; waiting = nothing }
  unfolding came
  came-whole t = if_so _ _ (ap is_whole (sym e) ∙ t) ∙ ap (λ (m : Waiting). record { text = (item_done log (get_or m.bytes 0 0) (value_in m)).text; log = (item_done log (get_or m.bytes 0 0) (value_in m)).log; waiting = nothing }) (sym e)

  pub came_not : is_whole n ≡ false → came log w b ≡ record { text = []; log = log; waiting = n }
  unfolding came
  came_not t = if_not _ _ (ap is_whole (sym e) ∙ t) ∙ ap (λ (m : Waiting). record { text = []; log = log; waiting = m }) (sym e)
