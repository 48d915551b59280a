-- A stretch of whole items that is done at once is what their bytes bring one after the other.
-- Assumes nothing.
use mathlib.Core.Path.{◌≡◌, refl, sym, ap, subst, ◌∙◌}
use mathlib.Core.Bool.{Bool, true, ◌&&◌}
use mathlib.Core.List.{List, []}
use Prim.Native.Nat.{ℕ, zero, suc, ◌+◌, ◌^◌, ◌≤◌, ◌<◌}
use native.Mathlib.Omega.{arith}
use borrow.Author.Tests.{eqb-true}
use lib.Dec.{eqb}
use lib.ListN.{length, get_or, take, drop, length-drop}
use lib.Seq.{sets, length-sets, drop-drop, get_or-drop}
use Rattle.wire.specs.Bytes.{number, part}
use Rattle.laws.proofs.Tests.{Tested, passed, failed, tested, and_both}
use Rattle.text.specs.Text.{behind}
use Rattle.text.proofs.Places.{Put, then, none}
use Rattle.journal.specs.declared.Log.{Log}
use Rattle.journal.specs.Log.{item_done}
use Rattle.stretch.specs.declared.Stretch.{Stretch}
use Rattle.coming.specs.Coming.{size_at, comes, has_room}
use Rattle.stretch.specs.Doing.{Did, item_at, after, did, did_all, Does}
use Rattle.coming.proofs.Coming.{whole_there}
use Rattle.stretch.proofs.Going.{did_zero, did_more, did_none, did-within}
use Rattle.pieces.specs.declared.Waiting.{Waiting}
use Rattle.pieces.specs.Machine.{nothing}
use Rattle.pieces.proofs.Feeding.{Ran, place_fits}
use Rattle.pieces.proofs.Coming.{ran_item}

-- A part of what is left of a piece is a part of the piece.
part-drop : (a n i : ℕ) (l : List ℕ) → part a n (drop i l) ≡ part (i + a) n l
part-drop a n i l = ap (take n) (drop-drop a i l)

module _ (log₀ : Log) (w₀ : Waiting) (piece room : List ℕ) (small : length room < 2 ^ 64) (i : ℕ) (inside : i ≤ length piece) where
  abbrev rest : List ℕ
  rest = drop i piece

  left_long : {k : ℕ} {log : Log} {w : Waiting} {at : ℕ} {left : List ℕ} → Ran log₀ w₀ piece room k log w at left → length left ≡ length room
  left_long r = ap (λ (l : List ℕ). length l) r.stored.bytes ∙ simp length-sets

  ran_at : {k k₁ : ℕ} {log log₁ : Log} {w : Waiting} {at at₁ : ℕ} {left left₁ : List ℕ} → k ≡ k₁ → log ≡ log₁ → at ≡ at₁ → left ≡ left₁ → Ran log₀ w₀ piece room k log w at left → Ran log₀ w₀ piece room k₁ log₁ w at₁ left₁
  ran_at {w = w} e f g h r = subst (λ (x : ℕ × Log × ℕ × List ℕ). Ran log₀ w₀ piece room x.0 x.1 w x.2 x.3) (λ j. (e j, f j, g j, h j)) r

  -- One item.
  ran_one : (j : ℕ) {log : Log} {w : Waiting} {at : ℕ} {left : List ℕ} → Ran log₀ w₀ piece room (i + j) log w at left → length w.bytes ≡ 19 → w.have ≡ 0
      → comes log.board.window.counts.size rest j && has_room (length room) at ≡ true
      → Ran log₀ w₀ piece room (i + (j + (3 + size_at rest j))) (item_at log rest j).log nothing (behind at (item_at log rest j).text) (sets left at (item_at log rest j).text)
  ran_one j {log} {w} {at} {left} r full free t =
      let both = and_both (comes log.board.window.counts.size rest j) (has_room (length room) at) t in
      let there = whole_there rest j log.board.window.counts.size both.0 in
      let v = size_at rest j in
      let one : i + j + 1 ≡ i + (j + 1) = omega arith in
      let three : i + j + 3 ≡ i + (j + 3) = omega arith in
      let size : number (part (i + j + 1) 2 piece) ≡ v = ap number (ap (λ (k : ℕ). part k 2 piece) one ∙ sym (part-drop (j + 1) 2 i piece)) in
      let value : part (i + j + 3) v piece ≡ part (j + 3) v rest = ap (λ (k : ℕ). part k v piece) three ∙ sym (part-drop (j + 3) v i piece) in
      let end : i + j + (3 + v) ≡ i + (j + (3 + v)) = omega arith in
      let done = item_at log rest j in
      let e : item_done log (get_or rest j 0) (part (i + j + 3) v piece) ≡ record { text = done.text; log = done.log } = ap (item_done log (get_or rest j 0)) value in
      ran_at end (λ k. done.log) (λ k. behind at done.text) (λ k. sets left at done.text)
      (ran_item log₀ w₀ piece room (get_or rest j 0) v done.text there.1 small (omega (arith, there.0, length-drop i piece)) r both.1 full free (sym (get_or-drop i piece j 0)) size e (λ k. nothing) (record { place = λ k. behind at done.text; bytes = λ k. sets left at done.text }))

  -- No item, and an item before others.
  ran_none : (d : Did) (j : ℕ) {log : Log} {at : ℕ} {left : List ℕ} → d ≡ record { text = []; log = log; next = j } → Ran log₀ w₀ piece room (i + j) log nothing at left
      → Ran log₀ w₀ piece room (i + d.next) d.log nothing (behind at d.text) (sets left at d.text)
  ran_none d j {at = at} {left = left} e r =
      let p = none left at (place_fits room 0 _ r.stored) in
      ran_at (λ k. i + (sym e k).next) (λ k. (sym e k).log) (p.place ∙ ap (λ (x : Did). behind at x.text) (sym e)) (p.bytes ∙ ap (λ (x : Did). sets left at x.text) (sym e)) r

  ran_after : (d m : Did) (text : List ℕ) (at : ℕ) (left : List ℕ) → length left < 2 ^ 64 → d ≡ after text m
      → Ran log₀ w₀ piece room (i + m.next) m.log nothing (behind (behind at text) m.text) (sets (sets left at text) (behind at text) m.text)
      → Ran log₀ w₀ piece room (i + d.next) d.log nothing (behind at d.text) (sets left at d.text)
  ran_after d m text at left fits e r =
      let first : Put left at text (behind at text) (sets left at text) = record { place = refl; bytes = refl } in
      let p = then {w = m.text} fits first (record { place = refl; bytes = refl }) in
      ran_at (λ k. i + (sym e k).next) (λ k. (sym e k).log) (p.place ∙ ap (λ (x : Did). behind at x.text) (sym e)) (p.bytes ∙ ap (λ (x : Did). sets left at x.text) (sym e)) r

  -- All that are done from there, where nothing waits.
  ran_did : (n j : ℕ) {log : Log} {at : ℕ} {left : List ℕ} → Ran log₀ w₀ piece room (i + j) log nothing at left
      → Ran log₀ w₀ piece room (i + (did n (length room) at log rest j).next) (did n (length room) at log rest j).log nothing (behind at (did n (length room) at log rest j).text) (sets left at (did n (length room) at log rest j).text)
  ran_did zero j {log} {at} {left} r = ran_none (did zero (length room) at log rest j) j (did_zero (length room) rest at log j) r
  ran_did (suc n) j {log} {at} {left} r = go (tested (comes log.board.window.counts.size rest j && has_room (length room) at)) (λ k l a s. ran_did n k {log = l} {at = a} {left = s})
    where
      go : Tested (comes log.board.window.counts.size rest j && has_room (length room) at)
          → ((k : ℕ) (l : Log) (a : ℕ) (s : List ℕ) → Ran log₀ w₀ piece room (i + k) l nothing a s → Ran log₀ w₀ piece room (i + (did n (length room) a l rest k).next) (did n (length room) a l rest k).log nothing (behind a (did n (length room) a l rest k).text) (sets s a (did n (length room) a l rest k).text))
          → Ran log₀ w₀ piece room (i + (did (suc n) (length room) at log rest j).next) (did (suc n) (length room) at log rest j).log nothing (behind at (did (suc n) (length room) at log rest j).text) (sets left at (did (suc n) (length room) at log rest j).text)
      go (passed t) more =
          let done = item_at log rest j in
          ran_after (did (suc n) (length room) at log rest j) (did n (length room) (behind at done.text) done.log rest (j + (3 + size_at rest j))) done.text at left (omega (arith, left_long r)) (did_more (length room) rest n at log j t)
          (more (j + (3 + size_at rest j)) done.log (behind at done.text) (sets left at done.text) (ran_one j r refl refl t))
      go (failed t) more = ran_none (did (suc n) (length room) at log rest j) j (did_none (length room) rest (suc n) at log j t) r

  -- The claim: what the stretch answers is what its bytes bring, and it takes one at least.
  ran_stretch : {log : Log} {w : Waiting} {at : ℕ} {left : List ℕ} {r : Stretch} {left₁ : List ℕ} → Ran log₀ w₀ piece room i log w at left → length w.bytes ≡ 19 → w.have ≡ 0
      → comes log.board.window.counts.size rest 0 ≡ true → has_room (length room) at ≡ true → Does log rest left at r left₁
      → Ran log₀ w₀ piece room (i + r.taken) r.log nothing r.at left₁ × (1 ≤ r.taken) × (i + r.taken ≤ length piece)
  ran_stretch {log} {w} {at} {left} {r} {left₁} s full free c has d = go (length rest) refl
    where
      go : (n : ℕ) → n ≡ length rest → Ran log₀ w₀ piece room (i + r.taken) r.log nothing r.at left₁ × (1 ≤ r.taken) × (i + r.taken ≤ length piece)
      go zero e = absurd (omega (arith, (whole_there rest 0 log.board.window.counts.size c).0))
      go (suc m) e =
          let t : comes log.board.window.counts.size rest 0 && has_room (length room) at ≡ true = rw (c, has) in
          let done = item_at log rest 0 in
          let end = 0 + (3 + size_at rest 0) in
          let later = did m (length room) (behind at done.text) done.log rest end in
          let is : did_all (length left) at log rest ≡ after done.text later =
          (λ k. did (sym e k) (left_long s k) at log rest 0) ∙ did_more (length room) rest m at log 0 t in
          let start : i ≡ i + 0 = omega arith in
          let first = ran_one 0 (ran_at start (λ k. log) (λ k. at) (λ k. left) s) full free t in
          let whole = ran_after (did_all (length left) at log rest) later done.text at left (omega (arith, left_long s)) is (ran_did m end first) in
          let taken = d.taken ∙ ap (λ (x : Did). x.next) is in
          let within = did-within (length room) rest m (behind at done.text) done.log end (whole_there rest 0 log.board.window.counts.size c).0 in
          (ran_at (ap (λ (k : ℕ). i + k) (sym d.taken)) (sym d.leaves) (sym d.place) (sym d.stored) whole, omega (arith, within.0, taken), omega (arith, within.1, taken, length-drop i piece))

  -- The same of what the code holds.
  pub stretch_fed : {log : Log} {w w₁ : Waiting} {at : ℕ} {left tail : List ℕ} {r : Stretch} {left₁ : List ℕ} {b : Bool} → Ran log₀ w₀ piece room i log w at left → length w.bytes ≡ 19
      → b ≡ (eqb w.have 0 && comes log.board.window.counts.size tail 0) → b ≡ true → has_room (length room) at ≡ true → tail ≡ rest → Does log tail left at r left₁ → w₁ ≡ nothing
      → Ran log₀ w₀ piece room (i + r.taken) r.log w₁ r.at left₁ × (1 ≤ r.taken) × (i + r.taken ≤ length piece)
  stretch_fed {log} {w} {w₁} {at} {left} {tail} {r} {left₁} s full e t has f d n =
      let both = and_both (eqb w.have 0) (comes log.board.window.counts.size tail 0) (sym e ∙ t) in
      let c = ap (λ (l : List ℕ). comes log.board.window.counts.size l 0) (sym f) ∙ both.1 in
      let done = ran_stretch s full (eqb-true w.have 0 both.0) c has (subst (λ (l : List ℕ). Does log l left at r left₁) f d) in
      (subst (λ (x : Waiting). Ran log₀ w₀ piece room (i + r.taken) r.log x r.at left₁) (sym n) done.0, done.1, done.2)
