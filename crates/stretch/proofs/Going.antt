-- What was done so far, and what is still to do from there, is all that is to be done.
-- Assumes nothing.
use mathlib.Core.Path.{◌≡◌, refl, sym, ap, subst, ◌∙◌}
use mathlib.Core.Bool.{true, false, ◌&&◌}
use mathlib.Core.List.{List, [], ◌++◌, append_assoc, append-nil}
use Prim.Native.Nat.{ℕ, zero, suc, ◌+◌, ◌^◌, ◌≤◌, ◌<◌}
use native.Mathlib.Omega.{arith}
use lib.ListN.{length}
use Rattle.laws.proofs.Tests.{Tested, passed, failed, tested, and_both, if_so, if_not}
use Rattle.text.specs.Text.{behind}
use Rattle.text.proofs.Places.{Put, then, none}
use Rattle.journal.specs.declared.Log.{Log}
use Rattle.coming.specs.Coming.{size_at, comes, has_room}
use Rattle.coming.proofs.Coming.{whole_there}
use Rattle.stretch.specs.Doing.{Did, item_at, after, did, did_all}

module _ (room : ℕ) (bytes : List ℕ) where
  pub did_more : (n at : ℕ) (log : Log) (i : ℕ) → comes log.board.window.counts.size bytes i && has_room room at ≡ true
      → did (suc n) room at log bytes i ≡ after (item_at log bytes i).text (did n room (behind at (item_at log bytes i).text) (item_at log bytes i).log bytes (i + (3 + size_at bytes i)))
  unfolding did
  did_more n at log i t = if_so _ _ t

  pub did_none : (n at : ℕ) (log : Log) (i : ℕ) → comes log.board.window.counts.size bytes i && has_room room at ≡ false → did n room at log bytes i ≡ record { text = []; log = log; next = i }
  unfolding did
  did_none zero at log i t = refl
  did_none (suc n) at log i t = if_not _ _ t

  pub did_zero : (at : ℕ) (log : Log) (i : ℕ) → did zero room at log bytes i ≡ record { text = []; log = log; next = i }
  unfolding did
  did_zero at log i = refl

  -- They start where they start, and end within the bytes.
  pub did-within : (n at : ℕ) (log : Log) (i : ℕ) → i ≤ length bytes → (i ≤ (did n room at log bytes i).next) × ((did n room at log bytes i).next ≤ length bytes)
  did-within zero at log i h = subst (λ (d : Did). (i ≤ d.next) × (d.next ≤ length bytes)) (sym (did_zero at log i)) (omega arith, h)
  did-within (suc n) at log i h = go (tested (comes log.board.window.counts.size bytes i && has_room room at)) (λ a l k f. did-within n a l k f)
    where
      go : Tested (comes log.board.window.counts.size bytes i && has_room room at) → ((a : ℕ) (l : Log) (k : ℕ) → k ≤ length bytes → (k ≤ (did n room a l bytes k).next) × ((did n room a l bytes k).next ≤ length bytes))
          → (i ≤ (did (suc n) room at log bytes i).next) × ((did (suc n) room at log bytes i).next ≤ length bytes)
      go (passed t) rest =
          let there = whole_there bytes i log.board.window.counts.size (and_both (comes log.board.window.counts.size bytes i) (has_room room at) t).0 in
          let done = item_at log bytes i in
          let more = rest (behind at done.text) done.log (i + (3 + size_at bytes i)) there.0 in
          subst (λ (d : Did). (i ≤ d.next) × (d.next ≤ length bytes)) (sym (did_more n at log i t)) (omega (arith, more.0), more.1)
      go (failed t) rest = subst (λ (d : Did). (i ≤ d.next) × (d.next ≤ length bytes)) (sym (did_none (suc n) at log i t)) (omega arith, h)

after-after : (t u : List ℕ) (d : Did) → after t (after u d) ≡ after (t ++ u) d
after-after t u d = λ j. record { text = sym (append_assoc t u d.text) j; log = d.log; next = d.next }

module _ (log₀ : Log) (bytes room : List ℕ) (at₀ : ℕ) where
  -- The items up to place i are done.
  pub record Went (i : ℕ) (log : Log) (at : ℕ) (left : List ℕ) : Type 0 where
    pub n : ℕ
    pub enough : length bytes ≤ n + i
    pub text : List ℕ
    pub so : did_all (length room) at₀ log₀ bytes ≡ after text (did n (length room) at log bytes i)
    pub stored : Put room at₀ text at left

  pub went_none : at₀ < 2 ^ 64 → Went 0 log₀ at₀ room
  went_none h = record { n = length bytes; enough = omega arith; text = []; so = refl; stored = none room at₀ h }

  module _ {i : ℕ} {log : Log} {at : ℕ} {left : List ℕ} (w : Went i log at left) where
    -- One item more.
    pub went_more : {log₁ : Log} {next : ℕ} {left₁ : List ℕ} (text : List ℕ) → length room < 2 ^ 64 → i < length bytes → comes log.board.window.counts.size bytes i && has_room (length room) at ≡ true
        → item_at log bytes i ≡ record { text = text; log = log₁ } → Put left at text next left₁ → {j : ℕ} → j ≡ i + (3 + size_at bytes i) → Went j log₁ next left₁
    went_more {log₁} {next} {left₁} text small inside t e p {j} at_j = go w.n w.enough w.so
      where
        go : (n : ℕ) → length bytes ≤ n + i → did_all (length room) at₀ log₀ bytes ≡ after w.text (did n (length room) at log bytes i) → Went j log₁ next left₁
        go zero enough so = absurd (omega arith)
        go (suc n) enough so =
            record {
              n = n;
              enough = omega arith;
              text = w.text ++ text;
              so =
                  so ∙ ap (after w.text) (did_more (length room) bytes n at log i t
                  ∙ (λ k. after (e k).text (did n (length room) (behind at (e k).text) (e k).log bytes (i + (3 + size_at bytes i))))
                  ∙ (λ k. after text (did n (length room) (sym p.place k) log₁ bytes (sym at_j k))))
                  ∙ after-after w.text text (did n (length room) next log₁ bytes j);
              stored = then small w.stored p;
            }

    -- No item more.
    pub went_all : comes log.board.window.counts.size bytes i && has_room (length room) at ≡ false → did_all (length room) at₀ log₀ bytes ≡ record { text = w.text; log = log; next = i }
    went_all t =
        w.so ∙ ap (after w.text) (did_none (length room) bytes w.n at log i t)
        ∙ (λ k. record { text = append-nil w.text k; log = log; next = i })
