-- A call that is refused prints its refusal, any other does what it does: the two cases of `unless`, with what is stored.
-- Assumes nothing.
use mathlib.Core.Path.{◌≡◌, sym, ap, ap₂, subst, ◌∙◌}
use Prim.Native.Nat.{ℕ, ◌^◌, ◌<◌}
use mathlib.Core.List.{List}
use Rattle.items.specs.declared.Item.{Item}
use Rattle.items.specs.Items.{data_of, item_in}
use Rattle.board.proofs.Refusals.{zero_is, zero_not}
use Rattle.std.specs.Prelude.{Ok, Err}
use Rattle.refusal.specs.declared.Refusal.{Refusal}
use Rattle.refusal.specs.Numbers.{number_of}
use Rattle.refusal.specs.Answers.{answered}
use Rattle.refusal.proofs.Answers.{taken_is, taken_number, refused_number}
use Rattle.slot.proofs.Refusals.{Told, answer_number}
use Rattle.text.specs.Text.{behind}
use Rattle.text.proofs.Places.{none}
use lib.Seq.{sets}
use Rattle.journal.specs.declared.Log.{Log}
use Rattle.journal.specs.Log.{Outcome, Stores, with_item, refused, no_text, unless, item_refusal, by_item, item_done}

module _ {room left : List ℕ} {at next : ℕ} {log₁ : Log} where
  -- The same outcome, said otherwise.
  pub outcome_is : {d e : Outcome} → d ≡ e → Stores d room at log₁ next left → Stores e room at log₁ next left
  outcome_is p s = subst (λ (o : Outcome). Stores o room at log₁ next left) p s

  pub refuses : (log : Log) (done : Outcome) {m n : ℕ} → m ≡ n → (m ≡ 0 → ⊥) → Stores (refused log m) room at log₁ next left
      → Stores (unless log n done) room at log₁ next left
  unfolding unless
  refuses log done {m} {n} e not s =
      outcome_is (ap (refused log) e ∙ sym (zero_not done (refused log n) (λ z. not (e ∙ z)))) s

  pub does : (log : Log) {d done : Outcome} {m n : ℕ} → m ≡ n → m ≡ 0 → d ≡ done → Stores d room at log₁ next left
      → Stores (unless log n done) room at log₁ next left
  unfolding unless
  does log {d} {done} {m} {n} e z p s = outcome_is (p ∙ sym (zero_is done (refused log n) (sym e ∙ z))) s

  -- The same, of what a call answered.
  pub answer_refuses : (log : Log) (done : Outcome) {A : Type 0} (n : ℕ) (a : A) {e : Refusal} {m : ℕ} → Told n → Err e ≡ answered n a → m ≡ number_of e
      → Stores (refused log m) room at log₁ next left → Stores (unless log n done) room at log₁ next left
  unfolding unless
  answer_refuses log done n a told h is s =
      outcome_is (ap (refused log) (is ∙ answer_number n a told h) ∙ sym (zero_not done (refused log n) (refused_number n a h))) s

  pub answer_does : (log : Log) {A : Type 0} (done : A → Outcome) {x : A} (n : ℕ) (a : A) → Ok x ≡ answered n a → Stores (done x) room at log₁ next left
      → Stores (unless log n (done a)) room at log₁ next left
  unfolding unless
  answer_does log done n a h s =
      outcome_is (ap done (taken_is n a h) ∙ sym (zero_is (done a) (refused log n) (taken_number n a h))) s

  -- A text that was put is the outcome's.
  pub stores : (log : Log) (text : List ℕ) → log₁ ≡ log → (next ≡ behind at text) × (left ≡ sets room at text)
      → Stores (record { text = text; log = log }) room at log₁ next left
  stores log text e p = record { leaves = e; place = p.0; stored = p.1 }

  -- A whole item: counted, read and judged.
  module _ (log : Log) (tag : ℕ) (v : List ℕ) {l : Log} {i : Item} {n : ℕ} (counted : l ≡ with_item log) (says : i ≡ item_in tag v) (judged : n ≡ item_refusal l i) where
    pub skips : (n ≡ 0 → ⊥) → Stores (refused l n) room at log₁ next left → Stores (item_done log tag v) room at log₁ next left
    unfolding item_done
    skips not s = refuses (with_item log) _ (judged ∙ ap₂ item_refusal counted says) not (outcome_is (ap (λ (m : Log). refused m n) counted) s)

    pub passes : {ds : List ℕ} → n ≡ 0 → ds ≡ data_of i v → Stores (by_item l i ds) room at log₁ next left → Stores (item_done log tag v) room at log₁ next left
    unfolding item_done
    passes z of-item s =
        does (with_item log) (judged ∙ ap₂ item_refusal counted says) z (ap (by_item l i) of-item ∙ ap₂ (λ (m : Log) (x : Item). by_item m x (data_of x v)) counted says) s

pub silent : (room : List ℕ) (at : ℕ) {log₁ : Log} (log : Log) → at < 2 ^ 64 → log₁ ≡ log → Stores (no_text log) room at log₁ at room
silent room at log h e = let p = none room at h in record { leaves = e; place = p.place; stored = p.bytes }
