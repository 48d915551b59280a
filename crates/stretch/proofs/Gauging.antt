-- The gauges beside the slots say which slots a report leaves alone, and go on saying so when a slot changes.
-- Assumes nothing.
use mathlib.Core.Path.{◌≡◌, refl, sym, ap, subst, ◌∙◌}
use mathlib.Core.Bool.{true}
use mathlib.Core.List.{List, [], ◌∷◌, map}
use Prim.Native.Nat.{ℕ, zero, suc, ◌≤◌, ◌<◌}
use native.Mathlib.Nat.{not-suc-le-zero, le_of_suc-le-suc}
use lib.ListN.{length, get_or, set}
use Rattle.question.specs.declared.Question.{Question}
use Rattle.slot.specs.declared.gauge.Gauge.{Gauge}
use Rattle.slot.specs.Gauges.{no_question, gauge_of, is_idle, in_use}
use Rattle.slot.proofs.Gauges.{used-blank, used_few}

-- The gauges are those of the slots, and from the bound on the slots are idle.
pub record Gauged (slots : List Question) (gauges : List Gauge) (used : ℕ) : Type 0 where
  pub each : gauges ≡ map gauge_of slots
  pub few : used ≤ 32
  pub idle : (i : ℕ) → used ≤ i → i < 32 → is_idle (get_or slots i no_question) ≡ true

pub gauged_of : (slots : List Question) {gauges : List Gauge} {used : ℕ} → gauges ≡ map gauge_of slots → used ≡ in_use 32 slots → Gauged slots gauges used
gauged_of slots e u =
    record {
      each = e;
      few = subst (λ n. n ≤ 32) (sym u) (used_few is_idle no_question 32 slots);
      idle = λ i h k. used-blank is_idle no_question 32 slots i (subst (λ n. n ≤ i) u h) k;
    }

-- the gauge of one slot
pub gauge_at : (slots : List Question) {gauges : List Gauge} (i : ℕ) (d : Gauge) → gauges ≡ map gauge_of slots → i < length slots → get_or gauges i d ≡ gauge_of (get_or slots i no_question)
gauge_at slots i d e h = ap (λ l. get_or l i d) e ∙ go slots i h
  where
    go : (l : List Question) (i : ℕ) → i < length l → get_or (map gauge_of l) i d ≡ gauge_of (get_or l i no_question)
    go [] i h = absurd (not-suc-le-zero h)
    go (q ∷ l) zero h = refl
    go (q ∷ l) (suc i) h = go l i (le_of_suc-le-suc h)

-- the gauges, where one slot changes
pub gauges_set : (slots : List Question) {gauges : List Gauge} (i : ℕ) (v : Question) {g : Gauge} → gauges ≡ map gauge_of slots → g ≡ gauge_of v → set gauges i g ≡ map gauge_of (set slots i v)
gauges_set slots i v e f = (λ k. set (e k) i (f k)) ∙ go slots i
  where
    go : (l : List Question) (i : ℕ) → set (map gauge_of l) i (gauge_of v) ≡ map gauge_of (set l i v)
    go [] i = refl
    go (q ∷ l) zero = refl
    go (q ∷ l) (suc i) = ap (λ m. gauge_of q ∷ m) (go l i)
