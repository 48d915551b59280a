-- A list that a fit board shows fits its line: its names are those of held reports, and its scores those of fit rules and permitted values.
-- Assumes nothing.
use mathlib.Core.Path.{◌≡◌, sym, subst}
use mathlib.Core.Bool.{true}
use mathlib.Core.List.Memᴰ
use mathlib.Core.List.{List, [], ◌∷◌, ◌++◌, map}
use Prim.Native.Nat.{ℕ, zero, suc, ◌^◌, ◌/◌, ◌≤◌, ◌<◌}
use native.Mathlib.Omega.{arith}
use lib.IntN.{ℤ, pos}
use lib.Signed.{mag}
use lib.ListN.{length, get_or, take, replicate, get_or-map}
use Rattle.laws.specs.Lists.{◌∈◌}
use Rattle.values.proofs.Names.{code_small}
use Rattle.ranking.specs.Standing.{Held, above, entries, top}
use Rattle.ranking.specs.Standing as ranked
use Rattle.ranking.specs.declared.Rule.{Rule}
use Rattle.laws.proofs.Lists.{here, there}
use Rattle.search.proofs.Best.{length_best_le}
use Rattle.ranking.proofs.Cells.{score_fits}
use Rattle.ranking.proofs.Entries.{above_strict, top_of}
use Rattle.window.specs.declared.Window.{Window}
use Rattle.window.specs.Rows.{held_reports, fit_window}
use Rattle.window.proofs.Fitness.{fit_facts}
use Rattle.window.proofs.Reports.{held_latest}
use Rattle.window.proofs.Standing.{held_permitted}
use Rattle.list.specs.Lines.{names_of, numbers_in}
use Rattle.question.specs.declared.Question.{Question}
use Rattle.question.specs.Lines.{asked}
use Rattle.slot.specs.Fitness.{slot_fit}
use Rattle.slot.proofs.Standing.{Slot, not_searching}
use Rattle.slot.proofs.Standing as state

-- The numbers in a question's names, and its scores, fit their lines.
pub record Small (q : Question) : Type 0 where
  pub few : q.len ≤ 16
  pub numbers : (i : ℕ) → get_or (numbers_in q.names) i 0 < 2 ^ 32
  pub scores : (i : ℕ) → mag (get_or q.scores i (pos 0)) < 2 ^ 31

-- What holds of each element, and of what fills up the list, holds at every place.
padded : {A B : Type 0} (P : B → Type 0) (f : A → B) (d : B) → P d → (n : ℕ) (l : List A) (m : ℕ) → ((x : A) → x ∈ l → P (f x)) → (i : ℕ) → P (get_or (take n (map f l ++ replicate m d)) i d)
padded P f d p zero l m h i = p
padded P f d p (suc n) [] zero h i = p
padded P f d p (suc n) [] (suc m) h zero = p
padded P f d p (suc n) [] (suc m) h (suc i) = padded P f d p n [] m h i
padded P f d p (suc n) (x ∷ l) m h zero = h x here
padded P f d p (suc n) (x ∷ l) m h (suc i) = padded P f d p n l m (λ y k. h y (there k)) i

-- A number is no greater than its name.
number_small : (names : List ℕ) (i : ℕ) → get_or names i 0 < 2 ^ 32 → get_or (numbers_in names) i 0 < 2 ^ 32
number_small names i h = omega (arith, get_or-map (λ (n : ℕ). n / 4097) names i 0)

asked_small : (k : ℕ) (rule : Rule) (l : List ranked.Entry) (next : ℕ) → length l ≤ 16
    → ((e : ranked.Entry) → e ∈ l → (e.name < 2 ^ 32) × (mag e.score < 2 ^ 31)) → Small (asked k rule l next)
asked_small k rule l next short h =
    record {
      few = short;
      numbers = λ i. number_small (names_of l) i (padded (λ (n : ℕ). n < 2 ^ 32) (λ e. e.name) 0 (omega arith) 16 l 16 (λ e m. (h e m).0) i);
      scores = padded (λ (z : ℤ). mag z < 2 ^ 31) (λ e. e.score) (pos 0) (omega arith) 16 l 16 (λ e m. (h e m).1);
    }

pub slot_small : (w : Window) → fit_window w ≡ true → (q : Question) → slot_fit w q ≡ true → Slot w q → Small q
slot_small w fits q t (state.empty e) = subst Small (sym e) (asked_small 0 _ [] 0 (omega arith) (λ x m. absurd (Memᴰ.not-nil m)))
slot_small w fits q t (state.searches x) = absurd (not_searching w fits q t x)
slot_small w fits q t (state.stands s) =
    subst Small (sym s.is)
    (asked_small s.k s.rule (top s.rule s.k (held_reports w)) s.next
    (omega (arith, s.asks.small, length_best_le (above s.rule) (above_strict s.rule) s.k (entries s.rule (held_reports w)))) small)
  where
    small : (e : ranked.Entry) → e ∈ top s.rule s.k (held_reports w) → (e.name < 2 ^ 32) × (mag e.score < 2 ^ 31)
    small e m =
        let ranges = (fit_facts w fits).ranges in
        let r = top_of s.rule s.k (held_reports w) m in
        let h : Held = r.0 in
        let number = (held_latest w ranges h r.1).1 in
        let fits32 = score_fits s.rule s.asks.rule_fits h.values (held_permitted w fits h r.1) in
        subst (λ (x : ranked.Entry). (x.name < 2 ^ 32) × (mag x.score < 2 ^ 31)) r.2 (omega (arith, number, ranges.at_most, code_small h.values.edition), fits32.sfits)

-- ---- steps

pub map_few : {A : Type 0} (f : A → ℕ) → ((x : A) → f x ≤ 256) → (l : List A) (i : ℕ) → get_or (map f l) i 0 ≤ 256
map_few f h [] i = omega arith
map_few f h (x ∷ l) zero = h x
map_few f h (x ∷ l) (suc i) = map_few f h l i
