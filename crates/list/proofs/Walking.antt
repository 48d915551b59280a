-- The tests over the lines of two columns: a walk keeps what is left to test equal to the whole.
-- Assumes nothing.
use mathlib.Core.Path.{◌≡◌, refl, sym, ap, ap₂, ◌∙◌}
use mathlib.Core.Bool.{Bool, true, false, ◌&&◌}
use mathlib.Core.List.{List, [], ◌∷◌}
use Prim.Native.Nat.{ℕ, suc, ◌+◌, ◌≤◌, ◌<◌}
use native.Mathlib.Omega.{arith}
use borrow.Author.Tests.{eq-eqb, ne_eqb}
use lib.Dec.{eqb, lit<}
use lib.IntN.{ℤ, pos}
use lib.ListN.{length, take, drop, get_or, length-drop}
use lib.Signed.{mag}
use mir.Syntax.{w32}
use mir.Val.{to_z, of_z}
use Rattle.laws.specs.Whole.{equal}
use Rattle.laws.proofs.Words.{kept, same_bits}
use Rattle.ranking.specs.Standing.{Entry}
use Rattle.list.specs.Lines.{lines_of, all_of, falls, blank}
use Rattle.list.proofs.Stored.{Roomy, line_at, drop_line, none_left, length_front}

-- a walk over the first n lines has come to the line i: what is left to test decides the whole
pub record Walk (p : Entry → Bool) (whole : Bool) (ns : List ℕ) (ss : List ℤ) (n i : ℕ) : Type 0 where
  pub up_to : i ≤ n
  pub within : n ≤ 16
  pub room : Roomy ns ss
  pub decides : all_of p (drop i (take n (lines_of ns ss))) ≡ whole

-- a line as it is read, its score back from its bits
abbrev pub read_line : List ℕ → List ℤ → ℕ → Entry
read_line ns ss i = record { name = get_or ns i 0; score = to_z w32 (of_z w32 (get_or ss i (pos 0))) }

pub as_read : (p : Entry → Bool) (ns : List ℕ) (ss : List ℤ) (i : ℕ) → mag (get_or ss i (pos 0)) < 2147483648 → {t : Bool} → t ≡ p (read_line ns ss i) → p (line_at ns ss i) ≡ t
as_read p ns ss i fits is =
    ap (λ s. p (record { name = get_or ns i 0; score = s })) (sym (kept w32 (get_or ss i (pos 0)) fits)) ∙ sym is

module _ {p : Entry → Bool} {whole : Bool} {ns : List ℕ} {ss : List ℤ} {n i : ℕ} (w : Walk p whole ns ss n i) where
  -- past the last line
  pub walk_ends : n ≤ i → true ≡ whole
  walk_ends h =
      let all : i ≡ n = omega (arith, w.up_to) in
      sym (ap (all_of p) (none_left ns ss w.room n w.within i all)) ∙ w.decides

  module _ (h : i < n) {t : Bool} (here : p (line_at ns ss i) ≡ t) where
    next : all_of p (drop i (take n (lines_of ns ss))) ≡ t && all_of p (drop (i + 1) (take n (lines_of ns ss)))
    next = ap (all_of p) (drop_line ns ss w.room n w.within i h) ∙ ap (λ b. b && all_of p (drop (i + 1) (take n (lines_of ns ss)))) here

    -- a line that fails decides
    pub walk_fails : t ≡ false → false ≡ whole
    walk_fails f = sym (next ∙ ap (λ b. b && all_of p (drop (i + 1) (take n (lines_of ns ss)))) f) ∙ w.decides

    -- one that passes leaves the rest
    pub walk_on : t ≡ true → Walk p whole ns ss n (i + 1)
    walk_on e =
        record {
          up_to = omega arith;
          within = w.within;
          room = w.room;
          decides = sym (next ∙ ap (λ b. b && all_of p (drop (i + 1) (take n (lines_of ns ss)))) e) ∙ w.decides;
        }

-- which places are 0: the name's test, and the score's by its bits
pub blank-name : (e : Entry) → (e.name ≡ 0 → ⊥) → blank e ≡ false
blank-name e h = ap (λ b. b && equal e.score (pos 0)) (ne_eqb e.name 0 h)

pub blank-score : (e : Entry) → e.name ≡ 0 → mag e.score < 2147483648 → {t : Bool} → eqb (of_z w32 e.score) 0 ≡ t → blank e ≡ t
blank-score e h fits is =
    ap (λ b. b && equal e.score (pos 0)) (eq-eqb e.name 0 h)
    ∙ sym (same_bits w32 e.score (pos 0) (record { sfits = fits }) (record { sfits = lit< tt }))
    ∙ is

-- a list of one has nothing to fall
pub falls_short : (above : Entry → Entry → Bool) (l : List Entry) → length l ≤ 1 → falls above l ≡ true
falls_short above [] h = refl
falls_short above (x ∷ []) h = refl
falls_short above (x ∷ y ∷ l) h = absurd (no (length l) h)
  where
    no : (n : ℕ) → suc (suc n) ≤ 1 → ⊥
    no n h = omega arith

-- the same for the fall from line to line
pub record Descent (above : Entry → Entry → Bool) (whole : Bool) (ns : List ℕ) (ss : List ℤ) (n i : ℕ) : Type 0 where
  pub up_to : i ≤ n
  pub within : n ≤ 16
  pub room : Roomy ns ss
  pub decides : falls above (drop i (take n (lines_of ns ss))) ≡ whole

module _ {above : Entry → Entry → Bool} {whole : Bool} {ns : List ℕ} {ss : List ℤ} {n i : ℕ} (w : Descent above whole ns ss n i) (j : ℕ) (follows : i + 1 ≡ j) where
  pub descent_ends : n ≤ j → true ≡ whole
  descent_ends h =
      sym (falls_short above (drop i (take n (lines_of ns ss))) (rw (length-drop i (take n (lines_of ns ss)), length_front ns ss w.room n w.within) (omega arith)))
      ∙ w.decides

  module _ (h : j < n) (fits : mag (get_or ss i (pos 0)) < 2147483648) (fits' : mag (get_or ss j (pos 0)) < 2147483648) (t : Bool) (is : t ≡ above (read_line ns ss i) (read_line ns ss j)) where
    falling : above (line_at ns ss i) (line_at ns ss j) ≡ t
    falling =
        sym
        (is
        ∙ ap₂ (λ a b. above (record { name = get_or ns i 0; score = a }) (record { name = get_or ns j 0; score = b }))
        (kept w32 (get_or ss i (pos 0)) fits) (kept w32 (get_or ss j (pos 0)) fits'))

    after : drop j (take n (lines_of ns ss)) ≡ line_at ns ss j ∷ drop (j + 1) (take n (lines_of ns ss))
    after = drop_line ns ss w.room n w.within j h

    split : falls above (drop i (take n (lines_of ns ss))) ≡ t && falls above (drop j (take n (lines_of ns ss)))
    split =
        ap (falls above)
        (drop_line ns ss w.room n w.within i (omega arith)
        ∙ ap (λ m. line_at ns ss i ∷ drop m (take n (lines_of ns ss))) follows
        ∙ ap (λ l. line_at ns ss i ∷ l) after)
        ∙ ap (λ b. b && falls above (line_at ns ss j ∷ drop (j + 1) (take n (lines_of ns ss)))) falling
        ∙ ap (λ l. t && falls above l) (sym after)

    pub descent_fails : t ≡ false → false ≡ whole
    descent_fails f = sym (split ∙ ap (λ b. b && falls above (drop j (take n (lines_of ns ss)))) f) ∙ w.decides

    pub descent_on : t ≡ true → (k : ℕ) → k ≡ j → Descent above whole ns ss n k
    descent_on e k same =
        record {
          up_to = omega arith;
          within = w.within;
          room = w.room;
          decides = ap (λ m. falls above (drop m (take n (lines_of ns ss)))) same ∙ sym (split ∙ ap (λ b. b && falls above (drop j (take n (lines_of ns ss)))) e) ∙ w.decides;
        }
