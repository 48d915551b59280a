-- The lines of the searches in a row: one slot more is its line, if it was searched, behind the others'.
-- Assumes nothing.
use mathlib.Core.Path.{◌≡◌, refl, sym, ap, ap₂, ◌∙◌}
use Rattle.std.specs.Prelude.{Option, Some, None}
use Rattle.board.specs.Answers.{searches}
use mathlib.Core.Bool.{Bool, true, false, cond}
use mathlib.Core.List.{List, [], ◌∷◌, ◌++◌, append_assoc, append-nil}
use Prim.Native.Nat.{ℕ, zero, suc, ◌+◌, ◌<◌}
use native.Mathlib.Numerals.{add-one}
use native.Mathlib.Omega.{arith}
use lib.ListN.{length, get_or, take}
use Rattle.text.specs.Text.{s_line}
use Rattle.journal.specs.Log.{s_lines, steps_line}
use Rattle.journal.specs.Inner.{steps_lines}

lines_next : (item slot : ℕ) (bs : List Bool) (ns : List ℕ) (d : Bool) (e i : ℕ) → i < length bs → i < length ns
    → s_lines item slot (take i bs) (take i ns) ++ cond (get_or bs i d) (s_line item (slot + i) (get_or ns i e)) [] ≡ s_lines item slot (take (suc i) bs) (take (suc i) ns)
unfolding s_lines
lines_next item slot [] ns d e i h k = absurd (omega arith)
lines_next item slot (b ∷ bs) [] d e i h k = absurd (omega arith)
lines_next item slot (b ∷ bs) (n ∷ ns) d e zero h k =
    let here : slot + 0 ≡ slot = omega arith in
    ap (λ (s : ℕ). cond b (s_line item s n) []) here ∙ sym (append-nil (cond b (s_line item slot n) []))
lines_next item slot (b ∷ bs) (n ∷ ns) d e (suc i) h k =
    let on : slot + suc i ≡ slot + 1 + i = omega arith in
    append_assoc (cond b (s_line item slot n) []) (s_lines item (slot + 1) (take i bs) (take i ns)) (cond (get_or bs i d) (s_line item (slot + suc i) (get_or ns i e)) [])
    ∙ ap (λ (t : List ℕ). cond b (s_line item slot n) [] ++ t)
    (ap (λ (s : ℕ). s_lines item (slot + 1) (take i bs) (take i ns) ++ cond (get_or bs i d) (s_line item s (get_or ns i e)) []) on
    ∙ lines_next item (slot + 1) bs ns d e i (omega arith) (omega arith))

pub lines_more : (item : ℕ) (bs : List Bool) (ns : List ℕ) (d : Bool) (e i : ℕ) → i < length bs → i < length ns
    → s_lines item 0 (take i bs) (take i ns) ++ cond (get_or bs i d) (s_line item i (get_or ns i e)) [] ≡ s_lines item 0 (take (i + 1) bs) (take (i + 1) ns)
lines_more item bs ns d e i h k =
    let here : 0 + i ≡ i = omega arith in
    rw (add-one, ← lines_next item 0 bs ns d e i h k, here)

pub lines_none : (item : ℕ) (bs : List Bool) (ns : List ℕ) → s_lines item 0 (take 0 bs) (take 0 ns) ≡ []
unfolding s_lines
lines_none item bs ns = refl

-- ---- the same lines, by the steps of each search

pub line_of : (item slot : ℕ) (b : Bool) (n : ℕ) → steps_line item slot (cond b (Some n) None) ≡ cond b (s_line item slot n) []
line_of item slot true n = refl
line_of item slot false n = refl

pub lines_of_searches : (item slot : ℕ) (bs : List Bool) (ns : List ℕ) → steps_lines item slot (searches bs ns) ≡ s_lines item slot bs ns
unfolding s_lines steps_lines
lines_of_searches item slot [] ns = refl
lines_of_searches item slot (b ∷ bs) [] = refl
lines_of_searches item slot (b ∷ bs) (n ∷ ns) = ap₂ (λ (l m : List ℕ). l ++ m) (line_of item slot b n) (lines_of_searches item (slot + 1) bs ns)

steps_next : (item slot : ℕ) (os : List (Option ℕ)) (d : Option ℕ) (i : ℕ) → i < length os
    → steps_lines item slot (take i os) ++ steps_line item (slot + i) (get_or os i d) ≡ steps_lines item slot (take (suc i) os)
unfolding steps_lines
steps_next item slot [] d i h = absurd (omega arith)
steps_next item slot (o ∷ os) d zero h =
    let here : slot + 0 ≡ slot = omega arith in
    ap (λ (s : ℕ). steps_line item s o) here ∙ sym (append-nil (steps_line item slot o))
steps_next item slot (o ∷ os) d (suc i) h =
    let on : slot + suc i ≡ slot + 1 + i = omega arith in
    append_assoc (steps_line item slot o) (steps_lines item (slot + 1) (take i os)) (steps_line item (slot + suc i) (get_or os i d))
    ∙ ap (λ (t : List ℕ). steps_line item slot o ++ t)
    (ap (λ (s : ℕ). steps_lines item (slot + 1) (take i os) ++ steps_line item s (get_or os i d)) on
    ∙ steps_next item (slot + 1) os d i (omega arith))

pub steps_more : (item : ℕ) (os : List (Option ℕ)) (d : Option ℕ) (i : ℕ) → i < length os
    → steps_lines item 0 (take i os) ++ steps_line item i (get_or os i d) ≡ steps_lines item 0 (take (i + 1) os)
steps_more item os d i h =
    let here : 0 + i ≡ i = omega arith in
    rw (add-one, ← steps_next item 0 os d i h, here)

pub steps_none : (item : ℕ) (os : List (Option ℕ)) → steps_lines item 0 (take 0 os) ≡ []
unfolding steps_lines
steps_none item os = refl
