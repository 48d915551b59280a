-- The texts of entries in a row: one more entry is its text behind the others'.
-- Assumes nothing.
use mathlib.Core.Path.{◌≡◌, refl, sym, ap, ap₂, ◌∙◌}
use mathlib.Core.List.{List, [], ◌∷◌, ◌++◌, append_assoc, append-nil}
use Prim.Native.Nat.{ℕ, zero, suc, ◌+◌, ◌<◌, min}
use native.Mathlib.Numerals.{add-one}
use native.Mathlib.Omega.{arith}
use lib.IntN.{ℤ}
use lib.ListN.{length, get_or, take, length-take}
use lib.Seq.{take_all}
use Rattle.std.proofs.lemmas.List.{take_min}
use Rattle.text.specs.Text.{Entry, spaced, entry_text, entries_text, q_line, entries_of}

entries_next : (ns : List ℕ) (ss : List ℤ) (d : ℤ) (i : ℕ) → i < length ns → i < length ss
    → entries_text (take i (entries_of ns ss)) ++ entry_text (record { number = get_or ns i 0; score = get_or ss i d }) ≡ entries_text (take (suc i) (entries_of ns ss))
unfolding entries_text entries_of
entries_next [] ss d i h k = absurd (omega arith)
entries_next (n ∷ ns) [] d i h k = absurd (omega arith)
entries_next (n ∷ ns) (s ∷ ss) d zero h k = sym (append-nil (entry_text (record { number = n; score = s })))
entries_next (n ∷ ns) (s ∷ ss) d (suc i) h k =
    append_assoc (entry_text (record { number = n; score = s })) (entries_text (take i (entries_of ns ss))) (entry_text (record { number = get_or ns i 0; score = get_or ss i d }))
    ∙ ap (λ (t : List ℕ). entry_text (record { number = n; score = s }) ++ t) (entries_next ns ss d i (omega arith) (omega arith))

pub entries_more : (ns : List ℕ) (ss : List ℤ) (d : ℤ) (i : ℕ) → i < length ns → i < length ss
    → entries_text (take i (entries_of ns ss)) ++ entry_text (record { number = get_or ns i 0; score = get_or ss i d }) ≡ entries_text (take (i + 1) (entries_of ns ss))
entries_more ns ss d i h k = rw add-one (entries_next ns ss d i h k)

pub entries_none : (es : List Entry) → entries_text (take 0 es) ≡ []
unfolding entries_text
entries_none es = refl

-- There are as many entries as numbers that have a score.
pub length_listed : (ns : List ℕ) (ss : List ℤ) → length (entries_of ns ss) ≡ min (length ns) (length ss)
unfolding entries_of
length_listed [] ss = omega arith
length_listed (n ∷ ns) [] = omega arith
length_listed (n ∷ ns) (s ∷ ss) = omega (arith, length_listed ns ss)

pub all_listed : (ns : List ℕ) (ss : List ℤ) (k : ℕ) → k ≡ min (length ns) (length ss) → take k (entries_of ns ss) ≡ entries_of ns ss
all_listed ns ss k e = take_all k (entries_of ns ss) (omega (arith, e, length_listed ns ss))

pub listed_first : (n : ℕ) (ns : List ℕ) (ss : List ℤ) → entries_of (take n ns) (take n ss) ≡ take n (entries_of ns ss)
unfolding entries_of
listed_first zero ns ss = refl
listed_first (suc n) [] ss = refl
listed_first (suc n) (x ∷ ns) [] = refl
listed_first (suc n) (x ∷ ns) (s ∷ ss) = ap (λ (es : List Entry). record { number = x; score = s } ∷ es) (listed_first n ns ss)

-- A Q line of the first n entries shows as many as there are.
pub q_line_shown : (slot n shown : ℕ) (es : List Entry) → shown ≡ min n (length es)
    → 81 ∷ [] ++ spaced slot ++ spaced shown ++ entries_text (take shown es) ++ 10 ∷ [] ≡ q_line slot (take n es)
unfolding q_line
q_line_shown slot n shown es e =
    ap₂ (λ (k : ℕ) (l : List Entry). 81 ∷ [] ++ spaced slot ++ spaced k ++ entries_text l ++ 10 ∷ []) (e ∙ sym (length-take n es))
    (ap (λ (k : ℕ). take k es) e ∙ take_min n es)

-- The same over the numbers and scores themselves, of which there are 16.
pub q_line_of : (slot n : ℕ) (ns : List ℕ) (ss : List ℤ) → length ns ≡ 16 → length ss ≡ 16
    → q_line slot (take n (entries_of ns ss))
    ≡ 81 ∷ [] ++ spaced slot ++ spaced (min n 16) ++ entries_text (entries_of (take (min n 16) ns) (take (min n 16) ss)) ++ 10 ∷ []
q_line_of slot n ns ss hn hs =
    rw (listed_first (min n 16) ns ss) (sym (q_line_shown slot n (min n 16) (entries_of ns ss) (omega (arith, length_listed ns ss))))
