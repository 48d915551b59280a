-- One text behind another is one text; a place that no `usize` holds lies past the end of any buffer.
-- Assumes nothing.
use mathlib.Core.Path.{◌≡◌, refl, sym, ◌∙◌, ap, ap₂, subst}
use mathlib.Core.Logic.{⊎_elim}
use mathlib.Core.List.{List, [], ◌∷◌, ◌++◌}
use Prim.Native.Nat.{ℕ, ◌+◌, ◌-◌, ◌^◌, ◌≤◌, ◌<◌, min}
use native.Mathlib.Omega.{arith}
use lib.Dec.{ltb}
use lib.ListN.{length, take, drop, set, length-append}
use lib.Seq.{sets, length-sets, sets-eq}
use Rattle.wire.proofs.Stores.{sets-append, sets_past}
use Rattle.text.specs.Text.{behind}
use Rattle.text.proofs.Decimal.{below_or}

-- A text was stored in l from `at` on: what is there now, and the place behind it.
pub record Put (l : List ℕ) (at : ℕ) (text : List ℕ) (next : ℕ) (left : List ℕ) : Type 0 where
  pub place : next ≡ behind at text
  pub bytes : left ≡ sets l at text

pub put : {l left : List ℕ} {at next : ℕ} {text : List ℕ} → (next ≡ behind at text) × (left ≡ sets l at text) → Put l at text next left
put e = record { place = e.0; bytes = e.1 }

pub both : {l left : List ℕ} {at next : ℕ} {text : List ℕ} → Put l at text next left → (next ≡ behind at text) × (left ≡ sets l at text)
both p = (p.place, p.bytes)

-- The clauses of a function that stored a text, as that fact, and the fact as the clauses.
pub stored : {l left : List ℕ} {at next : ℕ} {text : List ℕ} → record { value : next ≡ behind at text; buf_after : left ≡ sets l at text } → Put l at text next left
stored e = put (e.value, e.buf_after)

pub clauses : {l left : List ℕ} {at next : ℕ} {text : List ℕ} → Put l at text next left → record { value : next ≡ behind at text; buf_after : left ≡ sets l at text }
clauses p = record { value = p.place; buf_after = p.bytes }

pub behind_append : (at : ℕ) (v w : List ℕ) → behind (behind at v) w ≡ behind at (v ++ w)
unfolding behind
behind_append at v w = rw length-append (omega arith)

-- A place that was cut to the largest `usize` lies past the end, as the true one does.
sets_behind : (l : List ℕ) (at : ℕ) (v w : List ℕ) → length l < 2 ^ 64 → sets l (behind at v) w ≡ sets l (at + length v) w
unfolding behind
sets_behind l at v w h =
    ⊎_elim
    (λ s. let e : min (at + length v) (2 ^ 64 - 1) ≡ at + length v = omega arith in ap (λ (k : ℕ). sets l k w) e)
    (λ m. sets_past l (min (at + length v) (2 ^ 64 - 1)) w (omega arith) ∙ sym (sets_past l (at + length v) w (omega arith)))
    (below_or (at + length v) (2 ^ 64) (ltb (at + length v) (2 ^ 64)) refl)

pub sets_then : (l : List ℕ) (at : ℕ) (v w : List ℕ) → length l < 2 ^ 64 → sets (sets l at v) (behind at v) w ≡ sets l at (v ++ w)
sets_then l at v w h = sets_behind (sets l at v) at v w (rw length-sets h) ∙ sym (sets-append l at v w)

pub set_then : (l : List ℕ) (at b : ℕ) (w : List ℕ) → length l < 2 ^ 64 → sets (set l at b) (behind at (b ∷ [])) w ≡ sets l at (b ∷ w)
set_then l at b w h = sets_then l at (b ∷ []) w h

pub set_last : (l : List ℕ) (at : ℕ) (v : List ℕ) (b : ℕ) → length l < 2 ^ 64 → set (sets l at v) (behind at v) b ≡ sets l at (v ++ (b ∷ []))
set_last l at v b h = sets_then l at v (b ∷ []) h

-- What a function needs that stores its parts one behind the other.
pub ruleset in_a_row = (behind_append, sets_then, set_then, set_last)

-- One text behind another.
pub then : {l l₁ l₂ : List ℕ} {at p q : ℕ} {v w : List ℕ} → length l < 2 ^ 64 → Put l at v p l₁ → Put l₁ p w q l₂ → Put l at (v ++ w) q l₂
then {l} {l₁} {l₂} {at} {p} {q} {v} {w} h a b =
    record {
      place = b.place ∙ ap (λ (k : ℕ). behind k w) a.place ∙ behind_append at v w;
      bytes =
          b.bytes ∙ ap₂ (λ (r : List ℕ) (k : ℕ). sets r k w) a.bytes a.place
          ∙ sets_behind (sets l at v) at v w (rw length-sets h) ∙ sym (sets-append l at v w);
    }

-- The same text, said otherwise.
pub said : {l left : List ℕ} {at next : ℕ} {v w : List ℕ} → v ≡ w → Put l at v next left → Put l at w next left
said {l} {left} {at} {next} e p = subst (λ (t : List ℕ). Put l at t next left) e p

-- No text at all.
pub none : (l : List ℕ) (at : ℕ) → at < 2 ^ 64 → Put l at [] at l
unfolding behind
none l at h = record { place = omega arith; bytes = refl }

-- Where the text ends within the buffer, its bytes stand there in a row and the rest is as it was.
pub fits : {l left : List ℕ} {at next : ℕ} {text : List ℕ} → length l < 2 ^ 64 → at + length text ≤ length l → Put l at text next left
    → (next ≡ at + length text) × (left ≡ take at l ++ text ++ drop (at + length text) l)
unfolding behind
fits {l} {left} {at} {next} {text} h room p = (p.place ∙ omega arith, p.bytes ∙ sets-eq text l at room)
