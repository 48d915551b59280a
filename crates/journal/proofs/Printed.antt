-- What an item prints is at most `Waiting::MOST` bytes long and refuses by no other code than 1 to 23, 26 and 33: it is one line, or a line for each of 32 slots, and every number in it is small.
-- Assumes nothing.
use mathlib.Core.Path.{◌≡◌, refl, sym, ap, ap₂, ◌∙◌, subst}
use mathlib.Core.Logic.{◌⊎◌, inl, inr}
use mathlib.Core.Bool.{Bool, true, false, cond}
use mathlib.Core.List.{List, [], ◌∷◌, ◌++◌, append_assoc, tail}
use Prim.Native.Nat.{ℕ, suc, ◌+◌, ◌*◌, ◌^◌, ◌≤◌, ◌<◌}
use native.Mathlib.Omega.{arith}
use lib.ListN.{length, get_or, length-append}
use Rattle.text.specs.Text.{Entry, decimal, spaced, s_line, r_line, q_line}
use Rattle.text.proofs.Decimal.{Digits, decimal_digits, decimal_injective}
use Rattle.text.proofs.Lengths.{InRange, s_line-longest, r_line-longest, q_line-longest}
use Rattle.journal.specs.Log.{s_lines}

-- The refusals that an item can be answered where nothing is unfit.
abbrev pub Code : ℕ → Type 0
Code n = ((1 ≤ n) × (n ≤ 23)) ⊎ ((n ≡ 26) ⊎ (n ≡ 33))

-- Nothing, its refusal, the line of the search that it ran, those of the searches of all slots, or a list.
pub data Prints (item : ℕ) (text : List ℕ) : Type 0 where
  nothing : text ≡ [] → Prints item text
  refusal : (code : ℕ) → Code code → text ≡ r_line item code → Prints item text
  search : (slot steps : ℕ) → slot < 32 → steps ≤ 256 → text ≡ s_line item slot steps → Prints item text
  searches : (bs : List Bool) (ns : List ℕ) → length bs ≡ 32 → ((i : ℕ) → get_or ns i 0 ≤ 256) → text ≡ s_lines item 0 bs ns → Prints item text
  list : (slot : ℕ) (es : List Entry) → slot < 32 → length es ≤ 16 → InRange es → text ≡ q_line slot es → Prints item text

-- ---- at most `Waiting::MOST` bytes

module _ (item : ℕ) (small : item < 2 ^ 64) where
  line_longest : (b : Bool) (slot steps : ℕ) → slot < 256 → steps ≤ 256 → length (cond b (s_line item slot steps) []) ≤ 33
  line_longest true slot steps h k = s_line-longest item slot steps small (omega arith) (omega arith)
  line_longest false slot steps h k = omega arith

  lines-longest : (slot : ℕ) (bs : List Bool) (ns : List ℕ) → slot + length bs ≤ 256 → ((i : ℕ) → get_or ns i 0 ≤ 256) → length (s_lines item slot bs ns) ≤ 33 * length bs
  unfolding s_lines
  lines-longest slot [] ns h k = omega arith
  lines-longest slot (b ∷ bs) [] h k = omega arith
  lines-longest slot (b ∷ bs) (n ∷ ns) h k =
      rw length-append (omega (arith, line_longest b slot n (omega arith) (k 0), lines-longest (slot + 1) bs ns (omega arith) (λ i. k (suc i))))

  pub at_most : {text : List ℕ} → Prints item text → length text ≤ 1056
  at_most (nothing e) = rw e (omega arith)
  at_most (refusal code (inl h) e) = rw e (omega (arith, r_line-longest item code small (omega arith)))
  at_most (refusal code (inr (inl h)) e) = rw e (omega (arith, r_line-longest item code small (omega arith)))
  at_most (refusal code (inr (inr h)) e) = rw e (omega (arith, r_line-longest item code small (omega arith)))
  at_most (search slot steps h k e) = rw e (omega (arith, s_line-longest item slot steps small (omega arith) (omega arith)))
  at_most (searches bs ns h k e) = rw e (omega (arith, lines-longest 0 bs ns (omega arith) k))
  at_most (list slot es h n r e) = rw e (omega (arith, q_line-longest slot es (omega arith) n r))

-- ---- no 24

-- Digits end where a byte comes that is none.
same_digits : (c : ℕ) → c < 48 → (ds es x y : List ℕ) → Digits ds → Digits es → ds ++ c ∷ x ≡ es ++ c ∷ y → (ds ≡ es) × (x ≡ y)
same_digits c low [] [] x y h k e = (refl, ap tail e)
same_digits c low [] (b ∷ es) x y h k e = let z : c ≡ b = ap (λ (l : List ℕ). get_or l 0 0) e in absurd (omega (arith, k.0))
same_digits c low (a ∷ ds) [] x y h k e = let z : a ≡ c = ap (λ (l : List ℕ). get_or l 0 0) e in absurd (omega (arith, h.0))
same_digits c low (a ∷ ds) (b ∷ es) x y h k e =
    let r = same_digits c low ds es x y h.2 k.2 (ap tail e) in
    let z : a ≡ b = ap (λ (l : List ℕ). get_or l 0 0) e in
    (ap₂ (λ (d : ℕ) (l : List ℕ). d ∷ l) z r.0, r.1)

r_line_lem : (item code : ℕ) → r_line item code ≡ 82 ∷ 32 ∷ (decimal item ++ 32 ∷ (decimal code ++ 10 ∷ []))
unfolding r_line spaced
r_line_lem item code = simp append_assoc

-- A refusal's line tells its code.
pub r_code : (m n code other : ℕ) → r_line m code ≡ r_line n other → code ≡ other
r_code m n code other e =
    let all = sym (r_line_lem m code) ∙ e ∙ r_line_lem n other in
    let codes = (same_digits 32 (omega arith) (decimal m) (decimal n) (decimal code ++ 10 ∷ []) (decimal other ++ 10 ∷ []) (decimal_digits m) (decimal_digits n) (ap (λ (l : List ℕ). tail (tail l)) all)).1 in
    decimal_injective code other (same_digits 10 (omega arith) (decimal code) (decimal other) [] [] (decimal_digits code) (decimal_digits other) codes).0

abbrev initial : List ℕ → ℕ
initial t = get_or t 0 0

r_initial : (item code : ℕ) → initial (r_line item code) ≡ 82
unfolding r_line
r_initial item code = refl

s_initial : (item slot steps : ℕ) → initial (s_line item slot steps) ≡ 83
unfolding s_line
s_initial item slot steps = refl

q_initial : (slot : ℕ) (es : List Entry) → initial (q_line slot es) ≡ 81
unfolding q_line
q_initial slot es = refl

lines_initial : (item slot : ℕ) (bs : List Bool) (ns : List ℕ) → initial (s_lines item slot bs ns) ≡ 82 → ⊥
unfolding s_lines s_line
lines_initial item slot [] ns e = omega arith
lines_initial item slot (b ∷ bs) [] e = omega arith
lines_initial item slot (true ∷ bs) (n ∷ ns) e = omega arith
lines_initial item slot (false ∷ bs) (n ∷ ns) e = lines_initial item (slot + 1) bs ns e

pub never : {item : ℕ} {text : List ℕ} → Prints item text → (other : ℕ) → (Code other → ⊥) → (n : ℕ) → text ≡ r_line n other → ⊥
never {item} {text} p other bars n e = go p
  where
    byte : {t : List ℕ} → text ≡ t → initial t ≡ 82
    byte f = ap initial (sym f ∙ e) ∙ r_initial n other

    go : Prints item text → ⊥
    go (nothing f) = omega (arith, byte f)
    go (refusal code h f) = bars (subst Code (r_code item n code other (sym f ∙ e)) h)
    go (search slot steps h k f) = omega (arith, s_initial item slot steps, byte f)
    go (searches bs ns h k f) = lines_initial item 0 bs ns (byte f)
    go (list slot es h k r f) = omega (arith, q_initial slot es, byte f)
