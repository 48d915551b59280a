-- What fitness says of the three numbers of a session: with size 0 the others are 0, and with another size they are those of an open one.
-- Assumes nothing.
use mathlib.Core.Path.{◌≡◌, refl}
use mathlib.Core.Bool.{Bool, true, false, ◌&&◌, ◌||◌, and-eq-true_iff, or-false}
use mathlib.Core.Logic.{◌⊎◌, inl, inr, ⊎_elim}
use Prim.Native.Nat.{ℕ, ◌≤◌}
use native.Mathlib.Omega.{arith}
use borrow.Author.Tests.{ne_eqb, eqb-true, leb-true, ltb-true}
use lib.Dec.{leb, ltb, eqb}
use Rattle.joining.specs.declared.Session.{Session}
use Rattle.joining.specs.Joining.{packets, carries, is_closed, is_open, fit}

-- A size that a payload of ours can have is 17, or 20 to 89.
pub carried : (n : ℕ) → carries n ≡ true → (n ≡ 17) ⊎ ((20 ≤ n) × (n ≤ 89))
unfolding carries
carried n = go (eqb n 17) refl
  where
    go : (b : Bool) → eqb n 17 ≡ b → (b || leb 20 n && leb n 89) ≡ true → (n ≡ 17) ⊎ ((20 ≤ n) × (n ≤ 89))
    go true e h = inl (eqb-true n 17 e)
    go false e h =
        let p = (and-eq-true_iff (leb 20 n) (leb n 89)).0 h in
        inr (leb-true 20 n p.0, leb-true n 89 p.1)

pub carried_range : (n : ℕ) → carries n ≡ true → (17 ≤ n) × (n ≤ 89)
carried_range n h = ⊎_elim (λ e. (omega arith, omega arith)) (λ w. (omega arith, w.1)) (carried n h)

-- The numbers of an open session.
pub record Open (s : Session) : Type 0 where
  pub carried : carries s.size ≡ true
  pub low : 17 ≤ s.size
  pub high : s.size ≤ 89
  pub count : s.count ≡ packets s.size
  pub first : 1 ≤ s.next
  pub last : s.next ≤ s.count

pub open_numbers : (s : Session) → is_open s ≡ true → Open s
unfolding is_open
open_numbers s h =
    let c = carries s.size in
    let d = eqb s.count (packets s.size) in
    let e = ltb 0 s.next in
    let f = leb s.next s.count in
    let three = (and-eq-true_iff (c && d && e) f).0 h in
    let two = (and-eq-true_iff (c && d) e).0 three.0 in
    let one = (and-eq-true_iff c d).0 two.0 in
    let range = carried_range s.size one.0 in
    record {
      carried = one.0;
      low = range.0;
      high = range.1;
      count = eqb-true _ _ one.1;
      first = ltb-true 0 s.next two.1;
      last = leb-true _ _ three.1;
    }

module _ (s : Session) where
  pub fit_zero : s.size ≡ 0 → fit s ≡ (eqb s.count 0 && eqb s.next 0)
  unfolding fit is_closed is_open carries
  fit_zero e = rw e (or-false (eqb s.count 0 && eqb s.next 0))

  pub fit_other : (s.size ≡ 0 → ⊥) → fit s ≡ is_open s
  unfolding fit is_closed
  fit_other h = rw (ne_eqb s.size 0 h)
