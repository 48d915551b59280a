-- Rows of a ring and the numbers that lie in them: a row and the age of its report determine each other, since a ring of N rows tells apart any N numbers in a row.
-- Assumes nothing.
use mathlib.Core.Path.{◌≡◌, sym, ap, ◌∙◌}
use mathlib.Core.Bool.{cond, ◌&&◌}
use Prim.Native.Nat.{ℕ, suc, min, ◌+◌, ◌-◌, ◌*◌, ◌/◌, ◌%◌, ◌≤◌, ◌<◌}
use native.Mathlib.Nat.{mod-lt, mod-eq_of_lt, div-add-mod, add-mod_right, add-mul-mod_self_left, mul-suc}
use native.Mathlib.Omega.{arith}
use borrow.Author.Tests.{lt-ltb, ltb-true, ltb-false, eqb-true, eqb-false}
use lib.Dec.{ltb, eqb}
use Rattle.laws.proofs.Tests.{Tested, passed, failed, tested, and_both}
use Rattle.window.specs.Rows.{row_of, age, due}
use Rattle.window.specs.declared.Counts.{Counts}

-- Two numbers that differ by a multiple of N lie in one row.
turns : (N x y q : ℕ) → x ≡ y + N * q → x % N ≡ y % N
turns N x y q e = ap (λ z. z % N) e ∙ add-mul-mod_self_left y N q

abbrev pub counting : (N e h : ℕ) → Counts
counting N e h = record { size = N; entered = e; held = h }

module _ (N : ℕ) (positive : 1 ≤ N) where
  -- the way back from y to the row of x is the way back to x
  pub gap : (x y : ℕ) → x ≤ y → (y + N - x % N) % N ≡ (y - x) % N
  gap x y h =
      let whole = div-add-mod x N in
      let small = mod-lt x positive in
      turns N (y + N - x % N) (y - x) (suc (x / N)) (omega (arith, mul-suc N (x / N)))

  -- and as far back from x as r lies behind it is r's row
  back : (x r : ℕ) → r < N → r ≤ x → (x - (x - r) % N) % N ≡ r
  back x r h below =
      let whole = div-add-mod (x - r) N in
      turns N (x - (x - r) % N) r ((x - r) / N) (omega arith) ∙ mod-eq_of_lt h

  -- the latest report that lies in a row is as old as the row says
  pub row_of_age : (e r : ℕ) → r < N → age N e r < e → row_of N (e - age N e r) ≡ r
  row_of_age e r h young =
      let a = age N e r in
      let around : e + N - 1 - a ≡ e - a - 1 + N = omega arith in
      sym (add-mod_right (e - a - 1) N) ∙ ap (λ z. z % N) (sym around) ∙ back (e + N - 1) r h (omega arith)

  pub age_of_row : (e m : ℕ) → 1 ≤ m → m ≤ e → e < m + N → age N e (row_of N m) ≡ e - m
  age_of_row e m first entered held =
      ap (λ z. z % N) around ∙ gap (m - 1) (e - 1) (omega arith) ∙ ap (λ z. z % N) apart ∙ mod-eq_of_lt (omega arith)
    where
      around : e + N - 1 - (m - 1) % N ≡ e - 1 + N - (m - 1) % N
      around = omega arith

      apart : e - 1 - (m - 1) ≡ e - m
      apart = omega arith

  -- fewer than N apart, two numbers lie in two rows
  pub rows_differ : (l m : ℕ) → 1 ≤ l → l < m → m < l + N → row_of N l ≡ row_of N m → ⊥
  rows_differ l m first later near same =
      let one = age_of_row m l first (omega arith) near in
      let other = age_of_row m m (omega arith) (omega arith) (omega arith) in
      omega (arith, ap (age N m) same)

  -- the rows may be counted back from that of the latest report
  pub due_from : (e h r last steps : ℕ) → r < N → last ≡ row_of N (e + N) → steps ≡ (last + N - r) % N → due (counting N e h) r ≡ cond (ltb steps h) (e - steps) 0
  due_from e h r last steps in_ring at counted =
      let x = e + N - 1 in
      let whole = div-add-mod x N in
      let same : steps ≡ age N e r =
      counted
      ∙ ap (λ n. (n + N - r) % N) at
      ∙ sym (turns N (x - r + N) (x % N + N - r) (x / N) (omega arith))
      ∙ add-mod_right (x - r) N in
      rw (lt-ltb _ _ in_ring, ← same)

-- A ring of N rows, where the latest h of e numbers are held.
pub record Ring (N e h : ℕ) : Type 0 where
  pub positive : 1 ≤ N
  pub has_rows : h ≤ N
  pub were_entered : h ≤ e

-- The number m is held, and the row is its own.
pub record Kept (N e h r m : ℕ) : Type 0 where
  pub in_ring : r < N
  pub late : e < m + h
  pub entered : m ≤ e
  pub its_row : row_of N m ≡ r

module _ {N e h : ℕ} (ring : Ring N e h) where
  -- the row of a held number must hold it
  pub due_held : (m : ℕ) → e < m + h → m ≤ e → due (counting N e h) (row_of N m) ≡ m
  due_held m late entered =
      let old : age N e (row_of N m) ≡ e - m = age_of_row N ring.positive e m (omega arith) entered (omega arith) in
      let young : age N e (row_of N m) < h = omega arith in
      rw (lt-ltb _ _ (mod-lt (m - 1) ring.positive), lt-ltb _ _ young) (omega arith)

  -- and where a row must hold a number, it is a held one whose row it is
  pub due_kept : (r : ℕ) → (due (counting N e h) r ≡ 0 → ⊥) → Kept N e h r (due (counting N e h) r)
  due_kept r given = go (tested (ltb r N && ltb (age N e r) h))
    where
      go : Tested (ltb r N && ltb (age N e r) h) → Kept N e h r (due (counting N e h) r)
      go (failed f) = absurd (given (rw f))
      go (passed t) =
          let both = and_both (ltb r N) (ltb (age N e r) h) t in
          let in_ring = ltb-true r N both.0 in
          let young = ltb-true (age N e r) h both.1 in
          let is : due (counting N e h) r ≡ e - age N e r = rw t in
          record {
            in_ring = in_ring;
            late = omega arith;
            entered = omega arith;
            its_row = ap (row_of N) is ∙ row_of_age N ring.positive e r in_ring (omega arith);
          }

-- With one number more, every row but its own must hold what it had to hold before.
module _ {N e h : ℕ} (ring : Ring N e h) where
  pub next_ring : Ring N (e + 1) (min N (h + 1))
  next_ring = record { positive = ring.positive; has_rows = omega arith; were_entered = omega arith }

  -- the new number's row
  pub due_new : due (counting N (e + 1) (min N (h + 1))) (row_of N (e + 1)) ≡ e + 1
  due_new = due_held next_ring (e + 1) (omega arith) (omega arith)

  module _ (r : ℕ) (other : r ≡ row_of N (e + 1) → ⊥) where
    -- the only number that is held no more had the new number's row
    still : (m : ℕ) → e < m + h → m ≤ e → row_of N m ≡ r → e + 1 < m + min N (h + 1)
    still m late entered own = go (tested (ltb (e + 1) (m + min N (h + 1))))
      where
        oldest : m + min N (h + 1) ≤ e + 1 → e + 1 - 1 ≡ m - 1 + N
        oldest l = omega arith

        go : Tested (ltb (e + 1) (m + min N (h + 1))) → e + 1 < m + min N (h + 1)
        go (passed t) = ltb-true _ _ t
        go (failed f) =
            absurd (other (sym own ∙ sym (add-mod_right (m - 1) N) ∙ ap (λ n. n % N) (sym (oldest (ltb-false _ _ f)))))

    stays : Kept N e h r (due (counting N e h) r) → due (counting N (e + 1) (min N (h + 1))) r ≡ due (counting N e h) r
    stays k =
        ap (due (counting N (e + 1) (min N (h + 1)))) (sym k.its_row)
        ∙ due_held next_ring (due (counting N e h) r) (still (due (counting N e h) r) k.late k.entered k.its_row) (omega arith)

    was : (m : ℕ) → Kept N (e + 1) (min N (h + 1)) r m → m ≡ due (counting N e h) r
    was m k = sym (ap (due (counting N e h)) (sym k.its_row) ∙ due_held ring m (omega arith) (before (tested (eqb m (e + 1)))))
      where
        before : Tested (eqb m (e + 1)) → m ≤ e
        before (passed t) = absurd (other (sym k.its_row ∙ ap (row_of N) (eqb-true m (e + 1) t)))
        before (failed f) = let new = eqb-false m (e + 1) f in omega (arith, k.entered)

    pub due-later : due (counting N (e + 1) (min N (h + 1))) r ≡ due (counting N e h) r
    due-later = go (tested (eqb (due (counting N e h) r) 0)) (tested (eqb (due (counting N (e + 1) (min N (h + 1))) r) 0))
      where
        go : Tested (eqb (due (counting N e h) r) 0) → Tested (eqb (due (counting N (e + 1) (min N (h + 1))) r) 0) → due (counting N (e + 1) (min N (h + 1))) r ≡ due (counting N e h) r
        go (failed f) t = stays (due_kept ring r (eqb-false _ _ f))
        go (passed t) (failed f) = was (due (counting N (e + 1) (min N (h + 1))) r) (due_kept next_ring r (eqb-false _ _ f))
        go (passed t) (passed u) = eqb-true _ _ u ∙ sym (eqb-true _ _ t)
