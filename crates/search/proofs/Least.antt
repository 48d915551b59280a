-- The least number that passes a test, by induction on how many are tried.
-- Assumes nothing.
use mathlib.Core.Path.{◌≡◌, refl, sym, ap, ◌∙◌, subst}
use mathlib.Core.Logic.{◌⊎◌, inl, inr}
use mathlib.Core.Bool.{Bool, true, false}
use Prim.Native.Nat.{ℕ, zero, suc, ◌+◌, ◌≤◌, ◌<◌}
use native.Mathlib.Nat.{add-zero, add-suc, suc-add}
use native.Mathlib.Omega.{arith}
use Rattle.search.specs.Search.{least}
use Rattle.laws.proofs.Tests.{Tested, passed, failed, tested}
use Rattle.laws.proofs.Lists.{lt_or_eq}

pub least_from : (p : ℕ → Bool) (f n : ℕ) → n ≤ least p f n
least_from p zero n = omega arith
least_from p (suc f) n = go (tested (p n)) (least_from p f (suc n))
  where
    go : Tested (p n) → suc n ≤ least p f (suc n) → n ≤ least p (suc f) n
    go (passed e) ih = rw (e, least) (omega arith)
    go (failed e) ih = rw (e, least) (omega arith)

pub least_le : (p : ℕ → Bool) (f n : ℕ) → least p f n ≤ n + f
least_le p zero n = omega arith
least_le p (suc f) n = go (tested (p n)) (least_le p f (suc n))
  where
    go : Tested (p n) → least p f (suc n) ≤ suc n + f → least p (suc f) n ≤ n + suc f
    go (passed e) ih = rw (e, least) (omega arith)
    go (failed e) ih = rw (e, least) (omega arith)

pub least-holds : (p : ℕ → Bool) (f n : ℕ) → p (n + f) ≡ true → p (least p f n) ≡ true
least-holds p zero n h = rw add-zero at h
least-holds p (suc f) n h = go (tested (p n)) (least-holds p f (suc n))
  where
    go : Tested (p n) → (p (suc n + f) ≡ true → p (least p f (suc n)) ≡ true) → p (least p (suc f) n) ≡ true
    go (passed e) ih = subst (λ m. p m ≡ true) (rw (e, least)) e
    go (failed e) ih = subst (λ m. p m ≡ true) (rw (e, least)) (ih (subst (λ m. p m ≡ true) (add-suc n f ∙ sym (suc-add n f)) h))

pub least-before : (p : ℕ → Bool) (f n m : ℕ) → n ≤ m → m < least p f n → p m ≡ false
least-before p zero n m l h = absurd (no n m l h)
  where
    no : (n m : ℕ) → n ≤ m → m < n → ⊥
    no n m l h = omega arith
least-before p (suc f) n m l h = go (tested (p n)) (lt_or_eq l) (least-before p f (suc n) m)
  where
    no : (a b c : ℕ) → a ≤ b → b < c → c ≡ a → ⊥
    no a b c l h e = omega arith

    go : Tested (p n) → (n < m) ⊎ (n ≡ m) → (suc n ≤ m → m < least p f (suc n) → p m ≡ false) → p m ≡ false
    go (passed e) t ih = absurd (no n m (least p (suc f) n) l h (rw (e, least)))
    go (failed e) (inl g) ih = ih g (subst (λ z. m < z) (rw (e, least)) h)
    go (failed e) (inr g) ih = ap p (sym g) ∙ e

pub least-same : (p q : ℕ → Bool) (f n : ℕ) → ((m : ℕ) → m ≤ least p f n → p m ≡ q m) → least p f n ≡ least q f n
least-same p q zero n h = refl
least-same p q (suc f) n h = go (tested (p n)) (least-same p q f (suc n))
  where
    agree : p n ≡ q n
    agree = h n (least_from p (suc f) n)

    go : Tested (p n) → (((m : ℕ) → m ≤ least p f (suc n) → p m ≡ q m) → least p f (suc n) ≡ least q f (suc n)) → least p (suc f) n ≡ least q (suc f) n
    go (passed e) ih =
        let e' : q n ≡ true = sym agree ∙ e in
        rw (e, e', least)
    go (failed e) ih =
        let e' : q n ≡ false = sym agree ∙ e in
        rw (e, e', least) (ih (λ m l. h m (subst (λ z. m ≤ z) (rw (e, least)) l)))
