-- The bar of a list, case by case, and which entries pass it.
-- Assumes nothing.
use mathlib.Core.Path.{◌≡◌, refl, sym, ap, ◌∙◌}
use mathlib.Core.Bool.{Bool, true, false}
use mathlib.Core.List.{List}
use Prim.Native.Nat.{ℕ, zero, suc, ◌+◌, ◌-◌, ◌/◌, min, ◌≤◌, ◌<◌}
use native.Mathlib.Omega.{arith}
use borrow.Author.Tests.{eq-eqb, ne_eqb, eqb-true, eqb-false, le-ltb}
use lib.Dec.{eqb}
use lib.IntN.{ℤ, pos, negsuc}
use lib.Signed.{lt_z, mag}
use lib.ListN.{get_or}
use Rattle.laws.specs.Lists.{on_last}
use Rattle.ranking.specs.Standing.{Entry}
use Rattle.laws.proofs.Tests.{Tested, passed, failed, tested, clash, if_so, if_not}
use Rattle.list.specs.Lines.{lines_in}
use Rattle.list.specs.Bars.{bar_at, bar_of}
use Rattle.list.specs.declared.Bar.{Bar}
use Rattle.list.specs.declared.Lines.{Lines}
use Rattle.list.proofs.Stored.{Roomy, last_shown}
use Rattle.list.specs.Inner.{least_at, admits}

module _ (ns : List ℕ) (ss : List ℤ) (n : ℕ) (full : Bool) where
  pub bar_at_none : n ≡ 0 → bar_at ns ss n full ≡ record { full = false; name = 0; score = pos 0 }
  unfolding bar_at
  bar_at_none e = if_so _ _ (eq-eqb n 0 e)

  pub bar_at_some : (n ≡ 0 → ⊥) → bar_at ns ss n full ≡ record { full = full; name = get_or ns (n - 1) 0; score = get_or ss (n - 1) (pos 0) }
  unfolding bar_at
  bar_at_some e = if_not _ _ (ne_eqb n 0 e)

-- where it is full, the bar is the last of k lines
pub record Full (l : Lines) (k : ℕ) : Type 0 where
  pub as_many : l.len ≡ k
  pub positive : 1 ≤ k
  pub last : (p : Entry → Bool) → on_last p (lines_in l) ≡ p (record { name = (bar_of l k).name; score = (bar_of l k).score })

module _ (l : Lines) (k : ℕ) where
  abbrev n : ℕ
  n = min l.len 16

  pub bar_full : Roomy l.names l.scores → (bar_of l k).full ≡ true → Full l k
  bar_full room e = go (tested (eqb n 0))
    where
      one : (m : ℕ) → (m ≡ 0 → ⊥) → m - 1 + 1 ≡ m
      one zero h = absurd (h refl)
      one (suc m) h = omega arith

      more : (m : ℕ) → (m ≡ 0 → ⊥) → m ≡ n → l.len ≡ k → 1 ≤ k
      more zero h a b = absurd (h refl)
      more (suc m) h a b = omega arith

      go : Tested (eqb n 0) → Full l k
      go (passed t) = clash e (ap (λ (b : Bar). b.full) (bar_at_none l.names l.scores n (eqb l.len k) (eqb-true n 0 t)))
      go (failed t) =
          let less = eqb-false n 0 t in
          let is = bar_at_some l.names l.scores n (eqb l.len k) less in
          let many = eqb-true l.len k (sym (ap (λ (b : Bar). b.full) is) ∙ e) in
          record {
            as_many = many;
            positive = more n less refl many;
            last = λ p.
                last_shown l.names l.scores room l.len n refl (n - 1) (one n less) p
                ∙ ap p (ap (λ (b : Bar). record { name = b.name; score = b.score }) (sym is));
          }

  -- where it isn't, there are fewer or none
  pub bar_open : (bar_of l k).full ≡ false → l.len ≡ k → n ≡ 0
  bar_open e many = go (tested (eqb n 0))
    where
      go : Tested (eqb n 0) → n ≡ 0
      go (passed t) = eqb-true n 0 t
      go (failed t) =
          clash (eq-eqb l.len k many)
          (sym (ap (λ (b : Bar). b.full) (bar_at_some l.names l.scores n (eqb l.len k) (eqb-false n 0 t))) ∙ e)

module _ (above : Entry → Entry → Bool) (bar : Bar) (e : Entry) where
  pub admits-none : eqb (e.name / 4097) 0 ≡ true → admits above bar e ≡ false
  unfolding admits
  admits-none t = rw t

  pub admits_room : eqb (e.name / 4097) 0 ≡ false → bar.full ≡ false → admits above bar e ≡ true
  unfolding admits
  admits_room t f = rw (t, f)

  pub admits-full : eqb (e.name / 4097) 0 ≡ false → bar.full ≡ true → admits above bar e ≡ above e (record { name = bar.name; score = bar.score })
  unfolding admits
  admits-full t f = rw (t, f)

  -- a score below the bar's least is enough to fail, of those that an `i32` holds
  pub admits_under : ((e f : Entry) → lt_z e.score f.score ≡ true → above e f ≡ false) → mag e.score < 2147483648 → lt_z e.score (least_at bar) ≡ true → admits above bar e ≡ false
  unfolding least_at
  admits_under lower fits low = go (tested (eqb (e.name / 4097) 0)) (tested bar.full)
    where
      no_less : (s : ℤ) → mag s < 2147483648 → lt_z s (negsuc 2147483647) ≡ false
      no_less (pos n) h = refl
      no_less (negsuc n) h = le-ltb 2147483647 n (omega arith)

      go : Tested (eqb (e.name / 4097) 0) → Tested bar.full → admits above bar e ≡ false
      go (passed z) t = admits-none z
      go (failed z) (passed t) = admits-full z t ∙ lower e (record { name = bar.name; score = bar.score }) (rw t at low)
      go (failed z) (failed t) = clash (rw t at low) (no_less e.score fits)
