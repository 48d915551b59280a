-- What a walk over the slots tells of all of them: each passed, or one failed.
use Rattle.std.proofs.Common.{◌≡◌, ℕ, ◌<◌, sym, Bool, true, false, List, length, get_or, arith}
use Rattle.std.specs.Bool.{MatchBool}
use Rattle.std.specs.List.{AllWithin, HoldsAt}
use Rattle.laws.proofs.Tests.{Tested, passed, failed, tested, clash}
use Rattle.laws.proofs.Lists.{index_of, get_d_in}
use Rattle.list.specs.Lines.{all_of}
use Rattle.list.proofs.Blank.{all_in, all-is}

module _ {A : Type 0} (d : A) (p : A → Bool) (l : List A) where
  pub all_told : (r : Bool) → MatchBool r (AllWithin (λ (x : A). p x ≡ true) l 0 (length l)) ((k : ℕ) × (k < length l) × HoldsAt (λ (x : A). p x ≡ false) l k) → r ≡ all_of p l
  all_told true each = sym (all-is p l (λ x m. let at = index_of d l m in subst_at x at.0 at.2 (each at.0 d (omega arith) at.1)))
    where
      subst_at : (x : A) (n : ℕ) → get_or l n d ≡ x → p (get_or l n d) ≡ true → p x ≡ true
      subst_at x n e h = rw (← e) h
  all_told false (k, h, no-pass) = go (tested (all_of p l))
    where
      go : Tested (all_of p l) → false ≡ all_of p l
      go (passed t) = clash (all_in p l t (get_or l k d) (get_d_in d l k h)) (no-pass d)
      go (failed t) = sym t
