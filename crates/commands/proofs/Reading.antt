-- What a line's words are at most, and what isn't given in it.
-- Assumes nothing.
use mathlib.Core.Path.{◌≡◌, refl, subst}
use mathlib.Core.Bool.{Bool, true, false, cond, not, ◌||◌}
use mathlib.Core.List.{List, [], ◌∷◌}
use Prim.Native.Nat.{ℕ, suc, ◌≤◌, ◌<◌}
use native.Mathlib.Omega.{arith}
use borrow.Author.Tests.{eqb-true, not-true}
use lib.Dec.{eqb}
use lib.ListN.{length}
use lib.IntN.{ℤ, pos}
use lib.Signed.{mag}
use Rattle.std.proofs.Common.{Option, Some, None, is_some, ok_or, Result, Ok}
use Rattle.laws.proofs.Tests.{and_both}
use Rattle.lines.specs.Words.{run_length, trimmed, behind_word, tail_at, word_at}
use Rattle.lines.specs.Numbers.{number_in, short_in}
use Rattle.lines.proofs.Numbers.{number_most, short_most}
use Rattle.commands.specs.declared.Kind.{Kind}
use Rattle.commands.specs.declared.Kind.TheVariants as kind
use Rattle.commands.specs.declared.Fault.{Fault}
use Rattle.commands.specs.Lines.{wrong_at, value_at, weight_at, no_more, tie_rule_in, tie_rule_at, heat_at, ties_at, no_tie_rule}

-- What is read where it must be is what was read.
pub asked_for : {T : Type 0} (o : Option T) (f : Fault) (x : T) → ok_or o f ≡ Ok x → o ≡ Some x
asked_for None f x e = cc
asked_for (Some y) f x e = cc

-- ---- how large

pub value_most : (k : Kind) (n most : ℕ) (line : List ℕ) (v : ℕ) → value_at k n most line ≡ Ok v → v ≤ most
unfolding value_at
value_most k n most line v e = number_most 10 most (word_at n line) v (asked_for (number_in 10 most (word_at n line)) (wrong_at k n) v e)

pub weight_most : (k : Kind) (n : ℕ) (line : List ℕ) (z : ℤ) → weight_at k n line ≡ Ok z → mag z < 32768
unfolding weight_at
weight_most k n line z e = short_most (word_at n line) z (asked_for (short_in (word_at n line)) (wrong_at k n) z e)

pub heat_most : (line : List ℕ) (z : ℤ) → heat_at line ≡ Ok z → mag z < 32768
unfolding heat_at
heat_most line z e = go (no_more 5 line || is_some (tie_rule_at 5 line)) e
  where
    zero_small : (x : ℤ) → pos 0 ≡ x → mag x < 32768
    zero_small x h = subst (λ y. mag y < 32768) h (omega arith)

    go : (b : Bool) → cond b (Ok (pos 0)) (weight_at kind.Question 5 line) ≡ Ok z → mag z < 32768
    go true e = zero_small z cc
    go false e = weight_most kind.Question 5 line z e

-- ---- what isn't given

-- Behind the last word stand no words.
nothing : (s : List ℕ) → eqb (length s) 0 ≡ true → s ≡ []
nothing [] e = refl
nothing (b ∷ s) e = absurd (omega (arith, eqb-true (suc (length s)) 0 e))

pub no_word : (n : ℕ) (line : List ℕ) → no_more n line ≡ true → word_at n line ≡ []
unfolding no_more word_at run_length
no_word n line e = rw (nothing (tail_at n line) e)

pub none-behind : (n : ℕ) (line : List ℕ) → no_more n line ≡ true → no_more (suc n) line ≡ true
unfolding no_more tail_at trimmed behind_word run_length
none-behind n line e = rw (nothing (tail_at n line) e)

-- A line that ends with B gives neither a weight for heat nor a tie rule: the weight is 0. One that gives no rule has rule 0.
pub ends-early : (line : List ℕ) → no_more 5 line ≡ true → no_tie_rule line ≡ true
unfolding no_tie_rule tie_rule_in tie_rule_at
ends-early line e = rw (no_word 5 line e, none-behind 5 line e)

pub none_warm : (line : List ℕ) (z : ℤ) → no_more 5 line ≡ true → heat_at line ≡ Ok z → z ≡ pos 0
unfolding heat_at
none_warm line z n e = let cold : ◌≡◌ {A = Result ℤ Fault} (Ok (pos 0)) (Ok z) = rw n at e in cc

pub none_newest : (line : List ℕ) (f : Fault) (t : ℕ) → no_tie_rule line ≡ true → ok_or (ties_at line) f ≡ Ok t → t ≡ 0
unfolding no_tie_rule ties_at
none_newest line f t n e =
    let both = and_both (not (is_some (tie_rule_at 5 line))) (no_more 6 line) n in
    let first : ◌≡◌ {A = Result ℕ Fault} (Ok 0) (Ok t) = rw (not-true (is_some (tie_rule_at 5 line)) both.0, both.1) at e in cc
