-- The rows that the first pass leaves, if it leaves any, are taken by the second.
-- Assumes nothing.
use mathlib.Core.Path.{◌≡◌, ap, ap₂, ◌∙◌}
use mathlib.Core.List.{List}
use Prim.Native.Nat.{ℕ}
use native.Mathlib.Omega.{arith}
use borrow.Author.Rules.{rules}
use lib.IntN.{ℤ}
use Rattle.ranking.specs.Standing.{Held, top}
use Rattle.window.specs.Rows.{standing}
use Rattle.list.specs.declared.Lines.{Lines}
use Rattle.list.specs.Lines.{columns_of}
use Rattle.list.specs.Rows.{rows_in}
use Rattle.list.specs.Inner.{Gathered}
use Rattle.list.proofs.Gathering.{gathered_none, gathered_few}
use Rattle.list.proofs.gathered.Goals as goal
use Rattle.list.proofs.gathered.Goals.{then-up-end, else-up-end}

same_lines : {ns ns' : List ℕ} {ss ss' : List ℤ} {len len' : ℕ} → ns ≡ ns' → ss ≡ ss' → len ≡ len' → ◌≡◌ {A = Lines} (record { names = ns; scores = ss; len = len }) (record { names = ns'; scores = ss'; len = len' })
same_lines p q r = λ i. record { names = p i; scores = q i; len = r i }

pub upward-up-requires : goal.upward-up-requires
upward-up-requires c =
    let most = c.min-most in
    (omega (arith, c.min-most.ensures), omega (arith, c.min-end.ensures), gathered_none c.args.rule c.min-most.result)

pub overflow_cast-count : goal.overflow_cast-count
overflow_cast-count c =
    let reports : ℕ → List Held = λ n. standing (rows_in c.args.rows.now) n in
    let all-taken : Gathered c.args.rule (c.min-most.result) ((reports) (c.min-end.result)) c.if-up-end.found c.if-up-end.by c.if-up-end.len = elim c.if-up-end.branch [
      | then-up-end w ↦ same_lines w.found-is w.by-is w.len-is ∙ w.downward-len.ensures
      | else-up-end w ↦
          let all : c.upward-up.result.rows ≡ (c.min-end.result) = omega (arith, w.if-up-end.false, c.upward-up.ensures.0) in
          same_lines w.found-is w.by-is w.len-is ∙ c.upward-up.ensures.1 ∙ ap (λ n. columns_of (top c.args.rule (c.min-most.result) ((reports) n))) all
    ] in
    let few = gathered_few c.args.rule (c.min-most.result) (omega (arith, c.min-most.ensures)) (reports (c.min-end.result)) (all-taken) in
    search rules

pub returns : goal.returns
returns c =
    let reports : ℕ → List Held = λ n. standing (rows_in c.args.rows.now) n in
    let all-taken : Gathered c.args.rule (c.min-most.result) ((reports) (c.min-end.result)) c.if-up-end.found c.if-up-end.by c.if-up-end.len = elim c.if-up-end.branch [
      | then-up-end w ↦ same_lines w.found-is w.by-is w.len-is ∙ w.downward-len.ensures
      | else-up-end w ↦
          let all : c.upward-up.result.rows ≡ (c.min-end.result) = omega (arith, w.if-up-end.false, c.upward-up.ensures.0) in
          same_lines w.found-is w.by-is w.len-is ∙ c.upward-up.ensures.1 ∙ ap (λ n. columns_of (top c.args.rule (c.min-most.result) ((reports) n))) all
    ] in
    all-taken ∙ ap₂ (λ k n. columns_of (top c.args.rule k (reports n))) c.min-most.ensures c.min-end.ensures
