-- When a search has ended, case by case as a question tells it.
-- Assumes nothing.
use mathlib.Core.Path.{◌≡◌, ap₂, ◌∙◌}
use mathlib.Core.Bool.{true, false, not, ◌&&◌, ◌||◌, and-false, not-not}
use borrow.Author.Tests.{ne_eqb, eq-eqb, eqb-true}
use lib.Dec.{eqb}
use lib.Signed.{lt_z}
use Rattle.laws.specs.Lists.{on_last}
use Rattle.ranking.specs.Cells.{best_score, in_order}
use Rattle.ranking.specs.Standing.{reaches}
use Rattle.laws.proofs.Tests.{Tested, passed, failed, tested}
use Rattle.list.proofs.Bars.{bar_full, bar_open}
use Rattle.question.specs.declared.Question.{Question}
use Rattle.question.specs.Lines.{list_of, lines, finished, bar_of}
use Rattle.question.proofs.Stored.{Roomy, no_lines}

module _ (q : Question) where
  pub finished-none : in_order q.rule q.next ≡ false → finished q ≡ true
  unfolding finished
  finished-none h = rw h

  module _ (h : in_order q.rule q.next ≡ true) where
    pub finished_other : (q.len ≡ q.k → ⊥) → finished q ≡ false
    unfolding finished
    finished_other e = rw (h, ne_eqb q.len q.k e)

    pub finished_open : (bar_of q).full ≡ false → finished q ≡ false
    unfolding finished
    finished_open e = go (tested (eqb q.len q.k))
      where
        go : Tested (eqb q.len q.k) → finished q ≡ false
        go (failed t) = rw (h, t)
        go (passed t) =
            rw (h, no_lines q (bar_open (list_of q) q.k e (eqb-true q.len q.k t))) (and-false (eqb q.len q.k))

    pub finished-full : Roomy q.names q.scores → (bar_of q).full ≡ true → finished q ≡ lt_z (best_score q.rule q.next) (bar_of q).score
    unfolding finished
    finished-full r e =
        let full = bar_full (list_of q) q.k r e in
        ap₂ (λ a b. not a || b && on_last (λ z. not (reaches q.rule q.next z)) (lines q)) h (eq-eqb q.len q.k full.as_many)
        ∙ full.last (λ z. not (reaches q.rule q.next z))
        ∙ not-not (lt_z (best_score q.rule q.next) (bar_of q).score)
