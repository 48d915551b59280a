-- One frame more enters one report more, or none: the answers to a run grow at their end, and of the reports that they bring the first 1,000,000 are entered.
-- Assumes nothing.
use mathlib.Core.Path.{◌≡◌, refl, sym, ap, ◌∙◌}
use mathlib.Core.Bool.{Bool, true, false, cond}
use mathlib.Core.List.{List, [], ◌∷◌, ◌++◌, append-nil}
use mathlib.Core.Logic.{⊎_elim}
use Prim.Native.Nat.{ℕ, ◌≤◌, ◌<◌}
use native.Mathlib.Omega.{arith}
use borrow.Author.Tests.{lt-ltb, eqb-true, le-ltb}
use lib.Dec.{eqb, ltb}
use lib.ListN.{take, length, length-append}
use lib.Seq.{take-nil, take-append-le, take_all, length-take-le}
use Rattle.laws.proofs.Tests.{if_not, if_so, either}
use Rattle.values.specs.declared.Values.{Values}
use Rattle.values.specs.Range.{in_range}
use Rattle.window.specs.declared.Counts.{Counts}
use Rattle.board.specs.Work.{enter_refusal, enter_work}
use Rattle.board.specs.declared.Board.{Board}
use Rattle.board.specs.Work.{Entered}
use Rattle.report.specs.declared.Report.{Report}
use Rattle.joining.specs.Answers.{Answer}
use Rattle.std.specs.Prelude.{Some, None, Ok, Err}
use Rattle.times.specs.Run.{Timed, fresh_stations, timed_answer, stations_after_all, timed_answers}
use Rattle.times.proofs.Driving.{timed_answers_more}
use Rattle.text.proofs.Decimal.{below_or}
use Rattle.journal.specs.Reached.{completed, entered_by}

-- Before any frame there are no reports.
pub none_yet : entered_by [] ≡ []
unfolding entered_by timed_answers
none_yet = take-nil 1000000

completed_more : (l : List Answer) (a : Answer) → completed (l ++ a ∷ []) ≡ completed l ++ completed (a ∷ [])
completed_more [] a = refl
completed_more (Err e ∷ l) a = completed_more l a
completed_more (Ok None ∷ l) a = completed_more l a
completed_more (Ok (Some r) ∷ l) a = ap (λ (vs : List Values). r.values ∷ vs) (completed_more l a)

take_more : {A : Type 0} (n : ℕ) (l : List A) (x : A) → take n (l ++ x ∷ []) ≡ cond (ltb (length (take n l)) n) (take n l ++ x ∷ []) (take n l)
take_more n l x =
    ⊎_elim
    (λ (less : length l < n).
    let all = take_all n l (omega arith) in
    take_all n (l ++ x ∷ []) (rw length-append (omega arith)) ∙ ap (λ r. r ++ x ∷ []) (sym all) ∙ sym (if_so _ _ (lt-ltb (length (take n l)) n (rw all less))))
    (λ (full : n ≤ length l).
    take-append-le n l (x ∷ []) full ∙ sym (if_not _ _ (le-ltb (length (take n l)) n (omega (arith, length-take-le n l full)))))
    (below_or (length l) n (ltb (length l) n) refl)

module _ (fs : List Timed) (f : Timed) where
  unfoldable pub answer : Answer
  answer = timed_answer (stations_after_all fresh_stations fs) f

  with_answer : (a : Answer) → answer ≡ a → entered_by (fs ++ f ∷ []) ≡ take 1000000 (completed (timed_answers fresh_stations fs) ++ completed (a ∷ []))
  unfolding entered_by answer
  with_answer a e =
      ap (λ l. take 1000000 (completed l)) (timed_answers_more fresh_stations fs f) ∙ ap (take 1000000) (completed_more (timed_answers fresh_stations fs) (timed_answer (stations_after_all fresh_stations fs) f))
      ∙ ap (λ x. take 1000000 (completed (timed_answers fresh_stations fs) ++ completed (x ∷ []))) e

  pub nothing_more : (a : Answer) → answer ≡ a → completed (a ∷ []) ≡ [] → entered_by (fs ++ f ∷ []) ≡ entered_by fs
  unfolding entered_by
  nothing_more a e z = with_answer a e ∙ ap (take 1000000) (ap (λ l. completed (timed_answers fresh_stations fs) ++ l) z ∙ append-nil (completed (timed_answers fresh_stations fs)))

  pub one_more : (r : Report) → answer ≡ Ok (Some r)
      → entered_by (fs ++ f ∷ []) ≡ cond (ltb (length (entered_by fs)) 1000000) (entered_by fs ++ r.values ∷ []) (entered_by fs)
  unfolding entered_by
  one_more r e = with_answer (Ok (Some r)) e ∙ take_more 1000000 (completed (timed_answers fresh_stations fs)) r.values

pub enter-refusal : (b : Board) (v : Values) → (enter_work b v).refusal ≡ enter_refusal b.window.counts v
unfolding enter_work
enter-refusal b v =
    either (λ (r : Entered). r.refusal ≡ enter_refusal b.window.counts v) (eqb (enter_refusal b.window.counts v) 0)
    (λ t. sym (eqb-true _ 0 t)) (λ t. refl)

-- A report with permitted values enters where fewer than 1,000,000 have.
pub enters_when : (c : Counts) (v : Values) → in_range v ≡ true → eqb (enter_refusal c v) 0 ≡ ltb c.entered 1000000
unfolding enter_refusal
enters_when c v may = rw may (go (ltb c.entered 1000000))
  where
    go : (t : Bool) → eqb (cond t 0 11) 0 ≡ t
    go true = refl
    go false = refl
