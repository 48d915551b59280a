-- By the three answers, and by what an entry comes to: the check finds all but a refused entry.
use Rattle.std.proofs.Common.{◌≡◌, ℕ, Some, ap, sym, ◌∙◌, true, not, eqb, arith}
use borrow.Author.Tests.{ne_eqb}
use Rattle.refusal.specs.declared.Refusal.{Refusal}
use Rattle.refusal.specs.Numbers.{number_of}
use Rattle.refusal.proofs.Numbers.{number_above}
use Rattle.values.specs.declared.Values.{Values}
use Rattle.board.specs.Work.{Arrival}
use Rattle.board.proofs.Refusals.{arrival_of_err}
use Rattle.stretch.specs.declared.Brought.{Brought}
use Rattle.stretch.proofs.brings.Goals as goal

said : Values → Arrival → Brought
said v a = record { refused = not (eqb a.refusal 0); code = a.refusal; number = a.number; gone = a.oldest; row = record { loss = v.loss; shake = v.shake; name = a.name } }

-- What a refused entry brings, and what one that is taken does.
refused_said : (v : Values) (e : Refusal) {n : ℕ} {a : Arrival} → n ≡ number_of e → a ≡ record { refusal = number_of e; number = 0; name = 0; oldest = 0 }
    → ◌≡◌ {A = Brought} (record { refused = true; code = n; number = 0; gone = 0; row = record { loss = v.loss; shake = v.shake; name = 0 } }) (said v a)
unfolding said
refused_said v e number is =
    let above = number_above e in
    let so : true ≡ not (eqb (number_of e) 0) = ap not (sym (ne_eqb (number_of e) 0 (λ z. absurd (omega arith)))) in
    (λ i. record { refused = so i; code = number i; number = 0; gone = 0; row = record { loss = v.loss; shake = v.shake; name = 0 } }) ∙ ap (said v) (sym is)

pub returns-in-Err-of-clause-value : goal.returns-in-Err-of-clause-value
unfolding said
returns-in-Err-of-clause-value c =
    let v = c.in-Ok-Some.report.values in
    let some : c.in-Ok-Some.field-0 ≡ Some c.in-Ok-Some.report = rw c.in-Ok-Some.is at c.in-Ok-Some.field-0-is in
    rw (c.in-Ok-Some.is, some) (refused_said v c.in-Err-of.refusal c.number-in-Err-of.ensures (arrival_of_err c.args.counts v c.in-Err-of.ensures))
