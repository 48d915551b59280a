-- What no refusal of an entry tells: a chain of tests answers 0 only where each is passed.
-- Assumes nothing.
use mathlib.Core.Path.{◌≡◌, refl, sym, ap, ◌∙◌}
use mathlib.Core.Bool.{true, cond}
use Prim.Native.Nat.{ℕ, ◌+◌, ◌<◌}
use Rattle.std.specs.Prelude.{Option, Result, Ok, Err}
use borrow.Author.Tests.{ltb-true, eqb-true}
use lib.Dec.{ltb, eqb}
use Rattle.laws.proofs.Tests.{Tested, passed, failed, tested, either, if_so, if_not}
use Rattle.std.specs.Option.{unwrap_or}
use Rattle.board.specs.declared.Arrival as code
use Rattle.values.specs.declared.Values.{Values}
use Rattle.values.specs.Range.{in_range}
use Rattle.window.specs.declared.Counts.{Counts}
use Rattle.slot.proofs.Refusals.{no_refusal}
pub use Rattle.slot.proofs.Refusals.{zero_is, zero_not}
use Rattle.board.specs.Work.{Arrival}
use Rattle.board.specs.declared.Board.{Board}
use Rattle.board.specs.Work.{Entered}
use Rattle.board.specs.Work.{arrival, leaving, enter_refusal, enter_work}
use Rattle.board.specs.Answers.{some_number, arrival_answer}
use Rattle.refusal.specs.declared.Refusal.{Refusal}
use Rattle.refusal.specs.declared.Refusal.TheVariants.{WindowFull, ValueOutOfRange}
use Rattle.refusal.specs.Numbers.{number_of}
use Rattle.refusal.specs.Answers.{refusal_of, answered}
use Rattle.refusal.proofs.Answers.{taken, taken_number, taken_is, refused_number, refused_is, refused_alike, known}
use Rattle.values.specs.Names.{named}

-- A report that can be entered.
pub record Enterable (c : Counts) (v : Values) : Type 0 where
  pub permitted : in_range v ≡ true
  pub room : c.entered < 1000000

pub enterable : (c : Counts) (v : Values) → enter_refusal c v ≡ 0 → Enterable c v
unfolding enter_refusal
enterable c v e =
    let r = no_refusal (in_range v) (cond (ltb c.entered 1000000) 0 11) 11 e in
    record { permitted = r.0; room = ltb-true c.entered 1000000 (no_refusal (ltb c.entered 1000000) 0 10 r.1).0 }

-- What is answered is made of what was answered before.
pub taken_through : {A B : Type 0} (f : A → B) {x : A} (n : ℕ) (a : A) → Ok x ≡ answered n a → Ok (f x) ≡ answered n (f a)
taken_through f n a h = ap (λ y. Ok (f y)) (taken_is n a h) ∙ taken n (f a) (taken_number n a h)

-- What entering answers has that refusal, and so has what an entry comes to.
pub enter-refusal : (b : Board) (v : Values) → (enter_work b v).refusal ≡ enter_refusal b.window.counts v
unfolding enter_work
enter-refusal b v =
    either (λ (r : Entered). r.refusal ≡ enter_refusal b.window.counts v) (eqb (enter_refusal b.window.counts v) 0)
    (λ t. sym (eqb-true _ 0 t)) (λ t. refl)

pub arrival-refusal : (c : Counts) (v : Values) → (arrival c v).refusal ≡ enter_refusal c v
unfolding arrival
arrival-refusal c v = either (λ (a : Arrival). a.refusal ≡ enter_refusal c v) (eqb (enter_refusal c v) 0) (λ t. sym (eqb-true _ 0 t)) (λ t. refl)

some_back : (n : ℕ) → n ≡ unwrap_or (some_number n) 0
some_back n = go (tested (eqb n 0))
  where
    go : Tested (eqb n 0) → n ≡ unwrap_or (some_number n) 0
    go (passed t) = eqb-true n 0 t ∙ sym (ap (λ (o : Option ℕ). unwrap_or o 0) (if_so _ _ t))
    go (failed t) = sym (ap (λ (o : Option ℕ). unwrap_or o 0) (if_not _ _ t))

-- What the code answers of an entry: that it is refused, or the numbers of the report that enters.
abbrev Checked : Type 0
Checked = Result (Unit {0}) Refusal

module _ (c : Counts) (v : Values) where
  pub arrival-refused : {e : Refusal} → ◌≡◌ {A = Checked} (Err e) (answered (enter_refusal c v) tt) → Err e ≡ arrival_answer (arrival c v)
  unfolding arrival
  arrival-refused h = refused_alike (enter_refusal c v) (tt {0}) _ h ∙ ap arrival_answer (sym (zero_not _ _ (refused_number (enter_refusal c v) (tt {0}) h)))

  pub arrival-taken : {name : ℕ} {oldest : Option ℕ} → ◌≡◌ {A = Checked} (Ok tt) (answered (enter_refusal c v) tt) → name ≡ named (c.entered + 1) v.edition → oldest ≡ some_number (leaving c)
      → Ok (record { number = c.entered + 1; name = name; oldest = oldest }) ≡ arrival_answer (arrival c v)
  unfolding arrival
  arrival-taken h named_so oldest_so =
      (λ i. Ok (record { number = c.entered + 1; name = named_so i; oldest = oldest_so i }))
      ∙ ap arrival_answer (sym (zero_is _ _ (taken_number (enter_refusal c v) (tt {0}) h)))

  -- Its refusals have their numbers.
  pub known_number : (enter_refusal c v ≡ 0 → ⊥) → number_of (refusal_of (enter_refusal c v)) ≡ enter_refusal c v
  unfolding enter_refusal
  known_number =
      either (λ n. (n ≡ 0 → ⊥) → number_of (refusal_of n) ≡ n) (in_range v)
      (λ t. either (λ n. (n ≡ 0 → ⊥) → number_of (refusal_of n) ≡ n) (ltb c.entered 1000000) (λ u no. absurd (no refl)) (λ u no. known WindowFull))
      (λ t no. known ValueOutOfRange)

  -- The number that it is refused with.
  pub entry-number : {e : Refusal} → ◌≡◌ {A = Checked} (Err e) (answered (enter_refusal c v) tt) → number_of e ≡ enter_refusal c v
  entry-number h = ap number_of (refused_is (enter_refusal c v) (tt {0}) h) ∙ known_number (refused_number (enter_refusal c v) (tt {0}) h)

  -- And what the code's answer tells of these numbers.
  pub arrival_of_err : {e : Refusal} → Err e ≡ arrival_answer (arrival c v) → arrival c v ≡ record { refusal = number_of e; number = 0; name = 0; oldest = 0 }
  unfolding arrival
  arrival_of_err {e} h =
      let is = arrival-refusal c v in
      let no : enter_refusal c v ≡ 0 → ⊥ = λ z. refused_number (arrival c v).refusal _ h (is ∙ z) in
      let number : number_of e ≡ enter_refusal c v = ap number_of (refused_is (arrival c v).refusal _ h ∙ ap refusal_of is) ∙ known_number no in
      zero_not _ _ no ∙ ap (λ n. record { refusal = n; number = 0; name = 0; oldest = 0 }) (sym number)

  pub arrival_of_ok : {a : code.Arrival} → Ok a ≡ arrival_answer (arrival c v) → arrival c v ≡ record { refusal = 0; number = a.number; name = a.name; oldest = unwrap_or a.oldest 0 }
  arrival_of_ok {a} h =
      let zero = taken_number (arrival c v).refusal _ h in
      let same = taken_is (arrival c v).refusal _ h in
      let oldest : (arrival c v).oldest ≡ unwrap_or a.oldest 0 = some_back (arrival c v).oldest ∙ ap (λ (b : code.Arrival). unwrap_or b.oldest 0) (sym same) in
      let number = ap (λ (b : code.Arrival). b.number) (sym same) in
      let name = ap (λ (b : code.Arrival). b.name) (sym same) in
      (λ i. record { refusal = zero i; number = number i; name = name i; oldest = oldest i })
