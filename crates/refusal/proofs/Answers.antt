-- What an answer tells of its number: a refusal's number isn't 0, and it is that refusal's.
use Rattle.std.proofs.Common.{◌≡◌, ℕ, refl, sym, ap, ◌∙◌, eqb, Ok, Err, arith}
use borrow.Author.Tests.{eqb-true, eq-eqb, ne_eqb}
use Rattle.laws.proofs.Tests.{Tested, passed, failed, tested, if_so, if_not}
use Rattle.refusal.specs.declared.Refusal.{Refusal}
use Rattle.refusal.specs.declared.Refusal.TheVariants.{MalformedFrame, ForeignFrame, NoSuchSender, NotAnAnnouncement, BadSize, OtherGroup, OtherSize, NotOpen, OutOfSequence, NotAPayload, WindowFull, ValueOutOfRange, NoSuchSlot, LinesOutOfRange, WeightOutOfRange, SlotInUse, SlotEmpty, WindowOutOfRange, NoteTooLong, NoRoom, LogCut, UnknownItem, ItemOutOfPlace, Unfit, SearchFinished, BeforeLastTime, RangeNotProper, TieRuleUnknown}
use Rattle.refusal.specs.Numbers.{number_of}
use Rattle.refusal.specs.Answers.{refusal_of, answered}
use Rattle.refusal.proofs.Numbers.{number_above}

-- The refusal of a refusal's number is that one.
pub refusal_back : (e : Refusal) → refusal_of (number_of e) ≡ e
unfolding refusal_of
refusal_back MalformedFrame = refl
refusal_back ForeignFrame = refl
refusal_back NoSuchSender = refl
refusal_back NotAnAnnouncement = refl
refusal_back BadSize = refl
refusal_back OtherGroup = refl
refusal_back OtherSize = refl
refusal_back NotOpen = refl
refusal_back OutOfSequence = refl
refusal_back NotAPayload = refl
refusal_back WindowFull = refl
refusal_back ValueOutOfRange = refl
refusal_back NoSuchSlot = refl
refusal_back LinesOutOfRange = refl
refusal_back WeightOutOfRange = refl
refusal_back SlotInUse = refl
refusal_back SlotEmpty = refl
refusal_back WindowOutOfRange = refl
refusal_back NoteTooLong = refl
refusal_back NoRoom = refl
refusal_back LogCut = refl
refusal_back UnknownItem = refl
refusal_back ItemOutOfPlace = refl
refusal_back Unfit = refl
refusal_back SearchFinished = refl
refusal_back BeforeLastTime = refl
refusal_back RangeNotProper = refl
refusal_back TieRuleUnknown = refl

module _ {A : Type 0} where
  -- Where nothing is refused, the number is 0, and what is answered stands there.
  pub taken_number : {x : A} (n : ℕ) (a : A) → Ok x ≡ answered n a → n ≡ 0
  taken_number {x} n a h = go (tested (eqb n 0))
    where
      go : Tested (eqb n 0) → n ≡ 0
      go (passed t) = eqb-true n 0 t
      go (failed t) = let e = h ∙ if_not _ _ t in cc

  pub taken_is : {x : A} (n : ℕ) (a : A) → Ok x ≡ answered n a → x ≡ a
  taken_is {x} n a h = let e = h ∙ if_so _ _ (eq-eqb n 0 (taken_number n a h)) in cc

  -- Where something is, the number isn't 0, and it is that refusal.
  pub refused_number : {e : Refusal} (n : ℕ) (a : A) → Err e ≡ answered n a → n ≡ 0 → ⊥
  refused_number {e} n a h z = let f = h ∙ if_so _ _ (eq-eqb n 0 z) in cc

  pub refused_is : {e : Refusal} (n : ℕ) (a : A) → Err e ≡ answered n a → e ≡ refusal_of n
  refused_is {e} n a h = let f = h ∙ if_not _ _ (ne_eqb n 0 (refused_number n a h)) in cc

  -- The answer of a number that is 0, and of a refusal's.
  pub taken : (n : ℕ) (a : A) → n ≡ 0 → Ok a ≡ answered n a
  taken n a z = sym (if_so _ _ (eq-eqb n 0 z))

  pub refused : (n : ℕ) (a : A) (e : Refusal) → n ≡ number_of e → Err e ≡ answered n a
  refused n a e is =
      let not_0 = number_above e in
      ap (λ f. Err f) (sym (ap refusal_of is ∙ refusal_back e)) ∙ sym (if_not _ _ (ne_eqb n 0 (λ z. absurd (omega arith))))

-- A refusal is the same whatever would else be answered.
pub refused_alike : {A B : Type 0} {e : Refusal} (n : ℕ) (a : A) (b : B) → Err e ≡ answered n a → Err e ≡ answered n b
refused_alike n a b h = ap (λ f. Err f) (refused_is n a h) ∙ sym (if_not _ _ (ne_eqb n 0 (refused_number n a h)))

-- The number of a refusal's number is that number.
pub known : (e : Refusal) → number_of (refusal_of (number_of e)) ≡ number_of e
known e = ap number_of (refusal_back e)
