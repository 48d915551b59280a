-- An answer by its number: the refusal of that number, or what is answered where the number is 0.
use Rattle.std.specs.Prelude.{ℕ, cond, List, [], ◌∷◌, Result, Ok, Err, eqb}
use Rattle.refusal.specs.declared.Refusal.{Refusal}
use Rattle.refusal.specs.declared.Refusal.TheVariants.{MalformedFrame, ForeignFrame, NoSuchSender, NotAnAnnouncement, BadSize, OtherGroup, OtherSize, NotOpen, OutOfSequence, NotAPayload, WindowFull, ValueOutOfRange, NoSuchSlot, LinesOutOfRange, WeightOutOfRange, SlotInUse, SlotEmpty, WindowOutOfRange, NoteTooLong, NoRoom, LogCut, UnknownItem, ItemOutOfPlace, Unfit, SearchFinished, BeforeLastTime, RangeNotProper, TieRuleUnknown}
use Rattle.refusal.specs.Numbers.{number_of}

abbrev pub refusals : List Refusal
refusals = MalformedFrame ∷ ForeignFrame ∷ NoSuchSender ∷ NotAnAnnouncement ∷ BadSize ∷ OtherGroup ∷ OtherSize ∷ NotOpen ∷ OutOfSequence ∷ NotAPayload ∷ WindowFull ∷ ValueOutOfRange ∷ NoSuchSlot ∷ LinesOutOfRange ∷ WeightOutOfRange ∷ SlotInUse ∷ SlotEmpty ∷ WindowOutOfRange ∷ NoteTooLong ∷ NoRoom ∷ LogCut ∷ UnknownItem ∷ ItemOutOfPlace ∷ Unfit ∷ SearchFinished ∷ BeforeLastTime ∷ RangeNotProper ∷ TieRuleUnknown ∷ []

-- The first of some refusals that has this number; where none has, it says nothing.
abbrev pub first_of : ℕ → List Refusal → Refusal
first_of n [] = Unfit
first_of n (e ∷ l) = cond (eqb (number_of e) n) e (first_of n l)

-- The refusal of a number.
unfoldable pub refusal_of : ℕ → Refusal
refusal_of n = first_of n refusals

-- Rule 9.1: the refusal of that number, or what is answered where the number is 0.
abbrev pub answered : {A : Type 0} → ℕ → A → Result A Refusal
answered n a = cond (eqb n 0) (Ok a) (Err (refusal_of n))
