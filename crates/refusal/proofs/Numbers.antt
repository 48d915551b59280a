-- No refusal has the number 0, by cases; so an answer of that number is none.
-- Assumes nothing.
use mathlib.Core.Path.{◌≡◌, refl}
use mathlib.Core.Bool.{true}
use Prim.Native.Nat.{◌<◌}
use native.Mathlib.Omega.{arith}
use Rattle.std.specs.Prelude.{Result, Ok, Err, is_ok}
use Rattle.refusal.specs.declared.Refusal.{Refusal}
use Rattle.refusal.specs.declared.Refusal.TheVariants.{MalformedFrame, ForeignFrame, NoSuchSender, NotAnAnnouncement, BadSize, OtherGroup, OtherSize, NotOpen, OutOfSequence, NotAPayload, WindowFull, ValueOutOfRange, NoSuchSlot, LinesOutOfRange, WeightOutOfRange, SlotInUse, SlotEmpty, WindowOutOfRange, NoteTooLong, NoRoom, LogCut, UnknownItem, ItemOutOfPlace, Unfit, SearchFinished, BeforeLastTime, RangeNotProper, TieRuleUnknown}
use Rattle.refusal.specs.Numbers.{number_of, number_in}

pub number_above : (e : Refusal) → 0 < number_of e
number_above MalformedFrame = omega arith
number_above ForeignFrame = omega arith
number_above NoSuchSender = omega arith
number_above NotAnAnnouncement = omega arith
number_above BadSize = omega arith
number_above OtherGroup = omega arith
number_above OtherSize = omega arith
number_above NotOpen = omega arith
number_above OutOfSequence = omega arith
number_above NotAPayload = omega arith
number_above WindowFull = omega arith
number_above ValueOutOfRange = omega arith
number_above NoSuchSlot = omega arith
number_above LinesOutOfRange = omega arith
number_above WeightOutOfRange = omega arith
number_above SlotInUse = omega arith
number_above SlotEmpty = omega arith
number_above WindowOutOfRange = omega arith
number_above NoteTooLong = omega arith
number_above NoRoom = omega arith
number_above LogCut = omega arith
number_above UnknownItem = omega arith
number_above ItemOutOfPlace = omega arith
number_above Unfit = omega arith
number_above SearchFinished = omega arith
number_above BeforeLastTime = omega arith
number_above RangeNotProper = omega arith
number_above TieRuleUnknown = omega arith

pub none_refused : {A : Type 0} (a : Result A Refusal) → number_in a ≡ 0 → is_ok a ≡ true
none_refused (Ok x) h = refl
none_refused (Err e) h = absurd (omega (arith, number_above e))
