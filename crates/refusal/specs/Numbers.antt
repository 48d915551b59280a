-- The numbers of the refusals (docs/RULES.md, sections 9 and 13 to 19).
use Rattle.std.specs.Prelude.{ℕ, Result, Ok, Err}
use Rattle.refusal.specs.declared.Refusal.{Refusal}
use Rattle.refusal.specs.declared.Refusal.TheVariants.{MalformedFrame, ForeignFrame, NoSuchSender, NotAnAnnouncement, BadSize, OtherGroup, OtherSize, NotOpen, OutOfSequence, NotAPayload, WindowFull, ValueOutOfRange, NoSuchSlot, LinesOutOfRange, WeightOutOfRange, SlotInUse, SlotEmpty, WindowOutOfRange, NoteTooLong, NoRoom, LogCut, UnknownItem, ItemOutOfPlace, Unfit, SearchFinished, BeforeLastTime, RangeNotProper, TieRuleUnknown}

-- Rule 9.1: a refusal answers its number.
abbrev pub number_of : Refusal → ℕ
number_of MalformedFrame = 1
number_of ForeignFrame = 2
number_of NoSuchSender = 3
number_of NotAnAnnouncement = 4
number_of BadSize = 5
number_of OtherGroup = 6
number_of OtherSize = 7
number_of NotOpen = 8
number_of OutOfSequence = 9
number_of NotAPayload = 10
number_of WindowFull = 11
number_of ValueOutOfRange = 12
number_of NoSuchSlot = 13
number_of LinesOutOfRange = 14
number_of WeightOutOfRange = 15
number_of SlotInUse = 16
number_of SlotEmpty = 17
number_of WindowOutOfRange = 18
number_of NoteTooLong = 19
number_of NoRoom = 20
number_of LogCut = 21
number_of UnknownItem = 22
number_of ItemOutOfPlace = 23
number_of Unfit = 24
number_of SearchFinished = 25
number_of BeforeLastTime = 26
number_of RangeNotProper = 30
number_of TieRuleUnknown = 33

-- The number of an answer: its refusal's, or 0 where nothing was refused.
abbrev pub number_in : {A : Type 0} → Result A Refusal → ℕ
number_in (Ok a) = 0
number_in (Err e) = number_of e
