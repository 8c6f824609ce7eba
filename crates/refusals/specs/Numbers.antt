-- The numbers of refusals, and what a call answers that may refuse.
use Rattle.std.specs.Prelude.{ℕ, Bool, true, false, Result, Ok, Err}
use Rattle.refusals.specs.declared.Refusal.{Refusal}
-- refusals: numbers, written by tools/refusals.py from docs/refusals.txt
use Rattle.refusals.specs.declared.Refusal.TheVariants.{MapLength, BookLength, MapEntry, Configuration, SymbolPrice, ReadyPrice, BlockSide, BlockLength, Strategy, Settings, Scan, Level, Ideal, Room, BandInfinite, PathsInfinite, Domain, Sides, Frequency, TokenSplit, TokenCount, TokenLists, OutputShort, TokenLevel, LevelsOwed, HalfWidth, TallyFull, TallyEmpty, OutsideGroup, Overlap, NeighbourMissing, NotSmall, BlockNumber, StoreFull, NotHeld, BufferShort, StoreRecord}

-- the number of a refusal, which is what a caller in C gets
abbrev pub number_of : Refusal → ℕ
number_of MapLength = 1
number_of BookLength = 2
number_of MapEntry = 3
number_of Configuration = 4
number_of SymbolPrice = 5
number_of ReadyPrice = 6
number_of BlockSide = 7
number_of BlockLength = 8
number_of Strategy = 9
number_of Settings = 10
number_of Scan = 11
number_of Level = 12
number_of Ideal = 13
number_of Room = 14
number_of BandInfinite = 15
number_of PathsInfinite = 16
number_of Domain = 17
number_of Sides = 18
number_of Frequency = 19
number_of TokenSplit = 20
number_of TokenCount = 21
number_of TokenLists = 22
number_of OutputShort = 23
number_of TokenLevel = 24
number_of LevelsOwed = 25
number_of HalfWidth = 26
number_of TallyFull = 27
number_of TallyEmpty = 28
number_of OutsideGroup = 29
number_of Overlap = 30
number_of NeighbourMissing = 31
number_of NotSmall = 32
number_of BlockNumber = 33
number_of StoreFull = 34
number_of NotHeld = 35
number_of BufferShort = 36
number_of StoreRecord = 37

-- refusals: end

-- what a call answers, as a number: 0 where it refuses nothing
abbrev pub code_of : {A : Type 0} → Result A Refusal → ℕ
code_of (Ok _) = 0
code_of (Err refusal) = number_of refusal

-- what a call on single values answers: its value where its arguments lie in the domain that document 01 gives it
abbrev pub answered : {A : Type 0} → Bool → A → Result A Refusal
answered true value = Ok value
answered false value = Err Domain
