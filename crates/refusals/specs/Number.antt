-- The number of each refusal.
use Rattle.std.specs.Prelude.{ℕ}
use Rattle.refusals.specs.declared.Refusal.{Refusal}
use Rattle.refusals.specs.declared.Refusal.TheVariants.{ColumnCount, WeightCount, RowLimit, NumberTooLarge, WeightNotTaken, WeightNotTakenAt, NoSuchColumn, TooManyRows, PlaneCount, ByteLength, OutsideSheet, PowerRange, ExtraBits, TooManyWords, NotFinite, WordCount, ColumnsDiffer, AboveShared, FileLength, UnknownCode, SectionOutside}

abbrev pub number_of : Refusal → ℕ
number_of ColumnCount = 1
number_of WeightCount = 2
number_of RowLimit = 3
number_of NumberTooLarge = 4
number_of (WeightNotTaken column) = 5
number_of (WeightNotTakenAt row column) = 5
number_of NoSuchColumn = 6
number_of TooManyRows = 7
number_of PlaneCount = 8
number_of ByteLength = 9
number_of OutsideSheet = 10
number_of PowerRange = 11
number_of ExtraBits = 12
number_of TooManyWords = 13
number_of (NotFinite row) = 14
number_of WordCount = 15
number_of ColumnsDiffer = 16
number_of (AboveShared row) = 17
number_of FileLength = 20
number_of UnknownCode = 21
number_of SectionOutside = 22
