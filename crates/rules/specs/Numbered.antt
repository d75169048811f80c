-- "Numbers of a breach": the number of each, and of an answer that may be one.
use Rattle.std.specs.Prelude.{ℕ, Result, Ok, Err}
use Rattle.rules.specs.declared.Breach.{Breach}
use Rattle.rules.specs.declared.Breach.TheVariants.{FileTooLong, RecordLacksBits, MarkOrVersion, FieldOutsideRange, NotAscending, FirstTransferLate, DiscountsOverWhole, EndsBeforeStart, ReadOutsideMeter, Rollover, ReadsFarApart, Padding, TooManyProviders, SpaceTooShort, NoSuchPoint}

abbrev pub number_of : Breach → ℕ
-- over 65,536 bytes
number_of FileTooLong = 1
-- a record lacks bits
number_of RecordLacksBits = 2
-- mark or version
number_of MarkOrVersion = 3
-- field outside its range
number_of FieldOutsideRange = 4
-- band sizes, point numbers, or a list's days not strictly ascending
number_of NotAscending = 5
-- first transfer after connection
number_of FirstTransferLate = 6
-- discounts together above 10,000
number_of DiscountsOverWhole = 7
-- disconnection before connection, or removal before installation
number_of EndsBeforeStart = 8
-- read before installation or after removal
number_of ReadOutsideMeter = 9
-- rollover set on a first read, or not set exactly when the value falls
number_of Rollover = 10
-- over 3,660 days between reads
number_of ReadsFarApart = 11
-- padding bit set, or a byte more
number_of Padding = 12
-- over 64 providers with a charged day
number_of TooManyProviders = 13
-- table with fewer entries than rows, or report space shorter than the report
number_of SpaceTooShort = 14
-- no point at that place
number_of NoSuchPoint = 15

-- the number of a refusal, and 0 where nothing is refused
abbrev pub refusal_of : {A : Type 0} → Result A Breach → ℕ
refusal_of (Ok a) = 0
refusal_of (Err breach) = number_of breach

-- the one number of an answer that is a length or a refusal
abbrev pub one_number : Result ℕ Breach → ℕ
one_number (Ok n) = n
one_number (Err breach) = number_of breach
