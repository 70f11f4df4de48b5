-- Document 01's number for each refusal, with those of document 02.
-- Assumes nothing.
use Rattle.std.specs.Prelude.{ℕ, Result, Ok, Err}
use Rattle.refusal.specs.declared.Refusal.{Refusal}
use Rattle.refusal.specs.declared.Refusal.TheVariants.{BadVlenOrFile, NotAWord, BadSettings, SewNot32, NotMultipleOf4, BadGroup, KeyOverlap, MaskOverlap, Not16Bytes, BadRunning, TooLong, NoneExists, ManyExist, BadTrace, BadParked, BadLinks, ShortText}

-- the table of the numbers, a row a line
abbrev pub number : Refusal → ℕ
number BadVlenOrFile = 1
number NotAWord = 2
number BadSettings = 3
number SewNot32 = 4
number NotMultipleOf4 = 5
number BadGroup = 6
number KeyOverlap = 7
number MaskOverlap = 8
number Not16Bytes = 9
number BadRunning = 10
number TooLong = 11
number NoneExists = 12
number ManyExist = 13
number BadTrace = 14
number BadParked = 15
number BadLinks = 16
number ShortText = 22

-- the number of an answer: 0 where the call is done
abbrev pub number_of : {T : Type 0} → Result T Refusal → ℕ
number_of (Ok value) = 0
number_of (Err refusal) = number refusal
