-- Document 01, "What comes back": the number of each refusal, and what the code's results say in the document's terms.
use Rattle.std.specs.Prelude.{ℕ, Result, Ok, Err}
use Rattle.meaning.specs.Judgement.{Reading, refused, found}
use Rattle.records.specs.declared.Cursor.{Cursor}
use Rattle.records.specs.declared.faults.Fault.{Fault}
use Rattle.records.specs.declared.faults.Fault.TheVariants.{NoRoom, TooLong, Cut, BadKind, BadLength, BadField, BadCall, TooDeep, StrayMarker, NoPlainBranch, Extra, TooBig}
use Rattle.records.specs.declared.faults.Fault.TheVariants.{ShortList, BadDeadline}
use Rattle.records.specs.declared.faults.Refusal.{Refusal}

-- "number | name", 1 to 12; 13 and 14 with request L1 of document 02
abbrev pub number_of : Fault → ℕ
number_of NoRoom = 1
number_of TooLong = 2
number_of Cut = 3
number_of BadKind = 4
number_of BadLength = 5
number_of BadField = 6
number_of BadCall = 7
number_of TooDeep = 8
number_of StrayMarker = 9
number_of NoPlainBranch = 10
number_of Extra = 11
number_of TooBig = 12
number_of ShortList = 13
number_of BadDeadline = 14

-- what is read and the place past it, or "refused with number and place"
abbrev pub reading_of : {A : Type 0} → Result (A × Cursor) Refusal → Reading A
reading_of (Ok (a, next)) = found a next.at
reading_of (Err refusal) = refused (number_of refusal.fault) refusal.place
