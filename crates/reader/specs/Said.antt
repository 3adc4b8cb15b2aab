-- What the public answer says: document 01's number, place and bound for each case.
use Rattle.std.specs.Prelude.{ℕ}
use Rattle.meaning.specs.Answer.{Verdict, accepted}
use Rattle.meaning.specs.Answer as meaning
use Rattle.records.specs.Faults.{number_of}
use Rattle.reader.specs.declared.Answer.{Answer}
use Rattle.reader.specs.declared.Answer.TheVariants.{Accepted, Refused}

-- "accepted with the last routine's bound, or refused with number and place"
abbrev pub said_of : Answer → Verdict ℕ
said_of (Accepted bound) = accepted bound
said_of (Refused fault place) = meaning.refused (number_of fault) place
