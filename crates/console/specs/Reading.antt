-- What the functions of this crate come to. Which bytes a reader has is known of some readers, a slice or a cursor, and not of a file or a terminal.
use Rattle.std.specs.Prelude.{ℕ, ◌+◌, ◌≡◌, ◌<◌, ◌≤◌, min, Result, Ok, Err, Option, List, length, take}
use Rattle.std.specs.Io.KnownBytes.{Consumes, IsAtEnd, Keeps}
use Rattle.std.specs.declared.io.Error.{Error}

-- a read that answers an error failed; any other moved as many bytes as it answers, within the rest of the room
abbrev pub told_of : Result ℕ Error → ℕ → Result ℕ Error
told_of (Ok n) room = Ok (min n room)
told_of (Err e) room = Err e

-- what was read from a place on lies in the room for it
abbrev pub Within : ℕ → ℕ → Result ℕ Error → Type 0
Within room at (Ok n) = at + n ≤ room
Within room at (Err e) = Unit {0}

-- where the bytes that a reader has are known: a read moved the first of them to the start of the rest of the room, none only at its end; none if it failed
abbrev pub Gives : Option (List ℕ) → Option (List ℕ) → List ℕ → Result ℕ Error → Type 0
Gives old new rest (Ok n) = Consumes old new (take n rest) × (n ≡ 0 → 0 < length rest → IsAtEnd new)
Gives old new rest (Err e) = Keeps old new

-- the same of reading until the reader or the room ends: less than the room only at the reader's end
abbrev pub GivesAll : Option (List ℕ) → Option (List ℕ) → List ℕ → Result ℕ Error → Type 0
GivesAll old new room (Ok n) = Consumes old new (take n room) × (n < length room → IsAtEnd new)
GivesAll old new room (Err e) = Unit {0}
