-- What the answer to a sheet and the places of a routine say, in document 01's terms.
use Rattle.std.specs.Prelude.{ℕ, List, length}
use Rattle.meaning.specs.Tree.{Sheet}
use Rattle.meaning.specs.Format.{pick}
use Rattle.meaning.specs.Answer.{Verdict, accepted, refused, outcome, no_room, Part}
use Rattle.calculator.specs.declared.Places.{Places}

-- "the first places, one per routine in order, hold the bounds": how many
abbrev pub filled_by : Verdict Sheet → ℕ
filled_by (accepted s) = length s.routines
filled_by (refused number place) = 0

unfoldable pub filled : List ℕ → ℕ → ℕ  -- room is the length of the lent table
filled s room = pick (no_room room) 0 (filled_by (outcome s))

-- "from its routine record to the last record of its body"
abbrev pub part_at : Places → Part
part_at p = record { start = p.start; stop = p.end }
