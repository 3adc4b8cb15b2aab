-- Document 02, L1: what comes back with a deadline for each routine: the answer, the table after and the margins after.
use Rattle.std.specs.Prelude.{ℕ, suc, Bool, true, List, [], ◌∷◌, ◌++◌, length, take, drop, ℤ, pos, ◌-ℤ◌, ltb}
use Rattle.std.proofs.Math.Option.{Option, some, none}
use Rattle.meaning.specs.Tree.{Sheet}
use Rattle.meaning.specs.Format.{pick}
use Rattle.meaning.specs.Value.{bounds_of}
use Rattle.meaning.specs.Answer.{Verdict, accepted, refused, outcome, no_room}

-- "Deadlines run from 0 to 2^40 - 1"
abbrev pub last_deadline : ℕ
last_deadline = 1099511627775

-- 13, SHORT LIST: "either list under 64"
abbrev pub short_list : List ℕ → List ℤ → Bool
short_list deadlines margins = pick (ltb (length deadlines) 64) true (ltb (length margins) 64)

-- "deadline in cycles for every routine": those of the sheet's routines; what stands after them is not looked at
abbrev pub deadlines_of : Sheet → List ℕ → List ℕ
deadlines_of s deadlines = take (length s.routines) deadlines

-- "the number of the first routine out of range", if there is one; the first of the list is the routine of this number
unfoldable pub first_out : ℕ → List ℕ → Option ℕ
first_out number [] = none
first_out number (deadline ∷ rest) = pick (ltb last_deadline deadline) (some number) (first_out (suc number) rest)

-- 14, BAD DEADLINE, "place: the number of the first routine out of range"
abbrev pub held : Sheet → Option ℕ → Verdict Sheet
held s none = accepted s
held s (some number) = refused 14 number

abbrev pub held_to : List ℕ → Verdict Sheet → Verdict Sheet  -- "after TOO BIG": a sheet's own refusal comes before it
held_to deadlines (accepted s) = held s (first_out 1 (deadlines_of s deadlines))
held_to deadlines (refused number place) = refused number place

-- what becomes of a sheet and the three lent lists: 1, then "13 SHORT LIST after NO ROOM", then 2 to 12, then 14
unfoldable pub planned : List ℕ → List ℕ → List ℕ → List ℤ → Verdict Sheet
planned s table deadlines margins =
    pick (no_room (length table)) (refused 1 0) (pick (short_list deadlines margins) (refused 13 0) (held_to deadlines (outcome s)))

-- "deadline minus bound": "negative when late, zero when it just fits"
abbrev pub margin_of : ℕ → ℕ → ℤ
margin_of deadline bound = pos deadline -ℤ pos bound

unfoldable pub margins_of : List ℕ → List ℕ → List ℤ  -- "for each routine", that has a deadline and a bound
margins_of (deadline ∷ deadlines) (bound ∷ bounds) = margin_of deadline bound ∷ margins_of deadlines bounds
margins_of [] bounds = []
margins_of (deadline ∷ deadlines) [] = []

-- "write deadline minus bound for each routine"; "Later places keep their contents"; "any refusal leaves all three lists unchanged"
abbrev pub margins_after : Verdict Sheet → List ℕ → List ℤ → List ℤ
margins_after (accepted s) deadlines margins = margins_of deadlines (bounds_of s) ++ drop (length s.routines) margins
margins_after (refused number place) deadlines margins = margins
