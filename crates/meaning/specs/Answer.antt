-- Document 01, "What comes back": accepted with a bound or refused; the table after; the routine part.
use Rattle.std.specs.Prelude.{ℕ, zero, suc, ◌+◌, ◌-◌, Bool, List, [], ◌∷◌, ◌++◌, length, take, drop, ltb}
use Rattle.std.proofs.Math.Option.{Option, some, none}
use Rattle.meaning.specs.Tree.{Construct, Constructs, Routine, Sheet}
use Rattle.meaning.specs.Tree.{primitive, sequence, alternative, head_loop, tail_loop, timed_loop, call, marker, end, ◌then◌}
use Rattle.meaning.specs.Format.{pick, length_of, Record, record_of, routine_record, sheet_record, bytes, routine_bytes, routines_bytes}
use Rattle.meaning.specs.Value.{Known, value, bound, knowing, nothing, bounds_of, task_bound}
use Rattle.meaning.specs.Judgement.{Reading, sheet_at}

-- "A value may be at most 1,099,511,627,775"
abbrev pub value_limit : ℕ
value_limit = 1099511627775

pub record Ended : Type 0 where  -- a record that has ended
  pub place : ℕ
  pub value : ℕ

-- the place past a record, and past a construct
abbrev pub past_record : ℕ → Record → ℕ
past_record at r = at + length_of (length r.fields)

abbrev pub past : ℕ → Construct → ℕ
past at c = at + length (bytes c)

abbrev pub ends : Known → ℕ → Construct → List Ended  -- the construct's own record
ends known at c = record { place = at; value = value known c } ∷ []

-- "A record ends when its last child has ended": the records of a construct in the order in which they end.
unfoldable mutual
  pub ended : Known → ℕ → Construct → List Ended
  ended known at (primitive p) = ends known at (primitive p)
  ended known at (sequence cs) = ended_in known (past_record at (record_of (sequence cs))) cs ++ ends known at (sequence cs)
  ended known at (alternative c bs) =
      let p = past_record at (record_of (alternative c bs)) in
      ended known p c ++ ended_in known (past p c) bs ++ ends known at (alternative c bs)
  ended known at (head_loop l i c b o) =
      let p = past_record at (record_of (head_loop l i c b o)) in
      ended known p i ++ ended known (past p i) c ++ ended known (past (past p i) c) b ++ ended known (past (past (past p i) c) b) o
      ++ ends known at (head_loop l i c b o)
  ended known at (tail_loop l b c o) =
      let p = past_record at (record_of (tail_loop l b c o)) in
      ended known p b ++ ended known (past p b) c ++ ended known (past (past p b) c) o ++ ends known at (tail_loop l b c o)
  ended known at (timed_loop w o) = ended known (past_record at (record_of (timed_loop w o))) o ++ ends known at (timed_loop w o)
  ended known at (call k) = ends known at (call k)
  ended known at (marker m) = ends known at (marker m)

  pub ended_in : Known → ℕ → Constructs → List Ended
  ended_in known at end = []
  ended_in known at (c then cs) = ended known at c ++ ended_in known (past at c) cs

unfoldable pub ended_routines : Known → ℕ → List Routine → List Ended  -- of routines, each after its body
ended_routines known at [] = []
ended_routines known at (r ∷ rs) =
    ended known (past_record at (routine_record r)) r.body ++ (record { place = at; value = bound known r } ∷ [])
    ++ ended_routines (knowing known (bound known r)) (at + length (routine_bytes r)) rs

abbrev pub ended_of : Sheet → List Ended  -- the sheet record has no value
ended_of s = ended_routines nothing (past_record 0 (sheet_record s)) s.routines

-- "at the first record to end with too large a value", if there is one
unfoldable pub too_big : List Ended → Option ℕ
too_big [] = none
too_big (e ∷ es) = pick (ltb value_limit e.value) (some e.place) (too_big es)

-- "The answer is either accepted .. or refused with number and place."
pub data Verdict (A : Type 0) : Type 0 where
  accepted : A → Verdict A
  refused : ℕ → ℕ → Verdict A

-- 12, TOO BIG, "is given only for a sheet with none of these"
abbrev pub sized : Sheet → Option ℕ → Verdict Sheet
sized s none = accepted s
sized s (some place) = Verdict.refused 12 place

abbrev pub judgement : Reading Sheet → Verdict Sheet  -- 3 to 11 come before it
judgement (Reading.refused number place) = Verdict.refused number place
judgement (Reading.found s next) = sized s (too_big (ended_of s))

-- the sheet that bytes are, or a refusal: 2, TOO LONG, "over 60,000 bytes", then those above
unfoldable pub outcome : List ℕ → Verdict Sheet
outcome s = pick (ltb 60000 (length s)) (Verdict.refused 2 0) (judgement (sheet_at s 0))

-- "accepted with the last routine's bound"
abbrev pub told : Verdict Sheet → Verdict ℕ
told (accepted s) = accepted (task_bound s)
told (Verdict.refused number place) = Verdict.refused number place

abbrev pub no_room : ℕ → Bool  -- 1, NO ROOM: "table shorter than 64"
no_room room = ltb room 64

-- "1 and 2 come first, in that order"; room is the length of the lent table
unfoldable pub answer : List ℕ → ℕ → Verdict ℕ
answer s room = pick (no_room room) (Verdict.refused 1 0) (told (outcome s))

-- "a refusal's bound is 0"
abbrev pub bound_in : Verdict ℕ → ℕ
bound_in (accepted b) = b
bound_in (Verdict.refused number place) = 0

-- "the first places, one per routine in order, hold the bounds; every later place is unchanged"; refused: "the table is unchanged"
abbrev pub stored : Verdict Sheet → List ℕ → List ℕ
stored (accepted s) table = bounds_of s ++ drop (length s.routines) table
stored (Verdict.refused number place) table = table

unfoldable pub table_after : List ℕ → List ℕ → List ℕ  -- "The caller lends a table"
table_after s table = pick (no_room (length table)) table (stored (outcome s) table)

-- "that routine's records as a part of the sheet, from its routine record to the last record of its body": where it starts and ends
pub record Part : Type 0 where
  pub start : ℕ
  pub stop : ℕ

abbrev pub routine_place : Sheet → ℕ → ℕ  -- where the first n routines end
routine_place s n = past_record 0 (sheet_record s) + length (routines_bytes (take n s.routines))

-- "the empty part at the sheet's end"
abbrev pub empty_part : List ℕ → Part
empty_part s = record { start = length s; stop = length s }

-- "Asked for a routine of an accepted sheet"; "A number outside 1 to the count"
abbrev pub part_in : List ℕ → Verdict Sheet → ℕ → Part
part_in s (accepted t) zero = empty_part s
part_in s (accepted t) (suc n) = pick (ltb n (length t.routines)) (record { start = routine_place t n; stop = routine_place t (suc n) }) (empty_part s)
part_in s (Verdict.refused number place) number' = empty_part s

unfoldable pub part_of : List ℕ → ℕ → Part  -- of the routine of a number
part_of s number = part_in s (outcome s) number

unfoldable pub routine_part : List ℕ → ℕ → List ℕ  -- "a part of the sheet"
routine_part s number = take ((part_of s number).stop - (part_of s number).start) (drop (part_of s number).start s)
