-- What `Cursor`'s public functions promise: document 01's judgement of one record, in the code's types.
use Rattle.std.specs.Prelude.{ℕ, Bool, true, false, not, leb, eqb, Option, Some, None}
use Rattle.meaning.specs.Format as format
use Rattle.meaning.specs.Format.{pick, field}
use Rattle.meaning.specs.Legal.{Reach}
use Rattle.meaning.specs.Judgement as judgement
use Rattle.meaning.specs.Judgement.{Reading, refused, found}
use Rattle.records.specs.declared.Cursor.{Cursor}
use Rattle.records.specs.declared.Place.{Place}
use Rattle.records.specs.declared.SheetRecord.{SheetRecord}
use Rattle.records.specs.declared.RoutineRecord.{RoutineRecord}
use Rattle.records.specs.declared.Found.{Found}
use Rattle.records.specs.declared.Found.TheVariants as found
use Rattle.records.specs.declared.Leaf.{Leaf}
use Rattle.records.specs.declared.Leaf.TheVariants as leaf
use Rattle.records.specs.declared.standings.Standing.{Standing}
use Rattle.records.specs.declared.standings.Standing.TheVariants.{Outside, InScope, InAlternative, Branch, LastBranch, Leading, LeadingLast}

-- what each standing is of a reach, and whether it is a last branch whose fellows are all marked, or leads one
abbrev reach : Bool → Bool → Bool → Bool → Reach
reach scope alternative branch lead = record { scope = scope; alternative = alternative; branch = branch; lead = lead }

abbrev pub reach_of : Standing → Reach
reach_of Outside = reach false false false false
reach_of InScope = reach true false false false
reach_of InAlternative = reach true true false false
reach_of Branch = reach true true true false
reach_of LastBranch = reach true true true false
reach_of Leading = reach true true false true
reach_of LeadingLast = reach true true false true

abbrev pub last_of : Standing → Bool
last_of LastBranch = true
last_of LeadingLast = true
last_of _ = false

-- The same of standings by number: 0 in no scope that the marker could belong to; 1 in a scope; 2 and from 7 on inside an alternative of it; 3 a branch;
-- 4 the last branch where all others are marked; 5 and 6 first in such a branch.
abbrev pub reach_numbered : ℕ → Reach
reach_numbered number = record {
  scope = not (eqb number 0);
  alternative = leb 2 number;
  branch = pick (eqb number 3) true (eqb number 4);
  lead = pick (eqb number 5) true (eqb number 6);
}

abbrev pub last_numbered : ℕ → Bool
last_numbered number = pick (eqb number 4) true (eqb number 6)

-- what is owed where a construct of routine own stands so, with so many depths left
abbrev pub construct_as : ℕ → ℕ → Standing → judgement.Owed
construct_as own left standing = judgement.construct own left (reach_of standing) (last_of standing)

abbrev pub owed_at : Place → judgement.Owed
owed_at place = construct_as place.own place.left place.standing

-- what the judgement of a record is in the code's types, by what a good record of a kind with its first two fields is there
abbrev pub read_as : {A : Type 0} → (ℕ → ℕ → ℕ → A) → Reading format.Record → Reading A
read_as good (refused number place) = refused number place
read_as good (found x next) = found (good x.kind (field x 0) (field x 1)) next

-- of the sheet and of a routine, where the kind is known
abbrev pub as_sheet : ℕ → ℕ → ℕ → SheetRecord
as_sheet kind first second = record { edition = first; routines = second }

abbrev pub as_routine : ℕ → ℕ → ℕ → RoutineRecord
as_routine kind first second = record { organisation = first }

-- a good construct's record by its kind; "scope 0 or 1"; of kinds 2 to 9 the last is the marker
abbrev pub by_kind : ℕ → ℕ → ℕ → Found
by_kind kind first second =
    pick (eqb kind 2) (found.Primitive first)
    (pick (eqb kind 3) (found.Sequence first)
    (pick (eqb kind 4) (found.Alternative first)
    (pick (eqb kind 5) (found.HeadLoop first (eqb second 1))
    (pick (eqb kind 6) (found.TailLoop first (eqb second 1))
    (pick (eqb kind 7) (found.TimedLoop first)
    (pick (eqb kind 8) (found.Call first) (found.Marker first second)))))))

abbrev pub found_of : Reading format.Record → Reading Found
found_of = read_as by_kind

-- a good record that owns nothing, and the cursor past it
abbrev pub owns_nothing : Found → Option Leaf
owns_nothing (found.Primitive cost) = Some (leaf.Primitive cost)
owns_nothing (found.Call number) = Some (leaf.Call number)
owns_nothing (found.Marker limit cost) = Some (leaf.Marker limit cost)
owns_nothing _ = None

abbrev with_cursor : Option Leaf → ℕ → Option (Leaf × Cursor)
with_cursor None next = None
with_cursor (Some l) next = Some (l, record { at = next })

abbrev pub leaf_of : Reading Found → Option (Leaf × Cursor)
leaf_of (refused number place) = None
leaf_of (found f next) = with_cursor (owns_nothing f) next
