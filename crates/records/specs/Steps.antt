-- What the private functions of this crate come to, in the code's shape. No public contract cites these.
use Rattle.std.specs.Prelude.{ℕ, ◌+◌, ◌/◌, ◌%◌, Bool, true, false, List, ◌++◌, length, get_or, drop, leb, ltb, eqb, Option, Some, None, Result, Ok, Err}
use Rattle.meaning.specs.Format.{pick, Range, ◌to◌, Row, sheet_rows, routine_rows, construct_rows, ranges_of, length_of}
use Rattle.meaning.specs.Judgement.{Reading, refused, found, four}
use Rattle.records.specs.declared.Cursor.{Cursor}
use Rattle.records.specs.declared.Kind.{Kind}
use Rattle.records.specs.declared.Kind.TheVariants as kinds
use Rattle.records.specs.declared.Place.{Place}
use Rattle.records.specs.declared.Fields.{Fields}
use Rattle.records.specs.declared.Form.{Form}
use Rattle.records.specs.declared.faults.Fault.{Fault}
use Rattle.records.specs.declared.faults.Fault.TheVariants.{Cut, BadKind, BadLength, BadField, BadCall, TooDeep, StrayMarker, NoPlainBranch}
use Rattle.records.specs.declared.standings.Standing.{Standing}
use Rattle.records.specs.declared.standings.Standing.TheVariants.{Outside, Leading, LeadingLast}
use Rattle.records.specs.Faults.{number_of}

-- the number of a kind
abbrev pub kind_number : Kind → ℕ
kind_number kinds.Sheet = 100
kind_number kinds.Routine = 1
kind_number kinds.Primitive = 2
kind_number kinds.Sequence = 3
kind_number kinds.Alternative = 4
kind_number kinds.HeadLoop = 5
kind_number kinds.TailLoop = 6
kind_number kinds.TimedLoop = 7
kind_number kinds.Call = 8
kind_number kinds.Marker = 9

-- the four bytes at a place, and the cursor past them
unfoldable pub field_at : List ℕ → ℕ → Option (ℕ × Cursor)
field_at s at = pick (ltb (length (drop at s)) 4) None (Some (four (drop at s), record { at = at + 4 }))

-- one field at a place, or two
abbrev pub all_fields : ℕ → ℕ → Cursor → Option (Fields × Cursor)
all_fields first second next = Some (record { first = first; second = second }, next)

abbrev pub with_second : ℕ → Option (ℕ × Cursor) → Option (Fields × Cursor)
with_second first None = None
with_second first (Some (second, c)) = all_fields first second c

abbrev pub with_first : List ℕ → Bool → Option (ℕ × Cursor) → Option (Fields × Cursor)
with_first s both None = None
with_first s true (Some (first, c)) = with_second first (field_at s c.at)
with_first s false (Some (first, c)) = all_fields first 0 c

unfoldable pub fields_at : List ℕ → ℕ → Bool → Option (Fields × Cursor)
fields_at s at both = with_first s both (field_at s at)

-- The form of a kind is what the public table says of it, so that only the code writes the numbers again.
abbrev pub form_for : List Range → Form
form_for ranges = record {
  length = length_of (length ranges);
  least = (get_or ranges 0 (0 to 0)).least;
  most = (get_or ranges 0 (0 to 0)).most;
  least2 = (get_or ranges 1 (0 to 0)).least;
  most2 = (get_or ranges 1 (0 to 0)).most;
}

abbrev pub every_row : List Row
every_row = sheet_rows ++ (routine_rows ++ construct_rows)

unfoldable pub form_of : ℕ → Form
form_of kind = form_for (ranges_of kind every_row)

abbrev pub outside : ℕ → ℕ → ℕ → Bool
outside least most x = pick (ltb x least) true (ltb most x)

unfoldable pub is_outside : Form → ℕ → ℕ → Bool
is_outside f first second = pick (outside f.least f.most first) true (outside f.least2 f.most2 second)

unfoldable pub marker_fault : Standing → Option Fault
marker_fault Leading = None
marker_fault LeadingLast = Some NoPlainBranch
marker_fault _ = Some StrayMarker

unfoldable pub is_bad_call : ℕ → ℕ → Bool
is_bad_call first own = pick (eqb first 0) true (leb own first)

unfoldable pub misplaced : ℕ → ℕ → Place → Option Fault
misplaced kind first place =
    pick (pick (eqb kind 8) (is_bad_call first place.own) false) (Some BadCall)
    (pick (eqb place.left 0) (Some TooDeep)
    (pick (eqb kind 9) (marker_fault place.standing)
    None))

-- from the fields on
abbrev pub unless : Option Fault → Fields → Cursor → Result (Fields × Cursor) Fault
unless None all next = Ok (all, next)
unless (Some fault) all next = Err fault

abbrev pub with_fields : ℕ → Form → Place → Option (Fields × Cursor) → Result (Fields × Cursor) Fault
with_fields kind f place None = Err Cut
with_fields kind f place (Some (all, next)) =
    pick (is_outside f all.first all.second) (Err BadField) (unless (misplaced kind all.first place) all next)

-- from the length on
unfoldable pub judge_of : List ℕ → ℕ → ℕ → ℕ → Form → Place → Result (Fields × Cursor) Fault
judge_of s at kind size f place = pick (eqb size f.length) (with_fields kind f place (fields_at s at (eqb f.length 12))) (Err BadLength)

-- the same, with what a good record of the kind is in the code's types
abbrev pub rest_of : {A : Type 0} → (ℕ → ℕ → ℕ → A) → ℕ → Result (Fields × Cursor) Fault → Result (A × Cursor) Fault
rest_of good kind (Ok (all, next)) = Ok (good kind all.first all.second, next)
rest_of good kind (Err fault) = Err fault

-- what is read from a place on, or a fault there
abbrev pub reading_from : {A : Type 0} → ℕ → Result (A × Cursor) Fault → Reading A
reading_from start (Ok (a, next)) = found a next.at
reading_from start (Err fault) = refused (number_of fault) start

-- a place that no rule of a construct's place refuses
abbrev pub anywhere : Place
anywhere = record { own = 0; left = 1; standing = Outside }

-- from the length and the kind on, which are read as one field, where only this kind is owed
abbrev pub with_only : List ℕ → ℕ → Option (ℕ × Cursor) → Result (Fields × Cursor) Fault
with_only s kind None = Err Cut
with_only s kind (Some (head, c)) =
    pick (eqb (head / 65536) kind) (judge_of s c.at kind (head % 65536) (form_of kind) anywhere) (Err BadKind)

unfoldable pub only_of : List ℕ → ℕ → ℕ → Result (Fields × Cursor) Fault
only_of s kind start = with_only s kind (field_at s start)
