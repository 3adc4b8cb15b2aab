-- Document 01, "What comes back": what is read from bytes, or the first refusal of 3 to 11 with its place.
use Rattle.std.specs.Prelude.{ℕ, zero, suc, ◌+◌, ◌*◌, Bool, true, false, not, List, [], ◌∷◌, length, get_or, drop, leb, ltb, eqb}
use Rattle.std.proofs.Math.Option.{Option, some, none}
use Rattle.meaning.specs.Tree.{Marker, Loop, Construct, Constructs, Routine, Sheet, mark}
use Rattle.meaning.specs.Tree.{primitive, sequence, alternative, head_loop, tail_loop, timed_loop, call, marker, end, ◌then◌}
use Rattle.meaning.specs.Format.{pick, Range, Row, sheet_rows, routine_rows, construct_rows, listed, ranges_of, length_of, in_ranges, Record, field}
use Rattle.meaning.specs.Legal.{Reach, may_mark, nowhere, first_child, later_child, as_branch, as_body}

-- A refusal's number and place; or what is read, and the place past it.
pub data Reading (A : Type 0) : Type 0 where
  refused : ℕ → ℕ → Reading A
  found : A → ℕ → Reading A

-- "The reading place is handed from one record to the next"; "the first bad record decides".
abbrev pub Reader : Type 0 → Type 0
Reader A = ℕ → Reading A

abbrev pub and_then : {A B : Type 0} → Reading A → (A → Reader B) → Reading B
and_then (refused number place) f = refused number place
and_then (found a next) f = f a next

infixl 20 ◌>>=◌
abbrev pub ◌>>=◌ : {A B : Type 0} → Reader A → (A → Reader B) → Reader B
◌>>=◌ r f at = and_then (r at) f

-- a refusal where its condition holds, else the rest
unfoldable pub refuse : {A : Type 0} → Bool → ℕ → ℕ → Reading A → Reading A
refuse true number place rest = refused number place
refuse false number place rest = rest

-- the numbers of two and four bytes that some bytes start with, "little-endian and unsigned", and a field for each range
unfoldable pub two : List ℕ → ℕ
two xs = get_or xs 0 0 + 256 * get_or xs 1 0

unfoldable pub four : List ℕ → ℕ
four xs = two xs + 65536 * two (drop 2 xs)

unfoldable pub fields_of : List Range → List ℕ → List ℕ
fields_of [] xs = []
fields_of (r ∷ rs) xs = four xs ∷ fields_of rs (drop 4 xs)

-- What is owed: the sheet, a routine, or a construct; of this its routine's number, the depths left (24 for a body, 0 at depth 25), its
-- reach, and whether it is a last branch whose fellows are all marked, or is reached from one by first children alone.
pub data Owed : Type 0 where
  sheet routine : Owed
  construct : ℕ → ℕ → Reach → Bool → Owed

abbrev pub rows_of : Owed → List Row  -- 4: "not what is owed here"
rows_of sheet = sheet_rows
rows_of routine = routine_rows
rows_of (construct own left r last) = construct_rows

-- 7: "number 0, its own routine's or any higher one"
abbrev pub bad_call : ℕ → Record → Bool
bad_call own x = pick (eqb x.kind 8) (pick (eqb (field x 0) 0) true (leb own (field x 0))) false

-- 9: "rule above broken"
abbrev pub stray : Reach → Record → Bool
stray r x = pick (eqb x.kind 9) (not (may_mark r)) false

-- 10: "marker of the last branch, all branches marked"
abbrev pub no_plain : Bool → Record → Bool
no_plain last x = pick (eqb x.kind 9) last false

-- 7 to 10, which only a construct can break
abbrev pub placed : Owed → Record → ℕ → Reading Record → Reading Record
placed sheet x at good = good
placed routine x at good = good
placed (construct own left r last) x at good =
    refuse (bad_call own x) 7 at  -- BAD CALL
    (refuse (eqb left 0) 8 at  -- TOO DEEP
    (refuse (stray r x) 9 at  -- STRAY MARKER
    (refuse (no_plain last x) 10 at good)))  -- NO PLAIN BRANCH

-- A record is judged by what is owed: "fewer than four bytes is CUT; then 4; 5; the rest missing is CUT; then 6 to 10 in order".
unfoldable pub judged : List ℕ → Owed → Reader Record
judged s owed at =
    let rest = drop at s in
    let kind = two (drop 2 rest) in
    let ranges = ranges_of kind (rows_of owed) in
    let size = length_of (length ranges) in
    let x : Record = record { kind = kind; fields = fields_of ranges (drop 4 rest) } in
    refuse (ltb (length rest) 4) 3 at  -- CUT
    (refuse (not (listed kind (rows_of owed))) 4 at  -- BAD KIND
    (refuse (not (eqb (two rest) size)) 5 at  -- BAD LENGTH
    (refuse (ltb (length rest) size) 3 at  -- CUT
    (refuse (not (in_ranges ranges x.fields)) 6 at  -- BAD FIELD
    (placed owed x at (found x (at + size)))))))

-- how a construct is read, by its reach and by whether it is such a last branch or leads one
abbrev pub ConstructReader : Type 0
ConstructReader = Reach → Bool → Reader Construct

-- "another reads a list of n": the first at one reach, the later ones at another
unfoldable pub list : ConstructReader → Reach → Bool → Reach → ℕ → Reader Constructs
list read f last l zero = found end
list read f last l (suc n) = do c ← read f last; cs ← list read l false l n; found (c then cs)

abbrev pub is_marked : Option Marker → Bool  -- "That branch is marked"
is_marked none = false
is_marked (some m) = true

-- n branches, where those before are all marked or not
unfoldable pub branches : ConstructReader → Reach → Bool → ℕ → Reader Constructs
branches read r marked zero = found end
branches read r marked (suc n) = do
  b ← read (as_branch r) (pick (eqb n 0) marked false)
  bs ← branches read r (pick marked (is_marked (mark b)) false) n
  found (b then bs)

-- what each kind is followed by
unfoldable pub sequence_at : ConstructReader → Reach → Bool → ℕ → Reader Construct
sequence_at read r last n = do cs ← list read (first_child r) last (later_child r) n; found (sequence cs)

unfoldable pub alternative_at : ConstructReader → Reach → ℕ → Reader Construct
alternative_at read r n = do c ← read nowhere false; bs ← branches read r true n; found (alternative c bs)

unfoldable pub head_loop_at : ConstructReader → Reach → Loop → Reader Construct
head_loop_at read r l = do
  i ← read nowhere false
  c ← read nowhere false
  b ← read (as_body l.scope r) false
  o ← read nowhere false
  found (head_loop l i c b o)

unfoldable pub tail_loop_at : ConstructReader → Reach → Loop → Reader Construct
tail_loop_at read r l = do b ← read (as_body l.scope r) false; c ← read nowhere false; o ← read nowhere false; found (tail_loop l b c o)

unfoldable pub timed_loop_at : ConstructReader → ℕ → Reader Construct
timed_loop_at read time = do o ← read nowhere false; found (timed_loop (record { time = time }) o)

abbrev pub loop_of : Record → Loop  -- fields count, scope
loop_of x = record { count = field x 0; scope = eqb (field x 1) 1 }

-- "A construct is read with the list of constructs it owns"; of kinds 2 to 9 the last is the marker.
abbrev pub owned : ConstructReader → Reach → Bool → Record → Reader Construct
owned read r last x =
    pick (eqb x.kind 2) (found (primitive (record { cost = field x 0 })))
    (pick (eqb x.kind 3) (sequence_at read r last (field x 0))
    (pick (eqb x.kind 4) (alternative_at read r (field x 0))
    (pick (eqb x.kind 5) (head_loop_at read r (loop_of x))
    (pick (eqb x.kind 6) (tail_loop_at read r (loop_of x))
    (pick (eqb x.kind 7) (timed_loop_at read (field x 0))
    (pick (eqb x.kind 8) (found (call (record { routine = field x 0 })))
    (found (marker (record { limit = field x 0; cost = field x 1 })))))))))

-- The construct at a place of routine own. With no depth left no record is good, so the rest is never reached.
unfoldable pub construct_at : ℕ → List ℕ → ℕ → ConstructReader
construct_at zero s own r last = do x ← judged s (construct own 0 r last); refused 8
construct_at (suc left) s own r last = do x ← judged s (construct own (suc left) r last); owned (construct_at left s own) r last x

-- the routine of a number, and n routines of which the first has that number
unfoldable pub routine_at : List ℕ → ℕ → Reader Routine
routine_at s own = do x ← judged s routine; c ← construct_at 24 s own nowhere false; found (record { organisation = field x 0; body = c })

unfoldable pub routines_at : ℕ → List ℕ → ℕ → Reader (List Routine)
routines_at zero s own = found []
routines_at (suc n) s own = do r ← routine_at s own; rs ← routines_at n s (own + 1); found (r ∷ rs)

-- the whole sheet; 11, EXTRA: "bytes after the last routine", at the "first extra byte"
unfoldable pub sheet_at : List ℕ → Reader Sheet
sheet_at s = do
  x ← judged s sheet
  rs ← routines_at (field x 1) s 1
  λ past. refuse (ltb past (length s)) 11 past (found (record { edition = field x 0; routines = rs }) past)
