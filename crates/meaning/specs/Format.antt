-- Document 01, "The sheet": the table of records with its lengths, fields and ranges, and the bytes of a sheet.
use Rattle.std.specs.Prelude.{ℕ, suc, ◌+◌, ◌*◌, ◌/◌, ◌%◌, ◌≡◌, Bool, true, false, List, [], ◌∷◌, ◌++◌, length, get_or, leb, eqb}
use Rattle.meaning.specs.Tree.{Construct, Constructs, Routine, Sheet}
use Rattle.meaning.specs.Tree.{primitive, sequence, alternative, head_loop, tail_loop, timed_loop, call, marker, end, ◌then◌}

abbrev pub pick : {A : Type 0} → Bool → A → A → A  -- by a test
pick true a b = a
pick false a b = b

pub record Range : Type 0 where  -- of a field
  pub least : ℕ
  pub most : ℕ

infix 70 ◌to◌
abbrev pub ◌to◌ : ℕ → ℕ → Range
least to most = record { least = least; most = most }

-- "Costs and times use all 32 bits", and so does a call's number, which BAD CALL judges.
abbrev pub anything : Range
anything = 0 to 4294967295

-- A row of the table: the kind, and from "Ranges: edition 1; routines 1 to 64; children of a sequence 0 to 1,000; .." those of its fields.
pub record Row : Type 0 where
  pub kind : ℕ
  pub ranges : List Range

abbrev row : ℕ → List Range → Row
row kind ranges = record { kind = kind; ranges = ranges }

abbrev pub sheet_rows : List Row  -- the sheet record
sheet_rows = row 100 (1 to 1 ∷ 1 to 64 ∷ []) ∷ []  -- edition, routines

abbrev pub routine_rows : List Row  -- the routine records
routine_rows = row 1 (anything ∷ []) ∷ []  -- organisation cost

abbrev pub construct_rows : List Row  -- "Kinds 2 to 9 are constructs."
construct_rows =
    row 2 (anything ∷ [])  -- cost
    ∷ row 3 (0 to 1000 ∷ [])  -- n
    ∷ row 4 (2 to 256 ∷ [])  -- n
    ∷ row 5 (0 to 1000000 ∷ 0 to 1 ∷ [])  -- count, scope
    ∷ row 6 (1 to 1000000 ∷ 0 to 1 ∷ [])  -- count, scope
    ∷ row 7 (anything ∷ [])  -- time
    ∷ row 8 (anything ∷ [])  -- routine number
    ∷ row 9 (0 to 1000000 ∷ anything ∷ [])  -- limit, cost
    ∷ []

-- whether a kind stands in rows of the table, and its ranges there
unfoldable pub listed : ℕ → List Row → Bool
listed kind [] = false
listed kind (r ∷ rs) = pick (eqb kind r.kind) true (listed kind rs)

unfoldable pub ranges_of : ℕ → List Row → List Range
ranges_of kind [] = []
ranges_of kind (r ∷ rs) = pick (eqb kind r.kind) r.ranges (ranges_of kind rs)

-- "its length in bytes (two bytes, its own two included), then its kind (two bytes), then four-byte fields"
abbrev pub length_of : ℕ → ℕ
length_of fields = 4 + 4 * fields

abbrev pub within : Range → ℕ → Bool  -- from the least to the most
within r x = pick (leb r.least x) (leb x r.most) false

unfoldable pub in_ranges : List Range → List ℕ → Bool  -- each field in its range
in_ranges [] [] = true
in_ranges [] (x ∷ xs) = false
in_ranges (r ∷ rs) [] = false
in_ranges (r ∷ rs) (x ∷ xs) = pick (within r x) (in_ranges rs xs) false

pub record Record : Type 0 where  -- as it stands in a sheet
  pub kind : ℕ
  pub fields : List ℕ

abbrev pub field : Record → ℕ → ℕ  -- from 0
field r i = get_or r.fields i 0

abbrev pub InRange : List Row → Record → Type 0  -- no "field outside its range"
InRange rows r = in_ranges (ranges_of r.kind rows) r.fields ≡ true

abbrev pub of : ℕ → List ℕ → Record  -- a record of this kind
of kind fields = record { kind = kind; fields = fields }

abbrev pub flag : Bool → ℕ  -- "scope 0 or 1"
flag true = 1
flag false = 0

abbrev pub how_many : Constructs → ℕ  -- the field n
how_many end = 0
how_many (c then cs) = suc (how_many cs)

-- the record that each construct, routine and sheet starts with
abbrev pub record_of : Construct → Record
record_of (primitive p) = of 2 (p.cost ∷ [])
record_of (sequence cs) = of 3 (how_many cs ∷ [])
record_of (alternative c bs) = of 4 (how_many bs ∷ [])
record_of (head_loop l i c b o) = of 5 (l.count ∷ flag l.scope ∷ [])
record_of (tail_loop l b c o) = of 6 (l.count ∷ flag l.scope ∷ [])
record_of (timed_loop w o) = of 7 (w.time ∷ [])
record_of (call k) = of 8 (k.routine ∷ [])
record_of (marker m) = of 9 (m.limit ∷ m.cost ∷ [])

abbrev pub routine_record : Routine → Record
routine_record r = of 1 (r.organisation ∷ [])

abbrev pub sheet_record : Sheet → Record
sheet_record s = of 100 (s.edition ∷ length s.routines ∷ [])

-- "All are little-endian and unsigned."
abbrev pub half : ℕ → List ℕ
half n = n % 256 ∷ n / 256 ∷ []

abbrev pub word : ℕ → List ℕ
word n = n % 256 ∷ n / 256 % 256 ∷ n / 65536 % 256 ∷ n / 16777216 ∷ []

unfoldable pub words : List ℕ → List ℕ  -- the fields
words [] = []
words (x ∷ xs) = word x ++ words xs

unfoldable pub record_bytes : Record → List ℕ  -- length, kind, fields
record_bytes r = half (length_of (length r.fields)) ++ (half r.kind ++ words r.fields)

-- The bytes of a construct: its record, then what it owns, in order.
unfoldable mutual
  pub bytes : Construct → List ℕ
  bytes (primitive p) = record_bytes (record_of (primitive p))
  bytes (sequence cs) = record_bytes (record_of (sequence cs)) ++ bytes_in cs
  bytes (alternative c bs) = record_bytes (record_of (alternative c bs)) ++ (bytes c ++ bytes_in bs)
  bytes (head_loop l i c b o) = record_bytes (record_of (head_loop l i c b o)) ++ (bytes i ++ (bytes c ++ (bytes b ++ bytes o)))
  bytes (tail_loop l b c o) = record_bytes (record_of (tail_loop l b c o)) ++ (bytes b ++ (bytes c ++ bytes o))
  bytes (timed_loop w o) = record_bytes (record_of (timed_loop w o)) ++ bytes o
  bytes (call k) = record_bytes (record_of (call k))
  bytes (marker m) = record_bytes (record_of (marker m))

  pub bytes_in : Constructs → List ℕ
  bytes_in end = []
  bytes_in (c then cs) = bytes c ++ bytes_in cs

unfoldable pub routine_bytes : Routine → List ℕ
routine_bytes r = record_bytes (routine_record r) ++ bytes r.body

unfoldable pub routines_bytes : List Routine → List ℕ
routines_bytes [] = []
routines_bytes (r ∷ rs) = routine_bytes r ++ routines_bytes rs

-- "The sheet record stands first."
unfoldable pub bytes_of : Sheet → List ℕ
bytes_of s = record_bytes (sheet_record s) ++ routines_bytes s.routines
