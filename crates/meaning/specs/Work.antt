-- Request L2 of document 02, "How much work is one sheet?": a valuing that carries its count. What is valued twice counts twice.
use Rattle.std.specs.Prelude.{ℕ, ◌+◌, ◌-◌, List, [], ◌∷◌, ◌++◌}
use Rattle.std.proofs.Math.Option.{Option}
use Rattle.meaning.specs.Tree.{Marker, Construct, Constructs, Routine, Sheet, numbered, mark, seen_outside}
use Rattle.meaning.specs.Tree.{primitive, sequence, alternative, head_loop, tail_loop, timed_loop, call, marker, end, ◌then◌}
use Rattle.meaning.specs.Format.{pick, construct_rows, listed, Record, record_of, routine_record, sheet_record, record_bytes}
use Rattle.meaning.specs.Value.{Marked, Charge, times, larger, marked, evaluation, rounds, Known, knowing, nothing}
use Rattle.meaning.specs.Answer.{Verdict, accepted, outcome, no_room}

-- What a valuing comes to, and how many constructs were valued for it.
pub record Counted (A : Type 0) : Type 0 where
  pub is : A
  pub constructs : ℕ

infixl 20 ◌>>=◌
abbrev pub ◌>>=◌ : {A B : Type 0} → Counted A → (A → Counted B) → Counted B  -- one after the other: the counts add up
v >>= f = record { is = (f v.is).is; constructs = v.constructs + (f v.is).constructs }

abbrev pub one : {A : Type 0} → A → Counted A  -- a construct is valued
one a = record { is = a; constructs = 1 }

abbrev pub uncounted : {A : Type 0} → A → Counted A  -- what is no construct
uncounted a = record { is = a; constructs = 0 }

-- What its owner asks of a valued construct.
pub record Worth : Type 0 where
  pub mark : Option Marker
  pub value : ℕ
  pub charges : List Charge

abbrev pub worth : Construct → ℕ → List Charge → Worth
worth c v as' = record { mark = mark c; value = v; charges = as' }

-- of what a record owns: the sum, the largest plain branch, the marked branches, the alternatives inside
unfoldable pub sum_of : List Worth → ℕ
sum_of [] = 0
sum_of (w ∷ ws) = w.value + sum_of ws

unfoldable pub largest_of : List Worth → ℕ
largest_of [] = 0
largest_of (w ∷ ws) = larger w.mark w.value (largest_of ws)

unfoldable pub marked_of : ℕ → List Worth → List Marked
marked_of plain [] = []
marked_of plain (w ∷ ws) = marked w.mark (w.value - plain) ++ marked_of plain ws

unfoldable pub charges_of : List Worth → List Charge
charges_of [] = []
charges_of (w ∷ ws) = w.charges ++ charges_of ws

unfoldable mutual
  -- "From Table 1", line by line as Value has it, each construct valued once
  pub valuing : Known → Construct → Counted Worth
  valuing known (primitive p) = one (worth (primitive p) p.cost [])
  valuing known (sequence cs) = do ws ← valuings known cs; one (worth (sequence cs) (sum_of ws) (charges_of ws))
  valuing known (alternative c bs) = do
    wc ← valuing known c
    ws ← valuings known bs
    one (worth (alternative c bs) (wc.value + largest_of ws) (record { product = 1; branches = marked_of (largest_of ws) ws } ∷ charges_of ws))
  valuing known (head_loop l i c b o) = do
    wi ← valuing known i
    wc ← valuing known c
    wb ← valuing known b
    wo ← valuing known o
    one (worth (head_loop l i c b o)
        (wi.value + evaluation l wc.value + rounds l wb.value wc.value wo.value wb.charges)
        (seen_outside l.scope (times l.count wb.charges)))
  valuing known (tail_loop l b c o) = do
    wb ← valuing known b
    wc ← valuing known c
    wo ← valuing known o
    one (worth (tail_loop l b c o)
        (rounds l wb.value wc.value wo.value wb.charges)
        (seen_outside l.scope (times l.count wb.charges)))
  valuing known (timed_loop w o) = do wo ← valuing known o; one (worth (timed_loop w o) (w.time + wo.value) [])
  -- "a call counting one and not re-entering its routine"
  valuing known (call k) = one (worth (call k) (numbered known.bounds k.routine 0) [])
  valuing known (marker m) = one (worth (marker m) m.cost [])

  pub valuings : Known → Constructs → Counted (List Worth)
  valuings known end = uncounted []
  valuings known (c then cs) = do w ← valuing known c; ws ← valuings known cs; uncounted (w ∷ ws)

unfoldable pub valuing_routine : Known → Routine → Counted ℕ  -- a routine's record is no construct
valuing_routine known r = do w ← valuing known r.body; uncounted (r.organisation + w.value)

unfoldable pub valuing_routines : Known → List Routine → Counted Known  -- routines in order, after those that are known
valuing_routines known [] = uncounted known
valuing_routines known (r ∷ rs) = do v ← valuing_routine known r; valuing_routines (knowing known v) rs

abbrev pub valuing_sheet : Sheet → Counted Known  -- its routines, none known before
valuing_sheet s = valuing_routines nothing s.routines

-- "On acceptance, report the constructs valued; a refusal reports 0."
abbrev pub constructs_valued : Verdict Sheet → ℕ
constructs_valued (accepted s) = (valuing_sheet s).constructs
constructs_valued (Verdict.refused number place) = 0

unfoldable pub work : List ℕ → ℕ → ℕ  -- of bytes; room is the length of the lent table
work s room = pick (no_room room) 0 (constructs_valued (outcome s))

-- The records of a construct, of routines and of a sheet, in the order in which they stand.
unfoldable mutual
  pub records : Construct → List Record
  records (primitive p) = record_of (primitive p) ∷ []
  records (sequence cs) = record_of (sequence cs) ∷ records_in cs
  records (alternative c bs) = record_of (alternative c bs) ∷ records c ++ records_in bs
  records (head_loop l i c b o) = record_of (head_loop l i c b o) ∷ records i ++ (records c ++ (records b ++ records o))
  records (tail_loop l b c o) = record_of (tail_loop l b c o) ∷ records b ++ (records c ++ records o)
  records (timed_loop w o) = record_of (timed_loop w o) ∷ records o
  records (call k) = record_of (call k) ∷ []
  records (marker m) = record_of (marker m) ∷ []

  pub records_in : Constructs → List Record
  records_in end = []
  records_in (c then cs) = records c ++ records_in cs

unfoldable pub routines_records : List Routine → List Record  -- a routine's record, then its body's
routines_records [] = []
routines_records (r ∷ rs) = (routine_record r ∷ records r.body) ++ routines_records rs

abbrev pub records_of : Sheet → List Record  -- "The sheet record stands first."
records_of s = sheet_record s ∷ routines_records s.routines

-- "the number of construct records": of those whose kind is a construct's
unfoldable pub construct_records : List Record → ℕ
construct_records [] = 0
construct_records (r ∷ rs) = pick (listed r.kind construct_rows) 1 0 + construct_records rs

unfoldable pub all_bytes : List Record → List ℕ  -- one record after another
all_bytes [] = []
all_bytes (r ∷ rs) = record_bytes r ++ all_bytes rs
