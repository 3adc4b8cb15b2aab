-- What the private functions on values come to, in the code's shape: charges held just over the limit of a value.
-- No public contract of the calculator cites these; the crate bridge ties them to document 01's values.
use Rattle.std.specs.Prelude.{ℕ, ◌+◌, ◌-◌, ◌*◌, ◌/◌, ◌%◌, ◌≤◌, min, max, ◌≡◌, Bool, true, false, not, List, [], ◌∷◌, ◌++◌, ltb, eqb, Option, Some, None}
use Rattle.std.specs.Prelude.{Result, Ok, Err}
use Rattle.std.specs.Option.{option_or}
use Rattle.meaning.specs.Answer.{value_limit}
use Rattle.meaning.specs.Format.{pick}
use Rattle.records.specs.declared.Cursor.{Cursor}
use Rattle.records.specs.declared.faults.Refusal.{Refusal}
use Rattle.records.specs.Faults.{number_of}
use Rattle.reader.specs.declared.notes.Notes.{Notes}

-- just over the limit of a value
abbrev pub value_cap : ℕ
value_cap = 1099511627776

-- passes x excess of a marked branch
abbrev pub charge_of : ℕ → ℕ → ℕ → ℕ → ℕ
charge_of product limit value plain = min limit product * (value - plain)

-- the same of marked branches, each kept as its value and its limit in one number, after a sum
unfoldable pub charges_of : ℕ → ℕ → ℕ → List ℕ → ℕ
charges_of product plain sum [] = sum
charges_of product plain sum (m ∷ ms) = charges_of product plain (min value_cap (sum + charge_of product (m % 1048576) (m / 1048576) plain)) ms

abbrev pub is_loop : ℕ → Bool
is_loop kind = pick (eqb kind 5) true (eqb kind 6)

-- what child i adds to its owner's value
unfoldable pub counted : ℕ → ℕ → ℕ → ℕ → ℕ
counted kind count i v =
    pick (eqb kind 5) (pick (eqb i 1) (v + v * count) (pick (eqb i 2) (v * count) v))
    (pick (eqb kind 6) (pick (eqb i 2) v (v * count))
    v)

abbrev pub is_branch : ℕ → ℕ → Bool
is_branch kind i = pick (eqb kind 4) (not (eqb i 0)) false

-- What an ended construct tells the record that owns it. over: where the first record ended with too large a value.
-- added: what its markers add to a scope around it. mark: the limit of a marker or of a marked branch.
-- constructs: how many it owns, at any depth.
pub record Share : Type 0 where
  pub value : ℕ
  pub over : Option ℕ
  pub added : ℕ
  pub mark : Option ℕ
  pub constructs : ℕ
  pub next : Cursor

pub data Parsed : Type 0 where
  Done : Share → Parsed
  Refused : ℕ → ℕ → Parsed

abbrev pub share : ℕ → Option ℕ → ℕ → Option ℕ → ℕ → Cursor → Share
share value over added mark constructs next = record { value = value; over = over; added = added; mark = mark; constructs = constructs; next = next }

-- What the children read so far come to. top: the largest plain branch. constructs: they and those that they own.
pub record Tally : Type 0 where
  pub sum : ℕ
  pub top : ℕ
  pub added : ℕ
  pub mark : Option ℕ
  pub over : Option ℕ
  pub constructs : ℕ

abbrev pub no_tally : Tally
no_tally = record { sum = 0; top = 0; added = 0; mark = None; over = None; constructs = 0 }

-- the largest plain branch, with one more; a marked one is none
abbrev pub topped_of : ℕ → ℕ → Option ℕ → ℕ
topped_of top value None = max top value
topped_of top value (Some limit) = top

-- child i more: its value, over, added, mark and constructs
unfoldable pub with_of : ℕ → ℕ → ℕ → Tally → ℕ → Option ℕ → ℕ → Option ℕ → ℕ → Tally
with_of kind count i t value over added mark constructs = record {
  sum = pick (is_branch kind i) t.sum (t.sum + counted kind count i value);
  top = pick (is_branch kind i) (topped_of t.top value mark) t.top;
  added = min value_cap (t.added + added);
  mark = pick (is_branch kind i) t.mark (option_or mark t.mark);
  over = option_or t.over over;
  constructs = t.constructs + (constructs + 1);
}

-- the marked branches kept so far, and one more if it is marked
abbrev pub kept_with : ℕ → Option ℕ → List ℕ → List ℕ
kept_with value None marks = marks
kept_with value (Some limit) marks = marks ++ ((value * 1048576 + limit) ∷ [])

unfoldable pub kept_of : ℕ → ℕ → ℕ → Option ℕ → List ℕ → List ℕ
kept_of kind i value mark marks = pick (is_branch kind i) (kept_with value mark marks) marks

-- a record ends: a value that is too large counts for nothing, and is told if it is the first
abbrev pub value_told : ℕ → ℕ
value_told value = pick (ltb value_limit value) 0 value

abbrev pub over_told : Option ℕ → ℕ → ℕ → Option ℕ
over_told over value start = option_or over (pick (ltb value_limit value) (Some start) None)

unfoldable pub ended_of : ℕ → Option ℕ → ℕ → Option ℕ → ℕ → ℕ → Cursor → Parsed
ended_of value over added mark constructs start next = Done (share (value_told value) (over_told over value start) added mark constructs next)

-- its value, and what its markers add: to itself, if it is a scope
abbrev pub value_of : ℕ → ℕ → Tally → ℕ
value_of kind first t = t.sum + t.top + pick (eqb kind 7) first 0

unfoldable pub close_of : ℕ → ℕ → Bool → Tally → ℕ → ℕ → Cursor → Parsed
close_of kind first scope t more start next =
    pick scope
    (ended_of (value_of kind first t + min value_cap (t.added + more)) t.over 0 t.mark t.constructs start next)
    (ended_of (value_of kind first t) t.over (min value_cap (t.added + more)) t.mark t.constructs start next)

-- What is told aside: nothing, after so many constructs; one construct more, with those that it owns; a record that ends, with so many in its list.
pub record Aside : Type 0 where
  pub over : Option ℕ
  pub added : ℕ
  pub mark : Option ℕ
  pub constructs : ℕ

abbrev pub aside_is : Notes → Aside
aside_is notes = record { over = notes.over; added = notes.added; mark = notes.mark; constructs = notes.constructs }

-- one of the four written
abbrev pub over_as : Aside → Option ℕ → Aside
over_as a x = record { over = x; added = a.added; mark = a.mark; constructs = a.constructs }

abbrev pub added_as : Aside → ℕ → Aside
added_as a x = record { over = a.over; added = x; mark = a.mark; constructs = a.constructs }

abbrev pub mark_as : Aside → Option ℕ → Aside
mark_as a x = record { over = a.over; added = a.added; mark = x; constructs = a.constructs }

abbrev pub constructs_as : Aside → ℕ → Aside
constructs_as a x = record { over = a.over; added = a.added; mark = a.mark; constructs = x }

abbrev pub no_aside : ℕ → Aside
no_aside constructs = record { over = None; added = 0; mark = None; constructs = constructs }

abbrev pub aside_of : Aside → Option ℕ → ℕ → Option ℕ → ℕ → Aside
aside_of a over added mark constructs = record {
  over = option_or a.over over;
  added = min value_cap (a.added + added);
  mark = option_or mark a.mark;
  constructs = a.constructs + constructs;
}

abbrev pub aside_told : Aside → ℕ → ℕ → ℕ → Aside
aside_told a value valued start = over_as (constructs_as a (a.constructs + valued)) (over_told a.over value start)

-- A counted loop begins and ends: a scope has nothing added yet, and pays what its markers add; any other loop hands it on.
abbrev pub aside_opened : Aside → Bool → Aside
aside_opened a scope = added_as a (pick scope 0 a.added)

abbrev pub paid_of : Aside → Bool → ℕ
paid_of a scope = pick scope a.added 0

abbrev pub aside_paid : Aside → Bool → ℕ → Aside
aside_paid a scope before = added_as a (pick scope before a.added)

-- The ranges that keep every sum in 64 bits.
-- so many constructs more
abbrev pub Countable : Aside → ℕ → Type 0
Countable a valued = a.constructs + valued ≤ 18446744073709551615

-- the most that a child adds; the most that all add
abbrev pub heaviest : ℕ → ℕ
heaviest kind = pick (is_loop kind) 1099512727286627775 value_limit

abbrev pub heaviest_sum : ℕ
heaviest_sum = 4398050909146511100

pub record Counts (kind count : ℕ) : Type 0 where
  pub loop : is_loop kind ≡ true → count ≤ 1000000

-- a limit, where there is one, is in its range
abbrev pub Limited : Option ℕ → Type 0
Limited None = Unit {0}
Limited (Some limit) = limit ≤ 1000000

pub record Held (kind i : ℕ) (t : Tally) : Type 0 where
  pub sum : t.sum ≤ i * heaviest kind
  pub top : t.top ≤ value_limit
  pub added : t.added ≤ value_cap
  pub mark : Limited t.mark

-- what is told of a construct from a place on, in a sheet of so many bytes
pub record Told (long at : ℕ) (p : Share) : Type 0 where
  pub value : p.value ≤ value_limit
  pub added : p.added ≤ value_cap
  pub mark : Limited p.mark
  pub past : at + 8 + 8 * p.constructs ≤ p.next.at
  pub inside : p.next.at ≤ long

-- How a construct is read, with what is told aside before and after: its value and the cursor past it are returned, the rest is told aside;
-- or its refusal is returned.
pub record Valued (long at : ℕ) (a : Aside) (x : Parsed) (r : Result (ℕ × Cursor) Refusal) (b : Aside) : Type 0 where
  pub told : Share
  pub is : x ≡ Done told
  pub returned : r ≡ Ok (told.value, told.next)
  pub aside : b ≡ aside_of a told.over told.added told.mark told.constructs
  pub fine : Told long at told

pub data Tells (long at : ℕ) (a : Aside) (x : Parsed) (r : Result (ℕ × Cursor) Refusal) (b : Aside) : Type 0 where
  a_value : Valued long at a x r b → Tells long at a x r b
  a_refusal : {refusal : Refusal} → x ≡ Refused (number_of refusal.fault) refusal.place → r ≡ Err refusal → Tells long at a x r b

-- the same where it is read at once, whatever its passes are; any other is left as it is
pub data Quickly (long at : ℕ) (a : Aside) (x : ℕ → Parsed) (r : Option (ℕ × Cursor)) (b : Aside) : Type 0 where
  at_once : {v : ℕ} {next : Cursor} → r ≡ Some (v, next) → ((product : ℕ) → Valued long at a (x product) (Ok (v, next)) b) → Quickly long at a x r b
  not_read : r ≡ None → b ≡ a → Quickly long at a x r b
