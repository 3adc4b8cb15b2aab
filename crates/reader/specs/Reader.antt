-- What the readers come to, in the code's shape: one pass over the bytes that builds no tree. The crate bridge ties them to document 01.
use Rattle.std.specs.Prelude.{ℕ, zero, suc, ◌+◌, ◌-◌, ◌*◌, ◌≤◌, Bool, false, List, [], length, get_or, set, replicate, ltb, eqb, Option, Some, None}
use Rattle.std.specs.Option.{option_or}
use Rattle.meaning.specs.Answer.{Verdict, accepted, refused}
use Rattle.meaning.specs.Format.{pick}
use Rattle.meaning.specs.Judgement as judgement
use Rattle.meaning.specs.Judgement.{Reading, sheet, routine, judged}
use Rattle.records.specs.declared.Cursor.{Cursor}
use Rattle.records.specs.declared.Found.{Found}
use Rattle.records.specs.declared.Found.TheVariants as found
use Rattle.records.specs.declared.standings.Standing.{Standing}
use Rattle.records.specs.declared.standings.Standing.TheVariants.{Outside}
use Rattle.records.specs.Records.{construct_as, read_as, as_sheet, as_routine, found_of}
use Rattle.reader.specs.declared.Bounds.{Bounds}
use Rattle.reader.specs.declared.Progress.{Progress}
use Rattle.reader.specs.declared.Reply as reply
use Rattle.reader.specs.declared.Report as report
use Rattle.reader.specs.Said.{said_of}
use Rattle.reader.specs.Tallies.{Parsed, Done, Refused, share, Tally, no_tally, charges_of, with_of, kept_of, close_of}
use Rattle.reader.specs.Ways.{ways_of, way_of}

-- what is read, with the cursor past it; or a refusal
abbrev pub on_reading : {A B : Type 0} → Reading A → (ℕ → ℕ → B) → (A → Cursor → B) → B
on_reading (judgement.refused number place) g f = g number place
on_reading (judgement.found a next) g f = f a (record { at = next })

-- value, over, added, mark, constructs and next of what was read
abbrev pub on_parsed : {A : Type 0} → Parsed → (ℕ → ℕ → A) → (ℕ → Option ℕ → ℕ → Option ℕ → ℕ → Cursor → A) → A
on_parsed (Done p) g f = f p.value p.over p.added p.mark p.constructs p.next
on_parsed (Refused number place) g f = g number place

-- a record that owns a list: how it stands, and the passes that the counts allow it
pub record Owner : Type 0 where
  pub kind : ℕ
  pub first : ℕ
  pub scope : Bool
  pub start : ℕ
  pub standing : Standing
  pub product : ℕ

abbrev pub owner_of : ℕ → ℕ → Bool → ℕ → Standing → ℕ → Owner
owner_of kind first scope start standing product = record {
  kind = kind;
  first = first;
  scope = scope;
  start = start;
  standing = standing;
  product = product;
}

-- how a child is read: by its standing and its passes
abbrev pub ChildReader : Type 0
ChildReader = Standing → ℕ → Cursor → Parsed

abbrev pub child_of : ChildReader → Owner → ℕ → ℕ → Cursor → Parsed
child_of read o i marked =
    let w = ways_of o.kind o.first o.scope o.standing o.product in
    read (way_of w i marked) w.inner

-- n children from child i on, after a tally and the marked branches kept, and the record's end
unfoldable pub list_of : ChildReader → Owner → ℕ → ℕ → Cursor → Tally → List ℕ → Parsed
list_of read o zero i c t marks = close_of o.kind o.first o.scope t (charges_of o.product t.top 0 marks) o.start c
list_of read o (suc n) i c t marks =
    on_parsed (child_of read o i (length marks) c) Refused (λ value over added mark constructs next.
    list_of read o n (i + 1) next (with_of o.kind o.first i t value over added mark constructs) (kept_of o.kind i value mark marks))

abbrev pub list_from : ChildReader → Owner → ℕ → Cursor → Parsed  -- all n children
list_from read o n c = list_of read o n 0 c no_tally []

-- a good record, at its start, and what it owns from the cursor past it on
unfoldable pub owned_by : ChildReader → List ℕ → ℕ → Standing → ℕ → Found → Cursor → Parsed
owned_by read bounds start standing product (found.Primitive cost) next = Done (share cost None 0 None 0 next)
owned_by read bounds start standing product (found.Sequence n) next = list_from read (owner_of 3 n false start standing product) n next
owned_by read bounds start standing product (found.Alternative n) next = list_from read (owner_of 4 n false start standing product) (n + 1) next
owned_by read bounds start standing product (found.HeadLoop count scope) next = list_from read (owner_of 5 count scope start standing product) 4 next
owned_by read bounds start standing product (found.TailLoop count scope) next = list_from read (owner_of 6 count scope start standing product) 3 next
owned_by read bounds start standing product (found.TimedLoop time) next = list_from read (owner_of 7 time false start standing product) 1 next
owned_by read bounds start standing product (found.Call number) next = Done (share (get_or bounds (number - 1) 0) None 0 None 0 next)
owned_by read bounds start standing product (found.Marker limit cost) next = Done (share cost None 0 (Some limit) 0 next)

abbrev pub owned_of : ChildReader → List ℕ → ℕ → Standing → ℕ → Reading Found → Parsed
owned_of read bounds start standing product r = on_reading r Refused (owned_by read bounds start standing product)

-- the construct at a cursor, with so many depths left; where none is left, no record is found
abbrev pub found_at : List ℕ → ℕ → ℕ → Standing → Cursor → Reading Found
found_at s own left standing c = found_of (judged s (construct_as own left standing) c.at)

unfoldable pub construct_of : ℕ → List ℕ → List ℕ → ℕ → ChildReader
construct_of zero s bounds own standing product c = owned_of (λ _ _ d. Refused 8 d.at) bounds c.at standing product (found_at s own 0 standing c)
construct_of (suc left) s bounds own standing product c =
    owned_of (construct_of left s bounds own) bounds c.at standing product (found_at s own (suc left) standing c)

-- a routine, whose organisation and body add up as the time and the statement of a timed loop
unfoldable pub routine_of : List ℕ → List ℕ → ℕ → Cursor → Parsed
routine_of s bounds own c =
    on_reading (read_as as_routine (judged s routine c.at)) Refused (λ r next.
    list_from (construct_of 24 s bounds own) (owner_of 7 r.organisation false c.at Outside 0) 1 next)

-- no bounds yet; one more, for which so many constructs were valued
unfoldable pub no_bounds : Bounds
no_bounds = record { values = replicate 64 0; count = 0; constructs = 0 }

unfoldable pub bounds_with : Bounds → ℕ → ℕ → Bounds
bounds_with b v constructs = record { values = set b.values b.count v; count = b.count + 1; constructs = b.constructs + constructs }

-- a sheet of so many bytes, before its routines and after one more, where the part of a routine is asked for by number
unfoldable pub progress_from : ℕ → Cursor → Progress
progress_from long c = record { last = 0; over = None; start = long; end = long; at = c }

unfoldable pub progress_with : Progress → ℕ → ℕ → ℕ → Option ℕ → Cursor → Progress
progress_with progress own number value over next = record {
  last = value;
  over = option_or progress.over over;
  start = pick (eqb own number) progress.at.at progress.start;
  end = pick (eqb own number) next.at progress.end;
  at = next;
}

-- the answer by document 01's numbers, and the part that was asked for
pub record Reply : Type 0 where
  pub said : Verdict ℕ
  pub start : ℕ
  pub end : ℕ

abbrev pub reply_of : reply.Reply → Reply
reply_of r = record { said = said_of r.answer; start = r.start; end = r.end }

-- a refusal tells no part
unfoldable pub refusal : ℕ → ℕ → ℕ → Reply
refusal long number place = record { said = refused number place; start = long; end = long }

-- EXTRA, then TOO BIG, then the bound of the last routine
abbrev pub sized_of : ℕ → Progress → Option ℕ → Reply
sized_of long progress None = record { said = accepted progress.last; start = progress.start; end = progress.end }
sized_of long progress (Some place) = refusal long 12 place

unfoldable pub verdict_of : ℕ → Progress → Reply
verdict_of long progress = pick (ltb progress.at.at long) (refusal long 11 progress.at.at) (sized_of long progress progress.over)

-- the bounds stand beside it
pub record Report : Type 0 where
  pub reply : Reply
  pub bounds : Bounds

abbrev pub report_of : Reply → Bounds → Report
report_of reply b = record { reply = reply; bounds = b }

abbrev pub reported : report.Report → Report
reported r = report_of (reply_of r.reply) r.bounds

-- n routines more
unfoldable pub routines_of : ℕ → List ℕ → ℕ → Bounds → Progress → Report
routines_of zero s number b progress = report_of (verdict_of (length s) progress) b
routines_of (suc n) s number b progress =
    on_parsed (routine_of s b.values (b.count + 1) progress.at) (λ k p. report_of (refusal (length s) k p) b) (λ value over added mark constructs next.
    routines_of n s number (bounds_with b value constructs) (progress_with progress (b.count + 1) number value over next))

-- the sheet record, then its routines
unfoldable pub sheet_of : List ℕ → ℕ → Report
sheet_of s number =
    on_reading (read_as as_sheet (judged s sheet 0)) (λ k p. report_of (refusal (length s) k p) no_bounds) (λ r next.
    routines_of r.routines s number no_bounds (progress_from (length s) next))

-- TOO LONG comes first
unfoldable pub read_of : List ℕ → ℕ → Report
read_of s number = pick (ltb 60000 (length s)) (report_of (refusal (length s) 2 0) no_bounds) (sheet_of s number)

-- What the readers are lent: room for the marked branches, at least 8 bytes for each that is held; and at least 8 bytes for each construct
-- that was valued.
pub record Lent (s marks : List ℕ) (constructs held at : ℕ) : Type 0 where
  pub room : length s ≤ 8 * length marks
  pub kept : 8 * held ≤ at
  pub valued : 8 * constructs ≤ at

-- a list of constructs starts past the record that owns it, in the sheet
pub record Within (s : List ℕ) (start at : ℕ) : Type 0 where
  pub past : start + 8 ≤ at
  pub inside : at ≤ length s
