-- When what the code tells of a construct agrees with what document 01 says of it.
use Prim.Native.Nat.{ℕ, ◌+◌, ◌-◌, ◌≤◌, min}
use mathlib.Core.Path.{◌≡◌}
use mathlib.Core.Bool.{Bool, true, false}
use mathlib.Core.List.{List}
use mathlib.Core.Option.{Option as Maybe, some, none}
use lib.ListN.{length, get_or}
use Rattle.std.specs.Prelude.{Option, Some, None}
use Rattle.std.specs.Option.{option_or}
use Rattle.meaning.specs.Tree.{Marker, Construct, numbered, itself, mark}
use Rattle.meaning.specs.Format.{pick}
use Rattle.meaning.specs.Legal.{Reach}
use Rattle.meaning.specs.Value.{Known, value, total, times, charges}
use Rattle.meaning.specs.Work.{records}
use Rattle.meaning.specs.Judgement.{Reading, refused, found}
use Rattle.meaning.specs.Answer.{value_limit, Ended, ended, too_big}
use Rattle.records.specs.declared.standings.Standing.{Standing}
use Rattle.records.specs.declared.standings.Standing.TheVariants.{Outside, InScope, InAlternative, Branch, LastBranch, Leading, LeadingLast}
use Rattle.reader.specs.Tallies.{Done, Refused, Parsed, Share, value_cap}

-- how a construct stands, for its reach and for whether it is, or leads, a last branch whose fellows are all marked
abbrev pub standing_of : Reach → Bool → Standing
standing_of r last =
    pick r.scope (pick r.branch (pick last LastBranch Branch) (pick r.lead (pick last LeadingLast Leading) (pick r.alternative InAlternative InScope))) Outside

-- document 01's options as the code has them: a place, the limit of a marker
abbrev pub place_of : Maybe ℕ → Option ℕ
place_of none = None
place_of (some place) = Some place

abbrev pub limit_of : Maybe Marker → Option ℕ
limit_of none = None
limit_of (some m) = Some m.limit

-- the place of the first of some records to end with too large a value
abbrev pub over_in : List Ended → Option ℕ
over_in es = place_of (too_big es)

-- What is told of the construct c, read from a place up to another, in a scope whose counts multiply to a product down to it.
pub record Agrees (known : Known) (product at : ℕ) (c : Construct) (past : ℕ) (p : Share) : Type 0 where
  pub reached : p.next.at ≡ past
  pub over : p.over ≡ over_in (ended known at c)
  pub amount : over_in (ended known at c) ≡ None → p.value ≡ value known c
  pub small : p.value ≤ value_limit
  pub added : over_in (ended known at c) ≡ None → p.added ≡ min value_cap (total (times product (charges known c)))
  pub marked : p.mark ≡ option_or (limit_of (itself c)) (limit_of (mark c))
  pub inside : p.constructs + 1 ≡ length (records c)

pub data Same (known : Known) (product at : ℕ) : Parsed → Reading Construct → Type 0 where
  both_refused : {number place : ℕ} → Same known product at (Refused number place) (refused number place)
  read_done : {c : Construct} {past : ℕ} {p : Share} → Agrees known product at c past p → Same known product at (Done p) (found c past)

-- the bounds that are lent are those of the routines before
abbrev pub Finds : Known → List ℕ → ℕ → Type 0
Finds known bounds before = (number : ℕ) → 1 ≤ number → number ≤ before → get_or bounds (number - 1) 0 ≡ numbered known.bounds number 0

-- how constructs lie in a sheet: a branch, and what leads one, is inside an alternative, and none is both
abbrev pub occurs : Reach → Bool
occurs r = pick r.branch (pick r.lead false r.alternative) (pick r.lead r.alternative true)
