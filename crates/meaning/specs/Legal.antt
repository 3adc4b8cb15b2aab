-- Document 01, "The sheet" and "Values": which trees are sheets. Ranges, depth, calls, and where a marker may stand.
use Rattle.std.specs.Prelude.{ℕ, suc, ◌+◌, ◌≤◌, ◌≡◌, ◌⊎◌, Bool, true, false, List, [], ◌∷◌}
use Rattle.std.proofs.Math.Option.{none}
use Rattle.meaning.specs.Tree.{Construct, Constructs, Routine, Sheet, mark}
use Rattle.meaning.specs.Tree.{primitive, sequence, alternative, head_loop, tail_loop, timed_loop, call, marker, end, ◌then◌}
use Rattle.meaning.specs.Format.{pick, InRange, sheet_rows, routine_rows, construct_rows, record_of, routine_record, sheet_record}

-- How a construct lies: in a scope to which its marker would belong; inside an alternative of that scope; as a branch; first in a branch.
pub record Reach : Type 0 where
  pub scope : Bool
  pub alternative : Bool
  pub branch : Bool
  pub lead : Bool

-- "A marker stands only as the first child of a sequence that is itself a branch", and belongs to a scope.
abbrev pub may_mark : Reach → Bool
may_mark r = pick r.scope r.lead false

-- "Conditions, inits, overrun and timeout statements in between make a marker stray", and so does a routine's edge.
abbrev pub nowhere : Reach
nowhere = record { scope = false; alternative = false; branch = false; lead = false }

-- "Between that loop and the marker only three things may stand": "sequences", by their first child and by the later ones;
abbrev pub first_child : Reach → Reach
first_child r = record { scope = r.scope; alternative = r.alternative; branch = false; lead = r.branch }

abbrev pub later_child : Reach → Reach
later_child r = record { scope = r.scope; alternative = r.alternative; branch = false; lead = false }

-- "branches of alternatives";
abbrev pub as_branch : Reach → Reach
as_branch r = record { scope = r.scope; alternative = true; branch = true; lead = false }

-- "bodies of counted loops with scope 0. No such loop may lie inside an alternative that lies inside the scope." Scope 1 is a new scope.
abbrev pub as_body : Bool → Reach → Reach
as_body true r = record { scope = true; alternative = false; branch = false; lead = false }
as_body false r = record { scope = pick r.alternative false r.scope; alternative = r.alternative; branch = false; lead = false }

abbrev pub Plain : Constructs → Type 0  -- some branch is plain
Plain end = ⊥
Plain (b then bs) = (mark b ≡ none) ⊎ Plain bs

-- the fields in range, "the deepest allowed is 24"
abbrev pub Fit : ℕ → Construct → Type 0
Fit depth c = InRange construct_rows (record_of c) × (depth ≤ 24)

-- Legal before depth r c: c may stand at this depth and reach in a routine that has so many routines before it.
abbrev mutual
  pub Legal : ℕ → ℕ → Reach → Construct → Type 0
  Legal before depth r (primitive p) = Fit depth (primitive p)
  Legal before depth r (sequence cs) = Fit depth (sequence cs) × Legals before (suc depth) (first_child r) (later_child r) cs
  Legal before depth r (alternative c bs) =
      Fit depth (alternative c bs) × Legal before (suc depth) nowhere c × Legals before (suc depth) (as_branch r) (as_branch r) bs × Plain bs
  Legal before depth r (head_loop l i c b o) =
      Fit depth (head_loop l i c b o) × Legal before (suc depth) nowhere i × Legal before (suc depth) nowhere c × Legal before (suc depth) (as_body l.scope r) b
      × Legal before (suc depth) nowhere o
  Legal before depth r (tail_loop l b c o) =
      Fit depth (tail_loop l b c o) × Legal before (suc depth) (as_body l.scope r) b × Legal before (suc depth) nowhere c × Legal before (suc depth) nowhere o
  Legal before depth r (timed_loop w o) = Fit depth (timed_loop w o) × Legal before (suc depth) nowhere o
  -- "A call names a routine from 1 up to the one before its own"
  Legal before depth r (call k) = Fit depth (call k) × (1 ≤ k.routine) × (k.routine ≤ before)
  Legal before depth r (marker m) = Fit depth (marker m) × (may_mark r ≡ true)

  -- the first at one reach, the later ones at another
  pub Legals : ℕ → ℕ → Reach → Reach → Constructs → Type 0
  Legals before depth f r end = Unit {0}
  Legals before depth f r (c then cs) = Legal before depth f c × Legals before depth r r cs

-- "A body has depth 1", and lies in no scope.
abbrev pub LegalRoutines : ℕ → List Routine → Type 0
LegalRoutines before [] = Unit {0}
LegalRoutines before (r ∷ rs) = InRange routine_rows (routine_record r) × Legal before 1 nowhere r.body × LegalRoutines (before + 1) rs

abbrev pub LegalSheet : Sheet → Type 0  -- "edition 1; routines 1 to 64"
LegalSheet s = InRange sheet_rows (sheet_record s) × LegalRoutines 0 s.routines
