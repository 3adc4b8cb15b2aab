-- Document 01, "Values": Table 1 of document 000 and the marker rule. Plain numbers, nothing capped.
use Rattle.std.specs.Prelude.{ℕ, ◌+◌, ◌*◌, ◌-◌, min, max, Bool, true, false, List, [], ◌∷◌, ◌++◌, length}
use Rattle.std.proofs.Math.Option.{Option, some, none}
use Rattle.meaning.specs.Tree.{Loop, Marker, Construct, Constructs, Routine, Sheet, numbered, mark, seen_outside}
use Rattle.meaning.specs.Tree.{primitive, sequence, alternative, head_loop, tail_loop, timed_loop, call, marker, end, ◌then◌}

-- A marked branch: its marker's limit, and "The excess of a marked branch".
pub record Marked : Type 0 where
  pub limit : ℕ
  pub excess : ℕ

-- The marked branches of one alternative, and "the product of the counts .. down to the marker".
pub record Charge : Type 0 where
  pub product : ℕ
  pub branches : List Marked

-- "Its passes are the lesser of the marker's limit and the product of the counts"
abbrev pub passes : ℕ → Marked → ℕ
passes product m = min m.limit product

-- "for each marker belonging to it, passes x excess": of one alternative, and of all
unfoldable pub pays : ℕ → List Marked → ℕ
pays product [] = 0
pays product (m ∷ ms) = passes product m * m.excess + pays product ms

unfoldable pub total : List Charge → ℕ
total [] = 0
total (a ∷ as') = pays a.product a.branches + total as'

-- "from the scope loop, included, down to the marker": seen from outside a loop, its count is one factor more
unfoldable pub times : ℕ → List Charge → List Charge
times count [] = []
times count (a ∷ as') = record { product = count * a.product; branches = a.branches } ∷ times count as'

-- "A loop with scope 1 has its Table 1 value plus" this
abbrev pub charged : Bool → List Charge → ℕ
charged true as' = total as'
charged false as' = 0

-- the larger of a branch, if it is plain, and the largest plain one of the others
abbrev pub larger : Option Marker → ℕ → ℕ → ℕ
larger none v others = max v others
larger (some m) v others = others

abbrev pub marked : Option Marker → ℕ → List Marked  -- a branch, if it is marked
marked none excess = []
marked (some m) excess = record { limit = m.limit; excess = excess } ∷ []

abbrev pub evaluation : Loop → ℕ → ℕ  -- one evaluation of a loop's condition
evaluation l condition = condition

-- "count x (body + condition) + overrun", and for a loop with scope 1 what its markers add
abbrev pub rounds : Loop → ℕ → ℕ → ℕ → List Charge → ℕ
rounds l body condition overrun in_body = l.count * (body + evaluation l condition) + overrun + charged l.scope (times l.count in_body)

-- What a value depends on besides the construct: the values of the routines before its own, in order.
pub record Known : Type 0 where
  pub bounds : List ℕ

unfoldable mutual
  -- "From Table 1", line by line
  pub value : Known → Construct → ℕ
  value known (primitive p) = p.cost
  value known (sequence cs) = sum known cs
  value known (alternative c bs) = value known c + largest known bs
  value known (head_loop l i c b o) = value known i + evaluation l (value known c) + rounds l (value known b) (value known c) (value known o) (charges known b)
  value known (tail_loop l b c o) = rounds l (value known b) (value known c) (value known o) (charges known b)
  value known (timed_loop w o) = w.time + value known o
  value known (call k) = numbered known.bounds k.routine 0
  value known (marker m) = m.cost

  pub sum : Known → Constructs → ℕ
  sum known end = 0
  sum known (c then cs) = value known c + sum known cs

  -- "largest plain branch"
  pub largest : Known → Constructs → ℕ
  largest known end = 0
  largest known (b then bs) = larger (mark b) (value known b) (largest known bs)

  -- the marked branches: "its value less the largest plain branch of its alternative, or 0 if that is negative"
  pub marked_in : Known → ℕ → Constructs → List Marked
  marked_in known plain end = []
  marked_in known plain (b then bs) = marked (mark b) (value known b - plain) ++ marked_in known plain bs

  -- the alternatives of a construct whose markers belong to a scope around it: each one's own branches, then those inside them
  pub charges : Known → Construct → List Charge
  charges known (primitive p) = []
  charges known (sequence cs) = charges_in known cs
  charges known (alternative c bs) = record { product = 1; branches = marked_in known (largest known bs) bs } ∷ charges_in known bs
  charges known (head_loop l i c b o) = seen_outside l.scope (times l.count (charges known b))
  charges known (tail_loop l b c o) = seen_outside l.scope (times l.count (charges known b))
  charges known (timed_loop w o) = []
  charges known (call k) = []
  charges known (marker m) = []

  pub charges_in : Known → Constructs → List Charge
  charges_in known end = []
  charges_in known (c then cs) = charges known c ++ charges_in known cs

-- "Routine: organisation cost + body."
unfoldable pub bound : Known → Routine → ℕ
bound known r = r.organisation + value known r.body

abbrev pub knowing : Known → ℕ → Known  -- one routine more
knowing known v = record { bounds = known.bounds ++ (v ∷ []) }

unfoldable pub bounds : Known → List Routine → Known  -- routines in order, after those that are known
bounds known [] = known
bounds known (r ∷ rs) = bounds (knowing known (bound known r)) rs

abbrev pub nothing : Known  -- before the first routine
nothing = record { bounds = [] }

abbrev pub bounds_of : Sheet → List ℕ  -- "A bound for each routine"
bounds_of s = (bounds nothing s.routines).bounds

abbrev pub bound_at : Sheet → ℕ → ℕ  -- of the routine of a number
bound_at s number = numbered (bounds_of s) number 0

abbrev pub task_bound : Sheet → ℕ  -- "the last is the task"
task_bound s = bound_at s (length s.routines)
