-- Demand 3's premise on markers, for which 01's case l is the reason: "at most one marker to a scope, its alternative inside no other
-- alternative of that scope" (02, L9).
use Rattle.std.specs.Prelude.{ℕ, ◌≤◌, ◌≡◌, Bool, true, false, List, [], ◌∷◌, length}
use Rattle.meaning.specs.Tree.{Construct, Constructs, Routine, Sheet}
use Rattle.meaning.specs.Tree.{primitive, sequence, alternative, head_loop, tail_loop, timed_loop, call, marker, end, ◌then◌}
use Rattle.runs.specs.Run.{limits, limits_in}

-- of the markers in its body, a loop with scope 1 has one at most
abbrev pub One : Bool → List ℕ → Type 0
One true markers = length markers ≤ 1
One false markers = Unit {0}

-- the branches of an alternative hold no marker of a scope around it besides their own
abbrev mutual
  pub Single : Construct → Type 0
  Single (primitive p) = Unit {0}
  Single (sequence cs) = Singles cs
  Single (alternative c bs) = Single c × Singles bs × (limits_in bs ≡ [])
  Single (head_loop l i c b o) = Single i × Single c × Single b × Single o × One l.scope (limits b)
  Single (tail_loop l b c o) = Single b × Single c × Single o × One l.scope (limits b)
  Single (timed_loop w o) = Single o
  Single (call k) = Unit {0}
  Single (marker m) = Unit {0}

  pub Singles : Constructs → Type 0
  Singles end = Unit {0}
  Singles (c then cs) = Single c × Singles cs

abbrev pub SingleRoutines : List Routine → Type 0  -- every routine, called or not
SingleRoutines [] = Unit {0}
SingleRoutines (r ∷ rs) = Single r.body × SingleRoutines rs

abbrev pub SingleSheet : Sheet → Type 0  -- the premise
SingleSheet s = SingleRoutines s.routines
