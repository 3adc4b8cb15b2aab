-- What a scope charges for are the markers that a run counts: the limits of the charged branches are those of Run, in the same order.
use Prim.Native.Nat.{ℕ}
use mathlib.Core.Path.{◌≡◌, refl, ap, ap₂, ◌∙◌}
use mathlib.Core.Bool.{Bool, true, false}
use mathlib.Core.List.{List, ◌++◌}
use mathlib.Core.Option.{Option, some, none}
use Rattle.meaning.specs.Tree.{Marker, Construct, Constructs, seen_outside}
use Rattle.meaning.specs.Tree.{primitive, sequence, alternative, head_loop, tail_loop, timed_loop, call, marker, end, ◌then◌}
use Rattle.meaning.specs.Value.{Charge, times, marked, Known, value, largest, marked_in, charges, charges_in}
use Rattle.runs.specs.Run.{limit_of, own, limits, limits_in}
use Rattle.runs.proofs.Tallies.{all_branches, all_limits, branches_append, branches_times, limits_append}

-- of a loop, as the scope around it sees them
limits_outside : (s : Bool) (k : ℕ) (as' : List Charge) {ls : List ℕ} → all_limits (all_branches as') ≡ ls →
    all_limits (all_branches (seen_outside s (times k as'))) ≡ seen_outside s ls
limits_outside true k as' e = refl
limits_outside false k as' e = ap all_limits (branches_times k as') ∙ e

-- of the branches of an alternative
pub marked_counted : (o : Option Marker) (excess : ℕ) → all_limits (marked o excess) ≡ limit_of o
marked_counted none excess = refl
marked_counted (some m) excess = refl

pub own_counted : (known : Known) (plain : ℕ) (bs : Constructs) → all_limits (marked_in known plain bs) ≡ own bs
unfolding value
own_counted known plain end = refl
own_counted known plain (b then bs) = simp (limits_append, marked_counted, own_counted known plain bs)

-- of a construct, and of several
mutual
  unfolding value limits

  pub counted : (known : Known) (c : Construct) → all_limits (all_branches (charges known c)) ≡ limits c
  counted known (primitive p) = refl
  counted known (sequence cs) = counted_in_lem known cs
  counted known (alternative c bs) =
      limits_append (marked_in known (largest known bs) bs) (all_branches (charges_in known bs)) ∙ ap₂ ◌++◌ (own_counted known (largest known bs) bs) (counted_in_lem known bs)
  counted known (head_loop l i c b o) = limits_outside l.scope l.count (charges known b) (counted known b)
  counted known (tail_loop l b c o) = limits_outside l.scope l.count (charges known b) (counted known b)
  counted known (timed_loop w o) = refl
  counted known (call k) = refl
  counted known (marker m) = refl

  pub counted_in_lem : (known : Known) (cs : Constructs) → all_limits (all_branches (charges_in known cs)) ≡ limits_in cs
  counted_in_lem known end = refl
  counted_in_lem known (c then cs) =
      ap all_limits (branches_append (charges known c) (charges_in known cs)) ∙ limits_append (all_branches (charges known c)) (all_branches (charges_in known cs))
      ∙ ap₂ ◌++◌ (counted known c) (counted_in_lem known cs)
