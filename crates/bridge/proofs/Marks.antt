-- What legality says of markers: where a construct is none and is not marked, and the range of a limit.
use Prim.Native.Nat.{ℕ, ◌≤◌}
use mathlib.Core.Path.{◌≡◌, refl, sym, ◌∙◌}
use mathlib.Core.Bool.{true, false, false≢true}
use mathlib.Core.List.{List, ◌∷◌}
use mathlib.Core.Option.{none}
use Rattle.meaning.specs.Tree.{Construct, Constructs, itself, leading, mark}
use Rattle.meaning.specs.Tree.{primitive, sequence, alternative, head_loop, tail_loop, timed_loop, call, marker, end, ◌then◌}
use Rattle.meaning.specs.Format.{Range, ranges_of, within, in_ranges}
use Rattle.meaning.specs.Legal.{Reach, first_child, later_child, Legal, Legals}
use Rattle.meaning.proofs.Laws.{pick_true, within_is}
use Rattle.demands.proofs.Good.{Unmarked}
use Rattle.reader.specs.Tallies.{Limited}
use Rattle.bridge.proofs.Agree.{limit_of}

-- the first of some fields in their ranges, and the rest
pub first_most : (p : Range) (ps : List Range) (a : ℕ) (xs : List ℕ) → in_ranges (p ∷ ps) (a ∷ xs) ≡ true → (a ≤ p.most) × (in_ranges ps xs ≡ true)
unfolding in_ranges
first_most p ps a xs h = let (x, y) = pick_true (within p a) (in_ranges ps xs) h in ((within_is p a x).1, y)

-- first in no branch, it is no marker; as no branch, it is not marked
pub no_marker : (before depth : ℕ) (r : Reach) (c : Construct) → r.lead ≡ false → Legal before depth r c → itself c ≡ none
no_marker before depth r (primitive p) e h = refl
no_marker before depth r (sequence cs) e h = refl
no_marker before depth r (alternative c bs) e h = refl
no_marker before depth r (head_loop l i c b o) e h = refl
no_marker before depth r (tail_loop l b c o) e h = refl
no_marker before depth r (timed_loop w o) e h = refl
no_marker before depth r (call k) e h = refl
no_marker before depth r (marker m) e h = absurd (false≢true (sym e ∙ (pick_true r.scope r.lead h.1).1))

no_leading : (before depth : ℕ) (f l : Reach) (cs : Constructs) → f.lead ≡ false → Legals before depth f l cs → leading cs ≡ none
no_leading before depth f l end e h = refl
no_leading before depth f l (c then cs) e h = no_marker before depth f c e h.0

pub no_mark : (before depth : ℕ) (r : Reach) (c : Construct) → r.branch ≡ false → Legal before depth r c → mark c ≡ none
no_mark before depth r (primitive p) e h = refl
no_mark before depth r (sequence cs) e h = no_leading before _ (first_child r) (later_child r) cs e h.1
no_mark before depth r (alternative c bs) e h = refl
no_mark before depth r (head_loop l i c b o) e h = refl
no_mark before depth r (tail_loop l b c o) e h = refl
no_mark before depth r (timed_loop w o) e h = refl
no_mark before depth r (call k) e h = refl
no_mark before depth r (marker m) e h = refl

pub unmarked : (before depth : ℕ) (r : Reach) (c : Construct) → r.lead ≡ false → r.branch ≡ false → Legal before depth r c → Unmarked c
unmarked before depth r c e e' h = (no_marker before depth r c e h, no_mark before depth r c e' h)

-- the limit of a mark is in its range
limited : (before depth : ℕ) (r : Reach) (c : Construct) → Legal before depth r c → Limited (limit_of (itself c))
unfolding ranges_of
limited before depth r (primitive p) h = tt
limited before depth r (sequence cs) h = tt
limited before depth r (alternative c bs) h = tt
limited before depth r (head_loop l i c b o) h = tt
limited before depth r (tail_loop l b c o) h = tt
limited before depth r (timed_loop w o) h = tt
limited before depth r (call k) h = tt
limited before depth r (marker m) h = (first_most _ _ m.limit _ h.0.0).0

leading_limited : (before depth : ℕ) (f l : Reach) (cs : Constructs) → Legals before depth f l cs → Limited (limit_of (leading cs))
leading_limited before depth f l end h = tt
leading_limited before depth f l (c then cs) h = limited before depth f c h.0

pub mark_limited : (before depth : ℕ) (r : Reach) (c : Construct) → Legal before depth r c → Limited (limit_of (mark c))
mark_limited before depth r (primitive p) h = tt
mark_limited before depth r (sequence cs) h = leading_limited before _ _ _ cs h.1
mark_limited before depth r (alternative c bs) h = tt
mark_limited before depth r (head_loop l i c b o) h = tt
mark_limited before depth r (tail_loop l b c o) h = tt
mark_limited before depth r (timed_loop w o) h = tt
mark_limited before depth r (call k) h = tt
mark_limited before depth r (marker m) h = tt
