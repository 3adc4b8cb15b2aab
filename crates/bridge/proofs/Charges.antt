-- What markers add to a scope: the charges of lists and loops, none where no scope reaches, and those of marked branches as the code adds them up.
use Prim.Native.Nat.{ℕ, ◌+◌, ◌-◌, ◌*◌, ◌/◌, ◌%◌, min}
use mathlib.Core.Path.{◌≡◌, refl, sym, ap₂, ◌∙◌}
use mathlib.Core.Bool.{false}
use mathlib.Core.List.{List, [], ◌∷◌, ◌++◌}
use mathlib.Core.Option.{Option as Maybe, some, none}
use native.Mathlib.Omega.{arith}
use native.Mathlib.Nat.{mul_assoc}
use Rattle.meaning.specs.Tree.{Marker, Construct, Constructs, end, ◌then◌, itself, mark}
use Rattle.meaning.specs.Legal.{Reach, Legal}
use Rattle.meaning.specs.Value.{Marked, Charge, Known, pays, total, times, marked, value, marked_in, charges}
use Rattle.reader.specs.Tallies.{value_cap, charge_of, charges_of, kept_with, Limited}
use Rattle.runs.proofs.Tallies.{all_branches}
use Rattle.runs.proofs.Counted.{counted}
use Rattle.runs.proofs.Plans.{limits_nil}
use Rattle.runs.proofs.Shape.{free}
use Rattle.bridge.proofs.Agree.{limit_of}

-- of one list after another; of a loop in a loop
pub total_append : (p : ℕ) (as' bs : List Charge) → total (times p (as' ++ bs)) ≡ total (times p as') + total (times p bs)
unfolding times total
total_append p [] bs = omega arith
total_append p (a ∷ as') bs = let h = total_append p as' bs in omega arith

pub total_times : (p n : ℕ) (as' : List Charge) → total (times p (times n as')) ≡ total (times (p * n) as')
unfolding times total
total_times p n [] = refl
total_times p n (a ∷ as') = ap₂ (λ x y. pays x a.branches + y) (sym (mul_assoc p n a.product)) (total_times p n as')

-- where no scope reaches no branch is marked, so nothing is paid
none_both : {A : Type 0} (xs ys : List A) → xs ++ ys ≡ [] → (xs ≡ []) × (ys ≡ [])
none_both [] ys e = (refl, e)
none_both (x ∷ xs) ys e = cc

none_paid : (p : ℕ) (as' : List Charge) → all_branches as' ≡ [] → total (times p as') ≡ 0
unfolding times total pays
none_paid p [] e = refl
none_paid p (a ∷ as') e = let (x, y) = none_both a.branches (all_branches as') e in rw (x, none_paid p as' y)

pub unreached : (known : Known) (before depth p : ℕ) (r : Reach) (c : Construct) → r.scope ≡ false → Legal before depth r c → total (times p (charges known c)) ≡ 0
unreached known before depth p r c e h = none_paid p (charges known c) (limits_nil (all_branches (charges known c)) (counted known c ∙ free before depth r c e h))

-- a branch is no marker itself, and may be marked
abbrev pub Branch : Construct → Type 0
Branch b = (itself b ≡ none) × Limited (limit_of (mark b))

abbrev pub Each : (Construct → Type 0) → Constructs → Type 0
Each P end = Unit {0}
Each P (c then cs) = P c × Each P cs

-- the marked branches as the code keeps them
abbrev pub kept_in : Known → Constructs → List ℕ
kept_in known end = []
kept_in known (b then bs) = kept_with (value known b) (limit_of (mark b)) [] ++ kept_in known bs

module _ (product held plain : ℕ) (cap : held ≡ min 1000000 product) where
  -- after some that pay u, marks that are kept add what their branches pay
  abbrev Adds : List ℕ → List Marked → Type 0
  Adds marks ms = (sum u : ℕ) → sum ≡ min value_cap u → charges_of held plain sum marks ≡ min value_cap (u + pays product ms)

  one_more : (o : Maybe Marker) (v : ℕ) → Limited (limit_of o) → (marks : List ℕ) (ms : List Marked) → Adds marks ms →
      Adds (kept_with v (limit_of o) [] ++ marks) (marked o (v - plain) ++ ms)
  unfolding charges_of pays
  one_more none v l marks ms h sum u e = h sum u e
  one_more (some m) v l marks ms h sum u e =
      let x = v * 1048576 + m.limit in
      let a : x % 1048576 ≡ m.limit = omega arith in
      let b : x / 1048576 ≡ v = omega arith in
      let c : min m.limit held ≡ min m.limit product = omega arith in
      let d : charge_of held (x % 1048576) (x / 1048576) plain ≡ min m.limit product * (v - plain) = rw (a, b, c) in
      h _ (u + min m.limit product * (v - plain)) (omega arith) ∙ omega arith

  all_kept : (known : Known) (bs : Constructs) → Each Branch bs → Adds (kept_in known bs) (marked_in known plain bs)
  unfolding charges_of pays value
  all_kept known end l sum u e = omega arith
  all_kept known (b then bs) l sum u e = one_more (mark b) (value known b) l.0.1 (kept_in known bs) (marked_in known plain bs) (all_kept known bs l.1) sum u e

  pub charges_law : (known : Known) (bs : Constructs) → Each Branch bs → charges_of held plain 0 (kept_in known bs) ≡ min value_cap (pays product (marked_in known plain bs))
  charges_law known bs l = all_kept known bs l 0 0 refl ∙ omega arith
