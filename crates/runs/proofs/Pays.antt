-- What a scope charges: no tally that fits and keeps the limits costs more, and with one marker some tally costs it.
use Prim.Native.Nat.{ℕ, ◌+◌, min, ◌≤◌}
use mathlib.Core.Path.{◌≡◌, refl, ap₂, ◌∙◌}
use mathlib.Core.List.{List, [], ◌∷◌, ◌++◌}
use lib.ListN.{length, length-append}
use native.Mathlib.Omega.{arith}
use native.Mathlib.Nat.{mul-le-mul_right, le-min, min-le_left}
use Rattle.meaning.specs.Value.{Marked, Charge, pays, total}
use Rattle.runs.specs.Run.{Tally, Within, empty, both}
use Rattle.runs.proofs.Tallies.{excess_of, all_branches, all_limits, all_passes, Paired, pair}
use Rattle.runs.proofs.Tallies.{pairs, Fits, fit, fits, limits_append, excess_append}

-- the branches of one alternative cost no more than they pay
pays_most : {p : Tally} {ms : List Marked} (product : ℕ) → Paired p ms → Within p (all_limits ms) → all_passes p ≤ product →
    excess_of p ms ≤ pays product ms
unfolding pays
pays_most product pair w h = omega arith
pays_most product (pairs {t = x} {m = m} f) (both h' w) h =
    let e = pays_most product f w (omega arith) in
    let g : x ≤ product = omega arith in
    let p = mul-le-mul_right m.excess (le-min h' g) in
    omega arith

-- limits are kept by two lists one after the other as by each
within_split : {p : Tally} {ms : List Marked} (q : Tally) (ks : List ℕ) → Paired p ms → Within (p ++ q) (all_limits ms ++ ks) →
    Within p (all_limits ms) × Within q ks
within_split q ks pair w = (empty, w)
within_split q ks (pairs f) (both h w) = let (a, b) = within_split q ks f w in (both h a, b)

pub within_append : {p q r s : Tally} → Within p q → Within r s → Within (p ++ r) (q ++ s)
within_append empty w = w
within_append (both h v) w = both h (within_append v w)

-- all branches of a scope, in one entry, cost no more than it charges
pub total_most : {t : Tally} (as' : List Charge) → Fits t as' → Within t (all_limits (all_branches as')) → excess_of t (all_branches as') ≤ total as'
unfolding total
total_most [] fit w = omega arith
total_most (a ∷ as') (fits {p = p} {q = q} f h g e) w =
    let w' : Within (p ++ q) (all_limits a.branches ++ all_limits (all_branches as')) = rw (← limits_append, ← e) w in
    let (x, y) = within_split q (all_limits (all_branches as')) f w' in
    let one = pays_most a.product f x h in
    let rest = total_most as' g y in
    let d = excess_append q (all_branches as') f in
    rw e (omega arith)

-- a tally of one alternative that costs what its branches pay: there is one if at most one is marked
record Paying (product : ℕ) (ms : List Marked) : Type 0 where
  tally : Tally
  paired : Paired tally ms
  few : all_passes tally ≤ product
  small : Within tally (all_limits ms)
  costs : excess_of tally ms ≡ pays product ms

paying : (product : ℕ) (ms : List Marked) → length ms ≤ 1 → Paying product ms
unfolding pays
paying product [] h = record { tally = []; paired = pair; few = omega arith; small = empty; costs = refl }
paying product (m ∷ []) h = record {
  tally = min m.limit product ∷ [];
  paired = pairs pair;
  few = omega arith;
  small = both (min-le_left m.limit product) empty;
  costs = refl;
}
paying product (m ∷ m' ∷ ms) h = absurd (omega arith)

-- a tally of a scope that costs its charge: there is one if it has one marker at most
pub record Plan (as' : List Charge) : Type 0 where
  pub tally : Tally
  pub place : Fits tally as'
  pub small : Within tally (all_limits (all_branches as'))
  pub costs : excess_of tally (all_branches as') ≡ total as'

pub plan : (as' : List Charge) → length (all_branches as') ≤ 1 → Plan as'
unfolding total
plan [] h = record { tally = []; place = fit; small = empty; costs = refl }
plan (a ∷ as') h =
    let n = length-append a.branches (all_branches as') in
    let x = paying a.product a.branches (omega arith) in
    let y = plan as' (omega arith) in
    record {
      tally = x.tally ++ y.tally;
      place = fits x.paired x.few y.place refl;
      small = rw (limits_append a.branches (all_branches as')) (within_append x.small y.small);
      costs = excess_append y.tally (all_branches as') x.paired ∙ ap₂ ◌+◌ x.costs y.costs;
    }
