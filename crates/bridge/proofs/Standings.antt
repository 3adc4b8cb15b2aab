-- How the code's standings follow document 01's reaches, from a record to what it owns; and that both judge a record alike.
use Prim.Native.Nat.{ℕ, zero, suc, ◌+◌, ◌*◌, ◌≤◌, min}
use mathlib.Core.Path.{◌≡◌, refl, ◌∙◌}
use mathlib.Core.Bool.{Bool, true, false, not, false≢true}
use mathlib.Core.List.{List}
use lib.Dec.{leb, eqb}
use borrow.Author.Tests.{leb-true, leb-false, ne_eqb}
use native.Mathlib.Omega.{arith}
use native.Mathlib.Nat.{mul-le-mul_right}
use Rattle.meaning.specs.Format.{pick, Record}
use Rattle.meaning.specs.Legal.{Reach, may_mark, nowhere, first_child, later_child, as_branch, as_body}
use Rattle.meaning.specs.Judgement.{Reading, construct, refuse, stray, no_plain, judged}
use Rattle.records.specs.declared.standings.Standing.{Standing}
use Rattle.records.specs.declared.standings.Standing.TheVariants.{Outside, Branch, LastBranch}
use Rattle.records.specs.Records.{reach_of, last_of, construct_as}
use Rattle.reader.specs.Ways.{lead_of, later_of, kept_scope, body_of, inner_of, ways, ways_of, way_of}
use Rattle.reader.proofs.Laws.{pick_same}
use Rattle.bridge.proofs.Agree.{standing_of, occurs}

abbrev reach : Bool → Bool → Bool → Bool → Reach
reach scope alternative branch lead = record { scope = scope; alternative = alternative; branch = branch; lead = lead }

-- what holds of the seven standings holds of every reach that occurs
by_standing : (P : Reach → Bool → Type 0) → ((a b l last : Bool) → P (reach false a b l) last) →
    ((last : Bool) → P (reach true false false false) last) → ((last : Bool) → P (reach true true false false) last) →
    P (reach true true true false) false → P (reach true true true false) true → P (reach true true false true) false → P (reach true true false true) true →
    (r : Reach) → occurs r ≡ true → (last : Bool) → P r last
by_standing P p0 p1 p2 p3 p4 p5 p6 r h last = go r.scope r.alternative r.branch r.lead last h
  where
    go : (s a b l last : Bool) → occurs (reach s a b l) ≡ true → P (reach s a b l) last
    go false a b l last h = p0 a b l last
    go true false false false last h = p1 last
    go true true false false last h = p2 last
    go true true true false false h = p3
    go true true true false true h = p4
    go true true false true false h = p5
    go true true false true true h = p6
    go true a true true last h = absurd (false≢true h)
    go true false true false last h = absurd (false≢true h)
    go true false false true last h = absurd (false≢true h)

-- what a record owns lies as constructs do
pub first_occurs : (r : Reach) → occurs r ≡ true → occurs (first_child r) ≡ true
first_occurs r h = go r.alternative r.branch r.lead h
  where
    go : (a b l : Bool) → pick b (pick l false a) (pick l a true) ≡ true → pick b a true ≡ true
    go a true true h = absurd (false≢true h)
    go a true false h = h
    go a false l h = refl

pub body_occurs : (scope : Bool) (r : Reach) → occurs (as_body scope r) ≡ true
body_occurs true r = refl
body_occurs false r = refl

-- the children of a sequence, the body of a loop
lead_law : (r : Reach) → occurs r ≡ true → (last : Bool) → lead_of (standing_of r last) ≡ standing_of (first_child r) last
unfolding lead_of
lead_law = by_standing (λ r last. lead_of (standing_of r last) ≡ standing_of (first_child r) last) (λ _ _ _ _. refl) (λ _. refl) (λ _. refl) refl refl refl refl

others_law : (r : Reach) → occurs r ≡ true → (last : Bool) → later_of (standing_of r last) ≡ standing_of (later_child r) false
unfolding later_of
others_law = by_standing (λ r last. later_of (standing_of r last) ≡ standing_of (later_child r) false) (λ _ _ _ _. refl) (λ _. refl) (λ _. refl) refl refl refl refl

pub body_law : (scope : Bool) (r : Reach) → occurs r ≡ true → (last : Bool) → body_of scope (standing_of r last) ≡ standing_of (as_body scope r) false
unfolding body_of
body_law true r h last = refl
body_law false r h last =
    by_standing (λ r last. kept_scope (standing_of r last) ≡ standing_of (as_body false r) false) (λ a _ _ _. rw (pick_same a false)) (λ _. refl) (λ _. refl)
    refl refl refl refl r h last

-- where no branch is the last with all others marked
pub way_fixed : (lead third others : Standing) (inner i marked : ℕ) →
    way_of (ways lead third others 0 inner) i marked ≡ pick (eqb i 0) lead (pick (eqb i 2) third others)
unfolding way_of
way_fixed lead third others inner i marked = rw (ne_eqb (marked + 1) 0 (λ e. omega arith))

pub way_first : (n held marked : ℕ) (r : Reach) → occurs r ≡ true → (last : Bool) →
    way_of (ways_of 3 n false (standing_of r last) held) 0 marked ≡ standing_of (first_child r) last
unfolding ways_of
way_first n held marked r h last = way_fixed _ _ _ held 0 marked ∙ lead_law r h last

pub way_later : (n held i marked : ℕ) (r : Reach) → occurs r ≡ true → (last : Bool) → 1 ≤ i →
    way_of (ways_of 3 n false (standing_of r last) held) i marked ≡ standing_of (later_child r) false
unfolding ways_of
way_later n held i marked r h last k =
    way_fixed _ _ _ held i marked ∙ rw (ne_eqb i 0 (λ e. omega arith)) (pick_same (eqb i 2) _ ∙ others_law r h last)

-- an alternative: its condition, its branches, and the passes of all
pub way_condition : (n held marked : ℕ) (standing : Standing) → way_of (ways_of 4 n false standing held) 0 marked ≡ standing_of nowhere false
unfolding ways_of way_of
way_condition n held marked Outside = refl
way_condition n held marked _ = refl

pub way_branch : (n held i marked : ℕ) (r : Reach) → occurs r ≡ true → (last : Bool) → 1 ≤ i →
    way_of (ways_of 4 n false (standing_of r last) held) i marked ≡ standing_of (as_branch r) (eqb (marked + 1) n)
unfolding ways_of way_of
way_branch n held i marked r h last k =
    by_standing (λ r last. way_of (ways_of 4 n false (standing_of r last) held) i marked ≡ standing_of (as_branch r) (eqb (marked + 1) n)) (λ _ _ _ _. none)
    (λ _. one) (λ _. one) one one one one r h last
  where
    z : eqb i 0 ≡ false
    z = ne_eqb i 0 (λ e. omega arith)

    none : way_of (ways Outside Outside Outside 0 held) i marked ≡ Outside
    none = way_fixed Outside Outside Outside held i marked ∙ rw z (pick_same (eqb i 2) Outside)

    one : way_of (ways Outside Branch Branch n held) i marked ≡ pick (eqb (marked + 1) n) LastBranch Branch
    one = rw (z, pick_same (eqb i 2) Branch)

pub alternative_inner : (n held : ℕ) (standing : Standing) → (ways_of 4 n false standing held).inner ≡ held
unfolding ways_of
alternative_inner n held Outside = refl
alternative_inner n held _ = refl

-- the product of the counts down to a loop's body; the cap on a product is never seen
abbrev pub down_to : Bool → ℕ → ℕ → ℕ
down_to scope count product = pick scope count (product * count)

cap_mul : (p n : ℕ) → min 1000000 (min 1000000 p * n) ≡ min 1000000 (p * n)
cap_mul p zero = let a : min 1000000 p * 0 ≡ 0 = omega arith in let b : p * 0 ≡ 0 = omega arith in rw (a, b)
cap_mul p (suc n) = go (leb p 1000000) refl
  where
    go : (t : Bool) → leb p 1000000 ≡ t → min 1000000 (min 1000000 p * suc n) ≡ min 1000000 (p * suc n)
    go true e = let h = leb-true p 1000000 e in let k : min 1000000 p ≡ p = omega arith in rw k
    go false e =
        let h = leb-false p 1000000 e in
        let k : min 1000000 p ≡ 1000000 = omega arith in
        let b : 1000000 * suc n ≤ p * suc n = mul-le-mul_right (suc n) (omega arith) in
        rw k (omega arith)

pub inner_law : (count : ℕ) (scope : Bool) (product held : ℕ) → count ≤ 1000000 → held ≡ min 1000000 product →
    inner_of count scope held ≡ min 1000000 (down_to scope count product)
unfolding inner_of
inner_law count true product held small h = omega arith
inner_law count false product held small h = rw h (cap_mul product count)

-- A record is judged alike: whether a marker is STRAY, and if not, whether it leaves NO PLAIN BRANCH.
marker_alike : (at : ℕ) (good : Reading Record) (r : Reach) → occurs r ≡ true → (last : Bool) →
    refuse (not (may_mark (reach_of (standing_of r last)))) 9 at (refuse (last_of (standing_of r last)) 10 at good) ≡ refuse (not (may_mark r)) 9 at (refuse last 10 at good)
unfolding refuse
marker_alike at good =
    by_standing (λ r last. refuse (not (may_mark (reach_of (standing_of r last)))) 9 at (refuse (last_of (standing_of r last)) 10 at good)
    ≡ refuse (not (may_mark r)) 9 at (refuse last 10 at good)) (λ _ _ _ _. refl) (λ _. refl) (λ _. refl) refl refl refl refl

placed_alike : (at : ℕ) (x : Record) (good : Reading Record) (r : Reach) → occurs r ≡ true → (last : Bool) →
    refuse (stray (reach_of (standing_of r last)) x) 9 at (refuse (no_plain (last_of (standing_of r last)) x) 10 at good)
    ≡ refuse (stray r x) 9 at (refuse (no_plain last x) 10 at good)
unfolding refuse
placed_alike at x good r h last = go (eqb x.kind 9)
  where
    st : Standing
    st = standing_of r last

    go : (t : Bool) → refuse (pick t (not (may_mark (reach_of st))) false) 9 at (refuse (pick t (last_of st) false) 10 at good)
        ≡ refuse (pick t (not (may_mark r)) false) 9 at (refuse (pick t last false) 10 at good)
    go true = marker_alike at good r h last
    go false = refl

pub judged_alike : (s : List ℕ) (own left at : ℕ) (r : Reach) → occurs r ≡ true → (last : Bool) →
    judged s (construct_as own left (standing_of r last)) at ≡ judged s (construct own left r last) at
unfolding judged
judged_alike s own left at r h last = simp (placed_alike)
