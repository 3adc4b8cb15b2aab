-- What the two halves of demand 3 leave open about runs, on small constructs: exactly which numbers of cycles they may take.
use Prim.Native.Nat.{ℕ, zero, suc, ◌+◌, ◌*◌, ◌-◌, ◌≤◌, zero-le}
use mathlib.Core.Path.{◌≡◌, refl}
use mathlib.Core.Logic.{◌⊎◌, inl, inr, ◌↔◌}
use mathlib.Core.Bool.{true, false}
use mathlib.Core.List.{[], ◌∷◌}
use native.Mathlib.Omega.{arith}
use native.Mathlib.Nat.{le_refl, le-suc, mul-le-mul_left}
use Rattle.meaning.specs.Tree.{Loop, Primitive, Construct, Sheet, primitive, alternative, head_loop, end, ◌then◌}
use Rattle.meaning.specs.Format.{ranges_of, in_ranges}
use Rattle.meaning.specs.Legal.{LegalSheet}
use Rattle.meaning.specs.Value.{pays, total, times, value, bound, bounds}
use Rattle.meaning.proofs.Cases.{l}
use Rattle.meaning.proofs.Notation.{P, S, A, H, H*, T, T*, W, M, C, R, sheet}
use Rattle.runs.specs.Run.{Tally, never, ◌⊕◌, empty, both, limits, handed, scope, World}
use Rattle.runs.specs.Run.{Run, Taken, Rounds, Again, Tested, takes, allowed, begin, RoutineTakes, SheetTakes}
use Rattle.runs.specs.Run.{act, pass, children, choose, head, tail, wait, timeout, enter, done, next, this, other, without, overrun, stop, again, tested}
use Rattle.runs.specs.Premise.{SingleSheet}
use Rattle.runs.proofs.Sound.{sheet_sound}
use Rattle.runs.proofs.Reached.{sheet_reached}

-- a primitive takes its cost, and k rounds of primitives k times theirs
cost_only : {world : World} {p : Primitive} {n : ℕ} {t : Tally} → Run world (primitive p) n t → n ≡ p.cost
cost_only (act e) = e

test_only : {world : World} {l : Loop} {p : Primitive} {n : ℕ} → Tested world l (primitive p) n → n ≡ p.cost
test_only (tested r) = cost_only r

again_only : {world : World} {l : Loop} {b c : Primitive} {k n : ℕ} {t : Tally} → Again world l (primitive b) (primitive c) k n t →
    n ≡ k * (b.cost + c.cost)
again_only (stop e) = omega arith
again_only (again r s a e e') = let x = cost_only r in let y = test_only s in let z = again_only a in omega arith

-- the rounds of a loop with count 1: none, if it may, or one, or one and the overrun
abbrev one : Loop
one = record { count = 1; scope = false }

abbrev Once : ℕ → ℕ → ℕ → ℕ → Type 0
Once least round after n = ((least ≡ 0) × (n ≡ 0)) ⊎ n ≡ round ⊎ n ≡ round + after

once_only : {b c o : Primitive} {least n : ℕ} {t : Tally} → Rounds begin one (primitive b) (primitive c) (primitive o) least n t →
    Once least (b.cost + c.cost) o.cost n
once_only (without {k = zero} h h' a e) = inl (let x = again_only a in omega arith)
once_only (without {k = suc zero} h h' a e) = inr (inl (let x = again_only a in omega arith))
once_only (without {k = suc (suc k)} h h' a e) = absurd (omega arith)
once_only (overrun h a e r e') = inr (inr (let x = again_only a in let y = cost_only r in omega arith))

round : (b c : Primitive) → Again begin one (primitive b) (primitive c) 1 (b.cost + c.cost) []
unfolding limits never ◌⊕◌
round b c =
    let n : b.cost + c.cost ≡ b.cost + c.cost + 0 = omega arith in
    again (act refl) (tested (act refl)) (stop refl) n refl

once_all : (b c o : Primitive) {least n : ℕ} → least ≤ 1 → Once least (b.cost + c.cost) o.cost n →
    Rounds begin one (primitive b) (primitive c) (primitive o) least n []
unfolding limits never
once_all b c o {least} h (inl (e, e')) = rw e' (without {l = one} {least = least} {k = 0} (omega arith) (omega arith) (stop refl) (handed refl))
once_all b c o {least} h (inr (inl e)) = rw e (without {l = one} {least = least} {k = 1} (omega arith) (omega arith) (round b c) (handed refl))
once_all b c o h (inr (inr e)) = overrun h (round b c) (handed refl) (act refl) e

-- An alternative runs exactly one branch, and may run any.
pub one_branch : (n : ℕ) → Run begin (A (P 2) (P 9 ∷ S [] ∷ [])) n [] ↔ (n ≡ 11 ⊎ n ≡ 2)
unfolding limits never
one_branch n = (to, from)
  where
    one_of : {y : ℕ} {t u : Tally} → Taken begin (P 9 then S [] then end) y t u → y ≡ 9 ⊎ y ≡ 0
    one_of (this r e e') = inl (cost_only r)
    one_of (other (this (children done) e e') f f') = inr refl
    one_of {y = y} {t = t} {u = u} (other {v = v} {w = w} (other x22 _ _) f f') = elim x22 [ ]

    sort : {m x y : ℕ} → x ≡ 2 → m ≡ x + y → y ≡ 9 ⊎ y ≡ 0 → m ≡ 11 ⊎ m ≡ 2
    sort c e (inl h) = inl (omega arith)
    sort c e (inr h) = inr (omega arith)

    to : Run begin (A (P 2) (P 9 ∷ S [] ∷ [])) n [] → n ≡ 11 ⊎ n ≡ 2
    to (choose r s e e') = sort (cost_only r) e (one_of s)

    from : n ≡ 11 ⊎ n ≡ 2 → Run begin (A (P 2) (P 9 ∷ S [] ∷ [])) n []
    from (inl e) = choose (act refl) (this (act refl) refl refl) e refl
    from (inr e) = choose (act refl) (other (this (children done) refl refl) refl refl) e refl

-- A head loop's overrun never follows after fewer rounds than count; after count rounds it may follow or not.
pub head_loop_lem : (n : ℕ) → Run begin (H 1 (P 1) (P 2) (P 5) (P 4)) n [] ↔ (n ≡ 3 ⊎ n ≡ 10 ⊎ n ≡ 14)
head_loop_lem n = (to, from)
  where
    to : Run begin (H 1 (P 1) (P 2) (P 5) (P 4)) n [] → n ≡ 3 ⊎ n ≡ 10 ⊎ n ≡ 14
    to (head {n = m} {x = x} {y = y} {z = z} r s rounds e) = sort (cost_only r) (test_only s) (once_only rounds)
      where
        sort : x ≡ 1 → y ≡ 2 → Once 0 7 4 z → m ≡ 3 ⊎ m ≡ 10 ⊎ m ≡ 14
        sort i c (inl h) = inl (omega arith)
        sort i c (inr (inl h)) = inr (inl (omega arith))
        sort i c (inr (inr h)) = inr (inr (omega arith))

    build : (z : ℕ) → Once 0 7 4 z → n ≡ 1 + 2 + z → Run begin (H 1 (P 1) (P 2) (P 5) (P 4)) n []
    build z h e = head (act refl) (tested (act refl)) (once_all _ _ _ (omega arith) h) e

    from : n ≡ 3 ⊎ n ≡ 10 ⊎ n ≡ 14 → Run begin (H 1 (P 1) (P 2) (P 5) (P 4)) n []
    from (inl e) = build 0 (inl (refl, refl)) e
    from (inr (inl e)) = build 7 (inr (inl refl)) e
    from (inr (inr e)) = build 11 (inr (inr refl)) e

-- "Up to count times": two rounds of three.
pub two_of_three : Run begin (H 3 (P 1) (P 2) (P 5) (P 4)) 17 []
unfolding limits never ◌⊕◌
two_of_three =
    let three : Loop = record { count = 3; scope = false } in
    let low : 0 ≤ 2 = omega arith in
    let high : 2 ≤ 3 = omega arith in
    let last = again {l = three} (act refl) (tested (act refl)) (stop refl) refl refl in
    let rounds = again (act refl) (tested (act refl)) last refl refl in
    head (act refl) (tested (act refl)) (without {l = three} low high rounds (handed refl)) refl

-- A tail loop runs its body at least once.
pub tail_loop_lem : (n : ℕ) → Run begin (T 1 (P 5) (P 2) (P 4)) n [] ↔ (n ≡ 7 ⊎ n ≡ 11)
tail_loop_lem n = (to, from)
  where
    sort : {m : ℕ} → Once 1 7 4 m → m ≡ 7 ⊎ m ≡ 11
    sort (inl h) = absurd (omega arith)
    sort (inr h) = h

    to : Run begin (T 1 (P 5) (P 2) (P 4)) n [] → n ≡ 7 ⊎ n ≡ 11
    to (tail rounds) = sort (once_only rounds)

    from : n ≡ 7 ⊎ n ≡ 11 → Run begin (T 1 (P 5) (P 2) (P 4)) n []
    from h = tail (once_all _ _ _ (le_refl 1) (inr h))

-- A timed loop takes any number of cycles up to its time; its timeout statement may follow or not, whatever it took.
pub timed_loop_lem : (n : ℕ) → Run begin (W 3 (P 6)) n [] ↔ ((n ≤ 3) ⊎ (6 ≤ n) × (n ≤ 9))
timed_loop_lem n = (to, from)
  where
    to : Run begin (W 3 (P 6)) n [] → (n ≤ 3) ⊎ (6 ≤ n) × (n ≤ 9)
    to (wait h) = inl (omega arith)
    to (timeout h r e) = inr (let x = cost_only r in omega arith)

    from : (n ≤ 3) ⊎ (6 ≤ n) × (n ≤ 9) → Run begin (W 3 (P 6)) n []
    from (inl h) = wait {w = record { time = 3 }} {n = n} (omega arith)
    from (inr h) =
        let x : n - 6 ≤ 3 = omega arith in
        let e : n ≡ n - 6 + 6 = omega arith in
        timeout x (act refl) e

-- A marker is counted afresh in each entry of its scope: with limit 1 two rounds cannot both pass it, but each of two entries can.
abbrev limited_choice : Construct
limited_choice = A (P 0) (S (M 1 0 ∷ P 7 ∷ []) ∷ P 0 ∷ [])

abbrev limited : Construct
limited = H* 2 (P 0) (P 0) limited_choice (P 0)

abbrev task : Construct → Sheet
task body = sheet (R 0 body ∷ [])

pub not_twice : Run begin limited 14 [] → ⊥
unfolding allowed bounds bound value times total pays
not_twice r = let h : 14 ≤ 7 = sheet_sound (task limited) 1 14 (takes refl r) in omega arith

pub passed_once : Run begin limited 7 []
unfolding limits never ◌⊕◌
passed_once =
    let branch = children (next (pass refl) (next (act refl) done refl refl) refl refl) in
    let rounds = again (choose (act refl) (this branch refl refl) refl refl) (tested (act refl)) (stop refl) refl refl in
    head (act refl) (tested (act refl)) (without zero-le (le-suc 1) rounds (scope refl (both (le_refl 1) empty))) refl

pub passed_twice : Run begin (S (limited ∷ limited ∷ [])) 14 []
passed_twice = children (next passed_once (next passed_once done refl refl) refl refl)

-- The premises of the second half can hold: here for the scope above.
legal : LegalSheet (task limited)
unfolding ranges_of in_ranges
legal = search (inl, inr, arith)

single : SingleSheet (task limited)
unfolding limits
single = search arith

pub attained : RoutineTakes (task limited) 1 7
unfolding bounds bound value times total pays
attained = sheet_reached (task limited) legal single 1 (omega arith) (omega arith)

-- A call runs organisation and body of the named routine.
abbrev calling : Sheet
calling = sheet (R 3 (P 4) ∷ R 5 (C 1) ∷ [])

pub called : (n : ℕ) → RoutineTakes calling 2 n ↔ (n ≡ 12)
unfolding allowed
called n = (to n, from)
  where
    first : {m : ℕ} → RoutineTakes calling 1 m → m ≡ 7
    first (takes e r) = let x = cost_only r in omega arith

    to : (m : ℕ) → RoutineTakes calling 2 m → m ≡ 12
    to m (takes e (enter r)) = let x = first r in omega arith

    from : n ≡ 12 → RoutineTakes calling 2 n
    from e = rw e (takes refl (enter (takes refl (act refl))))

-- "A run of the sheet is a run of its last routine."
pub last_routine : (n : ℕ) → SheetTakes (sheet (R 9 (P 9) ∷ R 0 (P 1) ∷ [])) n → n ≡ 1
unfolding allowed
last_routine n (takes e r) = let x = cost_only r in omega arith

-- The premise holds of a sheet with every kind of record, and not of case l.
pub every_single : SingleSheet (sheet (R 3 (W 9 (H 2 (P 1) (P 2) (P 3) (S []))) ∷ R 5 (S (C 1 ∷ T* 3 (T 2 limited_choice (P 0) (S [])) (P 0) (S []) ∷ [])) ∷ []))
unfolding limits
every_single = search arith

pub l_not_single : SingleSheet (task l) → ⊥
unfolding limits
l_not_single h = let two = h.0.4 in omega arith

-- A head loop whose body takes at most m cycles takes at most m in each round, if nothing else costs.
abbrev Most : Construct → ℕ → Type 0
Most c m = (n : ℕ) (t : Tally) → Run begin c n t → n ≤ m

again_most : {l : Loop} {b : Construct} {m k n : ℕ} {t : Tally} → Most b m → Again begin l b (P 0) k n t → n ≤ m * k
again_most h (stop e) = omega arith
again_most h (again r c a e e') = let x = h _ _ r in let y = test_only c in let z = again_most h a in omega arith

loop_most : (l : Loop) (b o : Construct) (m : ℕ) → Most b m → Most o 0 → Most (head_loop l (P 0) (P 0) b o) (m * l.count)
loop_most l b o m h h' n t (head i c (without low high a entry) e) =
    let x = cost_only i in
    let y = test_only c in
    let z = again_most h a in
    let w = mul-le-mul_left m high in
    omega arith
loop_most l b o m h h' n t (head i c (overrun low a entry r e') e) =
    let x = cost_only i in
    let y = test_only c in
    let z = again_most h a in
    let w = h' _ _ r in
    omega arith

marked_only : {limit cost n : ℕ} {t : Tally} → Run begin (S (M limit 0 ∷ P cost ∷ [])) n t → n ≡ cost
marked_only (children (next (pass e) (next r done e1 e2) e3 e4)) = let x = cost_only r in omega arith

-- Case l: its bound is 130, and no run takes more than 70, since a round runs one branch. So a scope has one marker at most in the premise.
pub case_l : (n : ℕ) → Run begin l n [] → n ≤ 70
case_l n = loop_most (record { count = 10; scope = true }) _ (S []) 7 round idle n []
  where
    branch : {m : ℕ} {t u : Tally} → Taken begin (S (M 10 0 ∷ P 7 ∷ []) then S (M 10 0 ∷ P 6 ∷ []) then S [] then end) m t u → m ≤ 7
    branch (this r e e') = let x = marked_only r in omega arith
    branch (other (this r e e') f f') = let x = marked_only r in omega arith
    branch (other (other (this (children done) e e') f f') g g') = omega arith
    branch {m = m} {t = t} {u = u} (other {v = v} {w = w} (other (other x28 _ _) f f') g g') = elim x28 [ ]

    round : Most (alternative (P 0) (S (M 10 0 ∷ P 7 ∷ []) then S (M 10 0 ∷ P 6 ∷ []) then S [] then end)) 7
    round m t (choose r s e e') = let x = cost_only r in let y = branch s in omega arith

    idle : Most (S []) 0
    idle m t (children done) = omega arith

-- A marked alternative inside another: its bound is 16 (meaning/Values), and no run takes more than 10. So the premise excludes that too.
abbrev inner : Construct
inner = A (P 0) (S (M 2 0 ∷ P 5 ∷ []) ∷ P 0 ∷ [])

pub nested : (n : ℕ) → Run begin (H* 2 (P 0) (P 0) (A (P 0) (inner ∷ P 3 ∷ [])) (P 0)) n [] → n ≤ 10
nested n = loop_most (record { count = 2; scope = true }) _ (P 0) 5 round idle n []
  where
    within : Most inner 5
    within m t (choose r (this s e1 e2) e e') = let x = cost_only r in let y = marked_only s in omega arith
    within m t (choose r (other (this s e1 e2) f f') e e') = let x = cost_only r in let y = cost_only s in omega arith
    within m t (choose {y = y} {u = u} {v = v} r (other {w = w} (other x31 _ _) f f') e e') = elim x31 [ ]

    round : Most (A (P 0) (inner ∷ P 3 ∷ [])) 5
    round m t (choose r (this s e1 e2) e e') = let x = cost_only r in let y = within _ _ s in omega arith
    round m t (choose r (other (this s e1 e2) f f') e e') = let x = cost_only r in let y = cost_only s in omega arith
    round m t (choose {y = y} {u = u} {v = v} r (other {w = w} (other x31 _ _) f f') e e') = elim x31 [ ]

    idle : Most (P 0) 0
    idle m t r = let x = cost_only r in omega arith
