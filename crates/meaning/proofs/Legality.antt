-- Document 01, "The sheet" and "Values": what is legal and what is not, on both sides of each rule of Legal. That legality and reading
-- agree on every sheet is the round trip, in crate demands.
use mathlib.Core.Path.{ap, sym}
use mathlib.Core.Logic.{inl, inr}
use mathlib.Core.Bool.{true, false≢true}
use mathlib.Core.List.{[], ◌∷◌}
use native.Mathlib.Omega.{arith}
use Rattle.meaning.specs.Tree.{Construct}
use Rattle.meaning.specs.Format.{ranges_of, in_ranges}
use Rattle.meaning.specs.Legal.{Reach, nowhere, as_body, Plain, Legal, LegalSheet}
use Rattle.meaning.specs.Judgement.{is_marked}
use Rattle.meaning.proofs.Notation.{P, S, A, H, T, T*, W, M, C, R, list, sheet}

-- a sheet with every kind of record
pub legal : LegalSheet (sheet (R 3 (W 9 (H 2 (P 1) (P 2) (P 3) (S []))) ∷ R 5 (S (C 1 ∷ T* 3 (A (P 0) (S (M 2 6 ∷ C 1 ∷ []) ∷ P 3 ∷ [])) (P 0) (S []) ∷ [])) ∷ []))
unfolding ranges_of in_ranges
legal = search (inl, inr, arith)

-- ranges: a sheet has a routine, costs have 32 bits, a tail loop's count is not 0
pub no_routine : LegalSheet (sheet []) → ⊥
unfolding ranges_of in_ranges
no_routine h = false≢true h.0

pub large_organisation : LegalSheet (sheet (R 4294967296 (P 1) ∷ [])) → ⊥
unfolding ranges_of in_ranges
large_organisation h = false≢true h.1.0

pub count_0 : Legal 0 1 nowhere (T 0 (P 1) (P 1) (P 1)) → ⊥
unfolding ranges_of in_ranges
count_0 h = false≢true h.0.0

-- depth: 24 and 25, and a child's is one more
pub depth_24 : Legal 0 24 nowhere (P 1)
unfolding ranges_of in_ranges
depth_24 = search arith

pub depth_25 : Legal 0 25 nowhere (P 1) → ⊥
depth_25 h = let deep = h.1 in omega arith

pub child_25 : Legal 0 24 nowhere (S (P 1 ∷ [])) → ⊥
child_25 h = let deep = h.1.0.1 in omega arith

-- calls: of the routines before, from 1
pub call_before : Legal 2 1 nowhere (C 2)
unfolding ranges_of in_ranges
call_before = search arith

pub call_0 : Legal 2 1 nowhere (C 0) → ⊥
call_0 h = let low = h.1 in omega arith

pub call_own : Legal 2 1 nowhere (C 3) → ⊥
call_own h = let high = h.2 in omega arith

-- markers: first in a branch in a scope, and in no other place; and with a plain branch beside it
abbrev in_scope : Reach
in_scope = as_body true nowhere

abbrev marked : Construct
marked = S (M 1 1 ∷ [])

pub in_scope_lem : Legal 0 1 in_scope (A (P 0) (marked ∷ P 1 ∷ []))
unfolding ranges_of in_ranges
in_scope_lem = search (inl, inr, arith)

pub in_no_scope : Legal 0 1 nowhere (A (P 0) (marked ∷ P 1 ∷ [])) → ⊥
in_no_scope h = false≢true h.2.0.1.0.1

pub in_condition : Legal 0 1 in_scope (A marked (P 1 ∷ P 1 ∷ [])) → ⊥
in_condition h = false≢true h.1.1.0.1

pub in_no_branch : Legal 0 1 in_scope marked → ⊥
in_no_branch h = false≢true h.1.0.1

pub no_plain_lem : Legal 0 1 in_scope (A (P 0) (marked ∷ marked ∷ [])) → ⊥
no_plain_lem h = unplain h.3
  where
    unplain : Plain (list (marked ∷ marked ∷ [])) → ⊥
    unplain (inl e) = false≢true (sym (ap is_marked e))
    unplain (inr (inl e)) = false≢true (sym (ap is_marked e))
    unplain (inr (inr e)) = e
