-- Document 01, "Values" and "Errors we have seen elsewhere": what cases a to n do not show, and 12, TOO BIG, on both sides of the limit.
use Prim.Native.Nat.{ℕ, ◌+◌}
use mathlib.Core.Path.{◌≡◌, refl}
use mathlib.Core.List.{List, [], ◌∷◌}
use lib.ListN.{replicate}
use Rattle.meaning.specs.Tree.{Construct}
use Rattle.meaning.specs.Value.{value, times, total, pays}
use Rattle.meaning.proofs.Notation.{P, S, A, H, H*, T, T*, W, M, C, R}
use Rattle.meaning.proofs.Rows.{Case, routines, body, choice, scoped, tailed, headed, ◌gives◌, ◌refused◌at◌, answers, stated}

pub values : List Case
values =
    body (S (P 1 ∷ P 2 ∷ P 4 ∷ [])) gives 7  -- a sequence: the sum
    ∷ body (A (P 2) (P 3 ∷ P 9 ∷ P 4 ∷ [])) gives 11  -- the largest branch, wherever it stands
    ∷ body (H 0 (P 0) (P 0) (P 5) (P 4)) gives 4  -- the overrun is not skipped when the count is 0
    ∷ body (H 4 (P 0) (P 1) (P 0) (S [])) gives 5  -- a head loop's condition count + 1 times
    ∷ body (T 4 (P 0) (P 1) (S [])) gives 4  -- a tail loop's count times
    ∷ body (W 10 (W 5 (P 1))) gives 16  -- a timed loop in a timeout statement
    ∷ routines (R 9 (P 9) ∷ R 0 (P 1) ∷ []) gives 1  -- the last routine is the task
    ∷ routines (R 3 (P 4) ∷ R 0 (S (C 1 ∷ C 1 ∷ [])) ∷ []) gives 14  -- two calls of one routine, each with its organisation
    ∷ routines (R 3 (P 4) ∷ R 1 (S (C 1 ∷ P 2 ∷ [])) ∷ R 0 (S (C 1 ∷ C 2 ∷ [])) ∷ []) gives 17  -- calls of two routines, of which one calls the other
    ∷ body (scoped 3 (S (choice 2 10 1 ∷ choice 1 7 2 ∷ []))) gives 32  -- two alternatives of one scope: 3 x 3, 2 x 9 and 1 x 5
    ∷ body (scoped 3 (choice 2 4 5)) gives 15  -- a marked branch cheaper than the plain one: excess 0
    ∷ body (scoped 3 (choice 2 5 5)) gives 15  -- as dear
    ∷ body (scoped 3 (choice 2 6 5)) gives 17  -- dearer by 1
    ∷ body (scoped 3 (headed 4 (choice 10 5 3))) gives 56  -- passes: the limit 10, under the product 12
    ∷ body (scoped 3 (headed 4 (choice 40 5 3))) gives 60  -- the product 12, not the innermost count 4; paid once, not in every iteration
    ∷ body (scoped 3 (tailed 4 (choice 40 5 3))) gives 60  -- through a tail loop
    ∷ body (scoped 3 (S (headed 4 (choice 40 5 3) ∷ choice 40 5 3 ∷ []))) gives 75  -- only the counts down to the marker: 12 x 2, and 3 x 2
    ∷ body (H 4 (P 0) (P 0) (scoped 3 (choice 2 10 1)) (S [])) gives 84  -- a limit is per entry of the scope: 4 x (3 x 1 + 2 x 9)
    ∷ body (scoped 3 (S (choice 2 10 1 ∷ scoped 4 (choice 3 10 1) ∷ []))) gives 114  -- a scope in a scope: each marker belongs to the innermost, 3 x (1 + 31) + 2 x 9
    ∷ body (scoped 3 (H* 4 (S []) (S []) (choice 3 10 1) (S []))) gives 93  -- a head loop in it: 3 x (4 x 1 + 3 x 9)
    ∷ body (scoped 3 (A (P 0) (S (M 2 1 ∷ scoped 4 (choice 3 10 1) ∷ []) ∷ P 5 ∷ []))) gives 69  -- in a marked branch: 3 x 5 + 2 x (32 - 5)
    ∷ body (scoped 3 (A (P 1) (P 6 ∷ choice 2 3 0 ∷ []))) gives 27  -- a marker in a plain branch is paid even where another branch is larger
    ∷ body (H* 2 (P 0) (P 0) (A (P 0) (A (P 0) (S (M 2 0 ∷ P 5 ∷ []) ∷ P 0 ∷ []) ∷ P 3 ∷ [])) (P 0)) gives 16  -- and no run takes more than 10
    ∷ body (H* 0 (P 1) (P 2) (choice 7 10 2) (S [])) gives 3  -- a scope's count 0: no passes
    ∷ body (scoped 3 (headed 0 (choice 7 10 2))) gives 0  -- a count 0 between: the product is 0
    ∷ body (H* 1000000 (S []) (S []) (headed 1000000 (headed 1000000 (headed 1000000 (choice 1000000 1 0)))) (S [])) gives 1000000  -- four counts of 1,000,000
    ∷ body (H* 65536 (S []) (S []) (headed 65536 (headed 65536 (headed 65536 (choice 9 1 0)))) (S [])) gives 9  -- a product of exactly 2^64
    ∷ []

pub values_hold : answers values ≡ stated values
unfolding values answers
values_hold = refl

-- 1,099,511,000,000 and so much more: 627775 makes the limit. 36 bytes
abbrev near : ℕ → Construct
near more = T 1000000 (P 1099511) (P 0) (P more)

abbrev top : Construct
top = near 627775

abbrev over : Construct
over = near 627776

abbrev limit : ℕ
limit = 1099511627775

-- a scope with so much in a marked branch, once: 10 more than that
abbrev paying : Construct → Construct
paying c = T* 5 (A (P 1) (S (M 1 0 ∷ c ∷ []) ∷ S [] ∷ [])) (P 0) (P 5)

pub big : List Case
big =
    body top gives limit  -- tail loop: exactly the limit
    ∷ body over refused 12 at 20  -- one over
    ∷ body (H 1000000 (P 627770) (P 2) (P 1099509) (P 3)) gives limit  -- head loop
    ∷ body (H 1000000 (P 627771) (P 2) (P 1099509) (P 3)) refused 12 at 20  -- one over
    ∷ body (A (P 1) (near 627774 ∷ S [] ∷ [])) gives limit  -- alternative
    ∷ body (A (P 1) (top ∷ S [] ∷ [])) refused 12 at 20  -- one over
    ∷ body (W 1 (near 627774)) gives limit  -- timed loop
    ∷ body (W 1 top) refused 12 at 20  -- one over
    ∷ body (paying (near 627765)) gives limit  -- a scope with what its marker adds
    ∷ body (paying (near 627766)) refused 12 at 20  -- one over
    ∷ routines (R 1 (near 627774) ∷ R 0 (C 1) ∷ []) gives limit  -- routine, and a call of it
    ∷ routines (R 1 top ∷ R 0 (C 1) ∷ []) refused 12 at 12  -- the routine ends before the call
    ∷ routines (R 1 (P 1) ∷ R 1 top ∷ []) refused 12 at 28  -- the second routine
    ∷ routines (R 0 top ∷ R 0 (S (C 1 ∷ P 1 ∷ [])) ∷ []) refused 12 at 64  -- a sequence with a call
    ∷ body (S (P 1 ∷ S (over ∷ []) ∷ [])) refused 12 at 44  -- the first to end: the inner before the outer
    ∷ body (S (S (top ∷ P 1 ∷ []) ∷ over ∷ [])) refused 12 at 28  -- an earlier sibling first
    ∷ body (A over (S [] ∷ S [] ∷ [])) refused 12 at 28  -- a child before its parent, wherever it stands: an alternative's condition
    ∷ body (A (P 1) (over ∷ S [] ∷ [])) refused 12 at 36  -- a branch
    ∷ body (H 1 over (P 0) (P 0) (P 0)) refused 12 at 32  -- init
    ∷ body (H 1 (P 0) over (P 0) (P 0)) refused 12 at 40  -- condition
    ∷ body (H 1 (P 0) (P 0) over (P 0)) refused 12 at 48  -- body
    ∷ body (H 1 (P 0) (P 0) (P 0) over) refused 12 at 56  -- overrun
    ∷ body (T 1 over (P 0) (P 0)) refused 12 at 32  -- of a tail loop: body
    ∷ body (T 1 (P 0) over (P 0)) refused 12 at 40  -- condition
    ∷ body (T 1 (P 0) (P 0) over) refused 12 at 48  -- overrun
    ∷ body (W 1 over) refused 12 at 28  -- timeout statement
    ∷ body (A over (over ∷ S [] ∷ [])) refused 12 at 28  -- children in order: the condition before the branches
    ∷ body (H 1 over over over over) refused 12 at 32  -- init first
    ∷ body (H 1 (P 0) over over over) refused 12 at 40  -- then condition
    ∷ body (H 1 (P 0) (P 0) over over) refused 12 at 48  -- then body
    ∷ body (T 1 over over over) refused 12 at 32  -- of a tail loop: body first
    ∷ body (T 1 (P 0) over over) refused 12 at 40  -- then condition
    ∷ body (H 0 (P 1) (P 1) over (P 1)) refused 12 at 48  -- a body that does not run is a record too
    ∷ body (H 0 (P 1) (P 1) top (P 1)) gives 3  -- at the limit it is good, and does not run
    ∷ body (T* 1 (A (P 0) (S (M 0 1 ∷ top ∷ []) ∷ P 5 ∷ [])) (P 0) (S [])) refused 12 at 48  -- so is a marked branch that is never passed
    ∷ body (T* 1 (A (P 9) (S (M 0 0 ∷ top ∷ []) ∷ P 5 ∷ [])) (P 0) (S [])) gives 14  -- condition + marked branch: a sum that no record has
    ∷ body (H 0 (S []) top top (S [])) gives limit  -- body + condition, count 0: the same
    ∷ []

pub big_holds : answers big ≡ stated big
unfolding big answers
big_holds = refl

-- 17 marked branches with passes of 1,000,000, 16 of them with the limit as excess: a sum over 2^64, which does not wrap
abbrev wrapping : Construct
wrapping = T* 1000000 (A (S []) (S [] ∷ S (M 1000000 0 ∷ C 2 ∷ []) ∷ replicate 16 (S (M 1000000 0 ∷ C 1 ∷ [])))) (S []) (S [])

pub unwrapped : value (record { bounds = limit ∷ 854558029310 ∷ [] }) wrapping ≡ 18446744073709551616 + 448384
unfolding value times total pays
unwrapped = refl
