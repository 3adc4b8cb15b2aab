-- Document 01, "The sheet": every range at both ends and one beyond (6, BAD FIELD), depth 24 and 25 (8, TOO DEEP), and calls (7, BAD CALL).
-- Where the children of a good record are left out, the answer is CUT behind it: the record itself is not refused.
use Prim.Native.Nat.{ℕ, zero, suc}
use mathlib.Core.Path.{◌≡◌, refl}
use mathlib.Core.List.{List, [], ◌∷◌}
use Rattle.meaning.specs.Tree.{Construct}
use Rattle.meaning.proofs.Notation.{P, S, A, H, T, W, M, C, R}
use Rattle.meaning.proofs.Rows.{Case, routines, body, rec, opened, choice, scoped, ◌gives◌, ◌refused◌at◌, answers, stated}

-- "use all 32 bits"
abbrev ones : ℕ
ones = 4294967295

-- a scope with a marker of this limit and cost, which starts at 56
abbrev marked : ℕ → ℕ → Construct
marked limit cost = scoped 3 (choice limit cost 0)

pub ranges : List Case
ranges =
    rec 100 (0 ∷ 1 ∷ []) refused 6 at 0  -- edition 0
    ∷ rec 100 (1 ∷ 1 ∷ []) refused 3 at 12  -- edition 1, 1 routine
    ∷ rec 100 (2 ∷ 1 ∷ []) refused 6 at 0  -- edition 2
    ∷ rec 100 (65537 ∷ 1 ∷ []) refused 6 at 0  -- a field is all four bytes
    ∷ rec 100 (1 ∷ 0 ∷ []) refused 6 at 0  -- no routine
    ∷ rec 100 (1 ∷ 64 ∷ []) refused 3 at 12  -- 64 routines
    ∷ rec 100 (1 ∷ 65 ∷ []) refused 6 at 0  -- 65
    ∷ routines (R ones (S []) ∷ []) gives ones  -- organisation cost
    ∷ body (P ones) gives ones  -- a primitive's cost
    ∷ opened (rec 3 (1000 ∷ [])) refused 3 at 28  -- 1,000 children
    ∷ opened (rec 3 (1001 ∷ [])) refused 6 at 20  -- 1,001
    ∷ opened (rec 4 (1 ∷ [])) refused 6 at 20  -- 1 branch
    ∷ opened (rec 4 (2 ∷ [])) refused 3 at 28  -- 2
    ∷ opened (rec 4 (256 ∷ [])) refused 3 at 28  -- 256
    ∷ opened (rec 4 (257 ∷ [])) refused 6 at 20  -- 257
    ∷ body (H 1000000 (P 0) (P 0) (P 1) (S [])) gives 1000000  -- head loop count; 0 is case e
    ∷ body (H 1000001 (P 0) (P 0) (P 1) (S [])) refused 6 at 20  -- one more
    ∷ body (T 0 (P 1) (P 0) (S [])) refused 6 at 20  -- tail loop count 0
    ∷ body (T 1 (P 1) (P 0) (S [])) gives 1  -- 1
    ∷ body (T 1000000 (P 1) (P 0) (S [])) gives 1000000  -- 1,000,000
    ∷ body (T 1000001 (P 1) (P 0) (S [])) refused 6 at 20  -- one more
    ∷ opened (rec 5 (1 ∷ 1 ∷ [])) refused 3 at 32  -- scope 1 of a head loop
    ∷ opened (rec 5 (1 ∷ 2 ∷ [])) refused 6 at 20  -- scope 2
    ∷ opened (rec 6 (1 ∷ 1 ∷ [])) refused 3 at 32  -- scope 1 of a tail loop
    ∷ opened (rec 6 (1 ∷ 2 ∷ [])) refused 6 at 20  -- scope 2
    ∷ opened (rec 6 (1 ∷ 16777217 ∷ [])) refused 6 at 20  -- 1 and a bit of the field's last byte
    ∷ body (W ones (S [])) gives ones  -- time
    ∷ body (marked 1000000 1) gives 3  -- marker limit; 0 is case j
    ∷ body (marked 1000001 1) refused 6 at 56  -- one more
    ∷ body (marked 1 ones) gives ones  -- a marker's cost
    ∷ []

pub ranges_hold : answers ranges ≡ stated ranges
unfolding ranges answers
ranges_hold = refl

-- "from 1 up to the one before its own": the second routine of two, whose body starts at 36
abbrev calling : ℕ → List ℕ
calling number = routines (R 3 (P 1) ∷ R 0 (C number) ∷ [])

pub calls : List Case
calls =
    calling 0 refused 7 at 36  -- number 0
    ∷ calling 1 gives 4  -- the one before
    ∷ calling 2 refused 7 at 36  -- its own
    ∷ calling 3 refused 7 at 36  -- a higher one
    ∷ calling 65537 refused 7 at 36  -- a number is all four bytes
    ∷ calling ones refused 7 at 36  -- the highest
    ∷ body (C 1) refused 7 at 20  -- the first routine has none before it
    ∷ routines (R 0 (C 2) ∷ R 0 (P 1) ∷ []) refused 7 at 20  -- a later routine
    ∷ routines (R 0 (P 1) ∷ R 0 (P 2) ∷ R 0 (C 2) ∷ []) gives 2  -- of three, the third calls the second
    ∷ []

pub calls_hold : answers calls ≡ stated calls
unfolding calls answers
calls_hold = refl

-- a construct so many sequences deep: those take 8 bytes each, and the construct has a depth one more
abbrev deep : ℕ → Construct → Construct
deep zero c = c
deep (suc n) c = S (deep n c ∷ [])

-- a construct four levels deep, in a timed loop, a tail loop, a head loop and an alternative
abbrev mixed : Construct → Construct
mixed c = W 0 (T 1 (H 1 (S []) (S []) (A (S []) (c ∷ S [] ∷ [])) (S [])) (S []) (S []))

pub depths : List Case
depths =
    body (deep 22 (S (P 1 ∷ S [] ∷ P 1 ∷ []))) gives 2  -- three siblings at depth 24
    ∷ body (deep 24 (P 1)) refused 8 at 212  -- depth 25
    ∷ body (deep 19 (mixed (P 1))) gives 1  -- "each child one more than its parent", whatever the parent: depth 24
    ∷ body (deep 20 (mixed (P 1))) refused 8 at 236  -- depth 25, at the condition of the alternative
    ∷ routines (R 0 (deep 23 (P 1)) ∷ R 0 (S (C 1 ∷ [])) ∷ []) gives 1  -- a call has its own depth, not the called body's
    ∷ body (deep 24 (M 1000001 1)) refused 6 at 212  -- 6 before 8
    ∷ body (deep 24 (C 1)) refused 7 at 212  -- 7 before 8
    ∷ body (deep 24 (M 1 1)) refused 8 at 212  -- 8 before 9
    ∷ []

pub depths_hold : answers depths ≡ stated depths
unfolding depths answers
depths_hold = refl
