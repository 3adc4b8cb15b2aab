-- Document 01, "Values" and "What comes back": where a marker may stand (9, STRAY MARKER), and 10, NO PLAIN BRANCH. The sheet record and
-- the routine record take 20 bytes, so a body starts at 20.
use mathlib.Core.Path.{◌≡◌, refl}
use mathlib.Core.List.{List, [], ◌∷◌}
use lib.ListN.{take}
use Rattle.meaning.specs.Tree.{Construct}
use Rattle.meaning.proofs.Notation.{P, S, A, H, H*, T, T*, W, M, C, R}
use Rattle.meaning.proofs.Rows.{Case, routines, body, choice, scoped, tailed, ◌gives◌, ◌refused◌at◌, answers, stated}

-- an alternative with a marked branch: its value 3, excess 3, limit 2; its marker 24 bytes behind its start
abbrev K : Construct
K = choice 2 6 3

-- scopes around a body, and a loop with scope 0
abbrev Scope : Construct → Construct
Scope c = scoped 3 c

abbrev Inner : Construct → Construct
Inner c = scoped 4 c

abbrev Repeat : Construct → Construct
Repeat c = tailed 4 c

pub stray : List Case
stray =
    body K refused 9 at 44  -- in no scope
    ∷ body (H 3 (P 1) (P 1) K (S [])) refused 9 at 72  -- in a loop, but its scope is 0: head loop
    ∷ body (Repeat K) refused 9 at 56  -- tail loop
    ∷ body (S (Scope (P 0) ∷ K ∷ [])) refused 9 at 88  -- behind a scope
    ∷ body (M 1 1) refused 9 at 20  -- a body: a construct in a wrong place, not BAD KIND
    ∷ body (Scope (M 1 1)) refused 9 at 32  -- a scope's body
    ∷ body (Scope (S (M 1 1 ∷ []))) refused 9 at 40  -- first child of a sequence that is no branch
    ∷ body (Scope (S (K ∷ S (M 1 1 ∷ []) ∷ []))) refused 9 at 92  -- the same behind a good marker
    ∷ body (Scope (Repeat (M 1 1))) refused 9 at 44  -- the body of a loop with scope 0
    ∷ body (Scope (Repeat (S (M 1 1 ∷ [])))) refused 9 at 52  -- first child of a sequence that is such a body
    ∷ body (Scope (A (P 0) (M 1 1 ∷ P 1 ∷ []))) refused 9 at 48  -- a branch itself
    ∷ body (Scope (A (P 0) (S (P 1 ∷ M 1 1 ∷ []) ∷ P 1 ∷ []))) refused 9 at 64  -- second child of a branch
    ∷ body (Scope (A (P 0) (S (M 1 1 ∷ M 1 1 ∷ []) ∷ P 1 ∷ []))) refused 9 at 68  -- second child of a marked branch
    ∷ body (Scope (A (P 0) (S (S (M 1 1 ∷ []) ∷ []) ∷ P 1 ∷ []))) refused 9 at 64  -- first child of a branch's first child
    ∷ body (Scope (A (P 0) (S (S (P 1 ∷ M 1 1 ∷ []) ∷ []) ∷ P 1 ∷ []))) refused 9 at 72  -- second child of it
    ∷ body (Scope (A (P 0) (S (P 1 ∷ S (M 1 1 ∷ []) ∷ []) ∷ P 1 ∷ []))) refused 9 at 72  -- first child of a later child
    ∷ body (Scope (A (P 0) (S (A (P 0) (M 1 1 ∷ P 1 ∷ []) ∷ []) ∷ P 1 ∷ []))) refused 9 at 72  -- a branch in a branch's first child
    ∷ body (A (P 0) (Scope (S (M 1 1 ∷ [])) ∷ P 1 ∷ [])) refused 9 at 56  -- a scope that is a branch: first in its body
    ∷ body (A (P 0) (S (Scope (M 1 1) ∷ []) ∷ P 1 ∷ [])) refused 9 at 56  -- a scope that is first in a branch: its body
    ∷ body (Scope (A (S (M 1 1 ∷ [])) (P 1 ∷ P 1 ∷ []))) refused 9 at 48  -- an alternative's condition
    ∷ body (Scope (A K (P 1 ∷ P 2 ∷ []))) refused 9 at 64  -- an alternative in an alternative's condition
    ∷ body (H* 3 K (P 1) (P 1) (S [])) refused 9 at 56  -- the scope's own init
    ∷ body (H* 3 (P 1) K (P 1) (S [])) refused 9 at 64  -- its condition
    ∷ body (H* 3 (P 1) (P 1) (P 1) K) refused 9 at 80  -- its overrun
    ∷ body (T* 3 (P 1) K (S [])) refused 9 at 64  -- a tail loop's condition
    ∷ body (T* 3 (P 1) (P 1) K) refused 9 at 72  -- its overrun
    ∷ body (Scope (H 2 K (P 0) (P 0) (S []))) refused 9 at 68  -- in a scope, the init of a loop with scope 0
    ∷ body (Scope (H 2 (P 0) K (P 0) (S []))) refused 9 at 76  -- its condition
    ∷ body (Scope (H 2 (P 0) (P 0) (P 0) K)) refused 9 at 92  -- its overrun
    ∷ body (Scope (T 2 (P 0) K (S []))) refused 9 at 76  -- a tail loop's condition
    ∷ body (Scope (T 2 (P 0) (P 0) K)) refused 9 at 84  -- its overrun
    ∷ body (Scope (H* 4 K (P 0) (P 0) (S []))) refused 9 at 68  -- in a scope, the init of an inner scope
    ∷ body (Scope (H* 4 (P 0) K (P 0) (S []))) refused 9 at 76  -- its condition
    ∷ body (Scope (H* 4 (P 0) (P 0) (P 0) K)) refused 9 at 92  -- its overrun
    ∷ body (Scope (W 1 K)) refused 9 at 64  -- a timeout statement
    ∷ body (Scope (A (P 0) (Repeat K ∷ P 2 ∷ []))) refused 9 at 84  -- a loop with scope 0 inside an alternative of the scope: as the branch
    ∷ body (Scope (A (P 0) (S (Repeat K ∷ []) ∷ P 2 ∷ []))) refused 9 at 92  -- as a branch's first child
    ∷ body (Scope (A (P 0) (P 2 ∷ S (P 1 ∷ H 4 (P 0) (P 0) K (S []) ∷ []) ∷ []))) refused 9 at 124  -- as a later child
    ∷ body (Scope (A (P 0) (S (M 1 1 ∷ Repeat K ∷ []) ∷ P 2 ∷ []))) refused 9 at 104  -- in a marked branch
    ∷ body (Scope (Repeat (A (P 0) (Repeat K ∷ P 2 ∷ [])))) refused 9 at 96  -- with another such loop around the alternative
    ∷ routines (R 0 K ∷ R 0 (Scope (C 1)) ∷ []) refused 9 at 44  -- in a called routine: "in the same routine"
    ∷ []

pub stray_markers : answers stray ≡ stated stray
unfolding stray answers
stray_markers = refl

pub legal : List Case
legal =
    body (Scope K) gives 15  -- straight in a tail loop: 3 x 3, and 2 x 3
    ∷ body (H* 3 (P 1) (P 1) K (S [])) gives 20  -- and in a head loop
    ∷ body (Scope (S (P 1 ∷ K ∷ []))) gives 18  -- through a sequence
    ∷ body (Scope (Repeat K)) gives 42  -- through a tail loop with scope 0
    ∷ body (Scope (H 4 (P 0) (P 0) K (S []))) gives 42  -- through a head loop
    ∷ body (Scope (A (P 0) (K ∷ P 2 ∷ []))) gives 15  -- through an alternative: as the branch
    ∷ body (Scope (A (P 0) (S (K ∷ []) ∷ P 2 ∷ []))) gives 15  -- as a branch's first child
    ∷ body (Scope (A (P 0) (S (P 1 ∷ K ∷ []) ∷ P 2 ∷ []))) gives 18  -- as a later child
    ∷ body (Scope (A (P 0) (S (M 1 1 ∷ K ∷ []) ∷ P 2 ∷ []))) gives 14  -- in a marked branch: 3 x 2, 1 x (4 - 2) and 2 x 3
    ∷ body (Scope (A (P 0) (Inner K ∷ P 2 ∷ []))) gives 54  -- a new scope inside an alternative
    ∷ body (Scope (A (P 0) (Inner (Repeat K) ∷ P 2 ∷ []))) gives 162  -- that alternative lies outside the new scope, so a loop may follow
    ∷ body (Scope (A (P 0) (Repeat (Inner K) ∷ P 2 ∷ []))) gives 216  -- a new scope in a loop with scope 0 in an alternative
    ∷ body (A (P 0) (Scope (Repeat K) ∷ P 2 ∷ [])) gives 42  -- an alternative around the whole scope
    ∷ body (T* 3 (P 1) (Inner K) (S [])) gives 57  -- a new scope in a condition: 3 x (1 + 18)
    ∷ body (Scope (W 1 (A (Inner K) (P 1 ∷ P 2 ∷ [])))) gives 63  -- in a timeout statement and in an alternative's condition
    ∷ []

pub legal_markers : answers legal ≡ stated legal
unfolding legal answers
legal_markers = refl

-- a branch that is marked, and a scope whose one alternative has these branches: the first starts at 48
abbrev N : Construct
N = S (M 1 9 ∷ [])

abbrev Branches : List Construct → Construct
Branches bs = Scope (A (P 0) bs)

pub plain : List Case
plain =
    body (Branches (N ∷ N ∷ [])) refused 10 at 76  -- two branches: at the last one's marker
    ∷ body (Branches (N ∷ N ∷ N ∷ [])) refused 10 at 96  -- three
    ∷ body (Branches (N ∷ N ∷ P 2 ∷ [])) gives 20  -- the last is plain: 3 x 2, 7 and 7
    ∷ body (Branches (N ∷ P 2 ∷ N ∷ [])) gives 20  -- the middle one
    ∷ body (Branches (P 2 ∷ N ∷ N ∷ [])) gives 20  -- the first
    ∷ body (Branches (N ∷ S (A (P 0) (N ∷ P 2 ∷ []) ∷ []) ∷ [])) gives 20  -- a branch that starts with a marked alternative is plain
    ∷ body (Branches (N ∷ A (P 0) (N ∷ N ∷ []) ∷ [])) refused 10 at 112  -- an inner alternative without a plain branch
    ∷ take 88 (body (Branches (N ∷ S (M 1 9 ∷ P 1 ∷ []) ∷ []))) refused 10 at 76  -- before the rest of the branch is read, which is cut
    ∷ take 76 (body (Branches (P 2 ∷ S (M 1 9 ∷ P 1 ∷ []) ∷ []))) refused 3 at 76  -- with a plain branch it is read
    ∷ body (Branches (N ∷ S (M 1000001 9 ∷ []) ∷ [])) refused 6 at 76  -- BAD FIELD of that marker wins
    ∷ body (Branches (N ∷ M 1 9 ∷ [])) refused 9 at 68  -- a last marker that is stray is 9: the branch itself
    ∷ body (Branches (N ∷ S (S (M 1 9 ∷ []) ∷ []) ∷ [])) refused 9 at 84  -- first child of the branch's first child
    ∷ body (A (P 0) (N ∷ N ∷ [])) refused 9 at 44  -- all stray: the first one decides
    ∷ []

pub plain_branches : answers plain ≡ stated plain
unfolding plain answers
plain_branches = refl
