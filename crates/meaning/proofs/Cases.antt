-- Document 01, "Figures on both sides of each edge": cases a to n, one table and one theorem, from the sheets' bytes to the answers.
use Prim.Native.Nat.{ℕ}
use mathlib.Core.Path.{◌≡◌, refl}
use mathlib.Core.List.{List, [], ◌∷◌}
use Rattle.meaning.specs.Tree.{Construct}
use Rattle.meaning.proofs.Notation.{P, S, A, H, H*, T, W, M, R}
use Rattle.meaning.proofs.Rows.{Case, routines, body, ◌gives◌, ◌refused◌at◌, answers, stated}

abbrev h : ℕ → ℕ → Construct
h limit cost = H* 10 (P 1) (P 2) (A (P 3) (S (M limit 1 ∷ P cost ∷ []) ∷ P 5 ∷ [])) (P 0)

abbrev pub l : Construct
l = H* 10 (P 0) (P 0) (A (P 0) (S (M 10 0 ∷ P 7 ∷ []) ∷ S (M 10 0 ∷ P 6 ∷ []) ∷ S [] ∷ [])) (S [])

abbrev m : ℕ → Construct
m cost = S (T 256 (P 4294967295) (P 0) (S []) ∷ P cost ∷ [])

unfoldable pub table : List Case
table =
    body (S []) gives 0  -- a
    ∷ routines (R 5 (P 7) ∷ []) gives 12  -- b
    ∷ body (A (P 2) (P 9 ∷ S [] ∷ [])) gives 11  -- c
    ∷ body (H 3 (P 1) (P 2) (P 5) (P 4)) gives 28  -- d
    ∷ body (H 0 (P 1) (P 2) (P 5) (P 4)) gives 7  -- e
    ∷ body (T 3 (P 5) (P 2) (P 4)) gives 25  -- f
    ∷ body (W 100 (P 6)) gives 106  -- g
    ∷ body (h 4 20) gives 167  -- h
    ∷ body (h 40 20) gives 263  -- i
    ∷ body (h 0 20) gives 103  -- j
    ∷ body (h 4 2) gives 103  -- k
    ∷ body l gives 130  -- l
    ∷ body (m 255) gives 1099511627775  -- m
    ∷ body (m 256) refused 12 at 20  -- n: the sequence starts at 20, behind the sheet's 12 bytes and the routine's 8
    ∷ []

pub cases : answers table ≡ stated table
unfolding table answers
cases = refl
