-- Request L2 of document 02: counts worked out by hand, from the sheets' bytes. Each P, S, A, H, T, W, M and C of the notation is a construct.
use Prim.Native.Nat.{ℕ}
use mathlib.Core.Path.{◌≡◌, refl}
use mathlib.Core.List.{List, [], ◌∷◌, map}
use Rattle.meaning.specs.Tree.{Construct, Routine}
use Rattle.meaning.specs.Work.{valuing, valuings, valuing_routine, valuing_routines, work}
use Rattle.meaning.proofs.Notation.{P, S, A, H, H*, M, C, R}
use Rattle.meaning.proofs.Rows.{Case, routines, body, ◌gives◌, large, answers, stated}
use Rattle.meaning.proofs.Cases.{table}

pub counted : List (List ℕ) → List ℕ  -- with a table of 64 places
unfolding valuing valuings valuing_routine valuing_routines work answers
counted = map (λ s. work s 64)

abbrev sheets : List (List ℕ)
sheets =
    routines (R 0 (S (P 1 ∷ P 2 ∷ [])) ∷ R 0 (S (C 1 ∷ C 1 ∷ [])) ∷ [])  -- "a call counting one": a routine of 3, called twice, and the caller's 3
    ∷ routines (R 0 (P 1) ∷ R 0 (C 1) ∷ R 0 (C 2) ∷ [])  -- "and not re-entering its routine": each calls the one before, and counts 1
    ∷ body (H 2 (P 1) (S (P 2 ∷ P 3 ∷ [])) (P 4) (S []))  -- a head loop's condition is valued once
    ∷ routines (R 0 (P 1) ∷ R 0 (C 2) ∷ [])  -- "a refusal reports 0": BAD CALL in the second routine
    ∷ body large  -- TOO BIG
    ∷ []  -- CUT
    ∷ []

pub sheets_counted : counted sheets ≡ 6 ∷ 3 ∷ 7 ∷ 0 ∷ 0 ∷ 0 ∷ []
unfolding counted
sheets_counted = refl

pub no_room_counted : work (body (S [])) 63 ≡ 0  -- NO ROOM
unfolding counted
no_room_counted = refl

-- 01's cases a to n, the last refused
pub cases_counted : counted (map (λ c. c.sheet) table) ≡ 1 ∷ 1 ∷ 4 ∷ 5 ∷ 5 ∷ 4 ∷ 2 ∷ 10 ∷ 10 ∷ 10 ∷ 10 ∷ 13 ∷ 6 ∷ 0 ∷ []
unfolding table counted
cases_counted = refl

-- The camera sheets of sheets/ (docs/CAMERA.md): a FOR of the listing is a loop with its step P32 and, after it, P26. Of itself it has 8.
abbrev for : (Construct → Construct → Construct → Construct → Construct) → ℕ → ℕ → Construct → Construct
for loop init condition inner = S (loop (P init) (P condition) (S (inner ∷ P 32 ∷ [])) (S []) ∷ P 26 ∷ [])

abbrev calc_weight : Routine  -- 3 + 8 + 8 + 4
calc_weight = R 44 (S (P 72 ∷ for (H 3) 54 84 (for (H 3) 54 84 (A (P 146) (P 16 ∷ S [] ∷ []))) ∷ P 122 ∷ []))

abbrev loop4 : List Construct → Construct  -- 8 + 4, and what the branch of alt2 does
loop4 branch = for (H 640) 42 76 (A (P 146) (S branch ∷ S [] ∷ []))

abbrev calc_center : Construct → Routine  -- 7, and loop3
calc_center loop3 = R 44 (S (P 48 ∷ loop3 ∷ A (P 22) (P 424 ∷ P 56 ∷ []) ∷ P 14 ∷ []))

abbrev camera : List Case  -- 23 + 7 + 8 + 12 + 2, and the marker
camera =
    routines (calc_weight ∷ calc_center (for (H 200) 42 76 (loop4 (P 310 ∷ C 1 ∷ []))) ∷ []) gives 551475096
    ∷ routines (calc_weight ∷ calc_center (for (H* 200) 58 76 (loop4 (M 3480 40 ∷ P 310 ∷ C 1 ∷ []))) ∷ []) gives 46810232
    ∷ []

pub camera_bounds : answers camera ≡ stated camera  -- they are the sheets of 01's bounds
unfolding answers
camera_bounds = refl

pub camera_counted : counted (map (λ c. c.sheet) camera) ≡ 52 ∷ 53 ∷ []
unfolding counted
camera_counted = refl
