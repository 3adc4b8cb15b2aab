-- Document 01, "The sheet": the columns of the table of records, and case b in bytes.
use mathlib.Core.Path.{◌≡◌, refl}
use mathlib.Core.List.{[], ◌∷◌, ◌++◌, map}
use lib.ListN.{length}
use Rattle.meaning.specs.Format.{sheet_rows, routine_rows, construct_rows, length_of}
use Rattle.meaning.proofs.Notation.{P, R}
use Rattle.meaning.proofs.Rows.{routines, answers}

-- the columns "Kind" and "Length" of the table of records
pub kind_column : map (λ r. r.kind) (sheet_rows ++ routine_rows ++ construct_rows) ≡ 100 ∷ 1 ∷ 2 ∷ 3 ∷ 4 ∷ 5 ∷ 6 ∷ 7 ∷ 8 ∷ 9 ∷ []
kind_column = refl

pub length_column :
    map (λ r. length_of (length r.ranges)) (sheet_rows ++ routine_rows ++ construct_rows) ≡ 12 ∷ 8 ∷ 8 ∷ 8 ∷ 8 ∷ 12 ∷ 12 ∷ 8 ∷ 8 ∷ 12 ∷ []
length_column = refl

-- "Case b in bytes": 0C 00 64 00 01 00 00 00 01 00 00 00, 08 00 01 00 05 00 00 00, 08 00 02 00 07 00 00 00
pub case_b :
    routines (R 5 (P 7) ∷ [])
    ≡ (12 ∷ 0 ∷ 100 ∷ 0 ∷ 1 ∷ 0 ∷ 0 ∷ 0 ∷ 1 ∷ 0 ∷ 0 ∷ 0 ∷ []) ++ (8 ∷ 0 ∷ 1 ∷ 0 ∷ 5 ∷ 0 ∷ 0 ∷ 0 ∷ []) ++ (8 ∷ 0 ∷ 2 ∷ 0 ∷ 7 ∷ 0 ∷ 0 ∷ 0 ∷ [])
unfolding answers
case_b = refl
