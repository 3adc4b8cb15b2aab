-- Document 01, "What comes back": the table after, the routine part, and a refusal's bound.
use Prim.Native.Nat.{ℕ, zero, suc}
use mathlib.Core.Path.{◌≡◌, refl}
use mathlib.Core.List.{List, [], ◌∷◌, map}
use Rattle.meaning.specs.Format.{routine_bytes}
use Rattle.meaning.specs.Answer.{bound_in, table_after, Part, part_of, routine_part, answer}
use Rattle.meaning.proofs.Notation.{P, S, C, R}
use Rattle.meaning.proofs.Rows.{routines, large, answers}

-- a table in which every place differs: n, n - 1 and so on
abbrev pub lent : ℕ → List ℕ
lent zero = []
lent (suc n) = suc n ∷ lent n

-- two routines, from 12 to 28 and from 28 to 52, with the bounds 4 and 9
abbrev pub good : List ℕ
good = routines (R 3 (P 1) ∷ R 5 (S (C 1 ∷ [])) ∷ [])

-- the second calls itself: BAD CALL
abbrev pub bad : List ℕ
bad = routines (R 3 (P 1) ∷ R 5 (S (C 2 ∷ [])) ∷ [])

-- the second routine is TOO BIG
abbrev pub too_big : List ℕ
too_big = routines (R 3 (P 1) ∷ R 0 large ∷ [])

-- A sheet, the lent table, and the table after.
pub record Lending : Type 0 where
  pub sheet : List ℕ
  pub before : List ℕ
  pub after : List ℕ

abbrev lending : List ℕ → List ℕ → List ℕ → Lending
lending sheet before after = record { sheet = sheet; before = before; after = after }

pub lendings : List Lending
lendings =
    lending good (lent 64) (4 ∷ 9 ∷ lent 62)  -- accepted: "the first places, one per routine in order", and "every later place is unchanged"
    ∷ lending good (lent 65) (4 ∷ 9 ∷ lent 63)  -- a longer table
    ∷ lending good (lent 63) (lent 63)  -- NO ROOM: unchanged
    ∷ lending bad (lent 64) (lent 64)  -- refused: unchanged
    ∷ lending too_big (lent 64) (lent 64)  -- TOO BIG: unchanged, the first routine's place too
    ∷ []

pub tables_after : map (λ l. table_after l.sheet l.before) lendings ≡ map (λ l. l.after) lendings
unfolding lendings table_after answers
tables_after = refl

-- "a refusal's bound is 0"
pub bounds_told : map (λ s. bound_in (answer s 64)) (good ∷ bad ∷ too_big ∷ []) ≡ 9 ∷ 0 ∷ 0 ∷ []
unfolding answers
bounds_told = refl

infix 68 ◌up_to◌
abbrev ◌up_to◌ : ℕ → ℕ → Part
start up_to stop = record { start = start; stop = stop }

-- "from its routine record to the last record of its body"; "A number outside 1 to the count .. gives the empty part at the sheet's end"
pub parts : map (part_of good) (0 ∷ 1 ∷ 2 ∷ 3 ∷ []) ≡ 52 up_to 52 ∷ 12 up_to 28 ∷ 28 up_to 52 ∷ 52 up_to 52 ∷ []
unfolding part_of answers
parts = refl

-- "or a sheet refused for anything but NO ROOM"
pub parts_refused : map (λ s. part_of s 1) ([] ∷ bad ∷ too_big ∷ []) ≡ 0 up_to 0 ∷ 52 up_to 52 ∷ 72 up_to 72 ∷ []
unfolding part_of answers
parts_refused = refl

-- the bytes of those parts are the routine's
pub part_bytes : map (routine_part good) (0 ∷ 1 ∷ 2 ∷ []) ≡ [] ∷ routine_bytes (R 3 (P 1)) ∷ routine_bytes (R 5 (S (C 1 ∷ []))) ∷ []
unfolding routine_part part_of answers
part_bytes = refl
