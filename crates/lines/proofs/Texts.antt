-- Document 01's examples of what `maxt` prints, from bytes to bytes; the number 0, and a line for each routine.
use mathlib.Core.Path.{◌≡◌, refl}
use mathlib.Core.List.{List, [], ◌∷◌, map}
use Prim.Native.Nat.{ℕ}
use lib.ListN.{take, replicate}
use Rattle.meaning.proofs.Notation.{P, R}
use Rattle.meaning.proofs.Rows.{routines, answers}
use Rattle.lines.specs.Output.{letters, leading, output}

-- "Case b in bytes (hex)"
abbrev b : List ℕ
b = 12 ∷ 0 ∷ 100 ∷ 0 ∷ 1 ∷ 0 ∷ 0 ∷ 0 ∷ 1 ∷ 0 ∷ 0 ∷ 0 ∷ 8 ∷ 0 ∷ 1 ∷ 0 ∷ 5 ∷ 0 ∷ 0 ∷ 0 ∷ 8 ∷ 0 ∷ 2 ∷ 0 ∷ 7 ∷ 0 ∷ 0 ∷ 0 ∷ []

-- "Output, whole"; "The first 20 bytes alone"; "An empty input"; "one over 60,000 bytes"
pub outputs : map output (b ∷ take 20 b ∷ [] ∷ replicate 60001 0 ∷ [])
    ≡ map letters ("routine 1 12\nbound 12\n" ∷ "refused 3 at 20\n" ∷ "refused 3 at 0\n" ∷ "refused 2 at 0\n" ∷ [])
unfolding answers leading output
outputs = refl

pub two_routines : output (routines (R 0 (P 0) ∷ R 10 (P 4294967290) ∷ [])) ≡ letters "routine 1 0\nroutine 2 4294967300\nbound 4294967300\n"
unfolding answers leading output
two_routines = refl
