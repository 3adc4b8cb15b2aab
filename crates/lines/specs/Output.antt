-- Document 01, "Figures on both sides of each edge": what the program `maxt` prints, as bytes.
use Rattle.std.specs.Prelude.{ℕ, zero, suc, ◌+◌, ◌/◌, ◌%◌, List, [], ◌∷◌, ◌++◌, length, drop}
use Prim.Native.String.{String, [] as nothing, ◌∷◌ as ◌before◌}
use Prim.Native.Char.{code}
use Rattle.meaning.specs.Tree.{Sheet}
use Rattle.meaning.specs.Value.{bounds_of, task_bound}
use Rattle.meaning.specs.Answer.{Verdict, accepted, refused, outcome}

-- a text in bytes: the codes of its characters, which are all ASCII here
abbrev pub letters : String → List ℕ
letters nothing = []
letters (c before s) = code c ∷ letters s

-- "Numbers are plain decimal": the last digit, and before it those of a tenth, of which 0 has none
abbrev pub digit : ℕ → List ℕ
digit d = (48 + d) ∷ []

unfoldable pub leading : ℕ → ℕ → List ℕ  -- in at most so many steps; as many as the number counts are enough
leading zero n = []
leading (suc steps) zero = []
leading (suc steps) (suc n) = leading steps (suc n / 10) ++ digit (suc n % 10)

abbrev pub decimal : ℕ → List ℕ
decimal n = leading n (n / 10) ++ digit (n % 10)

-- "every line ends with a line feed"
abbrev pub line : List ℕ → List ℕ
line words = words ++ letters "\n"

-- a number after its words, as in "bound 12"
abbrev pub named : List ℕ → ℕ → List ℕ
named words n = words ++ decimal n

-- "A routine line gives its number and bound"
abbrev pub routine_line : ℕ → ℕ → List ℕ
routine_line number bound = line (named (letters "routine ") number ++ named (letters " ") bound)

abbrev pub routine_lines : ℕ → List ℕ → List ℕ  -- of the bounds of routines, the first of a number
routine_lines number [] = []
routine_lines number (b ∷ bs) = routine_line number b ++ routine_lines (number + 1) bs

-- "the last line the task's bound"
abbrev pub bound_line : ℕ → List ℕ
bound_line bound = line (named (letters "bound ") bound)

-- "`refused 3 at 20`: number and place"
abbrev pub refused_line : ℕ → ℕ → List ℕ
refused_line number place = line (named (letters "refused ") number ++ named (letters " at ") place)

-- "Output, whole": the routine lines, then the bound's; a refusal prints "only" its line
abbrev pub lines_of : Verdict Sheet → List ℕ
lines_of (accepted s) = routine_lines 1 (bounds_of s) ++ bound_line (task_bound s)
lines_of (refused number place) = refused_line number place

-- "The program `maxt` reads a sheet"
unfoldable pub output : List ℕ → List ℕ
output s = lines_of (outcome s)

-- at the start of a page; the rest of it as it was
abbrev pub onto : List ℕ → List ℕ → List ℕ
onto lines page = lines ++ drop (length lines) page
