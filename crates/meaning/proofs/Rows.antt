-- What the tables of examples share: a row is a sheet in bytes and its answer.
use Prim.Native.Nat.{ℕ}
use mathlib.Core.List.{List, [], ◌∷◌, ◌++◌, map}
use Rattle.meaning.specs.Tree.{Construct, Routine}
use Rattle.meaning.specs.Format.{listed, ranges_of, in_ranges, half, words, record_bytes, bytes, routine_bytes, routines_bytes, bytes_of}
use Rattle.meaning.specs.Value.{pays, total, times, value, bound, bounds}
use Rattle.meaning.specs.Judgement.{refuse, two, four, fields_of, judged, list, branches}
use Rattle.meaning.specs.Judgement.{sequence_at, alternative_at, head_loop_at, tail_loop_at, timed_loop_at, construct_at, routine_at, routines_at, sheet_at}
use Rattle.meaning.specs.Answer.{ended, ended_routines, too_big, Verdict, accepted, outcome, answer}
use Rattle.meaning.proofs.Notation.{P, S, A, H, T, T*, M, R, sheet}

pub record Case : Type 0 where
  pub sheet : List ℕ
  pub answer : Verdict ℕ

-- the bytes of a sheet of these routines, and of one routine with this body; "Organisation cost 0 unless said."
abbrev pub routines : List Routine → List ℕ
routines rs = bytes_of (sheet rs)

abbrev pub body : Construct → List ℕ
body c = routines (R 0 c ∷ [])

-- pieces of a sheet that need not be a good one: a record, the start of one with any length and kind, and the 20 bytes before a body
abbrev pub rec : ℕ → List ℕ → List ℕ
rec kind fields = record_bytes (record { kind = kind; fields = fields })

abbrev pub start : ℕ → ℕ → List ℕ
start length kind = half length ++ half kind

abbrev pub opened : List ℕ → List ℕ
opened rest = rec 100 (1 ∷ 1 ∷ []) ++ rec 1 (0 ∷ []) ++ rest

-- an alternative with a marked branch of this limit and cost and a plain one; a scope, and a tail and a head loop with scope 0, around a body
abbrev pub choice : ℕ → ℕ → ℕ → Construct
choice limit cost plain = A (P 0) (S (M limit cost ∷ []) ∷ P plain ∷ [])

abbrev pub scoped : ℕ → Construct → Construct
scoped count c = T* count c (P 0) (S [])

abbrev pub tailed : ℕ → Construct → Construct
tailed count c = T count c (P 0) (S [])

abbrev pub headed : ℕ → Construct → Construct
headed count c = H count (S []) (S []) c (S [])

-- a construct whose value is over the limit: 257 x 4,294,967,295, in 36 bytes
abbrev pub large : Construct
large = tailed 257 (P 4294967295)

infix 68 ◌gives◌
abbrev pub ◌gives◌ : List ℕ → ℕ → Case
s gives n = record { sheet = s; answer = accepted n }

infix 68 ◌refused◌at◌
abbrev pub ◌refused◌at◌ : List ℕ → ℕ → ℕ → Case
s refused number at place = record { sheet = s; answer = Verdict.refused number place }

-- the answers that the definitions give, to a table of 64 places, and those that the rows state
unfoldable pub answers : List Case → List (Verdict ℕ)
unfolding listed ranges_of in_ranges words record_bytes bytes routine_bytes routines_bytes bytes_of pays total times value bound bounds refuse two four fields_of
    judged list branches sequence_at alternative_at head_loop_at tail_loop_at timed_loop_at construct_at routine_at routines_at sheet_at
    ended ended_routines too_big outcome answer
answers = map (λ c. answer c.sheet 64)

abbrev pub stated : List Case → List (Verdict ℕ)
stated = map (λ c. c.answer)
