-- Document 01's notation for sheets: "Px is a primitive, S[..] a sequence, A(condition; branches), H and T the loops in field and
-- child order, W(time; timeout), M(limit, cost); H* has scope 1." C is a call.
use Prim.Native.Nat.{ℕ}
use mathlib.Core.Bool.{Bool, true, false}
use mathlib.Core.List.{List, [], ◌∷◌}
use Rattle.meaning.specs.Tree.{Loop, Construct, Constructs, Routine, Sheet}
use Rattle.meaning.specs.Tree.{primitive, sequence, alternative, head_loop, tail_loop, timed_loop, call, marker, end, ◌then◌}

abbrev pub P : ℕ → Construct
P x = primitive (record { cost = x })

abbrev pub list : List Construct → Constructs
list [] = end
list (c ∷ cs) = c then list cs

abbrev pub S : List Construct → Construct
S cs = sequence (list cs)

abbrev pub A : Construct → List Construct → Construct
A c bs = alternative c (list bs)

abbrev loop : Bool → ℕ → Loop
loop scope count = record { count = count; scope = scope }

abbrev pub H : ℕ → Construct → Construct → Construct → Construct → Construct
H n = head_loop (loop false n)

abbrev pub H* : ℕ → Construct → Construct → Construct → Construct → Construct
H* n = head_loop (loop true n)

abbrev pub T : ℕ → Construct → Construct → Construct → Construct
T n = tail_loop (loop false n)

abbrev pub T* : ℕ → Construct → Construct → Construct → Construct
T* n = tail_loop (loop true n)

abbrev pub W : ℕ → Construct → Construct
W time = timed_loop (record { time = time })

abbrev pub M : ℕ → ℕ → Construct
M limit cost = marker (record { limit = limit; cost = cost })

abbrev pub C : ℕ → Construct
C number = call (record { routine = number })

-- a routine, and a sheet of edition 1
abbrev pub R : ℕ → Construct → Routine
R organisation body = record { organisation = organisation; body = body }

abbrev pub sheet : List Routine → Sheet
sheet rs = record { edition = 1; routines = rs }
