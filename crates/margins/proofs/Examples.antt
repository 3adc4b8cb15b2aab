-- Document 02, L1, on a sheet whose routines have the bounds 4 and 9 and on two that are refused: late, just fits, early, each refusal and its place, and what stays as it was.
use Prim.Native.Nat.{ℕ, ◌-◌, ◌^◌}
use mathlib.Core.Path.{◌≡◌, refl}
use mathlib.Core.List.{List, [], ◌∷◌, map}
use lib.IntN.{ℤ, pos, negsuc}
use Rattle.meaning.specs.Answer.{Verdict, accepted, refused, told, stored}
use Rattle.meaning.proofs.Rows.{answers}
use Rattle.meaning.proofs.Returns.{lent, good, bad, too_big}
use Rattle.margins.specs.Margins.{last_deadline, first_out, planned, margins_of, margins_after}

limit : last_deadline ≡ 2 ^ 40 - 1
limit = refl

-- margins of which every one differs, as in the lent table
abbrev noted : ℕ → List ℤ
noted n = map negsuc (lent n)

-- a sheet, how many places the table has, the deadlines, how many places the margins have; then the answer, the table after and the margins after
pub record Plan : Type 0 where
  pub sheet : List ℕ
  pub room : ℕ
  pub deadlines : List ℕ
  pub places : ℕ
  pub answer : Verdict ℕ
  pub after : List ℕ
  pub written : List ℤ

abbrev accepts : List ℕ → List ℕ → List ℤ → Plan  -- good, with lists of 64
accepts deadlines after written =
    record { sheet = good; room = 64; deadlines = deadlines; places = 64; answer = accepted 9; after = after; written = written }

abbrev refuses : List ℕ → ℕ → List ℕ → ℕ → ℕ → ℕ → Plan  -- what was lent is as it was
refuses sheet room deadlines places number place =
    record { sheet = sheet; room = room; deadlines = deadlines; places = places; answer = refused number place; after = lent room; written = noted places }

pub plans : List Plan
plans =
    accepts (3 ∷ 9 ∷ lent 62) (4 ∷ 9 ∷ lent 62) (negsuc 0 ∷ pos 0 ∷ noted 62)  -- late by one; just fits
    ∷ accepts (4 ∷ 20 ∷ lent 62) (4 ∷ 9 ∷ lent 62) (pos 0 ∷ pos 11 ∷ noted 62)  -- just fits; early
    ∷ accepts (1099511627775 ∷ 0 ∷ lent 62) (4 ∷ 9 ∷ lent 62) (pos 1099511627771 ∷ negsuc 8 ∷ noted 62)  -- the last deadline and the first
    ∷ accepts (4 ∷ 9 ∷ 1099511627776 ∷ lent 61) (4 ∷ 9 ∷ lent 62) (pos 0 ∷ pos 0 ∷ noted 62)  -- no routine has the third
    ∷ refuses good 64 (1099511627776 ∷ 9 ∷ lent 62) 64 14 1
    ∷ refuses good 64 (4 ∷ 1099511627776 ∷ lent 62) 64 14 2
    ∷ refuses good 64 (1099511627776 ∷ 1099511627776 ∷ lent 62) 64 14 1  -- "the first routine out of range"
    ∷ refuses good 64 (lent 63) 64 13 0
    ∷ refuses good 64 (lent 64) 63 13 0
    ∷ refuses good 63 (lent 63) 63 1 0  -- "13 SHORT LIST after NO ROOM"
    ∷ refuses bad 64 (lent 63) 63 13 0  -- before what the records are refused for
    ∷ refuses bad 64 (1099511627776 ∷ lent 63) 64 7 44
    ∷ refuses too_big 64 (1099511627776 ∷ lent 63) 64 12 36  -- "14 BAD DEADLINE after TOO BIG"
    ∷ []

abbrev planned_in : Plan → Verdict ℕ × List ℕ × List ℤ
planned_in p =
    let v = planned p.sheet (lent p.room) p.deadlines (noted p.places) in
    (told v, stored v (lent p.room), margins_after v p.deadlines (noted p.places))

pub planned_so : map planned_in plans ≡ map (λ p. (p.answer, p.after, p.written)) plans
unfolding plans planned first_out margins_of answers
planned_so = refl
