-- A refusal's number tells which it is, and so what the document says of a result tells the result.
use Prim.Native.Nat.{ℕ, ◌-◌}
use mathlib.Core.Path.{◌≡◌, refl, sym, ap, ◌∙◌}
use mathlib.Core.List.{[], ◌∷◌}
use lib.ListN.{get_or}
use Rattle.std.specs.Prelude.{Result, Ok, Err}
use Rattle.meaning.specs.Judgement.{Reading, refused, found}
use Rattle.records.specs.declared.Cursor.{Cursor}
use Rattle.records.specs.declared.faults.Fault.{Fault}
use Rattle.records.specs.declared.faults.Fault.TheVariants.{NoRoom, TooLong, Cut, BadKind, BadLength, BadField, BadCall, TooDeep, StrayMarker, NoPlainBranch, Extra, TooBig}
use Rattle.records.specs.declared.faults.Fault.TheVariants.{ShortList, BadDeadline}
use Rattle.records.specs.declared.faults.Refusal.{Refusal}
use Rattle.records.specs.Faults.{number_of, reading_of}

-- the refusal of a number
abbrev pub numbered : ℕ → Fault
numbered number =
    get_or (
    NoRoom ∷ TooLong ∷ Cut ∷ BadKind ∷ BadLength ∷ BadField ∷ BadCall ∷ TooDeep ∷ StrayMarker ∷ NoPlainBranch ∷ Extra ∷ TooBig ∷ ShortList ∷ BadDeadline ∷ []
    ) (number - 1) NoRoom

pub numbered_is : (f : Fault) → numbered (number_of f) ≡ f
numbered_is NoRoom = refl
numbered_is TooLong = refl
numbered_is Cut = refl
numbered_is BadKind = refl
numbered_is BadLength = refl
numbered_is BadField = refl
numbered_is BadCall = refl
numbered_is TooDeep = refl
numbered_is StrayMarker = refl
numbered_is NoPlainBranch = refl
numbered_is Extra = refl
numbered_is TooBig = refl
numbered_is ShortList = refl
numbered_is BadDeadline = refl

pub number_same : {f g : Fault} → number_of f ≡ number_of g → f ≡ g
number_same {f} {g} e = sym (numbered_is f) ∙ ap numbered e ∙ numbered_is g

-- the result that the document says so of
abbrev result_of : {A : Type 0} → Reading A → Result (A × Cursor) Refusal
result_of (found a next) = Ok (a, record { at = next })
result_of (refused number place) = Err (record { fault = numbered number; place = place })

result_is : {A : Type 0} (r : Result (A × Cursor) Refusal) → result_of (reading_of r) ≡ r
result_is (Ok (a, next)) = refl
result_is (Err refusal) = rw (numbered_is refusal.fault)

pub reading_same : {A : Type 0} {r q : Result (A × Cursor) Refusal} → reading_of r ≡ reading_of q → r ≡ q
reading_same {A} {r} {q} e = sym (result_is r) ∙ ap result_of e ∙ result_is q
