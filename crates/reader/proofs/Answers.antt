-- What document 01 says of an answer tells the answer.
use Prim.Native.Nat.{ℕ}
use mathlib.Core.Path.{◌≡◌, refl, sym, ap, ◌∙◌}
use Rattle.meaning.specs.Answer.{Verdict, accepted, refused}
use Rattle.records.proofs.Numbers.{numbered, numbered_is}
use Rattle.reader.specs.declared.Answer.{Answer}
use Rattle.reader.specs.declared.Answer.TheVariants.{Accepted, Refused}
use Rattle.reader.specs.Said.{said_of}

-- the answer of which it is said
abbrev answered : Verdict ℕ → Answer
answered (accepted bound) = Accepted bound
answered (refused number place) = Refused (numbered number) place

answered_is : (a : Answer) → answered (said_of a) ≡ a
answered_is (Accepted bound) = refl
answered_is (Refused fault place) = ap (λ f. Refused f place) (numbered_is fault)

pub said_same : {a b : Answer} → said_of a ≡ said_of b → a ≡ b
said_same {a} {b} e = sym (answered_is a) ∙ ap answered e ∙ answered_is b
