-- What the entries for C and Rust hand back, as numbers in order.
use Rattle.std.specs.Prelude.{ℕ, List, [], ◌∷◌}
use Rattle.meaning.specs.Answer.{Verdict, accepted, refused, answer, part_of}

-- document 01, "What comes back": number, place and bound; an accepted sheet has number and place 0, "a refusal's bound is 0"
abbrev pub verdict_words : Verdict ℕ → List ℕ
verdict_words (accepted bound) = 0 ∷ 0 ∷ bound ∷ []
verdict_words (refused number place) = number ∷ place ∷ 0 ∷ []

abbrev pub answer_words : List ℕ → ℕ → List ℕ  -- of a sheet; room is the length of the lent table
answer_words s room = verdict_words (answer s room)

-- document 01, "What comes back": where a routine's records start and end
abbrev pub part_words : List ℕ → ℕ → List ℕ  -- of the routine of a number
part_words s number = (part_of s number).start ∷ (part_of s number).stop ∷ []
