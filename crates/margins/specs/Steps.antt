-- What the private functions of this crate come to. No public contract cites these.
use Rattle.std.specs.Prelude.{ℕ, List, Option, ltb}
use Rattle.std.specs.List.{position}
use Rattle.margins.specs.Margins.{last_deadline}

-- the place of the first deadline that is out of range, if there is one
abbrev pub out_of_range : List ℕ → Option ℕ
out_of_range deadlines = position (λ d. ltb last_deadline d) deadlines
