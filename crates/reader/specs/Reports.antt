-- What the bounds and the places of a report are to the calculator: a lent table that holds the bounds, and the part that was asked for.
use Rattle.std.specs.Prelude.{ℕ, List, ◌++◌, take, drop}
use Rattle.meaning.specs.Answer.{Part}
use Rattle.reader.specs.declared.Bounds.{Bounds}
use Rattle.reader.specs.Reader.{Report}

-- the bounds in the first places, the later ones unchanged
abbrev pub stored_of : Bounds → List ℕ → List ℕ
stored_of b table = take b.count b.values ++ drop b.count table

abbrev pub part_said : Report → Part
part_said r = record { start = r.reply.start; stop = r.reply.end }
