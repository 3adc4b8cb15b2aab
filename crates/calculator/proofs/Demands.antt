-- The three demands of what `maxt` returns: an answer and a table that meet its contract.
use Prim.Native.Nat.{ℕ}
use mathlib.Core.Path.{◌≡◌, sym, ap, ◌∙◌}
use mathlib.Core.List.{List}
use lib.ListN.{length}
use Rattle.meaning.specs.Answer.{answer, table_after}
use Rattle.demands.proofs.Outcome.{Answered, answered}
use Rattle.demands.proofs.Demand.{Demand, demand}
use Rattle.reader.specs.declared.Answer.{Answer}
use Rattle.reader.specs.declared.Answer.TheVariants.{Accepted}
use Rattle.reader.specs.Said.{said_of}

-- the contract of `maxt`, on a sheet and a lent table
pub record Meets (sheet table : List ℕ) (a : Answer) (after : List ℕ) : Type 0 where
  pub said : said_of a ≡ answer sheet (length table)
  pub stored : after ≡ table_after sheet table

module _ {sheet table : List ℕ} {a : Answer} {after : List ℕ} (m : Meets sheet table a after) where
  -- 1 and 2: NO ROOM, or a refusal of the list on its condition, and the table as it was; or the bound of Table 1, and the bounds in the table
  pub answers : Answered sheet table (said_of a) after
  answers = rw (m.said, m.stored) (answered sheet table)

  -- 3: no allowed run takes more than the bound; under the premise some run takes exactly it
  pub demands : {bound : ℕ} → a ≡ Accepted bound → Demand sheet bound after
  demands {bound} e = rw m.stored (demand sheet table bound (sym m.said ∙ ap said_of e))
