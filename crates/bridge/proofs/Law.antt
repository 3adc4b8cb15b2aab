-- What reading a sheet comes to in the code's shape is what document 01 says of its bytes.
use Prim.Native.Nat.{ℕ}
use mathlib.Core.Path.{◌≡◌}
use mathlib.Core.Bool.{Bool, true, false}
use mathlib.Core.List.{List}
use lib.ListN.{length}
use lib.Dec.{ltb}
use Rattle.meaning.specs.Format.{pick}
use Rattle.meaning.specs.Judgement.{sheet_at}
use Rattle.meaning.specs.Answer.{accepted, refused, judgement, outcome, told, stored, part_of}
use Rattle.meaning.specs.Work.{constructs_valued}
use Rattle.reader.specs.Reader.{no_bounds, Report, refusal, report_of, sheet_of, read_of}
use Rattle.reader.specs.Reports.{stored_of, part_said}
use Rattle.bridge.proofs.Sheets.{Reports, refusal_law, sheet_law}

-- the answer; on acceptance the bounds, as a table is to hold them; the part of the routine that was asked for; on acceptance the constructs
-- valued
pub record Reported (s : List ℕ) (number : ℕ) (r : Report) : Type 0 where
  pub said : r.reply.said ≡ told (outcome s)
  pub kept : (b : ℕ) → r.reply.said ≡ accepted b → (table : List ℕ) → stored_of r.bounds table ≡ stored (outcome s) table
  pub part : part_said r ≡ part_of s number
  pub valued : (b : ℕ) → r.reply.said ≡ accepted b → r.bounds.constructs ≡ constructs_valued (outcome s)

abbrev pub ReadLaw : Type 0
ReadLaw = (s : List ℕ) (number : ℕ) → Reported s number (read_of s number)

-- TOO LONG comes first
pub read_law : ReadLaw
unfolding read_of outcome part_of
read_law s number = record { said = reports.said; kept = reports.kept; part = reports.part; valued = reports.valued }
  where
    by_length : (t : Bool) → Reports s number (pick t (report_of (refusal (length s) 2 0) no_bounds) (sheet_of s number)) (pick t (refused 2 0) (judgement (sheet_at s 0)))
    by_length true = refusal_law s number 2 0 no_bounds
    by_length false = sheet_law s number

    reports : Reports s number (read_of s number) (outcome s)
    reports = by_length (ltb 60000 (length s))
