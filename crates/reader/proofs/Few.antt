-- A reading holds at most 64 bounds.
use Prim.Native.Nat.{ℕ, zero, suc, ◌+◌, ◌≤◌}
use mathlib.Core.Path.{◌≡◌, refl}
use mathlib.Core.List.{List}
use lib.Dec.{ltb}
use lib.ListN.{length}
use native.Mathlib.Omega.{arith}
use Rattle.records.specs.declared.Cursor.{Cursor}
use Rattle.records.specs.declared.SheetRecord.{SheetRecord}
use Rattle.records.specs.Records.{read_as, as_sheet}
use Rattle.meaning.specs.Judgement.{Reading, sheet, refused, found, judged}
use Rattle.std.specs.Prelude.{Option}
use Rattle.records.proofs.Good.{sheet_fine}
use Rattle.reader.specs.declared.Bounds.{Bounds}
use Rattle.reader.specs.declared.Progress.{Progress}
use Rattle.reader.specs.Tallies.{Parsed, Done, Refused}
use Rattle.reader.specs.Reader.{Report, on_reading, on_parsed, routine_of, no_bounds, bounds_with, progress_from, progress_with}
use Rattle.reader.specs.Reader.{routines_of, sheet_of, read_of}
use Rattle.reader.proofs.Laws.{picked}

pub record Few (r : Report) : Type 0 where
  pub few : r.bounds.count ≤ 64

few_parsed : (x : Parsed) (g : ℕ → ℕ → Report) (f : ℕ → Option ℕ → ℕ → Option ℕ → ℕ → Cursor → Report) → ((k p : ℕ) → Few (g k p)) →
    ((v : ℕ) (o : Option ℕ) (e : ℕ) (m : Option ℕ) (k : ℕ) (next : Cursor) → Few (f v o e m k next)) → Few (on_parsed x g f)
few_parsed (Done p) g f h k = k p.value p.over p.added p.mark p.constructs p.next
few_parsed (Refused number place) g f h k = h number place

few_sheet : (x : Reading SheetRecord) (g : ℕ → ℕ → Report) (f : SheetRecord → Cursor → Report) → ((k p : ℕ) → Few (g k p)) →
    ((r : SheetRecord) (next : ℕ) → x ≡ found r next → Few (f r (record { at = next }))) → Few (on_reading x g f)
few_sheet (refused number place) g f h k = h number place
few_sheet (found r next) g f h k = k r next refl

few_routines : (n : ℕ) (s : List ℕ) (number : ℕ) (b : Bounds) (progress : Progress) → b.count + n ≤ 64 → Few (routines_of n s number b progress)
unfolding routines_of bounds_with
few_routines zero s number b progress h = record { few = omega arith }
few_routines (suc n) s number b progress h =
    few_parsed (routine_of s b.values (b.count + 1) progress.at) _ _ (λ k p. record { few = omega arith }) (λ v o e m k next.
    few_routines n s number (bounds_with b v k) (progress_with progress (b.count + 1) number v o next) (omega arith))

none_few : no_bounds.count ≤ 0
unfolding no_bounds
none_few = omega arith

pub few_read : (s : List ℕ) (number : ℕ) → Few (read_of s number)
unfolding read_of sheet_of
few_read s number =
    let z = none_few in
    picked Few (ltb 60000 (length s)) (record { few = omega arith }) (
    few_sheet (read_as as_sheet (judged s sheet 0)) _ _ (λ k p. record { few = omega arith }) (λ r next e.
    let h = (sheet_fine s e).few in
    few_routines r.routines s number no_bounds (progress_from (length s) (record { at = next })) (omega arith)))
