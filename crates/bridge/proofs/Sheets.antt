-- A whole sheet: what the code reports of it is what document 01 says of its bytes.
use Prim.Native.Nat.{ℕ, zero, suc, ◌+◌, ◌≤◌}
use mathlib.Core.Path.{◌≡◌, refl, sym, ap, ap₂, subst, ◌∙◌}
use mathlib.Core.Bool.{Bool, true, false}
use mathlib.Core.List.{List, [], ◌∷◌, ◌++◌, append-nil}
use mathlib.Core.Option.{Option as Maybe, some, none}
use lib.ListN.{length, drop}
use lib.Seq.{append_snoc}
use lib.Dec.{ltb}
use native.Mathlib.Omega.{arith}
use Rattle.meaning.specs.Tree.{Routine, Sheet}
use Rattle.meaning.specs.Format.{pick, Record, field, of, sheet_rows, InRange, ranges_of}
use Rattle.meaning.specs.Judgement.{Reading, Reader, found, and_then, refuse, sheet, routines_at, sheet_at}
use Rattle.meaning.specs.Answer.{past_record, ended_of, too_big, Verdict, accepted, refused, sized, judgement, told, stored, part_in}
use Rattle.meaning.specs.Work.{constructs_valued}
use Rattle.demands.proofs.Found.{Found, not_read, was_read}
use Rattle.demands.proofs.Records.{Judged, judged_good, sheet_is}
use Rattle.records.specs.Records.{read_as, as_sheet}
use Rattle.reader.specs.declared.Bounds.{Bounds}
use Rattle.reader.specs.declared.Progress.{Progress}
use Rattle.reader.specs.Tallies.{Parsed, Share, share}
use Rattle.reader.specs.Reader.{on_reading, on_parsed, no_bounds, bounds_with, progress_from, progress_with}
use Rattle.reader.specs.Reader.{Report, refusal, sized_of, verdict_of, report_of, routines_of, sheet_of}
use Rattle.reader.specs.Reports.{stored_of, part_said}
use Rattle.bridge.proofs.Agree.{place_of, Agrees, Same, both_refused, read_done}
use Rattle.bridge.proofs.Marks.{first_most}
use Rattle.bridge.proofs.Readers.{past_record_lem}
use Rattle.bridge.proofs.More.{as_loop, Long, sheet_with, more}
use Rattle.bridge.proofs.Routines.{routine_long, routine_law}
use Rattle.bridge.proofs.Held.{known_to, finds, Holds, holds_none, holds_more}

-- what a report says of a verdict: the answer; on acceptance the bounds; the part of the routine that was asked for; on acceptance the
-- constructs valued
pub record Reports (s : List ℕ) (number : ℕ) (r : Report) (v : Verdict Sheet) : Type 0 where
  pub said : r.reply.said ≡ told v
  pub kept : (b : ℕ) → r.reply.said ≡ accepted b → (table : List ℕ) → stored_of r.bounds table ≡ stored v table
  pub part : part_said r ≡ part_in s v number
  pub valued : (b : ℕ) → r.reply.said ≡ accepted b → r.bounds.constructs ≡ constructs_valued v

pub refusal_law : (s : List ℕ) (number k place : ℕ) (b : Bounds) → Reports s number (report_of (refusal (length s) k place) b) (refused k place)
unfolding refusal
refusal_law s number k place b = record { said = refl; kept = λ _ e _. cc; part = refl; valued = λ _ e. cc }

-- the sheet of these routines, unless bytes are left after them
abbrev whole : List ℕ → ℕ → List Routine → Reader Sheet
whole s edition rs past = refuse (ltb past (length s)) 11 past (found (sheet_with edition rs) past)

-- a routine, then those that are read after it
abbrev after : Routine → Reading (List Routine) → Reading (List Routine)
after r g = and_then g (λ later past. found (r ∷ later) past)

module _ (s : List ℕ) (number edition : ℕ) where
  -- EXTRA, then TOO BIG, then the task's bound
  verdict_law : (rs : List Routine) (b : Bounds) (progress : Progress) → Holds s number edition rs b progress →
      Reports s number (report_of (verdict_of (length s) progress) b) (judgement (whole s edition rs progress.at.at))
  unfolding verdict_of refuse
  verdict_law rs b progress d = by_place (ltb progress.at.at (length s))
    where
      by_values : (i : Maybe ℕ) → too_big (ended_of (sheet_with edition rs)) ≡ i →
          Reports s number (report_of (sized_of (length s) progress (place_of i)) b) (sized (sheet_with edition rs) i)
      by_values none p = record {
        said = ap (λ z. accepted z) (d.last (rw p));
        kept = λ _ _ table. ap₂ (λ xs n. xs ++ drop n table) (d.values (rw p)) d.many;
        part = sym d.part;
        valued = λ _ _. d.constructs;
      }
      by_values (some place) p = refusal_law s number 12 place b

      by_place : (t : Bool) →
          Reports s number (report_of (pick t (refusal (length s) 11 progress.at.at) (sized_of (length s) progress progress.over)) b)
          (judgement (refuse t 11 progress.at.at (found (sheet_with edition rs) progress.at.at)))
      by_place true = refusal_law s number 11 progress.at.at b
      by_place false = rw d.over (by_values (too_big (ended_of (sheet_with edition rs))) refl)

  -- the verdict on these routines and those that are read after them
  abbrev verdict_with : List Routine → Reading (List Routine) → Verdict Sheet
  verdict_with rs g = judgement (and_then g (λ later past. whole s edition (rs ++ later) past))

  regroup : (rs : List Routine) (r : Routine) (g : Reading (List Routine)) → verdict_with (more r rs) g ≡ verdict_with rs (after r g)
  regroup rs r (Reading.refused k place) = refl
  regroup rs r (found later past) = ap (λ z. judgement (whole s edition z past)) (append_snoc rs r later)

  -- n routines more
  abbrev RoutinesLaw : ℕ → Type 0
  RoutinesLaw n =
      (rs : List Routine) (b : Bounds) (progress : Progress) → Holds s number edition rs b progress → b.count + n ≤ 64 →
      Reports s number (routines_of n s number b progress) (verdict_with rs (routines_at n s (b.count + 1) progress.at.at))

  routines_step : (n : ℕ) → RoutinesLaw n → RoutinesLaw (suc n)
  unfolding routines_of routines_at bounds_with progress_with
  routines_step n law rs b progress d few =
      by_routine (routine_long s b.count (b.count + 1) refl progress.at.at)
      (routine_law s b.count (b.count + 1) refl (known_to b) b.values (finds b) d.small progress.at)
    where
      later : Reader (List Routine)
      later = routines_at n s (b.count + 1 + 1)

      onward : Share → Report
      onward p = routines_of n s number (bounds_with b p.value p.constructs) (progress_with progress (b.count + 1) number p.value p.over p.next)

      one_more : {r : Routine} {past : ℕ} {p : Share} → Long progress.at.at r past → Agrees (known_to b) 0 progress.at.at (as_loop r) past p →
          Reports s number (onward p) (verdict_with rs (after r (later past)))
      one_more {r} {p = p} long a =
          rw (← a.reached)
          (subst (Reports s number (onward p)) (regroup rs r (later p.next.at)) (law _ _ _ (holds_more s number edition d (omega arith) a long) (omega arith)))

      by_routine : {q : Parsed} {g : Reading Routine} → Found (Long progress.at.at) g →
          Same (known_to b) 0 progress.at.at q (and_then g (λ r. found (as_loop r))) →
          Reports s number (on_parsed q (λ k p. report_of (refusal (length s) k p) b) (λ v o e m w next. onward (share v o e m w next)))
          (verdict_with rs (and_then g (λ r past. after r (later past))))
      by_routine (not_read {number = k} {place = p} n) both_refused = refusal_law s number k p b
      by_routine (was_read long) (read_done a) = one_more long a

  routines_law : (n : ℕ) → RoutinesLaw n
  unfolding routines_of routines_at
  routines_law zero = λ rs b progress d few. rw append-nil (verdict_law rs b progress d)
  routines_law (suc n) = routines_step n (routines_law n)

-- the sheet record tells of at most 64 routines
few_routines : (edition many : ℕ) → InRange sheet_rows (of 100 (edition ∷ many ∷ [])) → many ≤ 64
unfolding ranges_of
few_routines edition many range = (first_most _ _ many _ (first_most _ _ edition _ range).1).0

module _ (s : List ℕ) (number : ℕ) where
  read_sheet : {j : Reading Record} → Found (Judged s sheet 0) j →
      Reports s number (on_reading (read_as as_sheet j) (λ k p. report_of (refusal (length s) k p) no_bounds) (λ r next.
      routines_of r.routines s number no_bounds (progress_from (length s) next)))
      (judgement (and_then j (λ x next. and_then (routines_at (field x 1) s 1 next) (λ rs past. whole s (field x 0) rs past))))
  unfolding no_bounds progress_from
  read_sheet (not_read {number = k} {place = p} n) = refusal_law s number k p no_bounds
  read_sheet (was_read {a = x} {past = next} j) =
      let same = sheet_is x j.kind j.range in
      let few = few_routines (field x 0) (field x 1) (subst (InRange sheet_rows) (sym same) j.range) in
      let none_read = holds_none s number (field x 0) (record { at = next }) (past_record_lem j ∙ ap (past_record 0) (sym same)) in
      routines_law s number (field x 0) (field x 1) [] _ _ none_read (omega arith)

  pub sheet_law : Reports s number (sheet_of s number) (judgement (sheet_at s 0))
  unfolding sheet_of sheet_at
  sheet_law = read_sheet (judged_good s sheet 0)
