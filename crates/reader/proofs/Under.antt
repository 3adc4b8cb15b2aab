-- Laws of what `routine` and `routines` come to, and what holds whenever the loop of `routines` is at its test.
use Prim.Native.Nat.{ℕ, zero, suc, ◌+◌, ◌-◌, ◌*◌, ◌≤◌, ◌<◌}
use mathlib.Core.Path.{◌≡◌, refl, sym, ap, ◌∙◌}
use mathlib.Core.Bool.{false}
use mathlib.Core.List.{List, [], ◌∷◌}
use lib.ListN.{length, get_or, set, replicate}
use native.Mathlib.Omega.{arith}
use Rattle.reader.proofs.Tells.{returned_is}
use Rattle.records.specs.declared.Cursor.{Cursor}
use Rattle.records.specs.declared.SheetRecord.{SheetRecord}
use Rattle.records.specs.declared.RoutineRecord.{RoutineRecord}
use Rattle.records.specs.declared.standings.Standing.TheVariants.{Outside}
use Rattle.records.specs.Records.{read_as, as_sheet, as_routine}
use Rattle.meaning.specs.Judgement.{sheet, routine, refused, found, judged}
use Rattle.std.specs.Prelude.{Ok}
use Rattle.reader.specs.declared.Bounds.{Bounds}
use Rattle.reader.specs.declared.Progress.{Progress}
use Rattle.reader.specs.Tallies.{Aside, Share, Done, Refused, no_aside, Told, Valued}
use Rattle.reader.specs.Reader.{on_parsed, owner_of, list_from, construct_of, routine_of}
use Rattle.reader.specs.Reader.{no_bounds, bounds_with, progress_from, progress_with, refusal, verdict_of, report_of, routines_of, sheet_of}

module _ (s bounds : List ℕ) (own : ℕ) (c : Cursor) where
  pub routine_refused : {number place : ℕ} → read_as as_routine (judged s routine c.at) ≡ refused number place → routine_of s bounds own c ≡ Refused number place
  unfolding routine_of
  routine_refused e = rw e

  pub routine_good : {r : RoutineRecord} {next : ℕ} → read_as as_routine (judged s routine c.at) ≡ found r next →
      routine_of s bounds own c ≡ list_from (construct_of 24 s bounds own) (owner_of 7 r.organisation false c.at Outside 0) 1 (record { at = next })
  unfolding routine_of
  routine_good e = rw e

-- one bound more is as small as the others
abbrev Small : List ℕ → Type 0
Small xs = (i : ℕ) → get_or xs i 0 ≤ 1099511627775

pub set_small : (xs : List ℕ) (k v : ℕ) → Small xs → v ≤ 1099511627775 → Small (set xs k v)
set_small [] k v h l i = h i
set_small (x ∷ xs) zero v h l zero = l
set_small (x ∷ xs) zero v h l (suc i) = h (suc i)
set_small (x ∷ xs) (suc k) v h l zero = h 0
set_small (x ∷ xs) (suc k) v h l (suc i) = set_small xs k v (λ j. h (suc j)) l i

pub none_small : (n : ℕ) → Small (replicate n 0)
none_small zero i = omega arith
none_small (suc n) zero = omega arith
none_small (suc n) (suc i) = none_small n i

module _ (n : ℕ) (s : List ℕ) (number : ℕ) (b : Bounds) (progress : Progress) where
  routines_step : b.count < n →
      routines_of (n - b.count) s number b progress
      ≡ on_parsed (routine_of s b.values (b.count + 1) progress.at) (λ k p. report_of (refusal (length s) k p) b) (λ value over added mark constructs next.
      routines_of (n - (b.count + 1)) s number (bounds_with b value constructs) (progress_with progress (b.count + 1) number value over next))
  unfolding routines_of
  routines_step h = let e : n - b.count ≡ suc (n - (b.count + 1)) = omega arith in rw e

  pub routines_end : n ≤ b.count → routines_of (n - b.count) s number b progress ≡ report_of (verdict_of (length s) progress) b
  unfolding routines_of
  routines_end h = let e : n - b.count ≡ 0 = omega arith in rw e

module _ (n : ℕ) (s lent : List ℕ) (number : ℕ) (none : Bounds) (first : Progress) where
  -- So far the routines come to these bounds and this progress.
  pub record Under (marks : List ℕ) (b : Bounds) (progress : Progress) : Type 0 where
    pub same : routines_of (n - b.count) s number b progress ≡ routines_of n s number none first
    pub few : b.count ≤ n
    pub small : (i : ℕ) → get_or b.values i 0 ≤ 1099511627775
    pub long : length marks ≡ length lent
    pub valued : 8 * b.constructs ≤ progress.at.at

  pub under_none : none ≡ no_bounds → Under lent none first
  unfolding no_bounds
  under_none e = rw e (let z : n - 0 ≡ n = omega arith in record { same = rw z; few = omega arith; small = none_small 64; long = refl; valued = omega arith })

module _ {n : ℕ} {s lent : List ℕ} {number : ℕ} {none : Bounds} {first : Progress} {marks : List ℕ} {b : Bounds} {progress : Progress}
    (under : Under n s lent number none first marks b progress) (more : b.count < n) where
  pub turn_refused : {k p : ℕ} → routine_of s b.values (b.count + 1) progress.at ≡ Refused k p → routines_of n s number none first ≡ report_of (refusal (length s) k p) b
  turn_refused e = rw (← under.same, routines_step n s number b progress more, e)

  -- one routine more was read, and told p
  told_more : {u : Progress} {v constructs : ℕ} {next : Cursor} (p : Share) (after : List ℕ) → routine_of s b.values (b.count + 1) progress.at ≡ Done p →
      Told (length s) progress.at.at p → v ≡ p.value → next ≡ p.next → constructs ≡ b.constructs + p.constructs → length after ≡ length marks →
      u ≡ progress_with progress (b.count + 1) number v p.over next →
      Under n s lent number none first after (record { values = set b.values b.count v; count = b.count + 1; constructs = constructs }) u
  unfolding bounds_with progress_with
  told_more {v = v} {next = next} p after is fine value past many long e =
      let step = rw is at (routines_step n s number b progress more) in
      let step' = rw (← value, ← past) at step in
      record {
        same = rw (e, many) (sym step' ∙ under.same);
        few = omega arith;
        small = set_small b.values b.count v under.small (rw value fine.value);
        long = long ∙ under.long;
        valued = rw (e, many) (omega (arith, under.valued, fine.past, ap (λ z. z.at) past));
      }

  pub turn_more : {u : Progress} {aside : Aside} {v : ℕ} {next : Cursor} (after : List ℕ) →
      Valued (length s) progress.at.at (no_aside b.constructs) (routine_of s b.values (b.count + 1) progress.at) (Ok (v, next)) aside →
      length after ≡ length marks → u ≡ progress_with progress (b.count + 1) number v aside.over next →
      Under n s lent number none first after (record { values = set b.values b.count v; count = b.count + 1; constructs = aside.constructs }) u
  turn_more {u} {v = v} {next = next} after w long e =
      let (value, past) = returned_is w in
      told_more w.told after w.is w.fine value past (ap (λ z. z.constructs) w.aside) long (
      e ∙ ap (λ z. progress_with progress (b.count + 1) number v z next) (ap (λ z. z.over) w.aside))

module _ (s : List ℕ) (number : ℕ) where
  pub sheet_refused : {k p : ℕ} → read_as as_sheet (judged s sheet 0) ≡ refused k p →
      sheet_of s number ≡ report_of (refusal (length s) k p) no_bounds
  unfolding sheet_of
  sheet_refused e = rw e

  pub sheet_good : {r : SheetRecord} {next : ℕ} → read_as as_sheet (judged s sheet 0) ≡ found r next →
      sheet_of s number ≡ routines_of r.routines s number no_bounds (progress_from (length s) (record { at = next }))
  unfolding sheet_of
  sheet_good e = rw e
