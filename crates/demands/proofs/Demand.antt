-- Demand 3 on bytes: no allowed run of an accepted sheet takes more cycles than its bound, and under the premise on markers some allowed
-- run takes exactly the bound.
use Prim.Native.Nat.{ℕ, zero, suc, ◌≤◌}
use mathlib.Core.Path.{◌≡◌, refl, sym, subst}
use mathlib.Core.List.{List}
use lib.ListN.{length, drop, get_or-append}
use native.Mathlib.Omega.{arith}
use Rattle.meaning.specs.Tree.{Sheet, numbered}
use Rattle.meaning.specs.Format.{◌to◌, within, ranges_of, in_ranges}
use Rattle.meaning.specs.Legal.{LegalSheet}
use Rattle.meaning.specs.Value.{nothing, bounds_of, bound_at, task_bound}
use Rattle.meaning.specs.Answer.{Verdict, accepted, outcome, answer, stored, table_after}
use Rattle.runs.specs.Run.{RoutineTakes, SheetTakes}
use Rattle.runs.specs.Premise.{SingleSheet}
use Rattle.runs.proofs.Sound.{sheet_sound}
use Rattle.runs.proofs.Reached.{length_bounds, sheet_reached}
use Rattle.meaning.proofs.Laws.{pick_true, within_is}
use Rattle.demands.proofs.Outcome.{not_accepted, accepted_same, Answered, no_room_lem, a_refusal, a_bound, answered}
use Rattle.demands.proofs.RoundTrip.{accepted_good}

-- the bytes s, accepted with the bound b, and the table after it
pub record Demand (s : List ℕ) (b : ℕ) (after : List ℕ) : Type 0 where
  -- the sheet that s is
  pub sheet : Sheet
  pub read : outcome s ≡ accepted sheet
  -- no run of the sheet takes more than b, no run of a routine more than its place of the table says, calls included
  pub most : (n : ℕ) → SheetTakes sheet n → n ≤ b
  pub most_of : (number n : ℕ) → 1 ≤ number → number ≤ length sheet.routines → RoutineTakes sheet number n → n ≤ numbered after number 0
  -- under the premise, some run takes exactly that
  pub reached : SingleSheet sheet → SheetTakes sheet b
  pub reached_of : SingleSheet sheet → (number : ℕ) → 1 ≤ number → number ≤ length sheet.routines → RoutineTakes sheet number (numbered after number 0)

-- the first places of the table hold the bounds
table_holds : (t : Sheet) (table : List ℕ) (number : ℕ) → number ≤ length t.routines → numbered (stored (accepted t) table) number 0 ≡ bound_at t number
table_holds t table zero h = refl
table_holds t table (suc i) h =
    let n = length_bounds nothing t.routines in
    get_or-append (bounds_of t) (drop (length t.routines) table) 0 i (omega arith)

-- a legal sheet has a routine, and at most 64
routine_count : (t : Sheet) → LegalSheet t → (1 ≤ length t.routines) × (length t.routines ≤ 64)
unfolding ranges_of in_ranges
routine_count t h =
    let n = length t.routines in
    let (edition, rest) = pick_true (within (1 to 1) t.edition) _ h.0 in
    let (many, done) = pick_true (within (1 to 64) n) _ rest in
    within_is (1 to 64) n many

pub few_routines : (s : List ℕ) (t : Sheet) → outcome s ≡ accepted t → length t.routines ≤ 64
few_routines s t e = (routine_count t (accepted_good s t e).legal).1

demand_of : (s table : List ℕ) (t : Sheet) → outcome s ≡ accepted t → Demand s (task_bound t) (stored (accepted t) table)
demand_of s table t e =
    let legal = (accepted_good s t e).legal in
    record {
      sheet = t;
      read = e;
      most = λ n r. sheet_sound t (length t.routines) n r;
      most_of = λ number n low high r. subst (λ z. n ≤ z) (sym (table_holds t table number high)) (sheet_sound t number n r);
      reached = λ one. sheet_reached t legal one (length t.routines) (routine_count t legal).0 (omega arith);
      reached_of = λ one number low high. subst (RoutineTakes t number) (sym (table_holds t table number high)) (sheet_reached t legal one number low high);
    }

-- DEMAND 3
pub demand : (s table : List ℕ) (b : ℕ) → answer s (length table) ≡ accepted b → Demand s b (table_after s table)
demand s table b e = go (answer s (length table)) (table_after s table) (answered s table) e
  where
    go : (v : Verdict ℕ) (after : List ℕ) → Answered s table v after → v ≡ accepted b → Demand s b after
    go v after (no_room_lem h) e = not_accepted e
    go v after (a_refusal h read low high) e = not_accepted e
    go v after (a_bound {t = t} room read) e = subst (λ z. Demand s z (stored (accepted t) table)) (accepted_same e) (demand_of s table t read)
