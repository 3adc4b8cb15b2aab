-- How every sheet is decided, by its length, then by what is read, then by the values: demand 1, and when demand 2 gives TOO BIG.
use Prim.Native.Nat.{ℕ, ◌≤◌, ◌<◌}
use mathlib.Core.Path.{◌≡◌, refl, sym, ap, subst}
use mathlib.Core.Logic.{◌↔◌}
use mathlib.Core.Bool.{Bool, true, false}
use mathlib.Core.List.{List}
use mathlib.Core.Option.{Option}
use lib.ListN.{length}
use lib.Dec.{ltb}
use borrow.Author.Tests.{ltb-true, ltb-false, le-ltb, lt-ltb}
use native.Mathlib.Omega.{arith}
use Rattle.meaning.specs.Tree.{Sheet}
use Rattle.meaning.specs.Format.{pick}
use Rattle.meaning.specs.Value.{task_bound}
use Rattle.meaning.specs.Judgement.{Reading, found, sheet_at}
use Rattle.meaning.specs.Answer.{ended_of, Verdict, accepted, refused, sized, judgement, outcome}
use Rattle.meaning.specs.Answer.{told, no_room, answer, bound_in, stored, table_after}
use Rattle.demands.proofs.Found.{OfRecords, Found, not_read, was_read}
use Rattle.demands.proofs.Sheets.{good_sheet}
use Rattle.demands.proofs.Limit.{SmallSheet, FirstOver, Sought, nowhere, at_place, sought, first_found, none_found, sheet_listed}

-- What becomes of the bytes s: TOO BIG exactly if some construct's or routine's own value is over the limit, and no other fault was found.
pub data Decided (s : List ℕ) : Verdict Sheet → Type 0 where
  too_long : 60000 < length s → Decided s (refused 2 0)
  bad_record : {number place : ℕ} → length s ≤ 60000 → sheet_at s 0 ≡ Reading.refused number place → OfRecords number → Decided s (refused number place)
  too_big_lem : {t : Sheet} {past place : ℕ} → length s ≤ 60000 → sheet_at s 0 ≡ found t past → FirstOver place (ended_of t) → Decided s (refused 12 place)
  good : {t : Sheet} {past : ℕ} → length s ≤ 60000 → sheet_at s 0 ≡ found t past → SmallSheet t → Decided s (accepted t)

pub decided : (s : List ℕ) → Decided s (outcome s)
unfolding outcome
decided s = by_length (ltb 60000 (length s)) refl
  where
    by_values : {t : Sheet} {past : ℕ} {place : Option ℕ} → length s ≤ 60000 → sheet_at s 0 ≡ found t past → Sought (ended_of t) place → Decided s (sized t place)
    by_values {t} h e (nowhere n) = good h e ((sheet_listed t).0 n)
    by_values h e (at_place f) = too_big_lem h e f

    by_reading : {P : Sheet → ℕ → Type 0} → length s ≤ 60000 → (g : Reading Sheet) → sheet_at s 0 ≡ g → Found P g → Decided s (judgement g)
    by_reading h (Reading.refused number place) e (not_read n) = bad_record h e n
    by_reading h (found t past) e (was_read p) = by_values h e (sought (ended_of t))

    by_length : (t : Bool) → ltb 60000 (length s) ≡ t → Decided s (pick t (refused 2 0) (judgement (sheet_at s 0)))
    by_length true e = too_long (ltb-true 60000 (length s) e)
    by_length false e = by_reading (ltb-false 60000 (length s) e) (sheet_at s 0) refl (good_sheet s)

-- DEMAND 1: every sheet and table get an answer: NO ROOM; or the sheet's refusal, of the list; or its task's bound. A refusal has bound 0 and
-- leaves the table as it was.
pub data Answered (s table : List ℕ) : Verdict ℕ → List ℕ → Type 0 where
  no_room_lem : length table < 64 → Answered s table (refused 1 0) table
  a_refusal : {number place : ℕ} → 64 ≤ length table → outcome s ≡ refused number place → 2 ≤ number → number ≤ 12 → Answered s table (refused number place) table
  a_bound : {t : Sheet} → 64 ≤ length table → outcome s ≡ accepted t → Answered s table (accepted (task_bound t)) (stored (accepted t) table)

pub answered : (s table : List ℕ) → Answered s table (answer s (length table)) (table_after s table)
unfolding answer table_after
answered s table = by_room (no_room (length table)) refl
  where
    by_decision : 64 ≤ length table → (v : Verdict Sheet) → outcome s ≡ v → Decided s v → Answered s table (told v) (stored v table)
    by_decision h v e (too_long l) = a_refusal {number = 2} h e (omega arith) (omega arith)
    by_decision h v e (bad_record {number = k} l q n) = a_refusal {number = k} h e (omega arith) (omega arith)
    by_decision h v e (too_big_lem l q b) = a_refusal {number = 12} h e (omega arith) (omega arith)
    by_decision h v e (good l q b) = a_bound h e

    by_room : (t : Bool) → no_room (length table) ≡ t → Answered s table (pick t (refused 1 0) (told (outcome s))) (pick t table (stored (outcome s) table))
    by_room true e = no_room_lem (ltb-true (length table) 64 e)
    by_room false e = by_decision (ltb-false (length table) 64 e) (outcome s) refl (decided s)

pub bound_0 : (s table : List ℕ) (number place : ℕ) → answer s (length table) ≡ refused number place → bound_in (answer s (length table)) ≡ 0
bound_0 s table number place e = rw e

-- an accepted verdict is no refusal, and has one thing accepted
abbrev is_accepted : {A : Type 0} → Verdict A → Type 0
is_accepted (accepted a) = Unit {0}
is_accepted (refused number place) = ⊥

abbrev the_accepted : {A : Type 0} → A → Verdict A → A
the_accepted other (accepted a) = a
the_accepted other (refused number place) = other

pub not_accepted : {A B : Type 0} {number place : ℕ} {a : A} → refused number place ≡ accepted a → B
not_accepted e = absurd (subst is_accepted (sym e) tt)

pub accepted_same : {A : Type 0} {a b : A} → accepted a ≡ accepted b → a ≡ b
accepted_same {a = a} e = ap (the_accepted a) e

-- that the list is exact: what is decided is the outcome
pub outcome_is : (s : List ℕ) {v : Verdict Sheet} → Decided s v → outcome s ≡ v
unfolding outcome
outcome_is s (too_long l) = rw (lt-ltb 60000 (length s) l)
outcome_is s (bad_record l e n) = rw (le-ltb 60000 (length s) l, e)
outcome_is s (too_big_lem l e f) = rw (le-ltb 60000 (length s) l, e, first_found f)
outcome_is s (good {t = t} l e h) = rw (le-ltb 60000 (length s) l, e, none_found ((sheet_listed t).1 h))

-- accepted is: not too long, read, and no value over the limit
pub record Accepted (s : List ℕ) (t : Sheet) : Type 0 where
  pub short : length s ≤ 60000
  pub past : ℕ
  pub read : sheet_at s 0 ≡ found t past
  pub small : SmallSheet t

pub accepted_is : (s : List ℕ) (t : Sheet) → (outcome s ≡ accepted t) ↔ Accepted s t
accepted_is s t = (λ e. to (outcome s) (decided s) e, λ a. outcome_is s (good a.short a.read a.small))
  where
    to : (v : Verdict Sheet) → Decided s v → v ≡ accepted t → Accepted s t
    to v (too_long l) e = not_accepted e
    to v (bad_record l q n) e = not_accepted e
    to v (too_big_lem l q b) e = not_accepted e
    to v (good {t = u} {past = past} l q b) e = subst (Accepted s) (accepted_same e) (record { short = l; past = past; read = q; small = b })
