-- What document 01 says of the routines of a sheet when one more is read after them.
use Prim.Native.Nat.{ℕ, zero, suc, ◌+◌, ◌<◌}
use mathlib.Core.Path.{◌≡◌, refl, sym, ap, ap₂, ◌∙◌}
use mathlib.Core.Bool.{Bool, true, false}
use mathlib.Core.List.{List, [], ◌∷◌, ◌++◌, append_assoc, append-nil}
use lib.ListN.{length, take, length-append}
use lib.Seq.{take-append-le, take_at, take_all, get_or_at}
use lib.Dec.{ltb, eqb}
use borrow.Author.Tests.{ltb-true, ltb-false, lt-ltb, le-ltb, eqb-true, eqb-false, ne_eqb}
use native.Mathlib.Omega.{arith}
use native.Mathlib.Nat.{lt_of_not-le}
use Rattle.std.specs.Option.{option_or}
use Rattle.meaning.specs.Tree.{Construct, timed_loop, Routine, Sheet, numbered}
use Rattle.meaning.specs.Format.{pick, routine_bytes, routines_bytes}
use Rattle.meaning.specs.Value.{Known, value, bound, knowing, bounds, nothing, bounds_of, task_bound}
use Rattle.meaning.specs.Answer.{ended, ended_routines, accepted, routine_place, empty_part, part_in}
use Rattle.bridge.proofs.Agree.{over_in}
use Rattle.bridge.proofs.Ends.{big_append}

-- a routine adds up, and its records end, as a timed loop of its organisation and its body
abbrev pub as_loop : Routine → Construct
as_loop r = timed_loop (record { time = r.organisation }) r.body

-- it is read from a place up to another
abbrev pub Long : ℕ → Routine → ℕ → Type 0
Long at r past = past ≡ at + length (routine_bytes r)

-- how long routines are
abbrev size_of : List Routine → ℕ
size_of rs = length (routines_bytes rs)

-- the place past the sheet record, of 12 bytes, and these routines
abbrev pub place_after : List Routine → ℕ
place_after rs = 12 + size_of rs

-- the sheet of these routines
abbrev pub sheet_with : ℕ → List Routine → Sheet
sheet_with edition rs = record { edition = edition; routines = rs }

module _ (r : Routine) where
  abbrev pub more : List Routine → List Routine
  more rs = rs ++ (r ∷ [])

  pub length_more : (rs : List Routine) → length (more rs) ≡ suc (length rs)
  length_more [] = refl
  length_more (x ∷ rs) = ap suc (length_more rs)

  pub place_more : (rs : List Routine) → place_after (more rs) ≡ place_after rs + length (routine_bytes r)
  unfolding routines_bytes
  place_more [] = rw append-nil (omega arith)
  place_more (x ∷ rs) =
      let a = length-append (routine_bytes x) (routines_bytes (more rs)) in
      let b = length-append (routine_bytes x) (routines_bytes rs) in
      let c = place_more rs in
      omega arith

  pub bounds_more : (rs : List Routine) (known : Known) → bounds known (more rs) ≡ knowing (bounds known rs) (value (bounds known rs) (as_loop r))
  unfolding bounds bound value
  bounds_more [] known = refl
  bounds_more (x ∷ rs) known = bounds_more rs (knowing known (bound known x))

  -- the records of the one more end after those of the others
  ended_more : (rs : List Routine) (known : Known) (at : ℕ) →
      ended_routines known at (more rs) ≡ ended_routines known at rs ++ ended (bounds known rs) (at + size_of rs) (as_loop r)
  unfolding ended_routines ended bounds bound value routines_bytes
  ended_more [] known at = let e : at + 0 ≡ at = omega arith in rw (e, append-nil)
  ended_more (x ∷ rs) known at =
      let l = length-append (routine_bytes x) (routines_bytes rs) in
      let e : at + length (routine_bytes x) + size_of rs ≡ at + length (routine_bytes x ++ routines_bytes rs) = omega arith in
      rw (ended_more rs (knowing known (bound known x)) (at + length (routine_bytes x)), e) (sym (append_assoc (ended known at (as_loop x)) _ _))

  pub too_big_more : (rs : List Routine) (known : Known) (at : ℕ) →
      over_in (ended_routines known at (more rs)) ≡ option_or (over_in (ended_routines known at rs)) (over_in (ended (bounds known rs) (at + size_of rs) (as_loop r)))
  too_big_more rs known at = ap over_in (ended_more rs known at) ∙ big_append (ended_routines known at rs) _

  -- the task is the last routine
  pub task_more : (edition : ℕ) (rs : List Routine) → length (bounds_of (sheet_with edition rs)) ≡ length rs →
      task_bound (sheet_with edition (more rs)) ≡ value (bounds nothing rs) (as_loop r)
  task_more edition rs n =
      ap₂ (λ known k. numbered known.bounds k 0) (bounds_more rs nothing) (length_more rs)
      ∙ get_or_at (bounds_of (sheet_with edition rs)) (value (bounds nothing rs) (as_loop r)) [] 0 (length rs) n

  -- where the one more is asked for, its part is the new one
  pub part_more : (s : List ℕ) (edition : ℕ) (rs : List Routine) (number : ℕ) → part_in s (accepted (sheet_with edition (more rs))) number ≡
      pick (eqb (length rs + 1) number) (record { start = place_after rs; stop = place_after (more rs) }) (part_in s (accepted (sheet_with edition rs)) number)
  part_more s edition rs zero = rw (ne_eqb (length rs + 1) 0 (λ c. omega arith))
  part_more s edition rs (suc i) = by_number (eqb (length rs + 1) (suc i)) (ltb i (length rs)) refl refl
    where
      places : {start stop : List Routine} → i < length (more rs) → take i (more rs) ≡ start → take (suc i) (more rs) ≡ stop →
          part_in s (accepted (sheet_with edition (more rs))) (suc i) ≡ record { start = place_after start; stop = place_after stop }
      places h p q = rw (lt-ltb i (length (more rs)) h) (ap₂ (λ a b. record { start = place_after a; stop = place_after b }) p q)

      by_number : (t u : Bool) → eqb (length rs + 1) (suc i) ≡ t → ltb i (length rs) ≡ u → part_in s (accepted (sheet_with edition (more rs))) (suc i) ≡
          pick t (record { start = place_after rs; stop = place_after (more rs) })
          (pick u (record { start = routine_place (sheet_with edition rs) i; stop = routine_place (sheet_with edition rs) (suc i) }) (empty_part s))
      by_number true u p q =
          let n = length_more rs in
          let h = eqb-true (length rs + 1) (suc i) p in
          places (omega arith) (take_at rs (r ∷ []) i (omega arith)) (take_all (suc i) (more rs) (omega arith))
      by_number false true p q =
          let n = length_more rs in
          let h = ltb-true i (length rs) q in
          places (omega arith) (take-append-le i rs (r ∷ []) (omega arith)) (take-append-le (suc i) rs (r ∷ []) h)
      by_number false false p q =
          let n = length_more rs in
          let h = ltb-false i (length rs) q in
          let k : length rs < i = lt_of_not-le (λ c. eqb-false (length rs + 1) (suc i) p (omega arith)) in
          rw (le-ltb i (length (more rs)) (omega arith))
