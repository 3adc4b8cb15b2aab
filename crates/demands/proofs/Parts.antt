-- The routine part of an accepted sheet is the bytes of that routine; any other is empty, at the sheet's end.
use Prim.Native.Nat.{ℕ, zero, suc, ◌+◌, ◌-◌, ◌<◌, ◌≤◌}
use mathlib.Core.Path.{◌≡◌, refl, sym, ap, ◌∙◌}
use mathlib.Core.Bool.{Bool, true, false}
use mathlib.Core.List.{List, [], ◌∷◌, ◌++◌, append_assoc, append-nil}
use lib.ListN.{length, get_or, take, drop, length-append}
use lib.Seq.{take-suc, split_at, take_at, drop_at}
use lib.Dec.{ltb}
use borrow.Author.Tests.{ltb-true, lt-ltb, le-ltb}
use native.Mathlib.Omega.{arith}
use native.Mathlib.Nat.{lt_of_not-le}
use Rattle.meaning.specs.Tree.{Routine, Sheet, sequence, end}
use Rattle.meaning.specs.Format.{pick, sheet_record, record_bytes, routine_bytes, routines_bytes, bytes_of}
use Rattle.meaning.specs.Answer.{Verdict, accepted, refused, outcome, empty_part, routine_place, part_in, part_of, routine_part}
use Rattle.meaning.proofs.Laws.{length_record}
use Rattle.demands.proofs.Span.{AreBytes}
use Rattle.demands.proofs.RoundTrip.{accepted_good}

append_routines : (xs ys : List Routine) → routines_bytes (xs ++ ys) ≡ routines_bytes xs ++ routines_bytes ys
unfolding routines_bytes
append_routines [] ys = refl
append_routines (x ∷ xs) ys = rw (append_routines xs ys, append_assoc)

-- the routines before one, that one, and those behind it
split : (rs : List Routine) (i : ℕ) (other : Routine) → i < length rs →
    routines_bytes rs ≡ routines_bytes (take i rs) ++ (routine_bytes (get_or rs i other) ++ routines_bytes (drop (suc i) rs))
unfolding routines_bytes
split rs i other h = ap routines_bytes (split_at rs i other h) ∙ append_routines (take i rs) (get_or rs i other ∷ drop (suc i) rs)

long : (rs : List Routine) (i : ℕ) (other : Routine) → i < length rs →
    length (routines_bytes (take (suc i) rs)) ≡ length (routines_bytes (take i rs)) + length (routine_bytes (get_or rs i other))
unfolding routines_bytes
long rs i other h =
    let r = get_or rs i other in
    ap (λ z. length (routines_bytes z)) (take-suc rs i other h) ∙ ap length (append_routines (take i rs) (r ∷ []))
    ∙ length-append (routines_bytes (take i rs)) (routine_bytes r ++ [])
    ∙ ap (λ z. length (routines_bytes (take i rs)) + length z) (append-nil (routine_bytes r))

pub part_is : (s : List ℕ) → AreBytes s → (t : Sheet) → outcome s ≡ accepted t → (i : ℕ) (other : Routine) → i < length t.routines →
    routine_part s (suc i) ≡ routine_bytes (get_or t.routines i other)
unfolding routine_part part_of bytes_of
part_is s are t e i other h =
    let rs = t.routines in
    let r = get_or rs i other in
    let first = record_bytes (sheet_record t) in
    let before = routines_bytes (take i rs) in
    let behind = routine_bytes r ++ routines_bytes (drop (suc i) rs) in
    let all : s ≡ (first ++ before) ++ behind = (accepted_good s t e).same are ∙ ap (λ z. first ++ z) (split rs i other h) ∙ sym (append_assoc first before behind) in
    let a = length-append first before in
    let b = length_record (sheet_record t) in
    let c = long rs i other h in
    let size : length (routine_bytes r) ≡ routine_place t (suc i) - routine_place t i = omega arith in
    rw (e, lt-ltb i (length rs) h)
    (ap (λ z. take (routine_place t (suc i) - routine_place t i) (drop (routine_place t i) z)) all
    ∙ ap (λ z. take (routine_place t (suc i) - routine_place t i) z) (drop_at (first ++ before) behind (routine_place t i) (omega arith))
    ∙ take_at (routine_bytes r) (routines_bytes (drop (suc i) rs)) (routine_place t (suc i) - routine_place t i) size)

-- any other: of a refused sheet, or of a number outside 1 to the count
pub no_part : (s : List ℕ) (number : ℕ) → ((t : Sheet) → outcome s ≡ accepted t → 1 ≤ number → number ≤ length t.routines → ⊥) →
    (part_of s number ≡ empty_part s) × (routine_part s number ≡ [])
unfolding routine_part part_of
no_part s number none =
    let e = go (outcome s) number none in
    let z : length s - length s ≡ 0 = omega arith in
    (e, rw (e, z))
  where
    go : (v : Verdict Sheet) (k : ℕ) → ((t : Sheet) → v ≡ accepted t → 1 ≤ k → k ≤ length t.routines → ⊥) → part_in s v k ≡ empty_part s
    go (accepted t) zero none = refl
    go (accepted t) (suc i) none = let h = lt_of_not-le (none t refl (omega arith)) in rw (le-ltb i (length t.routines) (omega arith))
    go (refused n p) k none = refl

-- a part lies in the sheet
nobody : Routine
nobody = record { organisation = 0; body = sequence end }

between : (s : List ℕ) → AreBytes s → (t : Sheet) → outcome s ≡ accepted t → (i : ℕ) → i < length t.routines →
    (routine_place t i ≤ routine_place t (suc i)) × (routine_place t (suc i) ≤ length s)
unfolding bytes_of
between s are t e i h =
    let rs = t.routines in
    let before = routines_bytes (take i rs) in
    let r = routine_bytes (get_or rs i nobody) in
    let behind = routines_bytes (drop (suc i) rs) in
    let all = ap length ((accepted_good s t e).same are) in
    let a = length-append (record_bytes (sheet_record t)) (routines_bytes rs) in
    let b = length_record (sheet_record t) in
    let c = long rs i nobody h in
    let d = ap length (split rs i nobody h) in
    let f = length-append before (r ++ behind) in
    let g = length-append r behind in
    (omega arith, omega arith)

pub part_inside : (s : List ℕ) → AreBytes s → (number : ℕ) → ((part_of s number).start ≤ (part_of s number).stop) × ((part_of s number).stop ≤ length s)
unfolding part_of
part_inside s are number = go (outcome s) refl number
  where
    go : (v : Verdict Sheet) → outcome s ≡ v → (k : ℕ) → ((part_in s v k).start ≤ (part_in s v k).stop) × ((part_in s v k).stop ≤ length s)
    go (accepted t) e zero = (omega arith, omega arith)
    go (accepted t) e (suc i) = by (ltb i (length t.routines)) refl
      where
        by : (x : Bool) → ltb i (length t.routines) ≡ x →
            ((pick x (record { start = routine_place t i; stop = routine_place t (suc i) }) (empty_part s)).start
            ≤ (pick x (record { start = routine_place t i; stop = routine_place t (suc i) }) (empty_part s)).stop)
            × ((pick x (record { start = routine_place t i; stop = routine_place t (suc i) }) (empty_part s)).stop ≤ length s)
        by true u = between s are t e i (ltb-true i (length t.routines) u)
        by false u = (omega arith, omega arith)
    go (refused n p) e k = (omega arith, omega arith)
