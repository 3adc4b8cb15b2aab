-- Request L2 of document 02: the valuing that counts comes to document 01's values, values each construct once, and so counts the sheet's
-- construct records.
use Prim.Native.Nat.{ℕ, ◌+◌, ◌*◌, ◌≤◌}
use mathlib.Core.Path.{◌≡◌, refl, sym, ◌∙◌}
use mathlib.Core.Bool.{true, false}
use mathlib.Core.List.{List, [], ◌∷◌, ◌++◌, append-nil, append_assoc}
use lib.ListN.{length, length-append}
use native.Mathlib.Omega.{arith}
use Rattle.meaning.specs.Tree.{Construct, Constructs, Routine, Sheet}
use Rattle.meaning.specs.Tree.{primitive, sequence, alternative, head_loop, tail_loop, timed_loop, call, marker, end, ◌then◌}
use Rattle.meaning.specs.Format.{construct_rows, listed, Record, record_of, routine_record, sheet_record, record_bytes, bytes, bytes_in}
use Rattle.meaning.specs.Format.{routine_bytes, routines_bytes, bytes_of}
use Rattle.meaning.specs.Value.{Known, value, sum, largest, marked_in, charges, charges_in, bound, bounds, knowing, nothing}
use Rattle.meaning.specs.Work.{worth, sum_of, largest_of, marked_of, charges_of, valuing, valuings, valuing_routine, valuing_routines, valuing_sheet}
use Rattle.meaning.specs.Work.{records, records_in, routines_records, records_of, construct_records, all_bytes}
use Rattle.meaning.proofs.Laws.{length_record}

-- what the constructs of a list are worth, as their owner asks it
record Worths (known : Known) (cs : Constructs) : Type 0 where
  total : sum_of (valuings known cs).is ≡ sum known cs
  plain : largest_of (valuings known cs).is ≡ largest known cs
  limited : (n : ℕ) → marked_of n (valuings known cs).is ≡ marked_in known n cs
  inside : charges_of (valuings known cs).is ≡ charges_in known cs

mutual
  unfolding valuing valuings sum_of largest_of marked_of charges_of value sum largest marked_in charges charges_in

  pub worth_is : (known : Known) (c : Construct) → (valuing known c).is ≡ worth c (value known c) (charges known c)
  worth_is known (primitive p) = refl
  worth_is known (sequence cs) = let ws = worths_are known cs in rw (ws.total, ws.inside)
  worth_is known (alternative c bs) =
      let ws = worths_are known bs in
      rw (worth_is known c, ws.plain, ws.limited (largest known bs), ws.inside)
  worth_is known (head_loop l i c b o) = rw (worth_is known i, worth_is known c, worth_is known b, worth_is known o)
  worth_is known (tail_loop l b c o) = rw (worth_is known b, worth_is known c, worth_is known o)
  worth_is known (timed_loop w o) = rw (worth_is known o)
  worth_is known (call k) = refl
  worth_is known (marker m) = refl

  worths_are : (known : Known) (cs : Constructs) → Worths known cs
  worths_are known end = record { total = refl; plain = refl; limited = λ n. refl; inside = refl }
  worths_are known (c then cs) =
      let w = worth_is known c in
      let ws = worths_are known cs in
      record { total = rw (w, ws.total); plain = rw (w, ws.plain); limited = λ n. rw (w, ws.limited n); inside = rw (w, ws.inside) }

-- each construct is valued once: as often as it has a record
mutual
  unfolding valuing valuings records records_in

  pub valued_once : (known : Known) (c : Construct) → (valuing known c).constructs ≡ length (records c)
  valued_once known (primitive p) = refl
  valued_once known (sequence cs) = let a = list_valued known cs in omega arith
  valued_once known (alternative c bs) = let a = valued_once known c in let b = list_valued known bs in simp length-append (omega arith)
  valued_once known (head_loop l i c b o) =
      let w = valued_once known i in
      let x = valued_once known c in
      let y = valued_once known b in
      let z = valued_once known o in
      simp length-append (omega arith)
  valued_once known (tail_loop l b c o) =
      let x = valued_once known b in
      let y = valued_once known c in
      let z = valued_once known o in
      simp length-append (omega arith)
  valued_once known (timed_loop w o) = let a = valued_once known o in omega arith
  valued_once known (call k) = refl
  valued_once known (marker m) = refl

  pub list_valued : (known : Known) (cs : Constructs) → (valuings known cs).constructs ≡ length (records_in cs)
  list_valued known end = refl
  list_valued known (c then cs) = let a = valued_once known c in let b = list_valued known cs in simp length-append (omega arith)

-- a routine and its bound; routines in order
routine_valued : (known : Known) (r : Routine) → (valuing_routine known r).is ≡ bound known r
unfolding valuing_routine bound
routine_valued known r = rw (worth_is known r.body)

pub bounds_valued : (known : Known) (rs : List Routine) → (valuing_routines known rs).is ≡ bounds known rs
unfolding valuing_routines bounds
bounds_valued known [] = refl
bounds_valued known (r ∷ rs) = rw (routine_valued known r) (bounds_valued (knowing known (bound known r)) rs)

-- a routine after the others counts the constructs of its body
pub one_more :
    (known : Known) (rs : List Routine) (r : Routine) →
    (valuing_routines known (rs ++ (r ∷ []))).constructs ≡ (valuing_routines known rs).constructs + length (records r.body)
unfolding valuing_routines valuing_routine
one_more known [] r = let a = valued_once known r.body in omega arith
one_more known (x ∷ xs) r = let a = one_more (knowing known (valuing_routine known x).is) xs r in omega arith

-- the records of the bodies of routines
bodies : List Routine → List Record
bodies [] = []
bodies (r ∷ rs) = records r.body ++ bodies rs

routines_valued : (known : Known) (rs : List Routine) → (valuing_routines known rs).constructs ≡ length (bodies rs)
unfolding valuing_routines valuing_routine bodies
routines_valued known [] = refl
routines_valued known (r ∷ rs) =
    let a = valued_once known r.body in
    let b = routines_valued (knowing known (valuing_routine known r).is) rs in
    simp length-append (omega arith)

-- Bytes xs that are the records rs one after another: as many of them are construct records as cs has, with at least 8 bytes each.
record Stand (cs rs : List Record) (xs : List ℕ) : Type 0 where
  same : xs ≡ all_bytes rs
  many : construct_records rs ≡ length cs
  long : 8 * length cs ≤ length xs

stand_none : Stand [] [] []
unfolding all_bytes construct_records
stand_none = record { same = refl; many = refl; long = omega arith }

-- a construct record, which has a field; any other record
stand_one : (r : Record) → listed r.kind construct_rows ≡ true → 1 ≤ length r.fields → Stand (r ∷ []) (r ∷ []) (record_bytes r)
unfolding all_bytes construct_records
stand_one r e h = record { same = sym (append-nil (record_bytes r)); many = rw e refl; long = (let n = length_record r in omega arith) }

stand_other : (r : Record) → listed r.kind construct_rows ≡ false → Stand [] (r ∷ []) (record_bytes r)
unfolding all_bytes construct_records
stand_other r e = record { same = sym (append-nil (record_bytes r)); many = rw e refl; long = omega arith }

-- one after the other
bytes_append : (rs ss : List Record) → all_bytes (rs ++ ss) ≡ all_bytes rs ++ all_bytes ss
unfolding all_bytes
bytes_append [] ss = refl
bytes_append (r ∷ rs) ss = rw (bytes_append rs ss, append_assoc)

count_append : (rs ss : List Record) → construct_records (rs ++ ss) ≡ construct_records rs + construct_records ss
unfolding construct_records
count_append [] ss = omega arith
count_append (r ∷ rs) ss = let a = count_append rs ss in omega arith

stand_then : {cs rs ds ss : List Record} {xs ys : List ℕ} → Stand cs rs xs → Stand ds ss ys → Stand (cs ++ ds) (rs ++ ss) (xs ++ ys)
stand_then {rs = rs} {ss = ss} x y = record {
  same = rw (x.same, y.same) (sym (bytes_append rs ss));
  many = (let a = x.many in let b = y.many in simp (count_append, length-append) (omega arith));
  long = (let a = x.long in let b = y.long in simp length-append (omega arith));
}

-- the records of a construct are all of constructs
mutual
  unfolding records records_in bytes bytes_in listed

  stands : (c : Construct) → Stand (records c) (records c) (bytes c)
  stands (primitive p) = stand_one (record_of (primitive p)) refl (omega arith)
  stands (sequence cs) = stand_then (stand_one (record_of (sequence cs)) refl (omega arith)) (all_stand cs)
  stands (alternative c bs) = stand_then (stand_one (record_of (alternative c bs)) refl (omega arith)) (stand_then (stands c) (all_stand bs))
  stands (head_loop l i c b o) =
      stand_then (stand_one (record_of (head_loop l i c b o)) refl (omega arith))
      (stand_then (stands i) (stand_then (stands c) (stand_then (stands b) (stands o))))
  stands (tail_loop l b c o) =
      stand_then (stand_one (record_of (tail_loop l b c o)) refl (omega arith)) (stand_then (stands b) (stand_then (stands c) (stands o)))
  stands (timed_loop w o) = stand_then (stand_one (record_of (timed_loop w o)) refl (omega arith)) (stands o)
  stands (call k) = stand_one (record_of (call k)) refl (omega arith)
  stands (marker m) = stand_one (record_of (marker m)) refl (omega arith)

  all_stand : (cs : Constructs) → Stand (records_in cs) (records_in cs) (bytes_in cs)
  all_stand end = stand_none
  all_stand (c then cs) = stand_then (stands c) (all_stand cs)

routines_stand : (rs : List Routine) → Stand (bodies rs) (routines_records rs) (routines_bytes rs)
unfolding bodies routines_records routine_bytes routines_bytes listed
routines_stand [] = stand_none
routines_stand (r ∷ rs) = stand_then (stand_then (stand_other (routine_record r) refl) (stands r.body)) (routines_stand rs)

sheet_stands : (s : Sheet) → Stand (bodies s.routines) (records_of s) (bytes_of s)
unfolding bytes_of listed
sheet_stands s = stand_then (stand_other (sheet_record s) refl) (routines_stand s.routines)

-- "Prove that it equals the number of construct records and is at most (bytes - 12) / 8."
pub counts_records : (s : Sheet) → (valuing_sheet s).constructs ≡ construct_records (records_of s)
counts_records s = routines_valued nothing s.routines ∙ sym (sheet_stands s).many

pub records_stand : (s : Sheet) → bytes_of s ≡ all_bytes (records_of s)
records_stand s = (sheet_stands s).same

pub most : (s : Sheet) → 12 + 8 * (valuing_sheet s).constructs ≤ length (bytes_of s)
unfolding bytes_of
most s =
    let a = routines_valued nothing s.routines in
    let b = (routines_stand s.routines).long in
    let n = length_record (sheet_record s) in
    simp length-append (omega arith)
