-- The bytes of a legal sheet are bytes: each number is below 256.
use Prim.Native.Nat.{ℕ, zero, suc, ◌+◌, ◌≤◌, ◌<◌}
use mathlib.Core.Path.{◌≡◌, refl}
use mathlib.Core.Bool.{true, false≢true}
use mathlib.Core.List.{List, [], ◌∷◌, ◌++◌}
use lib.ListN.{length, get_or}
use native.Mathlib.Omega.{arith}
use Rattle.meaning.specs.Tree.{Construct, Constructs, Routine, Sheet}
use Rattle.meaning.specs.Tree.{primitive, sequence, alternative, head_loop, tail_loop, timed_loop, call, marker, end, ◌then◌}
use Rattle.meaning.specs.Format.{Range, Row, sheet_rows, routine_rows, construct_rows, listed, within, length_of, in_ranges, Record, InRange, of}
use Rattle.meaning.specs.Format.{record_of, routine_record, sheet_record, half, word, words, record_bytes, bytes, bytes_in, routine_bytes, routines_bytes, bytes_of}
use Rattle.meaning.specs.Legal.{Reach, Legal, Legals, LegalRoutines, LegalSheet}
use Rattle.meaning.proofs.Laws.{pick_true, within_is, in_ranges_length}
use Rattle.demands.proofs.Span.{AreBytes}
use Rattle.demands.proofs.Records.{Each, by_rows}

-- none; one more; one after the other
are_none : AreBytes []
are_none = record { byte = λ i. omega arith }

are_more : {x : ℕ} {xs : List ℕ} → x < 256 → AreBytes xs → AreBytes (x ∷ xs)
are_more {x} {xs} h k = record { byte = go }
  where
    go : (i : ℕ) → get_or (x ∷ xs) i 0 < 256
    go zero = h
    go (suc i) = k.byte i

are_then : {xs ys : List ℕ} → AreBytes xs → AreBytes ys → AreBytes (xs ++ ys)
are_then {xs = []} h k = k
are_then {xs = x ∷ xs} h k = are_more (h.byte 0) (are_then {xs = xs} (record { byte = λ i. h.byte (suc i) }) k)

are_half : (n : ℕ) → n < 65536 → AreBytes (half n)
are_half n h = are_more (omega arith) (are_more (omega arith) are_none)

are_word : (n : ℕ) → n ≤ 4294967295 → AreBytes (word n)
are_word n h = are_more (omega arith) (are_more (omega arith) (are_more (omega arith) (are_more (omega arith) are_none)))

-- ranges of at most 32 bits
abbrev Wide : List Range → Type 0
Wide [] = Unit {0}
Wide (r ∷ rs) = (r.most ≤ 4294967295) × Wide rs

are_fields : (ranges : List Range) (fields : List ℕ) → Wide ranges → in_ranges ranges fields ≡ true → AreBytes (words fields)
unfolding in_ranges words
are_fields [] [] w h = are_none
are_fields [] (x ∷ xs) w h = absurd (false≢true h)
are_fields (r ∷ rs) [] w h = absurd (false≢true h)
are_fields (r ∷ rs) (x ∷ xs) w h =
    let (a, b) = pick_true (within r x) _ h in
    let small = (within_is r x a).1 in
    are_then (are_word x (omega arith)) (are_fields rs xs w.1 b)

-- a record of a row whose kind has two bytes, and which is short
abbrev WideRows : List Row → Type 0
WideRows [] = Unit {0}
WideRows (r ∷ rs) = (r.kind < 65536) × (length r.ranges ≤ 16) × Wide r.ranges × WideRows rs

wide_rows : (rows : List Row) → WideRows rows → Each (λ x. AreBytes (record_bytes x)) rows
unfolding record_bytes
wide_rows [] w = tt
wide_rows (r ∷ rs) w = (one_row, wide_rows rs w.3)
  where
    one_row : (fields : List ℕ) → in_ranges r.ranges fields ≡ true → AreBytes (record_bytes (of r.kind fields))
    one_row fields h =
        let short = w.1 in
        let n = in_ranges_length r.ranges fields h in
        are_then (are_half (length_of (length fields)) (omega arith)) (are_then (are_half r.kind w.0) (are_fields r.ranges fields w.2 h))

are_record : (rows : List Row) → WideRows rows → (x : Record) → listed x.kind rows ≡ true → InRange rows x → AreBytes (record_bytes x)
are_record rows w = by_rows (λ x. AreBytes (record_bytes x)) rows (wide_rows rows w)

are_head : (c : Construct) → listed (record_of c).kind construct_rows ≡ true → InRange construct_rows (record_of c) → AreBytes (record_bytes (record_of c))
are_head c = are_record construct_rows (omega arith) (record_of c)

-- constructs, routines and the sheet
mutual
  unfolding bytes listed

  are : (before depth : ℕ) (r : Reach) (c : Construct) → Legal before depth r c → AreBytes (bytes c)
  are before depth r (primitive p) h = are_head (primitive p) refl h.0
  are before depth r (sequence cs) h = are_then (are_head (sequence cs) refl h.0.0) (are_in before (suc depth) _ _ cs h.1)
  are before depth r (alternative c bs) h =
      are_then (are_head (alternative c bs) refl h.0.0) (are_then (are before (suc depth) _ c h.1) (are_in before (suc depth) _ _ bs h.2))
  are before depth r (head_loop l i c b o) h =
      are_then (are_head (head_loop l i c b o) refl h.0.0)
      (are_then (are before (suc depth) _ i h.1)
      (are_then (are before (suc depth) _ c h.2)
      (are_then (are before (suc depth) _ b h.3) (are before (suc depth) _ o h.4))))
  are before depth r (tail_loop l b c o) h =
      are_then (are_head (tail_loop l b c o) refl h.0.0)
      (are_then (are before (suc depth) _ b h.1) (are_then (are before (suc depth) _ c h.2) (are before (suc depth) _ o h.3)))
  are before depth r (timed_loop w o) h = are_then (are_head (timed_loop w o) refl h.0.0) (are before (suc depth) _ o h.1)
  are before depth r (call k) h = are_head (call k) refl h.0.0
  are before depth r (marker m) h = are_head (marker m) refl h.0.0

  are_in : (before depth : ℕ) (f l : Reach) (cs : Constructs) → Legals before depth f l cs → AreBytes (bytes_in cs)
  are_in before depth f l end h = are_none
  are_in before depth f l (c then cs) h = are_then (are before depth f c h.0) (are_in before depth l l cs h.1)

are_routines : (before : ℕ) (rs : List Routine) → LegalRoutines before rs → AreBytes (routines_bytes rs)
unfolding routines_bytes routine_bytes listed
are_routines before [] h = are_none
are_routines before (r ∷ rs) h =
    let own = are_record routine_rows (omega arith) (routine_record r) refl h.0 in
    are_then (are_then own (are before 1 _ r.body h.1)) (are_routines (before + 1) rs h.2)

pub are_bytes : (t : Sheet) → LegalSheet t → AreBytes (bytes_of t)
unfolding bytes_of listed
are_bytes t h = are_then (are_record sheet_rows (omega arith) (sheet_record t) refl h.0) (are_routines 0 t.routines h.1)
