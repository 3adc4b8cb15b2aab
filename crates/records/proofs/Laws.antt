-- Laws of tests, and of the fields that are read: when they are there, and what they are.
use Prim.Native.Nat.{ℕ, ◌+◌, ◌*◌, ◌-◌, ◌/◌, ◌%◌, ◌≤◌, ◌<◌}
use mathlib.Core.Path.{◌≡◌, refl, sym, ap}
use mathlib.Core.Bool.{Bool, true, false}
use mathlib.Core.List.{List}
use mir.Syntax.{w8}
use mir.Val.{Fits}
use lib.ListN.{length, get_or, drop, length-drop}
use lib.Seq.{get_or-drop, drop-drop}
use lib.Dec.{ltb}
use native.Mathlib.Omega.{arith}
use borrow.Author.Tests.{ltb-true, ltb-false, lt-ltb, le-ltb}
use Rattle.meaning.specs.Format.{pick}
use Rattle.meaning.specs.Judgement.{two, four}
use Rattle.std.specs.Prelude.{Option, Some, None}
use Rattle.records.specs.declared.Cursor.{Cursor}
use Rattle.records.specs.declared.Fields.{Fields}
use Rattle.records.specs.Steps.{field_at, all_fields, with_second, with_first, fields_at}

-- a test; two tests that hold together
pub itself : (t : Bool) → pick t true false ≡ t
itself true = refl
itself false = refl

same : (a b : Bool) → (a ≡ true → b ≡ true) → (b ≡ true → a ≡ true) → a ≡ b
same true b h k = sym (h refl)
same false true h k = k refl
same false false h k = refl

-- the parts of a pair that is read twice
pub parts : {A B : Type 0} {p q : A × B} → Some p ≡ Some q → (p.0 ≡ q.0) × (p.1 ≡ q.1)
parts {A} {B} {p} {q} e = let same : p ≡ q = cc in (ap (λ (z : A × B). z.0) same, ap (λ (z : A × B). z.1) same)

-- as many bytes are left past the next k as there are before them, and k more
pub left_short : (s : List ℕ) (at k n : ℕ) → 1 ≤ n → ltb (length (drop (at + k) s)) n ≡ ltb (length (drop at s)) (k + n)
left_short s at k n h =
    let a = length-drop (at + k) s in
    let b = length-drop at s in
    same (ltb (length (drop (at + k) s)) n) (ltb (length (drop at s)) (k + n))
    (λ e. let l = ltb-true (length (drop (at + k) s)) n e in lt-ltb (length (drop at s)) (k + n) (omega arith))
    (λ e. let l = ltb-true (length (drop at s)) (k + n) e in lt-ltb (length (drop (at + k) s)) n (omega arith))

-- a field that is cut, or there
abbrev some_at : ℕ → ℕ → Option (ℕ × Cursor)
some_at v next = Some (v, record { at = next })

pub field_short : (s : List ℕ) (at : ℕ) → length s - at < 4 → None ≡ field_at s at
unfolding field_at
field_short s at h = let l = length-drop at s in simp (lt-ltb (length (drop at s)) 4 (omega arith))

pub field_made : (s : List ℕ) (at : ℕ) {v : ℕ} → 4 ≤ length s - at →
    v ≡ get_or s at 0 + get_or s (at + 1) 0 * 256 + get_or s (at + 2) 0 * 65536 + get_or s (at + 3) 0 * 16777216 → some_at v (at + 4) ≡ field_at s at
unfolding field_at four two
field_made s at {v} h e =
    let l = length-drop at s in
    let zero : at + 0 ≡ at = omega arith in
    let two : at + 2 + 0 ≡ at + 2 = omega arith in
    let three : at + 2 + 1 ≡ at + 3 = omega arith in
    rw (le-ltb (length (drop at s)) 4 (omega arith))
    (ap (λ z. some_at z (at + 4)) (simp (drop-drop, get_or-drop, zero, two, three) (omega arith)))

pub field_past : (s : List ℕ) (at : ℕ) {v : ℕ} {c : Cursor} → field_at s at ≡ Some (v, c) → c.at ≤ length s
unfolding field_at
field_past s at {v} {c} = go (ltb (length (drop at s)) 4) refl
  where
    go : (t : Bool) → ltb (length (drop at s)) 4 ≡ t → pick t None (some_at (four (drop at s)) (at + 4)) ≡ Some (v, c) → c.at ≤ length s
    go true e h = cc
    go false e h =
        let l = length-drop at s in
        let k = ltb-false (length (drop at s)) 4 e in
        let p : at + 4 ≡ c.at = ap (λ (z : Cursor). z.at) (parts h).1 in
        omega arith

-- four bytes are below 2^32
pub field_most : (s : List ℕ) (at : ℕ) → ((i : ℕ) → Fits w8 (get_or s i 0)) → {v : ℕ} {c : Cursor} → Some (v, c) ≡ field_at s at → v ≤ 4294967295
unfolding field_at four two
field_most s at are {v} {c} = go (ltb (length (drop at s)) 4)
  where
    go : (t : Bool) → Some (v, c) ≡ pick t None (some_at (four (drop at s)) (at + 4)) → v ≤ 4294967295
    go true h = cc
    go false h =
        let b0 = are (at + 0) in
        let b1 = are (at + 1) in
        let b2 = are (at + 2 + 0) in
        let b3 = are (at + 2 + 1) in
        rw (parts h).0 (simp (drop-drop, get_or-drop) (omega arith))

-- the field is there, or cut; both fields are there, or one of them is cut
pub fields_one : (s : List ℕ) (at : ℕ) → fields_at s at false ≡ pick (ltb (length (drop at s)) 4) None (all_fields (four (drop at s)) 0 (record { at = at + 4 }))
unfolding fields_at field_at
fields_one s at = go (ltb (length (drop at s)) 4) _ _
  where
    go : (t : Bool) (v : ℕ) (c : Cursor) → with_first s false (pick t None (Some (v, c))) ≡ pick t None (all_fields v 0 c)
    go true v c = refl
    go false v c = refl

pub fields_both : (s : List ℕ) (at : ℕ) → fields_at s at true ≡
    pick (ltb (length (drop at s)) 8) None (all_fields (four (drop at s)) (four (drop 4 (drop at s))) (record { at = at + 8 }))
unfolding fields_at field_at
fields_both s at = go (ltb (length (drop at s)) 4) refl
  where
    later : (t : Bool) (v w : ℕ) (c : Cursor) → with_second v (pick t None (Some (w, c))) ≡ pick t None (all_fields v w c)
    later true v w c = refl
    later false v w c = refl

    go : (t : Bool) → ltb (length (drop at s)) 4 ≡ t →
        with_first s true (pick t None (Some (four (drop at s), record { at = at + 4 }))) ≡
        pick (ltb (length (drop at s)) 8) None (all_fields (four (drop at s)) (four (drop 4 (drop at s))) (record { at = at + 8 }))
    go true e = let l = ltb-true (length (drop at s)) 4 e in rw (lt-ltb (length (drop at s)) 8 (omega arith))
    go false e =
        let past : at + 4 + 4 ≡ at + 8 = omega arith in
        rw (left_short s at 4 4 (omega arith), past, drop-drop 4 at s) (later (ltb (length (drop at s)) 8) _ _ _)

-- the first of the fields is the one that is read first
pub fields_first : (s : List ℕ) (at : ℕ) (both : Bool) {v first second : ℕ} {c next : Cursor} → Some (v, c) ≡ field_at s at →
    fields_at s at both ≡ all_fields first second next → v ≡ first
unfolding fields_at
fields_first s at both {v} {first} {second} {c} {next} e h = go both (field_at s c.at) refl (rw (← e) at h)
  where
    go : (b : Bool) (f : Option (ℕ × Cursor)) → field_at s c.at ≡ f → with_first s b (Some (v, c)) ≡ all_fields first second next → v ≡ first
    go false f e h = ap (λ (z : Fields). z.first) (parts h).0
    go true None e h = let z = (rw e at h) in cc
    go true (Some (w, d)) e h = ap (λ (z : Fields). z.first) (parts (rw e at h)).0

-- the head's two halves, where each byte is one
pub halves : (s : List ℕ) (at : ℕ) → ((i : ℕ) → Fits w8 (get_or s i 0)) →
    (four (drop at s) / 65536 ≡ two (drop 2 (drop at s))) × (four (drop at s) % 65536 ≡ two (drop at s))
unfolding four two
halves s at are =
    let low = are (at + 0) in
    let high = are (at + 1) in
    (simp get_or-drop (omega arith), simp get_or-drop (omega arith))
