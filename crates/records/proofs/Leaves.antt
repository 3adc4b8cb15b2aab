-- What `Cursor::leaf` returns: a leaf where the record passes every test, and None where it cannot have passed one, or it owns something.
use Prim.Native.Nat.{ℕ, ◌+◌, ◌*◌, ◌/◌, ◌%◌, ◌≤◌, ◌<◌}
use mathlib.Core.Path.{◌≡◌, refl, ap, subst, ◌∙◌}
use mathlib.Core.Logic.{◌≢◌}
use mathlib.Core.Bool.{Bool, true, false}
use mathlib.Core.List.{List}
use mir.Syntax.{w8}
use mir.Val.{Fits}
use lib.ListN.{get_or}
use lib.Dec.{ltb, eqb}
use native.Mathlib.Omega.{arith}
use borrow.Author.Tests.{ltb-false, eqb-true, ne_eqb, le-ltb}
use Rattle.std.specs.Prelude.{Option, Some, None, Result}
use Rattle.meaning.specs.Format.{pick, Range, construct_rows, listed, ranges_of}
use Rattle.meaning.specs.Judgement.{Reading, found, judged}
use Rattle.meaning.proofs.Laws.{pick_false}
use Rattle.records.specs.declared.Cursor.{Cursor}
use Rattle.records.specs.declared.Fields.{Fields}
use Rattle.records.specs.declared.Found.{Found}
use Rattle.records.specs.declared.Leaf.{Leaf}
use Rattle.records.specs.declared.Leaf.TheVariants as leaf
use Rattle.records.specs.declared.Place.{Place}
use Rattle.records.specs.declared.faults.Fault.{Fault}
use Rattle.records.specs.declared.faults.Fault.TheVariants.{TooDeep}
use Rattle.records.specs.declared.standings.Standing.{Standing}
use Rattle.records.specs.declared.standings.Standing.TheVariants.{Outside, InScope, InAlternative, Branch, LastBranch, Leading, LeadingLast}
use Rattle.records.specs.Records.{owed_at, found_of, by_kind, leaf_of}
use Rattle.records.specs.Steps.{field_at, all_fields, fields_at, form_of, is_outside, is_bad_call, misplaced, marker_fault, with_fields, judge_of}
use Rattle.records.proofs.Laws.{field_most, fields_first}
use Rattle.records.proofs.Judging.{as_fit, construct_cut, construct_arm, construct_none}
use Rattle.records.proofs.Table.{◌&◌, by_rows}
use Rattle.records.proofs.Founds.{Past, Ranged, ranged}

-- what `leaf` promises
abbrev pub AsLeaf : List ℕ → Place → ℕ → Option (Leaf × Cursor) → Type 0
AsLeaf s place at l = l ≡ leaf_of (found_of (judged s (owed_at place) at))

-- a marker that may stand where it does
marker_stands : (first : ℕ) (place : Place) → misplaced 9 first place ≡ None → place.standing ≡ Leading
unfolding misplaced marker_fault
marker_stands first place = go (eqb place.left 0) place.standing
  where
    go : (t : Bool) (standing : Standing) → pick t (Some TooDeep) (marker_fault standing) ≡ None → standing ≡ Leading
    go true standing h = cc
    go false Outside h = cc
    go false InScope h = cc
    go false InAlternative h = cc
    go false Branch h = cc
    go false LastBranch h = cc
    go false Leading h = refl
    go false LeadingLast h = cc

-- where no record can end, or none may stand
pub no_room_lem : (s : List ℕ) (place : Place) (at : ℕ) → ((next : ℕ) → Past s place.left at next → ⊥) → AsLeaf s place at None
no_room_lem s place at none = go (ranged s place.own place.left place.standing at)
  where
    go : {f : Reading Found} → Ranged s place.own place.left at f → None ≡ leaf_of f
    go (Ranged.a_primitive p _) = absurd (none _ p)
    go (Ranged.a_sequence p _) = refl
    go (Ranged.an_alternative p _ _) = refl
    go (Ranged.a_head_loop p _) = refl
    go (Ranged.a_tail_loop p _ _) = refl
    go (Ranged.a_timed_loop p _) = refl
    go (Ranged.a_call p _ _) = absurd (none _ p)
    go (Ranged.a_marker p _ _) = absurd (none _ p)
    go Ranged.refused = refl

abbrev Told : ℕ → ℕ → Option (Leaf × Cursor) → Result (Fields × Cursor) Fault → Type 0
Told kind at l j = l ≡ leaf_of (as_fit by_kind kind at j)

-- A record of a kind that has passed every test is good; if no good one is a leaf, none is.
module _ (s : List ℕ) (place : Place) (c : Cursor) (kind size : ℕ) where
  record Passes (first second : ℕ) (next : Cursor) : Type 0 where
    pub sized : eqb size (form_of kind).length ≡ true
    pub read : fields_at s c.at (eqb (form_of kind).length 12) ≡ all_fields first second next
    pub within : is_outside (form_of kind) first second ≡ false
    pub placed : misplaced kind first place ≡ None

  good_leaf : (at : ℕ) {first second : ℕ} {next : Cursor} → Passes first second next →
      Told kind at (leaf_of (found (by_kind kind first second) next.at)) (judge_of s c.at kind size (form_of kind) place)
  unfolding judge_of
  good_leaf at p = rw (p.sized, p.read, p.within, p.placed)

  no_leaf : (at : ℕ) → ((first second : ℕ) (next : Cursor) → Passes first second next → None ≡ leaf_of (found (by_kind kind first second) next.at)) →
      Told kind at None (judge_of s c.at kind size (form_of kind) place)
  unfolding judge_of
  no_leaf at owns = by_size (eqb size (form_of kind).length) refl
    where
      by_rest : (all : Fields) (next : Cursor) → eqb size (form_of kind).length ≡ true →
          fields_at s c.at (eqb (form_of kind).length 12) ≡ Some (all, next) → (t : Bool) (fault : Option Fault) →
          is_outside (form_of kind) all.first all.second ≡ t → misplaced kind all.first place ≡ fault →
          Told kind at None (with_fields kind (form_of kind) place (Some (all, next)))
      by_rest all next z r true fault w p = rw w
      by_rest all next z r false None w p = rw (w, p) (owns all.first all.second next (record { sized = z; read = r; within = w; placed = p }))
      by_rest all next z r false (Some fault) w p = rw (w, p)

      by_fields : eqb size (form_of kind).length ≡ true → (all : Option (Fields × Cursor)) → fields_at s c.at (eqb (form_of kind).length 12) ≡ all →
          Told kind at None (with_fields kind (form_of kind) place all)
      by_fields z None r = refl
      by_fields z (Some (all, next)) r =
          by_rest all next z r (is_outside (form_of kind) all.first all.second) (misplaced kind all.first place) refl refl

      by_size : (t : Bool) → eqb size (form_of kind).length ≡ t → Told kind at None (judge_of s c.at kind size (form_of kind) place)
      by_size true z = rw z (by_fields z (fields_at s c.at (eqb (form_of kind).length 12)) refl)
      by_size false z = rw z

module _ (s : List ℕ) (place : Place) (at : ℕ) (are : (i : ℕ) → Fits w8 (get_or s i 0)) where
  pub head_cut : None ≡ field_at s at → AsLeaf s place at None
  head_cut e = ap leaf_of (construct_cut s place at are e)

  module _ (head : ℕ) (c : Cursor) (e : Some (head, c) ≡ field_at s at) where
    abbrev Good : ℕ → ℕ → Cursor → Type 0
    Good = Passes s place c (head / 65536) (head % 65536)

    arm_is : listed (head / 65536) construct_rows ≡ true → {l : Option (Leaf × Cursor)} →
        Told (head / 65536) at l (judge_of s c.at (head / 65536) (head % 65536) (form_of (head / 65536)) place) → AsLeaf s place at l
    arm_is h told = told ∙ ap leaf_of (construct_arm s place at are head c e (head / 65536) refl h refl)

    leaf_is : listed (head / 65536) construct_rows ≡ true → {first second : ℕ} {next : Cursor} → Good first second next →
        AsLeaf s place at (leaf_of (found (by_kind (head / 65536) first second) next.at))
    leaf_is h p = arm_is h (good_leaf s place c (head / 65536) (head % 65536) at p)

    other_is : (listed (head / 65536) construct_rows ≡ true → (first second : ℕ) (next : Cursor) → Good first second next →
        None ≡ leaf_of (found (by_kind (head / 65536) first second) next.at)) → AsLeaf s place at None
    other_is owns = go (listed (head / 65536) construct_rows) refl
      where
        go : (t : Bool) → listed (head / 65536) construct_rows ≡ t → AsLeaf s place at None
        go true h = arm_is h (no_leaf s place c (head / 65536) (head % 65536) at (owns h))
        go false h = ap leaf_of (construct_none s place at are head c e h)

    pub first_cut : None ≡ field_at s c.at → AsLeaf s place at None
    unfolding fields_at
    first_cut f = other_is (λ _ first second next p. let z = (rw (← f) at p.read) in cc)

-- `leaf` once it has read the head and the first field
pub record Opened : Type 0 where
  pub s : List ℕ
  pub place : Place
  pub at : ℕ
  pub are : (i : ℕ) → Fits w8 (get_or s i 0)
  pub deep : place.left ≢ 0
  pub head : ℕ
  pub rest : Cursor
  pub read : Some (head, rest) ≡ field_at s at
  pub first : ℕ
  pub next : Cursor
  pub read_first : Some (first, next) ≡ field_at s rest.at

module _ (o : Opened) where
  abbrev pub Reads : Option (Leaf × Cursor) → Type 0
  Reads = AsLeaf o.s o.place o.at

  -- a record that owns nothing has one of three heads
  pub other_head : o.head ≢ 131080 → o.head ≢ 524296 → o.head ≢ 589836 → Reads None
  unfolding form_of ranges_of
  other_head primitive call marker =
      other_is o.s o.place o.at o.are o.head o.rest o.read (λ h first second next p.
      by_rows (Owns first second next) construct_rows (
      (λ k z. absurd (primitive (whole 8 k z)))
      & (λ k z. refl)
      & (λ k z. refl)
      & (λ k z. refl)
      & (λ k z. refl)
      & (λ k z. refl)
      & (λ k z. absurd (call (whole 8 k z)))
      & (λ k z. absurd (marker (whole 12 k z)))
      & tt) (o.head / 65536) h refl p.sized)
    where
      Owns : ℕ → ℕ → Cursor → ℕ → List Range → Type 0
      Owns first second next kind _ =
          o.head / 65536 ≡ kind → eqb (o.head % 65536) (form_of kind).length ≡ true → None ≡ leaf_of (found (by_kind kind first second) next.at)

      whole : (size : ℕ) {kind : ℕ} → o.head / 65536 ≡ kind → eqb (o.head % 65536) size ≡ true → o.head ≡ 65536 * kind + size
      whole size k z = let l = eqb-true (o.head % 65536) size z in omega arith

  module _ (head : ℕ) (e : o.head ≡ head) where
    abbrev Whole : ℕ → ℕ → Cursor → Type 0
    Whole = Passes o.s o.place o.rest (head / 65536) (head % 65536)

    headed : Some (head, o.rest) ≡ field_at o.s o.at
    headed = rw (← e) o.read

    reads : listed (head / 65536) construct_rows ≡ true → {first second : ℕ} {next : Cursor} → Whole first second next →
        Reads (leaf_of (found (by_kind (head / 65536) first second) next.at))
    reads = leaf_is o.s o.place o.at o.are head o.rest headed

    reads_none : ((second : ℕ) (past : Cursor) → Whole o.first second past → ⊥) → Reads None
    reads_none none =
        other_is o.s o.place o.at o.are head o.rest headed (λ _ a b d p.
        absurd (subst (λ z. Whole z b d → ⊥) (fields_first o.s o.rest.at _ o.read_first p.read) (none b d) p))

  -- a primitive, and a call
  any_within : is_outside (form_of 2) o.first 0 ≡ false
  unfolding is_outside form_of ranges_of
  any_within = rw (le-ltb o.first 0 (omega arith), le-ltb 4294967295 o.first (field_most o.s o.rest.at o.are o.read_first))

  pub primitive_is : o.head ≡ 131080 → Reads (Some (leaf.Primitive o.first, o.next))
  unfolding listed form_of ranges_of fields_at misplaced
  primitive_is e =
      reads 131080 e refl (record { sized = refl; read = rw (← o.read_first); within = any_within; placed = rw (ne_eqb o.place.left 0 o.deep) })

  pub call_is : o.head ≡ 524296 → is_bad_call o.first o.place.own ≡ false → Reads (Some (leaf.Call o.first, o.next))
  unfolding listed form_of ranges_of fields_at misplaced
  call_is e h =
      reads 524296 e refl (record { sized = refl; read = rw (← o.read_first); within = any_within; placed = rw (h, ne_eqb o.place.left 0 o.deep) })

  pub bad_call_lem : o.head ≡ 524296 → is_bad_call o.first o.place.own ≡ true → Reads None
  unfolding misplaced
  bad_call_lem e h = reads_none 524296 e (λ second past p. let z = (rw h at p.placed) in cc)

  -- a marker, once its head is known
  module _ (e : o.head ≡ 589836) where
    pub marker_is : o.place.standing ≡ Leading → o.first ≤ 1000000 → {second : ℕ} {past : Cursor} → Some (second, past) ≡ field_at o.s o.next.at →
        Reads (Some (leaf.Marker o.first second, past))
    unfolding listed form_of ranges_of fields_at is_outside misplaced marker_fault
    marker_is leads most {second} {past} g =
        let low = le-ltb o.first 0 (omega arith) in
        let low2 = le-ltb second 0 (omega arith) in
        reads 589836 e refl (record {
          sized = refl;
          read = rw (← o.read_first, ← g);
          within = rw (low, le-ltb 1000000 o.first most, low2, le-ltb 4294967295 second (field_most o.s o.next.at o.are g));
          placed = rw (ne_eqb o.place.left 0 o.deep, leads);
        })

    pub marker_stray : o.place.standing ≢ Leading → Reads None
    marker_stray h = reads_none 589836 e (λ second past p. h (marker_stands o.first o.place p.placed))

    pub marker_most : 1000000 < o.first → Reads None
    unfolding is_outside form_of ranges_of
    marker_most h = reads_none 589836 e (λ second past p.
        let (inside, _) = pick_false _ _ p.within in
        let l = ltb-false 1000000 o.first (pick_false (ltb o.first 0) _ inside).1 in
        absurd (omega arith))

    pub marker_cut : None ≡ field_at o.s o.next.at → Reads None
    unfolding fields_at form_of ranges_of
    marker_cut g = reads_none 589836 e (λ second past p. let z = (rw (← o.read_first, ← g) at p.read) in cc)
