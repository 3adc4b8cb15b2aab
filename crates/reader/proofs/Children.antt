-- How the children of a record are read, by its kind: how child i stands, and its passes.
use Prim.Native.Nat.{ℕ, ◌+◌}
use mathlib.Core.Path.{◌≡◌, refl}
use mathlib.Core.Bool.{Bool, false}
use lib.Dec.{eqb}
use borrow.Author.Tests.{ne_eqb}
use native.Mathlib.Omega.{arith}
use Rattle.meaning.specs.Format.{pick}
use Rattle.records.specs.declared.Cursor.{Cursor}
use Rattle.records.specs.declared.standings.Standing.{Standing}
use Rattle.records.specs.declared.standings.Standing.TheVariants.{Outside, InScope, InAlternative, Branch, LastBranch, Leading, LeadingLast}
use Rattle.reader.specs.Ways.{lead_of, later_of, body_of, branch_of, inner_of, alternative_ways, ways_of, way_of}
use Rattle.reader.specs.Reader.{ChildReader, owner_of, child_of}
use Rattle.reader.proofs.Laws.{pick_same}

-- no branch is the last one where no branches are counted
none_last : (m : ℕ) (a b : Standing) → pick (eqb (m + 1) 0) a b ≡ b
none_last m a b = rw (ne_eqb (m + 1) 0 (λ e. omega arith))

module _ (read : ChildReader) (start : ℕ) (standing : Standing) (product m : ℕ) (c : Cursor) where
  pub sequence_child : (n i : ℕ) {way : Standing} → way ≡ pick (eqb i 0) (lead_of standing) (later_of standing) →
      child_of read (owner_of 3 n false start standing product) i m c ≡ read way product c
  unfolding ways_of way_of
  sequence_child n i w = rw (w, none_last m LastBranch, pick_same (eqb i 2) (later_of standing))

  -- an alternative's condition, and a branch
  pub condition_child : (n : ℕ) → child_of read (owner_of 4 n false start standing product) 0 m c ≡ read Outside product c
  unfolding ways_of way_of
  condition_child n = go standing
    where
      go : (z : Standing) → (let w = alternative_ways z n product in read (way_of w 0 m) w.inner c ≡ read Outside product c)
      go Outside = refl
      go InScope = refl
      go InAlternative = refl
      go Branch = refl
      go LastBranch = refl
      go Leading = refl
      go LeadingLast = refl

  pub branch_child : (n i : ℕ) {last : Bool} {way : Standing} → last ≡ eqb (m + 1) n → way ≡ branch_of standing last →
      child_of read (owner_of 4 n false start standing product) (i + 1) m c ≡ read way product c
  unfolding ways_of way_of branch_of
  branch_child n i l w = rw (w, l, ne_eqb (i + 1) 0 (λ e. omega arith)) (go standing)
    where
      In : Standing → Type 0
      In z =
          (let w = alternative_ways z n product in
          read (pick (eqb (m + 1) w.branches) LastBranch (pick (eqb (i + 1) 2) w.third w.others)) w.inner c ≡ read (branch_of z (eqb (m + 1) n)) product c)

      one : read (pick (eqb (m + 1) n) LastBranch (pick (eqb (i + 1) 2) Branch Branch)) product c ≡ read (pick (eqb (m + 1) n) LastBranch Branch) product c
      one = rw (pick_same {A = Standing} (eqb (i + 1) 2) Branch)

      go : (z : Standing) → In z
      go Outside = rw (none_last m LastBranch, pick_same {A = Standing} (eqb (i + 1) 2) Outside)
      go InScope = one
      go InAlternative = one
      go Branch = one
      go LastBranch = one
      go Leading = one
      go LeadingLast = one

  -- init, condition and overrun of a head loop, condition and overrun of a tail loop; the body of each
  module _ (count : ℕ) (scope : Bool) where
    abbrev Inside : ℕ → ℕ → Standing → Type 0
    Inside kind i way = child_of read (owner_of kind count scope start standing product) i m c ≡ read way (inner_of count scope product) c

    pub head_child : (Inside 5 0 Outside) × (Inside 5 1 Outside) × (Inside 5 2 (body_of scope standing)) × (Inside 5 3 Outside)
    unfolding ways_of way_of
    head_child = (refl, rw (none_last m LastBranch), rw (none_last m LastBranch), rw (none_last m LastBranch))

    pub tail_child : (Inside 6 0 (body_of scope standing)) × (Inside 6 1 Outside) × (Inside 6 2 Outside)
    unfolding ways_of way_of
    tail_child = (refl, rw (none_last m LastBranch), rw (none_last m LastBranch))

  pub timed_child : (time : ℕ) → child_of read (owner_of 7 time false start standing product) 0 m c ≡ read Outside 0 c
  unfolding ways_of way_of
  timed_child time = refl
