-- What a record is that was judged good: of a kind that is owed, in range, in its place, and these are its bytes.
use Prim.Native.Nat.{ℕ, ◌≤◌}
use mathlib.Core.Path.{◌≡◌, refl, sym, subst}
use mathlib.Core.Bool.{Bool, true, false, false≢true}
use mathlib.Core.List.{List, [], ◌∷◌}
use lib.ListN.{length, get_or, drop}
use lib.Dec.{eqb}
use native.Mathlib.Omega.{arith}
use borrow.Author.Tests.{ltb-false, eqb-true, not-false}
use Rattle.meaning.specs.Format.{pick, Range, Row, sheet_rows, routine_rows, construct_rows, listed, ranges_of, length_of}
use Rattle.meaning.specs.Format.{within, in_ranges, Record, field, InRange, of, record_bytes}
use Rattle.meaning.specs.Judgement.{found, two, Owed, sheet, routine, construct, rows_of, bad_call, stray, no_plain, placed, judged}
use Rattle.meaning.proofs.Laws.{pick_true, within_is}
use Rattle.demands.proofs.Found.{Found, was_read, found_unless}
use Rattle.demands.proofs.Span.{Span, span_record}

-- rules 7 to 10 are kept
abbrev pub Placed : Owed → Record → Type 0
Placed sheet x = Unit {0}
Placed routine x = Unit {0}
Placed (construct own left r last) x = (bad_call own x ≡ false) × (eqb left 0 ≡ false) × (stray r x ≡ false) × (no_plain last x ≡ false)

pub record Judged (s : List ℕ) (owed : Owed) (at : ℕ) (x : Record) (past : ℕ) : Type 0 where
  pub kind : listed x.kind (rows_of owed) ≡ true
  pub range : InRange (rows_of owed) x
  pub place : Placed owed x
  pub span : Span s at past (record_bytes x)

found_placed : {P : Record → ℕ → Type 0} (owed : Owed) (x : Record) (at past : ℕ) → (Placed owed x → P x past) → Found P (placed owed x at (found x past))
found_placed sheet x at past k = was_read (k tt)
found_placed routine x at past k = was_read (k tt)
found_placed (construct own left r last) x at past k =
    found_unless _ 7 at (omega arith) (λ h7.
    found_unless _ 8 at (omega arith) (λ h8.
    found_unless _ 9 at (omega arith) (λ h9.
    found_unless _ 10 at (omega arith) (λ h10. was_read (k (h7, h8, h9, h10))))))

pub judged_good : (s : List ℕ) (owed : Owed) (at : ℕ) → Found (Judged s owed at) (judged s owed at)
unfolding judged
judged_good s owed at =
    let rest = drop at s in
    let ranges = ranges_of (two (drop 2 rest)) (rows_of owed) in
    found_unless _ 3 at (omega arith) (λ _.
    found_unless _ 4 at (omega arith) (λ h4.
    found_unless _ 5 at (omega arith) (λ h5.
    found_unless _ 3 at (omega arith) (λ h3.
    found_unless _ 6 at (omega arith) (λ h6.
    found_placed owed _ at _ (λ h. record {
      kind = not-false _ h4;
      range = not-false _ h6;
      place = h;
      span = span_record s ranges at (eqb-true (two rest) (length_of (length ranges)) (not-false _ h5)) (ltb-false _ _ h3);
    }))))))

-- What holds of each row's records holds of a record that is listed and in range.
abbrev pub Each : (Record → Type 0) → List Row → Type 0
Each P [] = Unit {0}
Each P (r ∷ rs) = ((fields : List ℕ) → in_ranges r.ranges fields ≡ true → P (of r.kind fields)) × Each P rs

pub by_rows : (P : Record → Type 0) (rows : List Row) → Each P rows → (x : Record) → listed x.kind rows ≡ true → InRange rows x → P x
unfolding listed ranges_of
by_rows P [] each x h range = absurd (false≢true h)
by_rows P (r ∷ rs) each x h range = go (eqb x.kind r.kind) refl h range (by_rows P rs each.1 x)
  where
    go : (t : Bool) → eqb x.kind r.kind ≡ t → pick t true (listed x.kind rs) ≡ true →
        in_ranges (pick t r.ranges (ranges_of x.kind rs)) x.fields ≡ true → (listed x.kind rs ≡ true → InRange rs x → P x) → P x
    go true e h range rest = subst (λ k. P (of k x.fields)) (sym (eqb-true x.kind r.kind e)) (each.0 x.fields range)
    go false e h range rest = rest h range

-- one field in its range; two fields, the second in its range
one : (P : List ℕ → Type 0) (p : Range) → ((a : ℕ) → within p a ≡ true → P (a ∷ [])) → (fields : List ℕ) → in_ranges (p ∷ []) fields ≡ true → P fields
unfolding in_ranges
one P p k [] h = absurd (false≢true h)
one P p k (a ∷ []) h = k a (pick_true (within p a) true h).0
one P p k (a ∷ b ∷ fields) h = absurd (false≢true (pick_true (within p a) false h).1)

two_fields : (P : List ℕ → Type 0) (p q : Range) → ((a b : ℕ) → within q b ≡ true → P (a ∷ b ∷ [])) → (fields : List ℕ) → in_ranges (p ∷ q ∷ []) fields ≡ true → P fields
unfolding in_ranges
two_fields P p q k [] h = absurd (false≢true h)
two_fields P p q k (a ∷ fields) h = one (λ z. P (a ∷ z)) q (λ b z. k a b z) fields (pick_true (within p a) _ h).1

-- The records of constructs, with what the ranges say of a scope and of a number of branches.
pub data Sort : Record → Type 0 where
  a_primitive : (cost : ℕ) → Sort (of 2 (cost ∷ []))
  a_sequence : (n : ℕ) → Sort (of 3 (n ∷ []))
  an_alternative : (n : ℕ) → 2 ≤ n → Sort (of 4 (n ∷ []))
  a_head_loop : (count scope : ℕ) → scope ≤ 1 → Sort (of 5 (count ∷ scope ∷ []))
  a_tail_loop : (count scope : ℕ) → scope ≤ 1 → Sort (of 6 (count ∷ scope ∷ []))
  a_timed_loop : (time : ℕ) → Sort (of 7 (time ∷ []))
  a_call : (number : ℕ) → Sort (of 8 (number ∷ []))
  a_marker : (limit cost : ℕ) → Sort (of 9 (limit ∷ cost ∷ []))

pub sort : (x : Record) → listed x.kind construct_rows ≡ true → InRange construct_rows x → Sort x
sort = by_rows Sort construct_rows (
  one (λ f. Sort (of 2 f)) _ (λ a _. a_primitive a),
  (
    one (λ f. Sort (of 3 f)) _ (λ n _. a_sequence n),
    (
      one (λ f. Sort (of 4 f)) _ (λ n h. an_alternative n (within_is _ n h).0),
      (
        two_fields (λ f. Sort (of 5 f)) _ _ (λ n b h. a_head_loop n b (within_is _ b h).1),
        (
          two_fields (λ f. Sort (of 6 f)) _ _ (λ n b h. a_tail_loop n b (within_is _ b h).1),
          (
            one (λ f. Sort (of 7 f)) _ (λ a _. a_timed_loop a),
            (
              one (λ f. Sort (of 8 f)) _ (λ a _. a_call a),
              (two_fields (λ f. Sort (of 9 f)) _ _ (λ a b _. a_marker a b), tt),
            ),
          ),
        ),
      ),
    ),
  ),
)

-- the records of routines and of sheets
pub routine_is : (x : Record) → listed x.kind routine_rows ≡ true → InRange routine_rows x → of 1 (field x 0 ∷ []) ≡ x
routine_is = by_rows (λ x. of 1 (field x 0 ∷ []) ≡ x) routine_rows (one (λ f. of 1 (get_or f 0 0 ∷ []) ≡ of 1 f) _ (λ a _. refl), tt)

pub sheet_is : (x : Record) → listed x.kind sheet_rows ≡ true → InRange sheet_rows x → of 100 (field x 0 ∷ field x 1 ∷ []) ≡ x
sheet_is =
    by_rows (λ x. of 100 (field x 0 ∷ field x 1 ∷ []) ≡ x) sheet_rows (two_fields (λ f. of 100 (get_or f 0 0 ∷ get_or f 1 0 ∷ []) ≡ of 100 f) _ _ (λ a b _. refl), tt)
