-- What is known of a record that is judged, by its row; and of the sheet's and a routine's good records, for the callers of `Cursor` in other crates.
use Prim.Native.Nat.{ℕ, ◌+◌, ◌≤◌}
use mathlib.Core.Path.{◌≡◌, refl, subst}
use mathlib.Core.Bool.{Bool, true, false, false≢true}
use mathlib.Core.List.{List, [], ◌∷◌}
use lib.ListN.{length, drop, length-drop}
use lib.Dec.{ltb, eqb}
use native.Mathlib.Nat.{pos_of_ne-zero}
use native.Mathlib.Omega.{arith}
use borrow.Author.Tests.{ltb-false, eqb-false, not-false}
use Rattle.meaning.specs.Judgement as judgement
use Rattle.meaning.specs.Format.{Range, ranges_of, length_of, within, in_ranges, Record, of}
use Rattle.meaning.specs.Judgement.{Reading, refused, found, refuse, two, fields_of, Owed, rows_of, bad_call, stray, no_plain, placed, judged}
use Rattle.meaning.proofs.Laws.{pick_true, within_is}
use Rattle.records.specs.declared.SheetRecord.{SheetRecord}
use Rattle.records.specs.declared.RoutineRecord.{RoutineRecord}
use Rattle.records.specs.Records.{read_as, as_sheet, as_routine}
use Rattle.records.proofs.Table.{Each, ◌&◌, by_rows}

-- what rules 7 and 8 leave of a construct
abbrev pub Kept : Owed → Record → Type 0
Kept judgement.sheet x = Unit {0}
Kept judgement.routine x = Unit {0}
Kept (judgement.construct own left r last) x = (bad_call own x ≡ false) × (1 ≤ left)

-- Q holds of the records of a row, at a place
abbrev pub Row : List ℕ → Owed → ℕ → (Reading Record → Type 0) → ℕ → List Range → Type 0
Row s owed at Q kind ranges =
    (fields : List ℕ) → in_ranges ranges fields ≡ true → length_of (length ranges) ≤ length (drop at s) → Kept owed (of kind fields) →
    Q (found (of kind fields) (at + length_of (length ranges)))

-- What holds of refusals there and of the records of each row, holds of what is judged.
module _ (s : List ℕ) (owed : Owed) (at : ℕ) (Q : Reading Record → Type 0) (none : (number : ℕ) → Q (refused number at)) where
  unless : (t : Bool) (number : ℕ) (rest : Reading Record) → (t ≡ false → Q rest) → Q (refuse t number at rest)
  unfolding refuse
  unless true number rest q = none number
  unless false number rest q = q refl

  kept : (o : Owed) (x : Record) (past : ℕ) → (Kept o x → Q (found x past)) → Q (placed o x at (found x past))
  kept judgement.sheet x past q = q tt
  kept judgement.routine x past q = q tt
  kept (judgement.construct own left r last) x past q =
      unless (bad_call own x) 7 _ (λ h7.
      unless (eqb left 0) 8 _ (λ h8.
      unless (stray r x) 9 _ (λ _.
      unless (no_plain last x) 10 _ (λ _. q (h7, pos_of_ne-zero (eqb-false left 0 h8))))))

  pub by_judgement : Each (Row s owed at Q) (rows_of owed) → Q (judged s owed at)
  unfolding judged
  by_judgement each =
      let rest = drop at s in
      let kind = two (drop 2 rest) in
      let ranges = ranges_of kind (rows_of owed) in
      let fields = fields_of ranges (drop 4 rest) in
      unless (ltb (length rest) 4) 3 _ (λ _.
      unless _ 4 _ (λ h4.
      unless _ 5 _ (λ _.
      unless (ltb (length rest) (length_of (length ranges))) 3 _ (λ h3.
      unless _ 6 _ (λ h6.
      kept owed (of kind fields) _ (
      by_rows (Row s owed at Q) (rows_of owed) each kind (not-false _ h4) fields (not-false _ h6) (ltb-false (length rest) (length_of (length ranges)) h3)))))))

-- the fields of a row that has one, or two
pub one_field : (P : List ℕ → Type 0) (p : Range) → ((a : ℕ) → p.least ≤ a → a ≤ p.most → P (a ∷ [])) → (fields : List ℕ) →
    in_ranges (p ∷ []) fields ≡ true → P fields
unfolding in_ranges
one_field P p k [] h = absurd (false≢true h)
one_field P p k (a ∷ []) h = let (low, high) = within_is p a (pick_true (within p a) true h).0 in k a low high
one_field P p k (a ∷ b ∷ fields) h = absurd (false≢true (pick_true (within p a) false h).1)

pub two_fields : (P : List ℕ → Type 0) (p q : Range) → ((a b : ℕ) → p.least ≤ a → a ≤ p.most → q.least ≤ b → b ≤ q.most → P (a ∷ b ∷ [])) →
    (fields : List ℕ) → in_ranges (p ∷ q ∷ []) fields ≡ true → P fields
unfolding in_ranges
two_fields P p q k [] h = absurd (false≢true h)
two_fields P p q k (a ∷ fields) h =
    let (here, later) = pick_true (within p a) _ h in
    let (low, high) = within_is p a here in
    one_field (λ z. P (a ∷ z)) q (λ b l m. k a b low high l m) fields later

pub record RoutineFine (s : List ℕ) (at : ℕ) (r : RoutineRecord) (next : ℕ) : Type 0 where
  pub first : r.organisation ≤ 4294967295
  pub past : at + 8 ≤ next
  pub inside : next ≤ length s

pub record SheetFine (s : List ℕ) (r : SheetRecord) (next : ℕ) : Type 0 where
  pub first : r.edition ≡ 1
  pub some : 1 ≤ r.routines
  pub few : r.routines ≤ 64
  pub past : next ≡ 12
  pub inside : 12 ≤ length s

abbrev OfGood : {A : Type 0} → (A → ℕ → Type 0) → Reading A → Type 0
OfGood P (refused number place) = Unit {0}
OfGood P (found a next) = P a next

pub routine_fine : (s : List ℕ) (at : ℕ) {r : RoutineRecord} {next : ℕ} → read_as as_routine (judged s judgement.routine at) ≡ found r next → RoutineFine s at r next
routine_fine s at e =
    let l = length-drop at s in
    subst (OfGood (RoutineFine s at)) e (by_judgement s judgement.routine at Fine (λ _. tt) (
    (λ fields inside room _. one_field (λ f. Fine (found (of 1 f) (at + 8))) _ (λ a _ high. record { first = high; past = omega arith; inside = omega arith }) fields inside)
    & tt))
  where
    Fine : Reading Record → Type 0
    Fine j = OfGood (RoutineFine s at) (read_as as_routine j)

pub sheet_fine : (s : List ℕ) {r : SheetRecord} {next : ℕ} → read_as as_sheet (judged s judgement.sheet 0) ≡ found r next → SheetFine s r next
sheet_fine s e =
    subst (OfGood (SheetFine s)) e (by_judgement s judgement.sheet 0 Fine (λ _. tt) (
    (λ fields inside room _. two_fields (λ f. Fine (found (of 100 f) 12)) _ _ (λ a b low high some few. record {
      first = omega arith;
      some = some;
      few = few;
      past = refl;
      inside = room;
    }) fields inside) & tt))
  where
    Fine : Reading Record → Type 0
    Fine j = OfGood (SheetFine s) (read_as as_sheet j)
