-- What stands in a sheet from a place on; readers that read back what was written, and that the reader of a record is one.
use Prim.Native.Nat.{ℕ, ◌+◌}
use mathlib.Core.Path.{◌≡◌, refl, sym, ap, ap₂, ◌∙◌}
use mathlib.Core.Bool.{true, false≢true}
use mathlib.Core.List.{List, [], ◌∷◌, ◌++◌, append_assoc, append-nil}
use lib.ListN.{length, drop, length-append}
use lib.Seq.{drop_at}
use borrow.Author.Tests.{le-ltb, eq-eqb}
use native.Mathlib.Omega.{arith}
use Rattle.meaning.specs.Format.{Range, within, ranges_of, listed, length_of, in_ranges, InRange, Record, half, word, words, record_bytes}
use Rattle.meaning.specs.Judgement.{Reading, found, Reader, ◌>>=◌, refuse, two, four, fields_of, Owed, rows_of, placed, judged}
use Rattle.meaning.proofs.Laws.{pick_true, in_ranges_length, length_record}

-- From a place on, s has the bytes xs: before them it has as many bytes as the place says.
pub record Here (s : List ℕ) (place : ℕ) (xs : List ℕ) : Type 0 where
  before : List ℕ
  after : List ℕ
  is : s ≡ before ++ (xs ++ after)
  far : length before ≡ place

module _ {s : List ℕ} where
  -- all of s stands at place 0
  pub here_all : Here s 0 s
  here_all = record { before = []; after = []; is = sym (append-nil s); far = refl }

  -- where xs and then ys stand, xs stands there and ys past it
  pub here_left : {place : ℕ} (xs ys : List ℕ) → Here s place (xs ++ ys) → Here s place xs
  here_left xs ys h = record {
    before = h.before;
    after = ys ++ h.after;
    is = h.is ∙ ap (λ z. h.before ++ z) (append_assoc xs ys h.after);
    far = h.far;
  }

  pub here_right : {place : ℕ} (next : ℕ) (xs ys : List ℕ) → next ≡ place + length xs → Here s place (xs ++ ys) → Here s next ys
  unfolding here_left
  here_right next xs ys e h = record {
    before = h.before ++ xs;
    after = h.after;
    is = (here_left xs ys h).is ∙ sym (append_assoc h.before xs (ys ++ h.after));
    far = let l = length-append h.before xs in let p = h.far in omega arith;
  }

  -- what is left of s from there on starts with it
  left_is : {place : ℕ} (xs : List ℕ) (h : Here s place xs) → drop place s ≡ xs ++ h.after
  left_is {place} xs h = ap (λ z. drop place z) h.is ∙ drop_at h.before (xs ++ h.after) place h.far

-- numbers of two and four bytes, and fields in their ranges, are read as they were written
two_back : (n : ℕ) (ys : List ℕ) → two (half n ++ ys) ≡ n
unfolding two
two_back n ys = omega arith

four_back : (n : ℕ) (ys : List ℕ) → four (word n ++ ys) ≡ n
unfolding four two
four_back n ys = omega arith

fields_back : (ranges : List Range) (fields ys : List ℕ) → in_ranges ranges fields ≡ true → fields_of ranges (words fields ++ ys) ≡ fields
unfolding in_ranges words fields_of
fields_back [] [] ys e = refl
fields_back [] (x ∷ xs) ys e = absurd (false≢true e)
fields_back (r ∷ rs) [] ys e = absurd (false≢true e)
fields_back (r ∷ rs) (x ∷ xs) ys e = ap₂ ◌∷◌ (four_back x (words xs ++ ys)) (fields_back rs xs ys (pick_true (within r x) (in_ranges rs xs) e).1)

-- Wherever the bytes xs stand in s, the reader finds a there, and the place past them.
pub record ReadBack {A : Type 0} (s xs : List ℕ) (read : Reader A) (a : A) : Type 0 where
  pub from : (place : ℕ) → Here s place xs → read place ≡ found a (place + length xs)

module _ {s : List ℕ} {A : Type 0} where
  -- no bytes, alone or past others
  pub read_none : (a : A) → ReadBack s [] (found a) a
  read_none a = record { from = λ place h. let e : place ≡ place + 0 = omega arith in ap (λ z. found a z) e }

  pub read_alone : {xs : List ℕ} {read : Reader A} {a : A} → ReadBack s (xs ++ []) read a → ReadBack s xs read a
  read_alone {xs} h = rw append-nil at h

  -- bytes and then others
  pub read_then : {B : Type 0} {xs ys : List ℕ} {read : Reader A} {a : A} {b : B} (next : A → Reader B) → ReadBack s xs read a → ReadBack s ys (next a) b →
      ReadBack s (xs ++ ys) (read >>= next) b
  read_then {xs} {ys} {b} next h k = record {
    from = λ place here.
        let e : place + length xs + length ys ≡ place + length (xs ++ ys) = let l = length-append xs ys in omega arith in
        rw (h.from place (here_left xs ys here), k.from (place + length xs) (here_right (place + length xs) xs ys refl here)) (ap (λ z. found b z) e);
  }

  -- the last bytes, and what is made of all
  pub read_last : {B : Type 0} {xs : List ℕ} {read : Reader A} {a : A} (make : A → B) → ReadBack s xs read a → ReadBack s xs (read >>= λ x. found (make x)) (make a)
  read_last make h = record { from = λ place here. rw (h.from place here) }

-- A record is read back if it is owed, its fields are in their ranges, and it keeps rules 7 to 10.
pub record_back : {s : List ℕ} (owed : Owed) (x : Record) → listed x.kind (rows_of owed) ≡ true → InRange (rows_of owed) x →
    ((at : ℕ) (good : Reading Record) → placed owed x at good ≡ good) → ReadBack s (record_bytes x) (judged s owed) x
unfolding record_bytes judged refuse
record_back {s} owed x known fit kept = record {
  from = λ at h.
      let n = length_of (length x.fields) in
      let left = record_bytes x ++ h.after in
      let fields = words x.fields ++ h.after in
      let ranges = ranges_of x.kind (rows_of owed) in
      let size = length_record x in
      let room = length-append (record_bytes x) h.after in
      rw (
        left_is (record_bytes x) h,
        two_back x.kind fields,
        fields_back ranges x.fields h.after fit,
        two_back n (half x.kind ++ fields),
        in_ranges_length ranges x.fields fit,
        le-ltb (length left) 4 (omega arith),
        known,
        eq-eqb n n refl,
        le-ltb (length left) n (omega arith),
        fit,
        kept at (found x (at + n)),
      )
      (ap (λ z. found x (at + z)) (sym size));
}
