-- Laws of the definitions that proofs share: of tests, of the table of records, and of how long a record is.
use Prim.Native.Nat.{ℕ, ◌*◌, ◌≤◌}
use mathlib.Core.Path.{◌≡◌, refl, sym}
use mathlib.Core.Bool.{Bool, true, false, false≢true}
use mathlib.Core.List.{List, [], ◌∷◌}
use lib.ListN.{length}
use lib.Dec.{leb}
use borrow.Author.Tests.{leb-true}
use native.Mathlib.Omega.{arith}
use Rattle.meaning.specs.Format.{pick, Range, within, length_of, in_ranges, Record, words, record_bytes}

-- both of two tests hold; neither does
pub pick_true : (t b : Bool) → pick t b false ≡ true → (t ≡ true) × (b ≡ true)
pick_true true b h = (refl, h)
pick_true false b h = absurd (false≢true h)

pub pick_false : (t b : Bool) → pick t true b ≡ false → (t ≡ false) × (b ≡ false)
pick_false true b h = absurd (false≢true (sym h))
pick_false false b h = (refl, h)

-- a number within a range
pub within_is : (r : Range) (x : ℕ) → within r x ≡ true → (r.least ≤ x) × (x ≤ r.most)
within_is r x h = let (low, high) = pick_true (leb r.least x) (leb x r.most) h in (leb-true r.least x low, leb-true x r.most high)

-- fields in their ranges are as many as the ranges
pub in_ranges_length : (ranges : List Range) (fields : List ℕ) → in_ranges ranges fields ≡ true → length ranges ≡ length fields
unfolding in_ranges
in_ranges_length [] [] e = refl
in_ranges_length [] (x ∷ xs) e = absurd (false≢true e)
in_ranges_length (r ∷ rs) [] e = absurd (false≢true e)
in_ranges_length (r ∷ rs) (x ∷ xs) e = let l = in_ranges_length rs xs (pick_true (within r x) (in_ranges rs xs) e).1 in omega arith

-- a record is as long as it says: four bytes for each field, and four before them
length_words : (fields : List ℕ) → length (words fields) ≡ 4 * length fields
unfolding words
length_words [] = refl
length_words (x ∷ xs) = let l = length_words xs in omega arith

pub length_record : (x : Record) → length (record_bytes x) ≡ length_of (length x.fields)
unfolding record_bytes
length_record x = let l = length_words x.fields in omega arith
