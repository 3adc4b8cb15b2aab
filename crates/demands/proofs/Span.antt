-- From one place to another a sheet has these bytes; and what is read as a record at a place are its bytes there.
use Prim.Native.Nat.{ℕ, suc, ◌+◌, ◌*◌, ◌/◌, ◌%◌, ◌≤◌, ◌<◌}
use mathlib.Core.Path.{◌≡◌, refl, sym, ap, ◌∙◌}
use mathlib.Core.List.{List, [], ◌∷◌, ◌++◌, append_assoc}
use lib.ListN.{length, get_or, drop, length-append, length-drop}
use lib.Seq.{get_or-drop, drop-drop}
use native.Mathlib.Omega.{arith}
use Rattle.meaning.specs.Format.{Range, length_of, Record, half, word, words, record_bytes}
use Rattle.meaning.specs.Judgement.{two, four, fields_of}
use Rattle.meaning.proofs.Laws.{length_record}

-- each number is a byte
pub record AreBytes (s : List ℕ) : Type 0 where
  pub byte : (i : ℕ) → get_or s i 0 < 256

are_left : (s : List ℕ) (n : ℕ) → AreBytes s → AreBytes (drop n s)
are_left s n are = record { byte = λ i. rw (get_or-drop n s i 0) (are.byte (n + i)) }

pub record Span (s : List ℕ) (at past : ℕ) (xs : List ℕ) : Type 0 where
  pub long : past ≡ at + length xs
  pub same : AreBytes s → drop at s ≡ xs ++ drop past s

-- nothing; one after the other
pub span_none : (s : List ℕ) (at : ℕ) → Span s at at []
span_none s at = record { long = omega arith; same = λ are. refl }

pub span_then : {s : List ℕ} {a b c : ℕ} {xs ys : List ℕ} → Span s a b xs → Span s b c ys → Span s a c (xs ++ ys)
span_then {s} {c = c} {xs = xs} {ys = ys} p q = record {
  long = (let n = length-append xs ys in let x = p.long in let y = q.long in omega arith);
  same = λ are. p.same are ∙ ap (λ z. xs ++ z) (q.same are) ∙ sym (append_assoc xs ys (drop c s));
}

-- bytes start with the two, the four and the fields that are read from them
half_of : (x y : ℕ) → x < 256 → y < 256 → half (x + 256 * y) ≡ x ∷ y ∷ []
half_of x y h k =
    let a : (x + 256 * y) % 256 ≡ x = omega arith in
    let b : (x + 256 * y) / 256 ≡ y = omega arith in
    rw (a, b)

starts_two : (xs : List ℕ) → 2 ≤ length xs → AreBytes xs → xs ≡ half (two xs) ++ drop 2 xs
unfolding two
starts_two [] h are = absurd (omega arith)
starts_two (x ∷ []) h are = absurd (omega arith)
starts_two (x ∷ y ∷ xs) h are = ap (λ z. z ++ xs) (sym (half_of x y (are.byte 0) (are.byte 1)))

two_small : (xs : List ℕ) → AreBytes xs → two xs < 65536
unfolding two
two_small xs are = let a = are.byte 0 in let b = are.byte 1 in omega arith

word_of : (x y : ℕ) → x < 65536 → y < 65536 → word (x + 65536 * y) ≡ half x ++ half y
word_of x y h k =
    let n = x + 65536 * y in
    let low : n % 256 ≡ x % 256 = omega arith in
    let up : n / 256 ≡ x / 256 + 256 * y = omega arith in
    let b : (x / 256 + 256 * y) % 256 ≡ x / 256 = omega arith in
    let high : n / 65536 ≡ y = omega arith in
    let top : n / 16777216 ≡ y / 256 = omega arith in
    rw (low, up, b, high, top)

starts_four : (xs : List ℕ) → 4 ≤ length xs → AreBytes xs → xs ≡ word (four xs) ++ drop 4 xs
unfolding four
starts_four xs h are =
    let n = length-drop 2 xs in
    let second = starts_two (drop 2 xs) (omega arith) (are_left xs 2 are) in
    starts_two xs (omega arith) are ∙ ap (λ z. half (two xs) ++ z) (second ∙ ap (λ z. half (two (drop 2 xs)) ++ z) (drop-drop 2 2 xs))
    ∙ ap (λ z. z ++ drop 4 xs) (sym (word_of (two xs) (two (drop 2 xs)) (two_small xs are) (two_small (drop 2 xs) (are_left xs 2 are))))

length_fields : (ranges : List Range) (xs : List ℕ) → length (fields_of ranges xs) ≡ length ranges
unfolding fields_of
length_fields [] xs = refl
length_fields (r ∷ rs) xs = ap suc (length_fields rs (drop 4 xs))

starts_fields : (ranges : List Range) (xs : List ℕ) → 4 * length ranges ≤ length xs → AreBytes xs → xs ≡ words (fields_of ranges xs) ++ drop (4 * length ranges) xs
unfolding fields_of words
starts_fields [] xs h are = refl
starts_fields (r ∷ rs) xs h are =
    let n = length-drop 4 xs in
    let e : 4 + 4 * length rs ≡ 4 * suc (length rs) = omega arith in
    starts_four xs (omega arith) are
    ∙ ap (λ z. word (four xs) ++ z) (
    starts_fields rs (drop 4 xs) (omega arith) (are_left xs 4 are)
    ∙ ap (λ z. words (fields_of rs (drop 4 xs)) ++ z) (drop-drop (4 * length rs) 4 xs ∙ ap (λ z. drop z xs) e)
    )

-- a record whose length is the one of its fields
starts_record : (ranges : List Range) (xs : List ℕ) → two xs ≡ length_of (length ranges) → length_of (length ranges) ≤ length xs → AreBytes xs →
    xs ≡ record_bytes (record { kind = two (drop 2 xs); fields = fields_of ranges (drop 4 xs) }) ++ drop (length_of (length ranges)) xs
unfolding record_bytes
starts_record ranges xs e h are =
    let fields = fields_of ranges (drop 4 xs) in
    let size : two xs ≡ length_of (length fields) = e ∙ ap length_of (sym (length_fields ranges (drop 4 xs))) in
    let n = length-drop 2 xs in
    let m = length-drop 4 xs in
    let kind = starts_two (drop 2 xs) (omega arith) (are_left xs 2 are) in
    let rest = starts_fields ranges (drop 4 xs) (omega arith) (are_left xs 4 are) in
    starts_two xs (omega arith) are ∙ ap (λ z. half z ++ drop 2 xs) size
    ∙ ap (λ z. half (length_of (length fields)) ++ z) (
    kind ∙ ap (λ z. half (two (drop 2 xs)) ++ z) (drop-drop 2 2 xs ∙ rest ∙ ap (λ z. words fields ++ z) (drop-drop (4 * length ranges) 4 xs))
    )

pub span_record : (s : List ℕ) (ranges : List Range) (at : ℕ) → two (drop at s) ≡ length_of (length ranges) → length_of (length ranges) ≤ length (drop at s) →
    Span s at (at + length_of (length ranges)) (record_bytes (record { kind = two (drop 2 (drop at s)); fields = fields_of ranges (drop 4 (drop at s)) }))
span_record s ranges at e h =
    let x : Record = record { kind = two (drop 2 (drop at s)); fields = fields_of ranges (drop 4 (drop at s)) } in
    let n = length_fields ranges (drop 4 (drop at s)) in
    let l = length_record x in
    record {
      long = omega arith;
      same = λ are. starts_record ranges (drop at s) e h (are_left s at are) ∙ ap (λ z. record_bytes x ++ z) (drop-drop (length_of (length ranges)) at s);
    }
