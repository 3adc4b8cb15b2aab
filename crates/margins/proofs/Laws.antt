-- What the margins' definitions come to, for the code and for those who read the margins.
use Prim.Native.Nat.{ℕ, zero, suc, ◌+◌, ◌-◌, ◌≤◌, ◌<◌, zero-le, suc-le-suc}
use mathlib.Core.Path.{◌≡◌, refl, sym, ap, ◌∙◌}
use mathlib.Core.Bool.{Bool, true, false, cond}
use mathlib.Core.List.{List, [], ◌∷◌, ◌++◌}
use mathlib.Core.Option.{some, none}
use lib.ListN.{length, get_or, set, take}
use lib.Seq.{paste}
use lib.IntN.{ℤ, pos, negsuc, nat_abs, pos-ne-negsuc, ◌-ℤ◌}
use lib.Dec.{ltb}
use mir.Syntax.{w64}
use mir.Val.{SFits, to_z, of_z}
use mir.ValLaws.{to_z_pos, to_z-of_z}
use borrow.Author.Tests.{ltb-true, ltb-false, lt-ltb, le-ltb}
use native.Mathlib.Omega.{arith}
use native.Mathlib.Nat.{le_of_suc-le-suc, not-suc-le-zero, zero-add}
use Rattle.std.specs.Prelude.{Some, None}
use Rattle.std.specs.List.{All, position_or_len}
use Rattle.std.proofs.lemmas.List.Edits.{paste_more}
use Rattle.std.proofs.lemmas.List.Elements.{All-head, All-tail}
use Rattle.std.proofs.lemmas.List.Quantifiers.{position-Some}
use Rattle.std.proofs.lemmas.List.Sums.{fails_before_first}
use Rattle.meaning.specs.Tree.{Sheet}
use Rattle.meaning.specs.Answer.{accepted, refused, value_limit}
use Rattle.margins.specs.Margins.{last_deadline, deadlines_of, first_out, held_to, margin_of, margins_of}
use Rattle.margins.specs.Steps.{out_of_range}

-- a routine that is late has the cycles that are missing, below 0; one that is early or just fits those that are left
pub late : (deadline bound : ℕ) → deadline < bound → margin_of deadline bound ≡ negsuc (bound - suc deadline)
late deadline zero h = absurd (not-suc-le-zero h)
late deadline (suc b) h = rw (lt-ltb deadline (suc b) h)

pub in_time : (deadline bound : ℕ) → bound ≤ deadline → margin_of deadline bound ≡ pos (deadline - bound)
in_time deadline zero h = ap pos (omega arith)
in_time deadline (suc b) h = rw (le-ltb deadline (suc b) h)

-- a margin and the bound make the deadline up: what is left to it, what is missing to it
pub left_is : (deadline bound left : ℕ) → margin_of deadline bound ≡ pos left → bound + left ≡ deadline
left_is deadline bound left e = go (ltb deadline bound) refl
  where
    go : (t : Bool) → ltb deadline bound ≡ t → bound + left ≡ deadline
    go true q = absurd (pos-ne-negsuc left _ (sym e ∙ late deadline bound (ltb-true deadline bound q)))
    go false q =
        let h = ltb-false deadline bound q in
        let same : deadline - bound ≡ left = ap nat_abs (sym (in_time deadline bound h) ∙ e) in
        omega arith

pub missing_is : (deadline bound missing : ℕ) → margin_of deadline bound ≡ negsuc missing → deadline + suc missing ≡ bound
missing_is deadline bound missing e = go (ltb deadline bound) refl
  where
    go : (t : Bool) → ltb deadline bound ≡ t → deadline + suc missing ≡ bound
    go true q =
        let h = ltb-true deadline bound q in
        let same : suc (bound - suc deadline) ≡ suc missing = ap nat_abs (sym (late deadline bound h) ∙ e) in
        omega arith
    go false q = absurd (pos-ne-negsuc _ missing (sym (in_time deadline bound (ltb-false deadline bound q)) ∙ e))

-- no margin is too large for a signed number of 64 bits
margin_fits : (deadline bound : ℕ) → deadline ≤ last_deadline → bound ≤ value_limit → SFits w64 (margin_of deadline bound)
margin_fits deadline bound h k = go (ltb deadline bound) refl
  where
    go : (t : Bool) → ltb deadline bound ≡ t → SFits w64 (margin_of deadline bound)
    go true e = record { sfits = rw (late deadline bound (ltb-true deadline bound e)) (omega arith) }
    go false e = record { sfits = rw (in_time deadline bound (ltb-false deadline bound e)) (omega arith) }

-- a number under the limits is the same read as signed
cast_keeps : (n : ℕ) → n ≤ value_limit → to_z w64 n ≡ pos n
cast_keeps n h = to_z_pos w64 n (omega arith)

-- the difference of what is cast fits, and is the margin once it is read back
module _ (deadline bound : ℕ) (few : (deadline ≤ last_deadline) × (bound ≤ value_limit)) where
  difference_is : to_z w64 deadline -ℤ to_z w64 bound ≡ margin_of deadline bound
  difference_is = rw (cast_keeps deadline few.0, cast_keeps bound few.1)

  pub difference_fits : SFits w64 (to_z w64 deadline -ℤ to_z w64 bound)
  difference_fits = rw difference_is (margin_fits deadline bound few.0 few.1)

  pub difference_read : to_z w64 (of_z w64 (to_z w64 deadline -ℤ to_z w64 bound)) ≡ margin_of deadline bound
  difference_read = to_z-of_z w64 _ difference_fits ∙ difference_is

-- each deadline of a list is in range
abbrev pub InRange : List ℕ → Type 0
InRange = All (λ d. d ≤ last_deadline)

-- the first deadline of a list that is out of range has this place
pub record IsFirst (deadlines : List ℕ) (i : ℕ) : Type 0 where
  pub within : i < length deadlines
  pub over : last_deadline < get_or deadlines i 0
  pub before : (k : ℕ) → k < i → get_or deadlines k 0 ≤ last_deadline

pub some_over : (deadlines : List ℕ) {i : ℕ} → out_of_range deadlines ≡ Some i → IsFirst deadlines i
some_over deadlines {i} e =
    let p = position-Some (λ d. ltb last_deadline d) deadlines i 0 e in
    record { within = p.0; over = ltb-true last_deadline _ p.1; before = λ k h. ltb-false last_deadline _ (p.2 k h) }

pub none_over : (deadlines : List ℕ) → out_of_range deadlines ≡ None → InRange deadlines
none_over deadlines e = go (ltb before (length deadlines)) refl e
  where
    before : ℕ
    before = position_or_len (λ d. ltb last_deadline d) deadlines

    go : (t : Bool) → ltb before (length deadlines) ≡ t → cond t (Some before) None ≡ None → InRange deadlines
    go true q e = cc
    go false q e = λ k d h.
        let all = ltb-false before (length deadlines) q in
        ltb-false last_deadline _ (fails_before_first (λ d. ltb last_deadline d) deadlines k d (omega arith))

-- the margin of each routine that has a deadline and a bound
pub margin_at : (i : ℕ) (deadlines bounds : List ℕ) → i < length deadlines → i < length bounds →
    (i < length (margins_of deadlines bounds)) × (get_or (margins_of deadlines bounds) i (pos 0) ≡ margin_of (get_or deadlines i 0) (get_or bounds i 0))
unfolding margins_of
margin_at i [] bounds h k = absurd (not-suc-le-zero h)
margin_at i (d ∷ ds) [] h k = absurd (not-suc-le-zero k)
margin_at zero (d ∷ ds) (b ∷ bs) h k = (suc-le-suc zero-le, refl)
margin_at (suc i) (d ∷ ds) (b ∷ bs) h k =
    let (inside, same) = margin_at i ds bs (le_of_suc-le-suc h) (le_of_suc-le-suc k) in
    (suc-le-suc inside, same)

-- as many margins as bounds, where each has its deadline
pub length_margins : (deadlines bounds : List ℕ) → length bounds ≤ length deadlines → length (margins_of deadlines bounds) ≡ length bounds
unfolding margins_of
length_margins [] [] h = refl
length_margins (d ∷ ds) [] h = refl
length_margins [] (b ∷ bs) h = absurd (not-suc-le-zero h)
length_margins (d ∷ ds) (b ∷ bs) h = ap suc (length_margins ds bs (le_of_suc-le-suc h))

-- one margin more: what is stored is read back from its bits
pub margins_more : (deadlines bounds : List ℕ) (margins : List ℤ) (i : ℕ) {z : ℤ} → length bounds ≤ length deadlines → i < length bounds →
    length bounds ≤ length margins → (get_or deadlines i 0 ≤ last_deadline) × (get_or bounds i 0 ≤ value_limit) →
    z ≡ margin_of (get_or deadlines i 0) (get_or bounds i 0) →
    set (paste margins 0 (margins_of deadlines bounds) i) i (to_z w64 (of_z w64 z)) ≡ paste margins 0 (margins_of deadlines bounds) (i + 1)
margins_more deadlines bounds margins i h k l few e =
    let (inside, same) = margin_at i deadlines bounds (omega arith) k in
    let more = paste_more margins 0 (margins_of deadlines bounds) i (pos 0) (omega arith) inside in
    rw (e, to_z-of_z w64 _ (margin_fits (get_or deadlines i 0) (get_or bounds i 0) few.0 few.1), ← same) (simp zero-add (simp zero-add at more))

-- bounds after those of the routines have no part in their margins
pub margins_before : (deadlines bounds others : List ℕ) → length bounds ≤ length deadlines →
    take (length bounds) (margins_of deadlines (bounds ++ others)) ≡ margins_of deadlines bounds
unfolding margins_of
margins_before [] [] others h = refl
margins_before (d ∷ ds) [] others h = refl
margins_before [] (b ∷ bs) others h = absurd (not-suc-le-zero h)
margins_before (d ∷ ds) (b ∷ bs) others h = ap (λ r. margin_of d b ∷ r) (margins_before ds bs others (le_of_suc-le-suc h))

-- deadlines after those of the routines have no part in their margins
pub margins_first : (deadlines bounds : List ℕ) → margins_of (take (length bounds) deadlines) bounds ≡ margins_of deadlines bounds
unfolding margins_of
margins_first [] [] = refl
margins_first (d ∷ ds) [] = refl
margins_first [] (b ∷ bs) = refl
margins_first (d ∷ ds) (b ∷ bs) = ap (λ r. margin_of d b ∷ r) (margins_first ds bs)

-- the first deadline out of range, and that there is none
first_out_lem : (number i : ℕ) (deadlines : List ℕ) → IsFirst deadlines i → first_out number deadlines ≡ some (number + i)
unfolding first_out
first_out_lem number i [] f = absurd (not-suc-le-zero f.within)
first_out_lem number zero (d ∷ ds) f = rw (lt-ltb last_deadline d f.over) (ap (λ z. some z) (omega arith))
first_out_lem number (suc i) (d ∷ ds) f =
    let rest : IsFirst ds i = record { within = le_of_suc-le-suc f.within; over = f.over; before = λ k h. f.before (suc k) (suc-le-suc h) } in
    rw (le-ltb last_deadline d (f.before zero (suc-le-suc zero-le))) (first_out_lem (suc number) i ds rest ∙ ap (λ z. some z) (omega arith))

none_out : (number : ℕ) (deadlines : List ℕ) → InRange deadlines → first_out number deadlines ≡ none
unfolding first_out
none_out number [] h = refl
none_out number (d ∷ ds) h = rw (le-ltb last_deadline d (All-head (λ d. d ≤ last_deadline) d ds h)) (none_out (suc number) ds (All-tail (λ d. d ≤ last_deadline) d ds h))

-- an accepted sheet with a deadline out of range, and with none
module _ (t : Sheet) (deadlines : List ℕ) where
  pub some_out : {i : ℕ} → IsFirst (deadlines_of t deadlines) i → held_to deadlines (accepted t) ≡ refused 14 (i + 1)
  some_out {i} f = rw (first_out_lem 1 i (deadlines_of t deadlines) f) (ap (λ k. refused 14 k) (omega arith))

  pub all_in : InRange (deadlines_of t deadlines) → held_to deadlines (accepted t) ≡ accepted t
  all_in h = rw (none_out 1 (deadlines_of t deadlines) h)
