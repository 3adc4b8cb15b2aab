-- The first record that is too big, of one list after another, and where it stands; and that what the code tells at a record's end agrees.
use Prim.Native.Nat.{ℕ, ◌+◌, ◌≤◌, min}
use mathlib.Core.Path.{◌≡◌, refl, sym, ap, ◌∙◌}
use mathlib.Core.Bool.{Bool, true, false}
use mathlib.Core.List.{List, [], ◌∷◌, ◌++◌}
use mathlib.Core.Option.{Option as Maybe, some, none}
use lib.ListN.{length}
use lib.Dec.{ltb}
use borrow.Author.Tests.{ltb-true, ltb-false, lt-ltb, le-ltb}
use native.Mathlib.Omega.{arith}
use Rattle.std.specs.Prelude.{Option, Some, None}
use Rattle.std.specs.Option.{option_or}
use Rattle.meaning.specs.Tree.{Construct, Constructs, Routine, Sheet, itself, mark}
use Rattle.meaning.specs.Tree.{primitive, sequence, alternative, head_loop, tail_loop, timed_loop, call, marker, end, ◌then◌}
use Rattle.meaning.specs.Format.{pick}
use Rattle.meaning.specs.Value.{Known, value, bound, knowing, nothing, total, times, charges}
use Rattle.meaning.specs.Work.{records}
use Rattle.meaning.specs.Judgement.{found}
use Rattle.meaning.specs.Answer.{value_limit, Ended, ended, ended_in, ended_routines, ended_of as ended_of_sheet, ends, too_big}
use Rattle.records.specs.declared.Cursor.{Cursor}
use Rattle.reader.specs.Tallies.{Share, value_cap, value_told, over_told, ended_of}
use Rattle.reader.proofs.Tells.{told_small}
use Rattle.bridge.proofs.Agree.{place_of, limit_of, over_in, Agrees, Same, read_done}

pub big_append : (xs ys : List Ended) → over_in (xs ++ ys) ≡ option_or (over_in xs) (over_in ys)
unfolding too_big
big_append [] ys = refl
big_append (x ∷ xs) ys = go (ltb value_limit x.value) (big_append xs ys)
  where
    go : (t : Bool) → over_in (xs ++ ys) ≡ option_or (over_in xs) (over_in ys) →
        place_of (pick t (some x.place) (too_big (xs ++ ys))) ≡ option_or (place_of (pick t (some x.place) (too_big xs))) (over_in ys)
    go true e = refl
    go false e = e

-- a record's own end comes last
pub big_end : (xs : List Ended) (known : Known) (at : ℕ) (c : Construct) → over_in (xs ++ ends known at c) ≡ over_told (over_in xs) (value known c) at
unfolding too_big
big_end xs known at c = big_append xs (ends known at c) ∙ ap (option_or (over_in xs)) (go (ltb value_limit (value known c)))
  where
    go : (t : Bool) → place_of (pick t (some at) none) ≡ pick t (Some at) None
    go true = refl
    go false = refl

-- Of two places the first that is there is told: none only where neither is there, and the second counts only where the first is not.
pub neither : (a b : Option ℕ) → option_or a b ≡ None → (a ≡ None) × (b ≡ None)
neither None b e = (refl, e)
neither (Some place) b e = cc

pub or_same : (a : Option ℕ) {b c : Option ℕ} → (a ≡ None → b ≡ c) → option_or a b ≡ option_or a c
or_same None k = k refl
or_same (Some place) k = refl

not_told : (t : Bool) (at : ℕ) → pick t (Some at) None ≡ None → t ≡ false
not_told true at e = cc
not_told false at e = refl

-- two values of which both are too large, or which are the same
same_test : (v w : ℕ) → min value_cap v ≡ min value_cap w → ltb value_limit v ≡ ltb value_limit w
same_test v w h = go (ltb value_limit w) refl
  where
    go : (t : Bool) → ltb value_limit w ≡ t → ltb value_limit v ≡ t
    go true e = let k = ltb-true value_limit w e in lt-ltb value_limit v (omega arith)
    go false e = let k = ltb-false value_limit w e in le-ltb value_limit v (omega arith)

-- what a record has at its end: after which inner ones; which of these is too big, and, if none is, its value, or one too large as it is,
-- and what it hands on
pub record Closes (known : Known) (product at : ℕ) (c : Construct) (inner : List Ended) (v : ℕ) (over : Option ℕ) (e : ℕ) (m : Option ℕ) (w : ℕ) : Type 0 where
  pub listed : ended known at c ≡ inner ++ ends known at c
  pub first : over ≡ over_in inner
  pub amount : over_in inner ≡ None → min value_cap v ≡ min value_cap (value known c)
  pub added : over_in inner ≡ None → e ≡ min value_cap (total (times product (charges known c)))
  pub marked : m ≡ option_or (limit_of (itself c)) (limit_of (mark c))
  pub inside : w + 1 ≡ length (records c)

pub ended_law : {known : Known} {product at past v e w : ℕ} {c : Construct} {over m : Option ℕ} {next : Cursor} (inner : List Ended) →
    Closes known product at c inner v over e m w → next.at ≡ past → Same known product at (ended_of v over e m w at next) (found c past)
unfolding ended_of
ended_law {known = known} {at = at} {v = v} {c = c} inner h reached =
    rw h.first (read_done (record {
      reached = reached;
      over = or_same (over_in inner) (λ z. ap (λ t. pick t (Some at) None) (same_test v (value known c) (h.amount z))) ∙ sym listed;
      amount = λ z. (quiet z).1;
      small = told_small v;
      added = λ z. h.added (quiet z).0;
      marked = h.marked;
      inside = h.inside;
    }))
  where
    listed : over_in (ended known at c) ≡ over_told (over_in inner) (value known c) at
    listed = ap over_in h.listed ∙ big_end inner known at c

    -- where no record is too big, its value is told
    quiet : over_in (ended known at c) ≡ None → (over_in inner ≡ None) × (value_told v ≡ value known c)
    quiet z =
        let (a, b) = neither (over_in inner) _ (sym listed ∙ z) in
        let t = not_told _ at b in
        let x = ltb-false value_limit (value known c) t in
        let same = h.amount a in
        (a, rw (same_test v (value known c) same, t) (omega arith))

-- each of these records stands at place n or later
pub data From (n : ℕ) : List Ended → Type 0 where
  no_more : From n []
  one_more : {e : Ended} {es : List Ended} → n ≤ e.place → From n es → From n (e ∷ es)

-- one list after another
pub from_append : {n : ℕ} {xs ys : List Ended} → From n xs → From n ys → From n (xs ++ ys)
from_append no_more k = k
from_append (one_more h f) k = one_more h (from_append f k)

-- the same of an earlier place
pub from_earlier : {m n : ℕ} {es : List Ended} → From n es → m ≤ n → From m es
from_earlier no_more k = no_more
from_earlier (one_more h f) k = one_more (omega arith) (from_earlier f k)

-- a record's own end is at its place
own_from : (known : Known) (at : ℕ) (c : Construct) → From at (ends known at c)
own_from known at c = one_more (omega arith) no_more

-- the records of a construct stand where it stands or later, and so do those of constructs in order
mutual
  unfolding ended ended_in

  pub ended_from : (known : Known) (at : ℕ) (c : Construct) → From at (ended known at c)
  ended_from known at (primitive p) = own_from known at (primitive p)
  ended_from known at (sequence cs) = from_append (from_earlier (ended_in_from known _ cs) (omega arith)) (own_from known at (sequence cs))
  ended_from known at (alternative c bs) =
      from_append (from_append (from_earlier (ended_from known _ c) (omega arith)) (from_earlier (ended_in_from known _ bs) (omega arith)))
      (own_from known at (alternative c bs))
  ended_from known at (head_loop l i c b o) =
      from_append (from_append (from_append (from_append (from_earlier (ended_from known _ i) (omega arith)) (from_earlier (ended_from known _ c) (omega arith)))
      (from_earlier (ended_from known _ b) (omega arith))) (from_earlier (ended_from known _ o) (omega arith))) (own_from known at (head_loop l i c b o))
  ended_from known at (tail_loop l b c o) =
      from_append (from_append (from_append (from_earlier (ended_from known _ b) (omega arith)) (from_earlier (ended_from known _ c) (omega arith)))
      (from_earlier (ended_from known _ o) (omega arith))) (own_from known at (tail_loop l b c o))
  ended_from known at (timed_loop w o) = from_append (from_earlier (ended_from known _ o) (omega arith)) (own_from known at (timed_loop w o))
  ended_from known at (call k) = own_from known at (call k)
  ended_from known at (marker m) = own_from known at (marker m)

  pub ended_in_from : (known : Known) (at : ℕ) (cs : Constructs) → From at (ended_in known at cs)
  ended_in_from known at end = no_more
  ended_in_from known at (c then cs) = from_append (ended_from known at c) (from_earlier (ended_in_from known _ cs) (omega arith))

-- so the first that is too big stands there or later
pub big_from : (n : ℕ) (es : List Ended) {place : ℕ} → From n es → too_big es ≡ some place → n ≤ place
unfolding too_big
big_from n [] no_more q = cc
big_from n (e ∷ es) {place} (one_more h f) q = go (ltb value_limit e.value) q (big_from n es f)
  where
    go : (t : Bool) → pick t (some e.place) (too_big es) ≡ some place → (too_big es ≡ some place → n ≤ place) → n ≤ place
    go true q k = let same : e.place ≡ place = cc in omega arith
    go false q k = k q

-- no construct stands at place 0
pub over_past : (known : Known) (at : ℕ) (c : Construct) {place : ℕ} → 1 ≤ at → too_big (ended known at c) ≡ some place → 1 ≤ place
over_past known at c h q = let k = big_from at (ended known at c) (ended_from known at c) q in omega arith

-- nor does a routine, so that no sheet is too big at place 0
pub routines_from : (known : Known) (at : ℕ) (rs : List Routine) → From at (ended_routines known at rs)
unfolding ended_routines
routines_from known at [] = no_more
routines_from known at (r ∷ rs) =
    from_append (from_append (from_earlier (ended_from known _ r.body) (omega arith)) (one_more (omega arith) no_more))
    (from_earlier (routines_from (knowing known (bound known r)) _ rs) (omega arith))

pub sheet_past : (s : Sheet) {place : ℕ} → too_big (ended_of_sheet s) ≡ some place → 1 ≤ place
sheet_past s q = let k = big_from _ _ (routines_from nothing _ s.routines) q in omega arith

-- what the code tells of a construct
pub told_past : {known : Known} {product at past : ℕ} {c : Construct} {p : Share} {place : ℕ} → Agrees known product at c past p → 1 ≤ at →
    p.over ≡ Some place → 1 ≤ place
told_past {known = known} {at = at} {c = c} {p = p} {place = place} g h q = go (too_big (ended known at c)) (λ n. over_past known at c {place = n} h) (sym g.over ∙ q)
  where
    go : (t : Maybe ℕ) → ((n : ℕ) → t ≡ some n → 1 ≤ n) → place_of t ≡ Some place → 1 ≤ place
    go none k e = cc
    go (some n) k e = let same : n ≡ place = cc in let j = k n refl in omega arith
