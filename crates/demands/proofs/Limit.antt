-- Which values TOO BIG looks at: those of every construct, at any depth, and of every routine, and no other.
use Prim.Native.Nat.{ℕ, zero, suc, ◌≤◌, ◌<◌, zero-le}
use mathlib.Core.Path.{◌≡◌, refl, ap}
use mathlib.Core.Logic.{◌↔◌}
use mathlib.Core.Bool.{Bool, true, false}
use mathlib.Core.List.{List, [], ◌∷◌, ◌++◌}
use mathlib.Core.Option.{Option, some, none}
use lib.ListN.{get_or}
use lib.Dec.{ltb}
use borrow.Author.Tests.{ltb-true, ltb-false, lt-ltb, le-ltb}
use native.Mathlib.Omega.{arith}
use Rattle.meaning.specs.Tree.{Construct, Constructs, Routine, Sheet}
use Rattle.meaning.specs.Tree.{primitive, sequence, alternative, head_loop, tail_loop, timed_loop, call, marker, end, ◌then◌}
use Rattle.meaning.specs.Format.{pick}
use Rattle.meaning.specs.Value.{Known, value, bound, knowing, nothing, bounds, bounds_of}
use Rattle.meaning.specs.Answer.{value_limit, Ended, ended, ended_in, ended_routines, ended_of, too_big}

-- a construct's own value is at most the limit, and so are those of all that it owns
abbrev Own : Known → Construct → Type 0
Own known c = value known c ≤ value_limit

abbrev mutual
  Small : Known → Construct → Type 0
  Small known (primitive p) = Own known (primitive p)
  Small known (sequence cs) = SmallIn known cs × Own known (sequence cs)
  Small known (alternative c bs) = Small known c × SmallIn known bs × Own known (alternative c bs)
  Small known (head_loop l i c b o) = Small known i × Small known c × Small known b × Small known o × Own known (head_loop l i c b o)
  Small known (tail_loop l b c o) = Small known b × Small known c × Small known o × Own known (tail_loop l b c o)
  Small known (timed_loop w o) = Small known o × Own known (timed_loop w o)
  Small known (call k) = Own known (call k)
  Small known (marker m) = Own known (marker m)

  SmallIn : Known → Constructs → Type 0
  SmallIn known end = Unit {0}
  SmallIn known (c then cs) = Small known c × SmallIn known cs

-- of the routines after those that are known, and of a sheet
abbrev SmallRoutines : Known → List Routine → Type 0
SmallRoutines known [] = Unit {0}
SmallRoutines known (r ∷ rs) = Small known r.body × (bound known r ≤ value_limit) × SmallRoutines (knowing known (bound known r)) rs

abbrev pub SmallSheet : Sheet → Type 0
SmallSheet s = SmallRoutines nothing s.routines

-- no record of a list is over the limit; the first that is has this place
pub data NoneOver : List Ended → Type 0 where
  none_left : NoneOver []
  one_more : {e : Ended} {es : List Ended} → e.value ≤ value_limit → NoneOver es → NoneOver (e ∷ es)

pub data FirstOver (place : ℕ) : List Ended → Type 0 where
  here : {e : Ended} {es : List Ended} → value_limit < e.value → e.place ≡ place → FirstOver place (e ∷ es)
  later : {e : Ended} {es : List Ended} → e.value ≤ value_limit → FirstOver place es → FirstOver place (e ∷ es)

not_both : {place : ℕ} {es : List Ended} → FirstOver place es → NoneOver es → ⊥
not_both (here h e) (one_more k n) = omega arith
not_both (later h f) (one_more k n) = not_both f n

-- what too_big finds
pub data Sought (es : List Ended) : Option ℕ → Type 0 where
  nowhere : NoneOver es → Sought es none
  at_place : {place : ℕ} → FirstOver place es → Sought es (some place)

pub sought : (es : List Ended) → Sought es (too_big es)
unfolding too_big
sought [] = nowhere none_left
sought (e ∷ es) = go (ltb value_limit e.value) refl (sought es)
  where
    go : (t : Bool) → ltb value_limit e.value ≡ t → {rest : Option ℕ} → Sought es rest → Sought (e ∷ es) (pick t (some e.place) rest)
    go true q r = at_place (here (ltb-true value_limit e.value q) refl)
    go false q (nowhere h) = nowhere (one_more (ltb-false value_limit e.value q) h)
    go false q (at_place f) = at_place (later (ltb-false value_limit e.value q) f)

pub first_found : {place : ℕ} {es : List Ended} → FirstOver place es → too_big es ≡ some place
unfolding too_big
first_found (here {e = e} h q) = rw (lt-ltb value_limit e.value h) (ap (λ z. some z) q)
first_found (later {e = e} h f) = rw (le-ltb value_limit e.value h) (first_found f)

pub none_found : {es : List Ended} → NoneOver es → too_big es ≡ none
unfolding too_big
none_found none_left = refl
none_found (one_more {e = e} h n) = rw (le-ltb value_limit e.value h) (none_found n)

-- of one list after another
split : (xs : List Ended) {ys : List Ended} → NoneOver (xs ++ ys) → NoneOver xs × NoneOver ys
split [] h = (none_left, h)
split (x ∷ xs) (one_more k h) = let (a, b) = split xs h in (one_more k a, b)

join : {xs ys : List Ended} → NoneOver xs → NoneOver ys → NoneOver (xs ++ ys)
join none_left k = k
join (one_more h n) k = one_more h (join n k)

alone : {place v : ℕ} → v ≤ value_limit → NoneOver (record { place = place; value = v } ∷ [])
alone h = one_more h none_left

only : {place v : ℕ} → NoneOver (record { place = place; value = v } ∷ []) → v ≤ value_limit
only (one_more h n) = h

-- the list of a construct, wherever it stands, has its own value and those of all that it owns
mutual
  unfolding ended

  all_listed : (c : Construct) (known : Known) (at : ℕ) → NoneOver (ended known at c) → Small known c
  all_listed (primitive p) known at h = only h
  all_listed (sequence cs) known at h = let (a, own) = split _ h in (in_listed cs known _ a, only own)
  all_listed (alternative c bs) known at h = let (ab, own) = split _ h in let (a, b) = split _ ab in (all_listed c known _ a, in_listed bs known _ b, only own)
  all_listed (head_loop l i c b o) known at h =
      let (abcd, own) = split _ h in
      let (abc, d) = split _ abcd in
      let (ab, e) = split _ abc in
      let (a, f) = split _ ab in
      (all_listed i known _ a, all_listed c known _ f, all_listed b known _ e, all_listed o known _ d, only own)
  all_listed (tail_loop l b c o) known at h =
      let (abc, own) = split _ h in
      let (ab, d) = split _ abc in
      let (a, e) = split _ ab in
      (all_listed b known _ a, all_listed c known _ e, all_listed o known _ d, only own)
  all_listed (timed_loop w o) known at h = let (a, own) = split _ h in (all_listed o known _ a, only own)
  all_listed (call k) known at h = only h
  all_listed (marker m) known at h = only h

  in_listed : (cs : Constructs) (known : Known) (at : ℕ) → NoneOver (ended_in known at cs) → SmallIn known cs
  in_listed end known at h = tt
  in_listed (c then cs) known at h = let (a, b) = split _ h in (all_listed c known _ a, in_listed cs known _ b)

-- and no other
mutual
  unfolding ended

  listed_only : (c : Construct) (known : Known) (at : ℕ) → Small known c → NoneOver (ended known at c)
  listed_only (primitive p) known at h = alone h
  listed_only (sequence cs) known at h = join (in_listed_only cs known _ h.0) (alone h.1)
  listed_only (alternative c bs) known at h = join (join (listed_only c known _ h.0) (in_listed_only bs known _ h.1)) (alone h.2)
  listed_only (head_loop l i c b o) known at h =
      join (join (join (join (listed_only i known _ h.0) (listed_only c known _ h.1)) (listed_only b known _ h.2)) (listed_only o known _ h.3)) (alone h.4)
  listed_only (tail_loop l b c o) known at h =
      join (join (join (listed_only b known _ h.0) (listed_only c known _ h.1)) (listed_only o known _ h.2)) (alone h.3)
  listed_only (timed_loop w o) known at h = join (listed_only o known _ h.0) (alone h.1)
  listed_only (call k) known at h = alone h
  listed_only (marker m) known at h = alone h

  in_listed_only : (cs : Constructs) (known : Known) (at : ℕ) → SmallIn known cs → NoneOver (ended_in known at cs)
  in_listed_only end known at h = none_left
  in_listed_only (c then cs) known at h = join (listed_only c known _ h.0) (in_listed_only cs known _ h.1)

-- of routines, and of a sheet
routines_listed : (rs : List Routine) (known : Known) (at : ℕ) → NoneOver (ended_routines known at rs) → SmallRoutines known rs
unfolding ended_routines
routines_listed [] known at h = tt
routines_listed (r ∷ rs) known at h =
    let (own, rest) = split _ h in
    let (a, b) = split _ own in
    (all_listed r.body known _ a, only b, routines_listed rs _ _ rest)

routines_only : (rs : List Routine) (known : Known) (at : ℕ) → SmallRoutines known rs → NoneOver (ended_routines known at rs)
unfolding ended_routines
routines_only [] known at h = none_left
routines_only (r ∷ rs) known at h = join (join (listed_only r.body known _ h.0) (alone h.1)) (routines_only rs _ _ h.2)

pub sheet_listed : (s : Sheet) → NoneOver (ended_of s) ↔ SmallSheet s
sheet_listed s = (routines_listed s.routines nothing _, routines_only s.routines nothing _)

-- where some record is over the limit, some construct's or routine's own value is
pub not_small : {place : ℕ} (s : Sheet) → FirstOver place (ended_of s) → SmallSheet s → ⊥
not_small s f h = not_both f ((sheet_listed s).1 h)

-- none of the numbers of a list is over the limit; so it is of the bounds of a small sheet
abbrev pub NoneOverLimit : List ℕ → Type 0
NoneOverLimit bs = (i : ℕ) → get_or bs i 0 ≤ value_limit

one_bound_more : (bs : List ℕ) {b : ℕ} → NoneOverLimit bs → b ≤ value_limit → NoneOverLimit (bs ++ (b ∷ []))
one_bound_more [] h k zero = k
one_bound_more [] h k (suc i) = zero-le
one_bound_more (c ∷ bs) h k zero = h zero
one_bound_more (c ∷ bs) h k (suc i) = one_bound_more bs (λ j. h (suc j)) k i

small_after : (known : Known) (rs : List Routine) → SmallRoutines known rs → NoneOverLimit known.bounds → NoneOverLimit (bounds known rs).bounds
unfolding bounds
small_after known [] h k = k
small_after known (r ∷ rs) (body, own, rest) k = small_after (knowing known (bound known r)) rs rest (one_bound_more known.bounds k own)

pub small_bounds : (s : Sheet) → SmallSheet s → NoneOverLimit (bounds_of s)
small_bounds s h = small_after nothing s.routines h (λ i. zero-le)
