-- Document 01, "Allowed runs". Nothing here mentions a value.
use Rattle.std.specs.Prelude.{ℕ, suc, ◌+◌, ◌≤◌, ◌≡◌, true, false, List, [], ◌∷◌, ◌++◌, length}
use Rattle.std.proofs.Math.Option.{Option, some, none}
use Rattle.meaning.specs.Tree.{Primitive, Loop, Timed, Call, Marker, Construct, Constructs, Routine, Sheet, numbered, mark, seen_outside}
use Rattle.meaning.specs.Tree.{primitive, sequence, alternative, head_loop, tail_loop, timed_loop, call, marker, end, ◌then◌}

-- A tally counts, for each marker of a construct that belongs to a scope around it, how often it is passed: of an alternative first
-- the markers of its own branches, then those inside the branches. limits has the limits of these markers, in the same order.
abbrev pub Tally : Type 0
Tally = List ℕ

abbrev pub limit_of : Option Marker → List ℕ
limit_of none = []
limit_of (some m) = m.limit ∷ []

abbrev pub own : Constructs → List ℕ
own end = []
own (b then bs) = limit_of (mark b) ++ own bs

unfoldable mutual
  pub limits : Construct → List ℕ
  limits (primitive p) = []
  limits (sequence cs) = limits_in cs
  limits (alternative c bs) = own bs ++ limits_in bs
  limits (head_loop l i c b o) = seen_outside l.scope (limits b)
  limits (tail_loop l b c o) = seen_outside l.scope (limits b)
  limits (timed_loop w o) = []
  limits (call k) = []
  limits (marker m) = []

  pub limits_in : Constructs → List ℕ
  limits_in end = []
  limits_in (c then cs) = limits c ++ limits_in cs

-- none of these markers is passed; the marker of a branch that is taken is passed once; both tallies together
unfoldable pub never : List ℕ → Tally
never [] = []
never (l ∷ ls) = 0 ∷ never ls

abbrev pub once : Option Marker → Tally
once none = []
once (some m) = 1 ∷ []

infixl 60 ◌⊕◌
unfoldable pub ◌⊕◌ : Tally → Tally → Tally
◌⊕◌ [] us = us
◌⊕◌ (t ∷ ts) [] = t ∷ ts
◌⊕◌ (t ∷ ts) (u ∷ us) = (t + u) ∷ (ts ⊕ us)

pub data Within : List ℕ → List ℕ → Type 0 where  -- place by place at most
  empty : Within [] []
  both : {t l : ℕ} {ts ls : List ℕ} → t ≤ l → Within ts ls → Within (t ∷ ts) (l ∷ ls)

-- "In one entry of a scope, each marker of it is passed at most its limit of times": one entry of a loop in which the markers of its
-- body b are passed as the first tally says; the second is what the scope around the loop counts.
pub data Entry (l : Loop) (b : Construct) : Tally → Tally → Type 0 where
  handed : {t : Tally} → l.scope ≡ false → Entry l b t t
  scope : {t : Tally} → l.scope ≡ true → Within t (limits b) → Entry l b t []

-- "take exactly their cost"
abbrev pub Spends : ℕ → ℕ → Type 0
Spends cost n = n ≡ cost

-- What a run depends on besides the construct: for each routine before its own, which numbers of cycles it may take.
pub record World : Type 1 where
  pub earlier : List (ℕ → Type 0)

abbrev pub Never : ℕ → Type 0
Never n = ⊥

mutual
  -- Run world c n t: an allowed run of c takes n cycles and passes the markers t times.
  pub data Run (world : World) : Construct → ℕ → Tally → Type 0 where
    -- "A primitive, a marker and a routine's organisation take exactly their cost."
    act : {p : Primitive} {n : ℕ} → Spends p.cost n → Run world (primitive p) n []
    pass : {m : Marker} {n : ℕ} → Spends m.cost n → Run world (marker m) n []
    -- "A sequence runs its children in order. An alternative runs its condition, then one branch."
    children : {cs : Constructs} {n : ℕ} {t : Tally} → Runs world cs n t → Run world (sequence cs) n t
    choose : {c : Construct} {bs : Constructs} {n x y : ℕ} {t u v : Tally} →
        Run world c x [] → Taken world bs y u v → n ≡ x + y → t ≡ u ++ v → Run world (alternative c bs) n t
    -- "A head loop runs init, condition, then body and condition together up to count times."
    head : {l : Loop} {i c b o : Construct} {n x y z : ℕ} {t : Tally} →
        Run world i x [] → Tested world l c y → Rounds world l b c o 0 z t → n ≡ x + y + z → Run world (head_loop l i c b o) n t
    -- "A tail loop is the same without init and first condition, and runs its body at least once."
    tail : {l : Loop} {b c o : Construct} {n : ℕ} {t : Tally} → Rounds world l b c o 1 n t → Run world (tail_loop l b c o) n t
    -- "A timed loop takes any whole number of cycles from 0 to its time; its timeout statement may follow or not."
    wait : {w : Timed} {o : Construct} {n : ℕ} → n ≤ w.time → Run world (timed_loop w o) n []
    timeout : {w : Timed} {o : Construct} {n x y : ℕ} → x ≤ w.time → Run world o y [] → n ≡ x + y → Run world (timed_loop w o) n []
    -- "A call runs the named routine, organisation and then body, and starts afresh."
    enter : {k : Call} {n : ℕ} → numbered world.earlier k.routine Never n → Run world (call k) n []

  pub data Runs (world : World) : Constructs → ℕ → Tally → Type 0 where  -- the children of a sequence, in order
    done : Runs world end 0 []
    next : {c : Construct} {cs : Constructs} {n x y : ℕ} {t u v : Tally} →
        Run world c x u → Runs world cs y v → n ≡ x + y → t ≡ u ++ v → Runs world (c then cs) n t

  -- one branch of several; the first tally is of the markers of the branches, the second of those inside them
  pub data Taken (world : World) : Constructs → ℕ → Tally → Tally → Type 0 where
    this : {b : Construct} {bs : Constructs} {n : ℕ} {t u v : Tally} →
        Run world b n v → t ≡ once (mark b) ++ never (own bs) → u ≡ v ++ never (limits_in bs) → Taken world (b then bs) n t u
    other : {b : Construct} {bs : Constructs} {n : ℕ} {t u v w : Tally} →
        Taken world bs n v w → t ≡ never (limit_of (mark b)) ++ v → u ≡ never (limits b) ++ w → Taken world (b then bs) n t u

  -- body and condition at least so many times and up to count times. "After exactly count times the overrun may follow or not; after
  -- fewer it never does."
  pub data Rounds (world : World) : Loop → Construct → Construct → Construct → ℕ → ℕ → Tally → Type 0 where
    without : {l : Loop} {b c o : Construct} {least k n : ℕ} {t u : Tally} →
        least ≤ k → k ≤ l.count → Again world l b c k n u → Entry l b u t → Rounds world l b c o least n t
    overrun : {l : Loop} {b c o : Construct} {least n x y : ℕ} {t u : Tally} →
        least ≤ l.count → Again world l b c l.count x u → Entry l b u t → Run world o y [] → n ≡ x + y → Rounds world l b c o least n t

  pub data Again (world : World) : Loop → Construct → Construct → ℕ → ℕ → Tally → Type 0 where  -- body and condition together, k times
    stop : {l : Loop} {b c : Construct} {t : Tally} → t ≡ never (limits b) → Again world l b c 0 0 t
    again : {l : Loop} {b c : Construct} {k n x y z : ℕ} {t u v : Tally} →
        Run world b x u → Tested world l c y → Again world l b c k z v → n ≡ x + y + z → t ≡ u ⊕ v → Again world l b c (suc k) n t

  pub data Tested (world : World) : Loop → Construct → ℕ → Type 0 where  -- one evaluation of a loop's condition
    tested : {l : Loop} {c : Construct} {n : ℕ} → Run world c n [] → Tested world l c n

-- a routine: "organisation and then body"
pub data Takes (world : World) (r : Routine) : ℕ → Type 0 where
  takes : {x y : ℕ} → Spends r.organisation x → Run world r.body y [] → Takes world r (x + y)

-- what routines may take, in order, after those that the world has
abbrev pub joined : World → (ℕ → Type 0) → World
joined world P = record { earlier = world.earlier ++ (P ∷ []) }

unfoldable pub allowed : World → List Routine → World
allowed world [] = world
allowed world (r ∷ rs) = allowed (joined world (Takes world r)) rs

abbrev pub begin : World
begin = record { earlier = [] }

-- the runs of the routine of a number; "A run of the sheet is a run of its last routine."
abbrev pub RoutineTakes : Sheet → ℕ → ℕ → Type 0
RoutineTakes s number n = numbered (allowed begin s.routines).earlier number Never n

abbrev pub SheetTakes : Sheet → ℕ → Type 0
SheetTakes s n = RoutineTakes s (length s.routines) n
