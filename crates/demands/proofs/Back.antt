-- The bytes of a legal sheet are read back.
use Prim.Native.Nat.{ℕ, suc, ◌+◌, ◌-◌}
use mathlib.Core.Path.{◌≡◌, refl, sym, ap, ◌∙◌}
use mathlib.Core.Bool.{Bool, true, false, not, false≢true}
use mathlib.Core.List.{List, [], ◌∷◌, ◌++◌}
use mathlib.Core.Logic.{◌⊎◌, inl, inr}
use mathlib.Core.Option.{none}
use lib.ListN.{length, length-append}
use lib.Dec.{eqb}
use borrow.Author.Tests.{le-ltb, lt-leb, ne_eqb, eqb-true}
use native.Mathlib.Omega.{arith}
use Rattle.meaning.specs.Tree.{Marker, Construct, Constructs, Routine, Sheet, itself, leading, mark}
use Rattle.meaning.specs.Tree.{primitive, sequence, alternative, head_loop, tail_loop, timed_loop, call, marker, end, ◌then◌}
use Rattle.meaning.specs.Format.{pick, routine_rows, construct_rows, listed, InRange, flag, how_many, Record, record_of, routine_record, sheet_record}
use Rattle.meaning.specs.Format.{record_bytes, bytes, bytes_in, routine_bytes, routines_bytes, bytes_of}
use Rattle.meaning.specs.Legal.{Reach, may_mark, nowhere, first_child, later_child, as_branch, as_body, Plain, Fit, Legal, Legals, LegalRoutines, LegalSheet}
use Rattle.meaning.specs.Judgement.{found, refuse, construct, routine, sheet, bad_call, stray, no_plain, ConstructReader, list, is_marked, branches}
use Rattle.meaning.specs.Judgement.{sequence_at, alternative_at, head_loop_at, tail_loop_at, timed_loop_at, owned, construct_at, routine_at, routines_at, sheet_at}
use Rattle.meaning.proofs.Laws.{pick_true}
use Rattle.demands.proofs.Here.{here_all, here_left, here_right, ReadBack, read_none, read_alone, read_then, read_last, record_back}

-- What rule 10 asks: the last branch, where those before are all marked, is plain, and its first child is no marker.
record Free (last : Bool) (r : Reach) (c : Construct) : Type 0 where
  plain : last ≡ true → r.branch ≡ true → mark c ≡ none
  no_marker : last ≡ true → r.lead ≡ true → itself c ≡ none

-- it asks nothing of any other construct
free : {r : Reach} {c : Construct} → Free false r c
free = record { plain = λ e _. absurd (false≢true e); no_marker = λ e _. absurd (false≢true e) }

-- where some branch is plain: the last, if those before are all marked; and one of the later ones, if this one is marked
last_plain : (b : Construct) (bs : Constructs) (marked : Bool) → (marked ≡ true → Plain (b then bs)) → pick (eqb (how_many bs) 0) marked false ≡ true → mark b ≡ none
last_plain b bs marked h e = let (n, all) = pick_true (eqb (how_many bs) 0) marked e in go bs (eqb-true (how_many bs) 0 n) (h all)
  where
    go : (cs : Constructs) → how_many cs ≡ 0 → (mark b ≡ none) ⊎ Plain cs → mark b ≡ none
    go cs n (inl p) = p
    go end n (inr p) = absurd p
    go (c then cs) n (inr p) = absurd (omega arith)

later_plain : (b : Construct) (bs : Constructs) (marked : Bool) → (marked ≡ true → Plain (b then bs)) → pick marked (is_marked (mark b)) false ≡ true → Plain bs
later_plain b bs marked h e = let (all, m) = pick_true marked (is_marked (mark b)) e in go m (h all)
  where
    go : is_marked (mark b) ≡ true → (mark b ≡ none) ⊎ Plain bs → Plain bs
    go m (inl p) = absurd (false≢true (sym (ap is_marked p) ∙ m))
    go m (inr p) = p

-- a marker that is not stray keeps rule 10
marker_free : (last : Bool) (r : Reach) (m : Marker) → Free last r (marker m) → may_mark r ≡ true → last ≡ false
marker_free true r m f e = ap is_marked (f.no_marker refl (pick_true r.scope r.lead e).1)
marker_free false r m f e = refl

-- a scope is read as it was written
flag_back : (b : Bool) → eqb (flag b) 1 ≡ b
flag_back true = refl
flag_back false = refl

-- In a sheet s, of the routine that has so many before it:
module _ (s : List ℕ) (before : ℕ) where
  -- the reader of its constructs at a depth
  abbrev reader : ℕ → ConstructReader
  reader depth = construct_at (25 - depth) s (before + 1)

  -- a construct's record: its kind is one of a construct's, and rules 7, 9 and 10 are kept
  abbrev Kept : Reach → Bool → Record → Type 0
  Kept r last x = (listed x.kind construct_rows ≡ true) × (bad_call (before + 1) x ≡ false) × (stray r x ≡ false) × (no_plain last x ≡ false)

  -- a construct is read back if what it owns is, one deeper
  owner_back : (depth : ℕ) (r : Reach) (last : Bool) (c : Construct) {xs : List ℕ} → Fit depth c → Kept r last (record_of c) →
      ReadBack s xs (owned (reader (suc depth)) r last (record_of c)) c → ReadBack s (record_bytes (record_of c) ++ xs) (reader depth r last) c
  unfolding construct_at refuse
  owner_back depth r last c fit kept h =
      let deep = fit.1 in
      let below = 25 - suc depth in
      let e : 25 - depth ≡ suc below = omega arith in
      let left = ne_eqb (suc below) 0 (λ z. omega arith) in
      rw e
      (read_then _
      (record_back (construct (before + 1) (suc below) r last) (record_of c) kept.0 fit.0 (λ at good. rw (kept.1, left, kept.2, kept.3)))
      h)

  -- constructs; the children of a sequence; the branches of an alternative, where those before are all marked or not
  mutual
    unfolding listed bytes bytes_in list branches sequence_at alternative_at head_loop_at tail_loop_at timed_loop_at

    construct_back : (c : Construct) (depth : ℕ) (r : Reach) (last : Bool) → Legal before depth r c → Free last r c → ReadBack s (bytes c) (reader depth r last) c
    construct_back (primitive p) depth r last h f = read_alone (owner_back depth r last (primitive p) h (refl, refl, refl, refl) (read_none (primitive p)))
    construct_back (sequence cs) depth r last h f =
        owner_back depth r last (sequence cs) h.0 (refl, refl, refl, refl)
        (read_last sequence (list_back cs (suc depth) r last h.1 f.plain))
    construct_back (alternative c bs) depth r last h f =
        owner_back depth r last (alternative c bs) h.0 (refl, refl, refl, refl)
        (read_then _ (construct_back c (suc depth) nowhere false h.1 free)
        (read_last (alternative c) (branches_back bs (suc depth) r true h.2 (λ _. h.3))))
    construct_back (head_loop l i c b o) depth r last h f =
        owner_back depth r last (head_loop l i c b o) h.0 (refl, refl, refl, refl)
        (rw (flag_back l.scope)
        (read_then _ (construct_back i (suc depth) nowhere false h.1 free)
        (read_then _ (construct_back c (suc depth) nowhere false h.2 free)
        (read_then _ (construct_back b (suc depth) (as_body l.scope r) false h.3 free)
        (read_last (head_loop l i c b) (construct_back o (suc depth) nowhere false h.4 free))))))
    construct_back (tail_loop l b c o) depth r last h f =
        owner_back depth r last (tail_loop l b c o) h.0 (refl, refl, refl, refl)
        (rw (flag_back l.scope)
        (read_then _ (construct_back b (suc depth) (as_body l.scope r) false h.1 free)
        (read_then _ (construct_back c (suc depth) nowhere false h.2 free)
        (read_last (tail_loop l b c) (construct_back o (suc depth) nowhere false h.3 free)))))
    construct_back (timed_loop w o) depth r last h f =
        owner_back depth r last (timed_loop w o) h.0 (refl, refl, refl, refl)
        (read_last (timed_loop w) (construct_back o (suc depth) nowhere false h.1 free))
    construct_back (call k) depth r last h f =
        let low = h.1 in
        let high = h.2 in
        let named : bad_call (before + 1) (record_of (call k)) ≡ false = rw (ne_eqb k.routine 0 (λ z. omega arith)) (lt-leb (before + 1) k.routine (omega arith)) in
        read_alone (owner_back depth r last (call k) h.0 (refl, named, refl, refl) (read_none (call k)))
    construct_back (marker m) depth r last h f =
        read_alone (owner_back depth r last (marker m) h.0 (refl, refl, ap not h.1, marker_free last r m f h.1) (read_none (marker m)))

    list_back : (cs : Constructs) (depth : ℕ) (r : Reach) (last : Bool) → Legals before depth (first_child r) (later_child r) cs →
        (last ≡ true → r.branch ≡ true → leading cs ≡ none) → ReadBack s (bytes_in cs) (list (reader depth) (first_child r) last (later_child r) (how_many cs)) cs
    list_back end depth r last h f = read_none end
    list_back (c then cs) depth r last h f =
        read_then _ (construct_back c depth (first_child r) last h.0 (record { plain = λ _ e. absurd (false≢true e); no_marker = f }))
        (read_last (◌then◌ c) (list_back cs depth (later_child r) false h.1 (λ e _. absurd (false≢true e))))

    branches_back : (bs : Constructs) (depth : ℕ) (r : Reach) (marked : Bool) → Legals before depth (as_branch r) (as_branch r) bs → (marked ≡ true → Plain bs) →
        ReadBack s (bytes_in bs) (branches (reader depth) r marked (how_many bs)) bs
    branches_back end depth r marked h p = read_none end
    branches_back (b then bs) depth r marked h p =
        let last = pick (eqb (how_many bs) 0) marked false in
        let f : Free last (as_branch r) b = record { plain = λ e _. last_plain b bs marked p e; no_marker = λ _ e. absurd (false≢true e) } in
        read_then _ (construct_back b depth (as_branch r) last h.0 f)
        (read_last (◌then◌ b) (branches_back bs depth r (pick marked (is_marked (mark b)) false) h.1 (later_plain b bs marked p)))

  -- the routine; routines, of which the first has so many before it
  routine_back : (r : Routine) → InRange routine_rows (routine_record r) → Legal before 1 nowhere r.body → ReadBack s (routine_bytes r) (routine_at s (before + 1)) r
  unfolding listed routine_bytes routine_at
  routine_back r fit h =
      read_then _ (record_back routine (routine_record r) refl fit (λ _ _. refl))
      (read_last (λ c. record { organisation = r.organisation; body = c }) (construct_back r.body 1 nowhere false h free))

routines_back : (s : List ℕ) (rs : List Routine) (before : ℕ) → LegalRoutines before rs → ReadBack s (routines_bytes rs) (routines_at (length rs) s (before + 1)) rs
unfolding routines_bytes routines_at
routines_back s [] before h = read_none []
routines_back s (r ∷ rs) before h = read_then _ (routine_back s before r h.0 h.1) (read_last (◌∷◌ r) (routines_back s rs (before + 1) h.2))

-- The bytes of a legal sheet are read back, and none is left.
pub read_back : (t : Sheet) → LegalSheet t → sheet_at (bytes_of t) 0 ≡ found t (length (bytes_of t))
unfolding listed bytes_of sheet_at refuse
read_back t h =
    let s = bytes_of t in
    let xs = record_bytes (sheet_record t) in
    let ys = routines_bytes t.routines in
    let all : 0 + length xs + length ys ≡ length s = let l = length-append xs ys in omega arith in
    rw (
      (record_back sheet (sheet_record t) refl h.0 (λ _ _. refl)).from 0 (here_left xs ys here_all),
      (routines_back s t.routines 0 h.1).from (0 + length xs) (here_right (0 + length xs) xs ys refl here_all),
      all,
      le-ltb (length s) (length s) (omega arith),
    )
