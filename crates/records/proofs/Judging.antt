-- The code's steps, one after the other, come to the public judgement of a record.
use Prim.Native.Nat.{ℕ, ◌+◌, ◌/◌, ◌%◌}
use mathlib.Core.Path.{◌≡◌, refl, sym, ap, ◌∙◌}
use mathlib.Core.Bool.{Bool, true, false, not}
use mathlib.Core.List.{List, [], ◌∷◌}
use mir.Syntax.{w8}
use mir.Val.{Fits}
use lib.ListN.{length, get_or, drop}
use lib.Seq.{drop-drop}
use lib.Dec.{ltb, eqb}
use native.Mathlib.Omega.{arith}
use borrow.Author.Tests.{eqb-true}
use Rattle.std.specs.Prelude.{Option, Some, None, Result, Ok, Err}
use Rattle.meaning.specs.Format.{pick, Range, sheet_rows, routine_rows, construct_rows, listed, ranges_of, length_of, in_ranges, Record, field, of}
use Rattle.meaning.specs.Legal.{may_mark}
use Rattle.meaning.specs.Judgement.{Reading, refused, found, refuse, two, four, fields_of, Owed, sheet, routine, rows_of, bad_call, placed, judged}
use Rattle.records.specs.declared.Cursor.{Cursor}
use Rattle.records.specs.declared.Fields.{Fields}
use Rattle.records.specs.declared.Form.{Form}
use Rattle.records.specs.declared.Found.{Found}
use Rattle.records.specs.declared.Place.{Place}
use Rattle.records.specs.declared.faults.Fault.{Fault}
use Rattle.records.specs.declared.faults.Fault.TheVariants.{BadKind, BadLength, BadCall, TooDeep}
use Rattle.records.specs.declared.standings.Standing.{Standing}
use Rattle.records.specs.declared.standings.Standing.TheVariants.{Outside, InScope, InAlternative, Branch, LastBranch, Leading, LeadingLast}
use Rattle.records.specs.Faults.{number_of}
use Rattle.records.specs.Records.{reach_of, last_of, owed_at, read_as, as_sheet, as_routine, by_kind, found_of}
use Rattle.records.specs.Steps.{field_at, all_fields, form_for, form_of, is_outside, marker_fault, is_bad_call, misplaced}
use Rattle.records.specs.Steps.{unless, with_fields, judge_of, rest_of, reading_from, anywhere, with_only, only_of}
use Rattle.records.proofs.Laws.{itself, left_short, fields_one, fields_both, halves}
use Rattle.records.proofs.Table.{◌&◌, by_rows, Few, in_table, one_outside, two_outside}

-- In the code's types, by what a good record of a kind is there: of the sheet, a routine or a construct.
module _ {A : Type 0} (good : ℕ → ℕ → ℕ → A) where
  abbrev as_judged : Reading Record → Reading A
  as_judged = read_as good

  -- the same of what `judge` returns; a refusal's place is the record's start
  abbrev pub as_fit : ℕ → ℕ → Result (Fields × Cursor) Fault → Reading A
  as_fit kind start j = reading_from start (rest_of good kind j)

  judged_refuse : (t : Bool) (number place : ℕ) (rest : Reading Record) → as_judged (refuse t number place rest) ≡ pick t (refused number place) (as_judged rest)
  unfolding refuse
  judged_refuse true number place rest = refl
  judged_refuse false number place rest = refl

  fit_pick : (t : Bool) (kind start : ℕ) (a b : Result (Fields × Cursor) Fault) → as_fit kind start (pick t a b) ≡ pick t (as_fit kind start a) (as_fit kind start b)
  fit_pick true kind start a b = refl
  fit_pick false kind start a b = refl

  -- a refusal where there is a fault; of faults in order, the first is the refusal
  abbrev or_refused : Option Fault → ℕ → Reading A → Reading A
  or_refused None start x = x
  or_refused (Some fault) start x = refused (number_of fault) start

  refused_pick : (t : Bool) (fault : Fault) (rest : Option Fault) (start : ℕ) (x : Reading A) →
      or_refused (pick t (Some fault) rest) start x ≡ pick t (refused (number_of fault) start) (or_refused rest start x)
  refused_pick true fault rest start x = refl
  refused_pick false fault rest start x = refl

  fit_unless : (fault : Option Fault) (kind start : ℕ) (all : Fields) (next : Cursor) →
      as_fit kind start (unless fault all next) ≡ or_refused fault start (as_fit kind start (Ok (all, next)))
  fit_unless None kind start all next = refl
  fit_unless (Some fault) kind start all next = refl

  marker_law : (standing : Standing) (start : ℕ) (x : Reading A) →
      or_refused (marker_fault standing) start x ≡ pick (not (may_mark (reach_of standing))) (refused 9 start) (pick (last_of standing) (refused 10 start) x)
  unfolding marker_fault
  marker_law Outside start x = refl
  marker_law InScope start x = refl
  marker_law InAlternative start x = refl
  marker_law Branch start x = refl
  marker_law LastBranch start x = refl
  marker_law Leading start x = refl
  marker_law LeadingLast start x = refl

  -- Rules 7 to 10, by the place that `judge` is given: a construct's own; that for the sheet and a routine makes no fault of their kinds.
  abbrev Placed : Owed → Place → Type 0
  Placed owed place =
      (x : Record) (at : ℕ) (rest : Reading Record) → listed x.kind (rows_of owed) ≡ true →
      as_judged (placed owed x at rest) ≡ or_refused (misplaced x.kind (field x 0) place) at (as_judged rest)

  placed_construct : (place : Place) → Placed (owed_at place) place
  unfolding misplaced is_bad_call
  placed_construct place x at rest h =
      simp judged_refuse (sym (
      refused_pick (bad_call place.own x) BadCall _ at (as_judged rest)
      ∙ ap (λ z. pick (bad_call place.own x) (refused 7 at) z) (
      refused_pick (eqb place.left 0) TooDeep _ at (as_judged rest) ∙ ap (λ z. pick (eqb place.left 0) (refused 8 at) z) (go (eqb x.kind 9))
      )))
    where
      go : (t : Bool) → or_refused (pick t (marker_fault place.standing) None) at (as_judged rest) ≡
          pick (pick t (not (may_mark (reach_of place.standing))) false) (refused 9 at) (pick (pick t (last_of place.standing) false) (refused 10 at) (as_judged rest))
      go true = marker_law place.standing at (as_judged rest)
      go false = refl

  abbrev Faultless : ℕ → List Range → Type 0
  Faultless kind ranges = (first at : ℕ) (x : Reading A) → x ≡ or_refused (misplaced kind first anywhere) at x

  placed_sheet : Placed sheet anywhere
  unfolding misplaced
  placed_sheet x at rest h = by_rows Faultless sheet_rows ((λ first at x. refl) & tt) x.kind h (field x 0) at (as_judged rest)

  placed_routine : Placed routine anywhere
  unfolding misplaced
  placed_routine x at rest h = by_rows Faultless routine_rows ((λ first at x. refl) & tt) x.kind h (field x 0) at (as_judged rest)

  -- from the length and the kind on, which are read as one field
  abbrev with_head : List ℕ → Owed → Place → ℕ → Option (ℕ × Cursor) → Reading A
  with_head s owed place at None = refused 3 at
  with_head s owed place at (Some (head, c)) =
      pick (listed (head / 65536) (rows_of owed))
      (as_fit (head / 65536) at (judge_of s c.at (head / 65536) (head % 65536) (form_of (head / 65536)) place))
      (refused 4 at)

  module _ (owed : Owed) (place : Place) (placed_is : Placed owed place) (s : List ℕ) (at : ℕ) where
    -- what is left of the judgement once the fields are there
    rest_law : (past : ℕ) (ranges : List Range) (x : Record) → listed x.kind (rows_of owed) ≡ true →
        is_outside (form_for ranges) (field x 0) (field x 1) ≡ not (in_ranges ranges x.fields) →
        as_judged (refuse (not (in_ranges ranges x.fields)) 6 at (placed owed x at (found x past))) ≡
        as_fit x.kind at (with_fields x.kind (form_for ranges) place (all_fields (field x 0) (field x 1) (record { at = past })))
    rest_law past ranges x h e =
        judged_refuse (not (in_ranges ranges x.fields)) 6 at _ ∙ rw (placed_is x at (found x past) h, e) (sym (
        fit_pick (not (in_ranges ranges x.fields)) x.kind at _ _
        ∙ ap (λ z. pick (not (in_ranges ranges x.fields)) (refused 6 at) z) (fit_unless (misplaced x.kind (field x 0) place) x.kind at _ _)))

    -- the length is tested, and then whether the fields are there
    sized_law : (kind : ℕ) (f : Form) (t cut : Bool) (rest : Reading Record) (all : Option (Fields × Cursor)) →
        as_judged rest ≡ as_fit kind at (with_fields kind f place all) →
        as_judged (refuse (not t) 5 at (refuse cut 3 at rest)) ≡ as_fit kind at (pick t (with_fields kind f place (pick cut None all)) (Err BadLength))
    unfolding refuse
    sized_law kind f true true rest all e = refl
    sized_law kind f true false rest all e = e
    sized_law kind f false cut rest all e = refl

    -- from the length on, by what the table says of the kind
    length_law : (kind : ℕ) (ranges : List Range) → Few ranges → listed kind (rows_of owed) ≡ true →
        (let rest = drop at s in
        let size = length_of (length ranges) in
        let x : Record = record { kind = kind; fields = fields_of ranges (drop 4 rest) } in
        as_judged (
        refuse (not (eqb (two rest) size)) 5 at
        (refuse (ltb (length rest) size) 3 at
        (refuse (not (in_ranges ranges x.fields)) 6 at
        (placed owed x at (found x (at + size)))))
        ) ≡ as_fit kind at (judge_of s (at + 4) kind (two rest) (form_for ranges) place))
    unfolding judge_of fields_of is_outside
    length_law kind [] few h = absurd few
    length_law kind (p ∷ []) few h =
        let past : at + 4 + 4 ≡ at + 8 = omega arith in
        rw (fields_one s (at + 4), left_short s at 4 4 (omega arith), drop-drop 4 at s, past) (
        sized_law kind (form_for (p ∷ [])) (eqb (two (drop at s)) 8) (ltb (length (drop at s)) 8) _ _ (
        rest_law (at + 8) (p ∷ []) (of kind (four (drop (at + 4) s) ∷ [])) h (one_outside p _)))
    length_law kind (p ∷ q ∷ []) few h =
        let past : at + 4 + 8 ≡ at + 12 = omega arith in
        rw (fields_both s (at + 4), left_short s at 4 8 (omega arith), drop-drop 4 at s, past) (
        sized_law kind (form_for (p ∷ q ∷ [])) (eqb (two (drop at s)) 12) (ltb (length (drop at s)) 12) _ _ (
        rest_law (at + 12) (p ∷ q ∷ []) (of kind (four (drop (at + 4) s) ∷ four (drop 4 (drop (at + 4) s)) ∷ [])) h (two_outside p q _ _)))
    length_law kind (p ∷ q ∷ r ∷ rs) few h = absurd few

    -- The code's steps come to the public judgement of the record.
    judged_is : ((i : ℕ) → Fits w8 (get_or s i 0)) → with_head s owed place at (field_at s at) ≡ as_judged (judged s owed at)
    unfolding judged field_at form_of refuse
    judged_is are =
        let kind = two (drop 2 (drop at s)) in
        let rows = rows_of owed in
        let (upper, lower) = halves s at are in
        whole (ltb (length (drop at s)) 4) _ _ _ (rw (upper, lower) (
        owes (listed kind rows) _ _ (λ e. let (is, few) = in_table owed kind e in
        ap (λ z. as_fit kind at (judge_of s (at + 4) kind (two (drop at s)) (form_for z) place)) is
        ∙ sym (length_law kind (ranges_of kind rows) few e))))
      where
        whole : (cut : Bool) (v : ℕ) (c : Cursor) (rest : Reading Record) → with_head s owed place at (Some (v, c)) ≡ as_judged rest →
            with_head s owed place at (pick cut None (Some (v, c))) ≡ as_judged (refuse cut 3 at rest)
        whole true v c rest e = refl
        whole false v c rest e = e

        owes : (t : Bool) (x : Reading A) (rest : Reading Record) → (t ≡ true → x ≡ as_judged rest) → pick t x (refused 4 at) ≡ as_judged (refuse (not t) 4 at rest)
        owes true x rest e = e refl
        owes false x rest e = refl

-- what `found` promises
abbrev pub AsOwed : List ℕ → Place → ℕ → Reading Found → Type 0
AsOwed s place at f = f ≡ found_of (judged s (owed_at place) at)

-- `found`: the record is cut, or judged by its kind, or of no construct's kind
module _ (s : List ℕ) (place : Place) (at : ℕ) (are : (i : ℕ) → Fits w8 (get_or s i 0)) where
  abbrev construct_by : Option (ℕ × Cursor) → Reading Found
  construct_by = with_head by_kind s (owed_at place) place at

  construct_is : (f : Option (ℕ × Cursor)) → f ≡ field_at s at → AsOwed s place at (construct_by f)
  construct_is f e =
      ap construct_by e
      ∙ judged_is by_kind (owed_at place) place (placed_construct by_kind place) s at are

  pub construct_cut : None ≡ field_at s at → AsOwed s place at (refused 3 at)
  construct_cut = construct_is None

  module _ (head : ℕ) (c : Cursor) (e : Some (head, c) ≡ field_at s at) where
    pub construct_arm : (kind : ℕ) → head / 65536 ≡ kind → listed kind construct_rows ≡ true → {r : Result (Found × Cursor) Fault} →
        r ≡ rest_of by_kind kind (judge_of s c.at kind (head % 65536) (form_of kind) place) → AsOwed s place at (reading_from at r)
    construct_arm kind k h is =
        ap (λ z. reading_from at z) is
        ∙ ap (λ z. as_fit by_kind z at (judge_of s c.at z (head % 65536) (form_of z) place)) (sym k)
        ∙ (simp (ap (λ z. listed z construct_rows) k ∙ h) at (construct_is (Some (head, c)) e))

    pub construct_none : listed (head / 65536) construct_rows ≡ false → AsOwed s place at (refused 4 at)
    construct_none h = simp h at (construct_is (Some (head, c)) e)

-- `sheet` and `routine`: only one kind is owed
module _ {A : Type 0} (good : ℕ → ℕ → ℕ → A) where
  only_is : (owed : Owed) → Placed good owed anywhere → (kind : ℕ) → ((k : ℕ) → listed k (rows_of owed) ≡ eqb k kind) → (s : List ℕ) (at : ℕ) →
      ((i : ℕ) → Fits w8 (get_or s i 0)) → {r : Result (Fields × Cursor) Fault} → r ≡ only_of s kind at → as_fit good kind at r ≡ read_as good (judged s owed at)
  unfolding only_of
  only_is owed placed_is kind one s at are is =
      ap (λ z. as_fit good kind at z) is ∙ go (field_at s at) ∙ judged_is good owed anywhere placed_is s at are
    where
      told : ℕ → ℕ → ℕ → Reading A
      told k size past = as_fit good k at (judge_of s past k size (form_of k) anywhere)

      same_kind : (k size past : ℕ) (t : Bool) → eqb k kind ≡ t →
          as_fit good kind at (pick t (judge_of s past kind size (form_of kind) anywhere) (Err BadKind)) ≡ pick t (told k size past) (refused 4 at)
      same_kind k size past true e = ap (λ z. told z size past) (sym (eqb-true k kind e))
      same_kind k size past false e = refl

      go : (f : Option (ℕ × Cursor)) → as_fit good kind at (with_only s kind f) ≡ with_head good s owed anywhere at f
      go None = refl
      go (Some (head, c)) = rw (one (head / 65536)) (same_kind (head / 65536) (head % 65536) c.at (eqb (head / 65536) kind) refl)

pub sheet_is : (s : List ℕ) (at : ℕ) → ((i : ℕ) → Fits w8 (get_or s i 0)) → {r : Result (Fields × Cursor) Fault} →
    r ≡ only_of s 100 at → as_fit as_sheet 100 at r ≡ read_as as_sheet (judged s sheet at)
unfolding listed
sheet_is = only_is as_sheet sheet (placed_sheet as_sheet) 100 (λ k. itself (eqb k 100))

pub routine_is : (s : List ℕ) (at : ℕ) → ((i : ℕ) → Fits w8 (get_or s i 0)) → {r : Result (Fields × Cursor) Fault} →
    r ≡ only_of s 1 at → as_fit as_routine 1 at r ≡ read_as as_routine (judged s routine at)
unfolding listed
routine_is = only_is as_routine routine (placed_routine as_routine) 1 (λ k. itself (eqb k 1))
