-- Laws of the table of records: which kinds stand where, and that the code's form of a kind says what the table does.
use Prim.Native.Nat.{ℕ}
use mathlib.Core.Path.{◌≡◌, refl, sym, ap, subst, ◌∙◌}
use mathlib.Core.Logic.{◌≢◌}
use mathlib.Core.Bool.{Bool, true, false, not, false≢true}
use mathlib.Core.List.{List, [], ◌∷◌}
use lib.Dec.{leb, ltb, eqb}
use borrow.Author.Tests.{leb-true, leb-false, eqb-true, ne_eqb, lt-ltb, le-ltb}
use Rattle.meaning.specs.Format.{pick, Range, Row, sheet_rows, routine_rows, construct_rows, listed, ranges_of, within, in_ranges}
use Rattle.meaning.specs.Judgement.{Owed, sheet, routine, construct, rows_of}
use Rattle.records.specs.Steps.{every_row, outside}
use Rattle.records.proofs.Laws.{itself}

-- What holds of each row's kind and ranges holds of every kind that is listed.
abbrev pub Each : (ℕ → List Range → Type 0) → List Row → Type 0
Each P [] = Unit {0}
Each P (r ∷ rs) = P r.kind r.ranges × Each P rs

infixr 20 ◌&◌
abbrev pub ◌&◌ : {A B : Type 0} → A → B → A × B
a & b = (a, b)

pub by_rows : (P : ℕ → List Range → Type 0) (rows : List Row) → Each P rows → (kind : ℕ) → listed kind rows ≡ true → P kind (ranges_of kind rows)
unfolding listed ranges_of
by_rows P [] each kind h = absurd (false≢true h)
by_rows P (r ∷ rs) each kind h = go (eqb kind r.kind) refl h (by_rows P rs each.1 kind)
  where
    go : (t : Bool) → eqb kind r.kind ≡ t → pick t true (listed kind rs) ≡ true → (listed kind rs ≡ true → P kind (ranges_of kind rs)) →
        P kind (pick t r.ranges (ranges_of kind rs))
    go true e h rest = subst (λ k. P k r.ranges) (sym (eqb-true kind r.kind e)) each.0
    go false e h rest = rest h

-- a kind that no row has
pub in_no_row : (kind : ℕ) (rows : List Row) → Each (λ k _. kind ≢ k) rows → listed kind rows ≡ false
unfolding listed
in_no_row kind [] each = refl
in_no_row kind (r ∷ rs) each = simp (ne_eqb kind r.kind each.0) (in_no_row kind rs each.1)

-- a row has one field or two, and no other row of the table has its kind
abbrev pub Few : List Range → Type 0
Few [] = ⊥
Few (p ∷ []) = Unit {0}
Few (p ∷ q ∷ []) = Unit {0}
Few (p ∷ q ∷ r ∷ rs) = ⊥

abbrev pub InTable : ℕ → List Range → Type 0
InTable kind ranges = (ranges_of kind every_row ≡ ranges) × Few ranges

pub in_table : (owed : Owed) (kind : ℕ) → listed kind (rows_of owed) ≡ true → InTable kind (ranges_of kind (rows_of owed))
unfolding ranges_of
in_table sheet = by_rows InTable sheet_rows ((refl, tt) & tt)
in_table routine = by_rows InTable routine_rows ((refl, tt) & tt)
in_table (construct own left r last) =
    by_rows InTable construct_rows ((refl, tt) & (refl, tt) & (refl, tt) & (refl, tt) & (refl, tt) & (refl, tt) & (refl, tt) & (refl, tt) & tt)

-- outside its range is not within it
ltb_not : (a b : ℕ) → ltb a b ≡ not (leb b a)
ltb_not a b = go (leb b a) refl
  where
    go : (t : Bool) → leb b a ≡ t → ltb a b ≡ not t
    go true e = le-ltb a b (leb-true b a e)
    go false e = lt-ltb a b (leb-false b a e)

not_pick : (a b : Bool) → pick (not a) true (not b) ≡ not (pick a b false)
not_pick true b = refl
not_pick false b = refl

outside_not : (r : Range) (x : ℕ) → outside r.least r.most x ≡ not (within r x)
outside_not r x = rw (ltb_not x r.least, ltb_not r.most x) (not_pick (leb r.least x) (leb x r.most))

pub one_outside : (p : Range) (a : ℕ) → pick (outside p.least p.most a) true false ≡ not (in_ranges (p ∷ []) (a ∷ []))
unfolding in_ranges
one_outside p a = rw (outside_not p a) (not_pick (within p a) true)

pub two_outside : (p q : Range) (a b : ℕ) →
    pick (outside p.least p.most a) true (outside q.least q.most b) ≡ not (in_ranges (p ∷ q ∷ []) (a ∷ b ∷ []))
unfolding in_ranges
two_outside p q a b =
    rw (outside_not p a, outside_not q b) (not_pick (within p a) (within q b) ∙ ap (λ z. not (pick (within p a) z false)) (sym (itself (within q b))))
