-- What is read from the bytes of a whole sheet is a legal sheet, whose bytes they are.
use Prim.Native.Nat.{ℕ, zero, suc, ◌+◌}
use mathlib.Core.Path.{◌≡◌, refl, sym, ap, subst, ◌∙◌}
use mathlib.Core.Bool.{false}
use mathlib.Core.List.{List, [], ◌∷◌, ◌++◌, append-nil}
use lib.ListN.{length, drop_of_length-le}
use lib.Dec.{ltb}
use borrow.Author.Tests.{ltb-false}
use native.Mathlib.Omega.{arith}
use Rattle.meaning.specs.Tree.{Routine, Sheet}
use Rattle.meaning.specs.Format.{sheet_rows, routine_rows, field, InRange, of, routine_record, sheet_record, record_bytes, routine_bytes, routines_bytes, bytes_of}
use Rattle.meaning.specs.Legal.{nowhere, Legal, LegalRoutines, LegalSheet}
use Rattle.meaning.specs.Judgement.{sheet, routine, routine_at, routines_at, sheet_at}
use Rattle.demands.proofs.Found.{Found, was_read, found_then, found_unless}
use Rattle.demands.proofs.Span.{AreBytes, Span, span_none, span_then}
use Rattle.demands.proofs.Records.{judged_good, routine_is, sheet_is}
use Rattle.demands.proofs.Good.{good}

module _ (s : List ℕ) where
  record GoodRoutine (before at : ℕ) (r : Routine) (past : ℕ) : Type 0 where
    range : InRange routine_rows (routine_record r)
    legal : Legal before 1 nowhere r.body
    span : Span s at past (routine_bytes r)

  record GoodRoutines (n before at : ℕ) (rs : List Routine) (past : ℕ) : Type 0 where
    legal : LegalRoutines before rs
    many : length rs ≡ n
    span : Span s at past (routines_bytes rs)

  good_routine : (before own : ℕ) → own ≡ before + 1 → (at : ℕ) → Found (GoodRoutine before at) (routine_at s own at)
  unfolding routine_at routine_bytes
  good_routine before own number at =
      found_then (judged_good s routine at) (λ x next j.
      found_then (good s before own number 1 24 refl nowhere false next) (λ c past y.
      let e = routine_is x j.kind j.range in
      was_read {a = record { organisation = field x 0; body = c }} (record {
        range = subst (InRange routine_rows) (sym e) j.range;
        legal = y.legal;
        span = span_then (subst (λ z. Span s at next (record_bytes z)) (sym e) j.span) y.span;
      })))

  good_routines : (n before own : ℕ) → own ≡ before + 1 → (at : ℕ) → Found (GoodRoutines n before at) (routines_at n s own at)
  unfolding routines_at routines_bytes
  good_routines zero before own number at = was_read {a = []} (record { legal = tt; many = refl; span = span_none s at })
  good_routines (suc n) before own number at =
      found_then (good_routine before own number at) (λ r next x.
      found_then (good_routines n (before + 1) (own + 1) (omega arith) next) (λ rs past y.
      was_read {a = r ∷ rs} (record { legal = (x.range, x.legal, y.legal); many = ap suc y.many; span = span_then x.span y.span })))

  pub record GoodSheet (t : Sheet) (past : ℕ) : Type 0 where
    pub legal : LegalSheet t
    pub same : AreBytes s → s ≡ bytes_of t

  pub good_sheet : Found GoodSheet (sheet_at s 0)
  unfolding sheet_at bytes_of
  good_sheet =
      found_then (judged_good s sheet 0) (λ x next j.
      found_then (good_routines (field x 1) 0 1 refl next) (λ rs past y.
      found_unless (ltb past (length s)) 11 past (omega arith) (λ whole.
      let t : Sheet = record { edition = field x 0; routines = rs } in
      let e : sheet_record t ≡ x = ap (λ z. of 100 (field x 0 ∷ z ∷ [])) y.many ∙ sheet_is x j.kind j.range in
      let span = span_then (subst (λ z. Span s 0 next (record_bytes z)) (sym e) j.span) y.span in
      was_read {a = t} (record {
        legal = (subst (InRange sheet_rows) (sym e) j.range, y.legal);
        same = λ are. span.same are ∙ ap (λ z. bytes_of t ++ z) (drop_of_length-le s (ltb-false past (length s) whole)) ∙ append-nil (bytes_of t);
      }))))
