-- What a construct that was read tells: by what was returned, and when the record that owns a list ends.
use Prim.Native.Nat.{ℕ, ◌+◌, ◌*◌, ◌≤◌, min}
use mathlib.Core.Path.{◌≡◌, refl, sym, ap, ◌∙◌}
use mathlib.Core.Bool.{Bool, true, false}
use lib.Dec.{ltb}
use borrow.Author.Tests.{ltb-false}
use native.Mathlib.Omega.{arith}
use Rattle.meaning.specs.Answer.{value_limit}
use Rattle.meaning.specs.Format.{pick}
use Rattle.std.specs.Prelude.{Some, None, Result, Ok, Err}
use Rattle.std.specs.Option.{option_or}
use Rattle.records.specs.declared.Cursor.{Cursor}
use Rattle.records.specs.declared.faults.Refusal.{Refusal}
use Rattle.records.specs.Faults.{number_of}
use Rattle.reader.specs.Tallies.{Aside, value_cap, share, Parsed, Refused, Tally, value_told, over_told, ended_of, value_of, close_of}
use Rattle.reader.specs.Tallies.{aside_of, aside_told, Limited, Valued, Tells, a_value, a_refusal}
use Rattle.reader.proofs.Laws.{or_none, or_assoc}

-- what the code returns of a construct: its value and the cursor past it, or a refusal
abbrev pub Returned : Type 0
Returned = Result (ℕ × Cursor) Refusal

-- no value is a refusal
no_refusal : {A : Type 0} {v : ℕ} {next : Cursor} {refusal : Refusal} → ◌≡◌ {A = Returned} (Ok (v, next)) (Err refusal) → A
no_refusal e = let z : ◌≡◌ {A = ℕ} 0 1 = cc in absurd (omega arith)

module _ {long at : ℕ} {a b : Aside} where
  -- a value was returned, or a refusal
  pub tells_value : {x : Parsed} {r : Returned} {v : ℕ} {next : Cursor} → Tells long at a x r b → r ≡ Ok (v, next) → Valued long at a x (Ok (v, next)) b
  tells_value (a_value w) e = rw (← e) w
  tells_value (a_refusal f g) e = no_refusal (sym e ∙ g)

  pub tells_refusal : {x : Parsed} {r : Returned} {refusal : Refusal} → Tells long at a x r b → r ≡ Err refusal → x ≡ Refused (number_of refusal.fault) refusal.place
  tells_refusal (a_value w) e = no_refusal (sym w.returned ∙ e)
  tells_refusal (a_refusal f g) e = let same = sym g ∙ e in f ∙ cc

-- what is told of a construct, by another name of what it comes to
pub told_as : {long at : ℕ} {a b : Aside} {x y : Parsed} {r : Returned} → y ≡ x → Valued long at a x r b → Valued long at a y r b
told_as e w = rw e w

pub tells_as : {long at : ℕ} {a b : Aside} {x y : Parsed} {r : Returned} → y ≡ x → Tells long at a x r b → Tells long at a y r b
tells_as e w = rw e w

-- where what is told aside before it is the same
pub told_from : {long at : ℕ} {a a' b : Aside} {x : Parsed} {r : Returned} → a ≡ a' → Valued long at a x r b → Valued long at a' x r b
told_from e w = rw (← e) w

-- what `ended` returned is what is told
pub told_ended : {long at : ℕ} {a b b' : Aside} {x : Parsed} {r r' : Returned} → r' ≡ r → b' ≡ b → Valued long at a x r b → Tells long at a x r' b'
told_ended e f w = rw (e, f) (a_value w)

-- the value and the cursor that were returned are those that are told
pub returned_is : {long at : ℕ} {a b : Aside} {x : Parsed} {v : ℕ} {next : Cursor} (w : Valued long at a x (Ok (v, next)) b) →
    (v ≡ w.told.value) × (next ≡ w.told.next)
returned_is {v = v} {next = next} w =
    let e = w.returned in
    let same : ◌≡◌ {A = ℕ × Cursor} (v, next) (w.told.value, w.told.next) = cc in
    (ap (λ p. p.0) same, ap (λ p. p.1) same)

-- a value that is told is in its range
pub valued_small : {long at : ℕ} {a b : Aside} {x : Parsed} {v : ℕ} {next : Cursor} → Valued long at a x (Ok (v, next)) b → v ≤ value_limit
valued_small w = rw ((returned_is w).0) w.fine.value

no_more : (x : ℕ) → x + 0 ≡ x
no_more x = omega arith

-- what is told aside of a construct of which there is nothing to tell
pub aside_none : {a : Aside} → a.added ≤ value_cap → a ≡ aside_of a None 0 None 0
aside_none {a} h =
    let added : a.added ≡ min value_cap (a.added + 0) = omega arith in
    λ i. record { over = sym (or_none a.over) i; added = added i; mark = a.mark; constructs = sym (no_more a.constructs) i }

-- a value that is told is in its range
pub told_small : (value : ℕ) → value_told value ≤ value_limit
told_small value = go (ltb value_limit value) refl
  where
    go : (z : Bool) → ltb value_limit value ≡ z → pick z 0 value ≤ value_limit
    go true e = omega arith
    go false e = ltb-false value_limit value e

-- A record ends: its list of so many constructs has come to the tally t, its marked branches add so much more; a was told aside before its
-- list, z after it.
pub record Closing (long kind first : ℕ) (scope : Bool) (t : Tally) (more start : ℕ) (next : Cursor) (a z : Aside) (value valued : ℕ) : Type 0 where
  pub over : z.over ≡ option_or a.over t.over
  pub added : z.added ≡ pick scope a.added (min value_cap (a.added + min value_cap (t.added + more)))
  pub mark : z.mark ≡ option_or t.mark a.mark
  pub constructs : z.constructs + valued ≡ a.constructs + t.constructs
  pub amount : value ≡ value_of kind first t + pick scope (min value_cap (t.added + more)) 0
  pub few : Limited t.mark
  pub small : a.added ≤ value_cap
  pub past : start + 8 + 8 * t.constructs ≤ next.at
  pub inside : next.at ≤ long

module _ {long kind first : ℕ} {scope : Bool} {t : Tally} {more start : ℕ} {next : Cursor} {a z : Aside} {value valued : ℕ}
    (k : Closing long kind first scope t more start next a z value valued) where
  ends : (added : ℕ) → added ≤ value_cap → z.added ≡ min value_cap (a.added + added) →
      Valued long start a (ended_of value t.over added t.mark t.constructs start next) (Ok (value_told value, next))
      (aside_told z value valued start)
  unfolding ended_of
  ends added low e =
      let big = pick (ltb value_limit value) (Some start) None in
      let over = ap (λ x. option_or x big) k.over ∙ or_assoc a.over t.over big in
      record {
        told = share (value_told value) (over_told t.over value start) added t.mark t.constructs next;
        is = refl;
        returned = refl;
        aside = λ i. record { over = over i; added = e i; mark = k.mark i; constructs = k.constructs i };
        fine = record { value = told_small value; added = low; mark = k.few; past = k.past; inside = k.inside };
      }

  pub closed : Valued long start a (close_of kind first scope t more start next) (Ok (value_told value, next)) (aside_told z value valued start)
  unfolding close_of
  closed = go scope k.added k.amount
    where
      go : (w : Bool) → z.added ≡ pick w a.added (min value_cap (a.added + min value_cap (t.added + more))) →
          value ≡ value_of kind first t + pick w (min value_cap (t.added + more)) 0 →
          Valued long start a
          (pick w (ended_of (value_of kind first t + min value_cap (t.added + more)) t.over 0 t.mark t.constructs start next)
          (ended_of (value_of kind first t) t.over (min value_cap (t.added + more)) t.mark t.constructs start next))
          (Ok (value_told value, next)) (aside_told z value valued start)
      go true added amount = rw (← amount) (ends 0 (omega arith) (added ∙ omega (arith, k.small)))
      go false added amount =
          let same : value ≡ value_of kind first t = amount ∙ no_more (value_of kind first t) in
          rw (← same) (ends (min value_cap (t.added + more)) (omega arith) added)
