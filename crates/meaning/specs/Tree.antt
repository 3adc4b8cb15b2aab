-- Document 01, "The sheet": what the records of a timing sheet say, as a tree.
use Rattle.std.specs.Prelude.{ℕ, zero, suc, Bool, true, false, List, [], get_or}
use Rattle.std.proofs.Math.Option.{Option, some, none}

-- The fields of the records of kinds 2, 5 and 6, 7, 8 and 9, in the order of 01's table. A scope is true for 1, false for 0.
pub record Primitive : Type 0 where
  pub cost : ℕ

pub record Loop : Type 0 where
  pub count : ℕ
  pub scope : Bool

pub record Timed : Type 0 where
  pub time : ℕ

pub record Call : Type 0 where
  pub routine : ℕ

pub record Marker : Type 0 where
  pub limit : ℕ
  pub cost : ℕ

infixr 50 ◌then◌
mutual
  -- "Kinds 2 to 9 are constructs. A construct is read with the list of constructs it owns": the column "Followed by".
  pub data Construct : Type 0 where
    primitive : Primitive → Construct
    sequence : Constructs → Construct
    alternative : Construct → Constructs → Construct  -- condition, n branches
    head_loop : Loop → Construct → Construct → Construct → Construct → Construct  -- init, condition, body, overrun
    tail_loop : Loop → Construct → Construct → Construct → Construct  -- body, condition, overrun
    timed_loop : Timed → Construct → Construct  -- timeout statement
    call : Call → Construct
    marker : Marker → Construct

  pub data Constructs : Type 0 where
    end : Constructs
    ◌then◌ : Construct → Constructs → Constructs

pub record Routine : Type 0 where  -- kind 1
  pub organisation : ℕ
  pub body : Construct

pub record Sheet : Type 0 where  -- kind 100
  pub edition : ℕ
  pub routines : List Routine

-- "Routines are numbered from 1": what a list has for the routine of a number, or none
abbrev pub numbered {ℓ} : {A : Type ℓ} → List A → ℕ → A → A
numbered xs zero none' = none'
numbered xs (suc i) none' = get_or xs i none'

-- the marker that a construct is
abbrev pub itself : Construct → Option Marker
itself (primitive p) = none
itself (sequence cs) = none
itself (alternative c bs) = none
itself (head_loop l i c b o) = none
itself (tail_loop l b c o) = none
itself (timed_loop w o) = none
itself (call k) = none
itself (marker m) = some m

abbrev pub leading : Constructs → Option Marker
leading end = none
leading (c then cs) = itself c

-- "the first child of a sequence that is itself a branch of an alternative. That branch is marked; every other branch is plain."
abbrev pub mark : Construct → Option Marker
mark (primitive p) = none
mark (sequence cs) = leading cs
mark (alternative c bs) = none
mark (head_loop l i c b o) = none
mark (tail_loop l b c o) = none
mark (timed_loop w o) = none
mark (call k) = none
mark (marker m) = none

-- A marker "belongs to the innermost scope": of what a loop's body holds for a scope around it, a loop with scope 1 hands on nothing.
abbrev pub seen_outside : {A : Type 0} → Bool → List A → List A
seen_outside true xs = []
seen_outside false xs = xs
