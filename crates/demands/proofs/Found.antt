-- What holds of whatever is read.
use Prim.Native.Nat.{ℕ, ◌≤◌}
use mathlib.Core.Path.{◌≡◌, refl}
use mathlib.Core.Bool.{Bool, true, false}
use Rattle.meaning.specs.Judgement.{Reading, Reader, refused, found, and_then, refuse}

-- the numbers of the refusals by which records are judged, EXTRA included
abbrev pub OfRecords : ℕ → Type 0
OfRecords number = (3 ≤ number) × (number ≤ 11)

-- Found P: P holds of what is read and the place past it, or it is refused by one of these.
pub data Found {A : Type 0} (P : A → ℕ → Type 0) : Reading A → Type 0 where
  not_read : {number place : ℕ} → OfRecords number → Found P (refused number place)
  was_read : {a : A} {past : ℕ} → P a past → Found P (found a past)

pub found_then : {A B : Type 0} {P : A → ℕ → Type 0} {Q : B → ℕ → Type 0} {g : Reading A} {f : A → Reader B} →
    Found P g → ((a : A) (past : ℕ) → P a past → Found Q (f a past)) → Found Q (and_then g f)
found_then (not_read n) k = not_read n
found_then (was_read {a = a} {past = past} h) k = k a past h

pub found_unless : {A : Type 0} {P : A → ℕ → Type 0} (t : Bool) (number place : ℕ) {rest : Reading A} → OfRecords number →
    (t ≡ false → Found P rest) → Found P (refuse t number place rest)
unfolding refuse
found_unless true number place n k = not_read n
found_unless false number place n k = k refl

pub found_at : {A : Type 0} {P : A → ℕ → Type 0} {a : A} {past : ℕ} → Found P (found a past) → P a past
found_at (was_read h) = h
