-- The routines of a sheet, in order: what each may take beside its bound.
use Prim.Native.Nat.{ℕ, zero, suc, ◌≤◌}
use mathlib.Core.List.{List, [], ◌∷◌, ◌++◌}
use mathlib.Core.Logic.{◌⊎◌, inl, inr}
use lib.ListN.{length, get_or}
use native.Mathlib.Omega.{arith}
use Rattle.meaning.specs.Tree.{numbered}
use Rattle.runs.specs.Run.{Never}

-- place by place, what a routine may take and its bound stand in the relation R
pub data Along (R : (ℕ → Type 0) → ℕ → Type 0) : List (ℕ → Type 0) → List ℕ → Type 1 where
  none' : Along R [] []
  more : {P : ℕ → Type 0} {v : ℕ} {ps : List (ℕ → Type 0)} {vs : List ℕ} → R P v → Along R ps vs → Along R (P ∷ ps) (v ∷ vs)

module _ {R : (ℕ → Type 0) → ℕ → Type 0} where
  -- one routine more
  pub along_end : {ps : List (ℕ → Type 0)} {vs : List ℕ} {P : ℕ → Type 0} {v : ℕ} → Along R ps vs → R P v → Along R (ps ++ (P ∷ [])) (vs ++ (v ∷ []))
  along_end none' h = more h none'
  along_end (more f r) h = more f (along_end r h)

  -- the routine of a number, if there is one or the relation holds where there is none
  along_place : {ps : List (ℕ → Type 0)} {vs : List ℕ} → Along R ps vs → (i : ℕ) → R Never 0 ⊎ (suc i ≤ length vs) → R (get_or ps i Never) (get_or vs i 0)
  along_place none' i (inl d) = d
  along_place none' i (inr h) = absurd (omega arith)
  along_place (more f r) zero d = f
  along_place (more f r) (suc i) (inl d) = along_place r i (inl d)
  along_place (more f r) (suc i) (inr h) = along_place r i (inr (omega arith))

  pub along_at : {ps : List (ℕ → Type 0)} {vs : List ℕ} → Along R ps vs → (number : ℕ) → R Never 0 ⊎ ((1 ≤ number) × (number ≤ length vs)) →
      R (numbered ps number Never) (numbered vs number 0)
  along_at a zero (inl d) = d
  along_at a zero (inr h) = absurd (omega arith)
  along_at a (suc i) (inl d) = along_place a i (inl d)
  along_at a (suc i) (inr h) = along_place a i (inr (omega arith))
