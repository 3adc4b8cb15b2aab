-- Plans. A plan is a tally that fits charges: how often each marker is to be passed. Here plans are split, over the children of a
-- sequence and over the rounds of a loop.
use Prim.Native.Nat.{ℕ, suc, ◌+◌, ◌*◌, ◌-◌, min, ◌≤◌}
use mathlib.Core.Path.{◌≡◌, refl, ap, ap₂, sym, ◌∙◌}
use mathlib.Core.List.{List, [], ◌∷◌, ◌++◌, append_assoc}
use native.Mathlib.Omega.{arith}
use native.Mathlib.Nat.{mul-le-mul_right, le_trans}
use Rattle.meaning.specs.Value.{Marked, Charge, times}
use Rattle.runs.specs.Run.{Tally, never, ◌⊕◌, Within, empty, both}
use Rattle.runs.proofs.Tallies.{excess_of, all_branches, all_limits, all_passes, Paired, pair, pairs, Fits, fit, fits, excess_append, add_append}

-- a run whose tally keeps to a plan: each marker is passed at most so often
pub record Keeping (Runs : Tally → Type 0) (plan : Tally) : Type 0 where
  pub tally : Tally
  pub run : Runs tally
  pub small : Within tally plan

-- keeping to plans: together; through a second plan; by passing no marker
pub within_add : {p q r s : Tally} → Within p q → Within r s → Within (p ⊕ r) (q ⊕ s)
unfolding ◌⊕◌
within_add empty w = w
within_add (both h v) empty = both h v
within_add (both {t = a} {l = b} h v) (both {t = c} {l = d} k w) = let g : a + c ≤ b + d = omega arith in both g (within_add v w)

pub within_trans : {p q r : Tally} → Within p q → Within q r → Within p r
within_trans empty empty = empty
within_trans (both h v) (both k w) = both (le_trans h k) (within_trans v w)

pub within_never : {q : Tally} {ms : List Marked} → Paired q ms → Within (never (all_limits ms)) q
unfolding never
within_never pair = empty
within_never (pairs {t = x} f) = let g : 0 ≤ x = omega arith in both g (within_never f)

-- where there is no marker there is nothing to pass
pub within_nil : {t : Tally} → Within t [] → t ≡ []
within_nil empty = refl

pub paired_nil : {q : Tally} → Paired q [] → q ≡ []
paired_nil pair = refl

pub limits_nil : (ms : List Marked) → all_limits ms ≡ [] → ms ≡ []
limits_nil [] e = refl
limits_nil (m ∷ ms) e = cc

-- a plan that passes no marker costs nothing
pub no_passes : {q : Tally} {ms : List Marked} → Paired q ms → all_passes q ≤ 0 → excess_of q ms ≡ 0
no_passes pair h = refl
no_passes (pairs {t = x} {m = m} f) h =
    let e = no_passes f (omega arith) in
    let z : x ≤ 0 = omega arith in
    let g = mul-le-mul_right m.excess z in
    omega arith

pub no_rounds : (as' : List Charge) {q : Tally} → Fits q (times 0 as') → excess_of q (all_branches as') ≡ 0
unfolding times
no_rounds [] fit = refl
no_rounds (a ∷ as') (fits {q = y} w h f e) =
    let d = no_rounds as' f in
    let g = no_passes w (omega arith) in
    rw (e, excess_append y (all_branches as') w) (omega arith)

-- a plan for two lists of charges is one for each
pub split : (as' : List Charge) {bs : List Charge} {q : Tally} → Fits q (as' ++ bs) → (p : Tally) × (r : Tally) × (q ≡ p ++ r) × Fits p as' × Fits r bs
split [] {q = q} f = ([], q, refl, fit, f)
split (a ∷ as') (fits {p = x} {q = y} w h f e) =
    let (p, r, e', g, k) = split as' f in
    (x ++ p, r, e ∙ ap (λ z. x ++ z) e' ∙ sym (append_assoc x p r), fits w h g refl, k)

-- the first k passes of a plan, and the rest of it
first_of : ℕ → Tally → Tally
first_of k [] = []
first_of k (x ∷ xs) = min x k ∷ first_of (k - x) xs

rest_of : ℕ → Tally → Tally
rest_of k [] = []
rest_of k (x ∷ xs) = (x - k) ∷ rest_of (k - x) xs

first_rest : (k : ℕ) (q : Tally) → q ≡ first_of k q ⊕ rest_of k q
unfolding first_of rest_of ◌⊕◌
first_rest k [] = refl
first_rest k (x ∷ xs) = let a : x ≡ min x k + (x - k) = omega arith in ap₂ ◌∷◌ a (first_rest (k - x) xs)

first_passes : (k : ℕ) (q : Tally) → all_passes (first_of k q) ≤ k
unfolding first_of
first_passes k [] = omega arith
first_passes k (x ∷ xs) = let e = first_passes (k - x) xs in omega arith

rest_passes : (k : ℕ) (q : Tally) → all_passes (rest_of k q) ≡ all_passes q - k
unfolding rest_of
rest_passes k [] = omega arith
rest_passes k (x ∷ xs) = let e = rest_passes (k - x) xs in omega arith

first_paired : {q : Tally} {ms : List Marked} (k : ℕ) → Paired q ms → Paired (first_of k q) ms
unfolding first_of
first_paired k pair = pair
first_paired k (pairs {t = x} f) = pairs (first_paired (k - x) f)

rest_paired : {q : Tally} {ms : List Marked} (k : ℕ) → Paired q ms → Paired (rest_of k q) ms
unfolding rest_of
rest_paired k pair = pair
rest_paired k (pairs {t = x} f) = pairs (rest_paired (k - x) f)

-- a plan for k + 1 rounds is one for a round and one for k
pub cut : (k : ℕ) (as' : List Charge) {q : Tally} → Fits q (times (suc k) as') →
    (p : Tally) × (r : Tally) × (q ≡ p ⊕ r) × Fits p as' × Fits r (times k as')
unfolding times ◌⊕◌
cut k [] fit = ([], [], refl, fit, fit)
cut k (a ∷ as') (fits {p = x} {q = y} w h f e) =
    let (p, r, e', g, g') = cut k as' f in
    let n = a.product in
    let b : all_passes (rest_of n x) ≤ k * n = omega (arith, rest_passes n x) in (
      first_of n x ++ p,
      rest_of n x ++ r,
      e ∙ ap₂ ◌++◌ (first_rest n x) e' ∙ sym (add_append p r (first_paired n w) (rest_paired n w)),
      fits (first_paired n w) (first_passes n x) g refl,
      fits (rest_paired n w) b g' refl,
    )
