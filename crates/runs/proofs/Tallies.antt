-- Tallies against charges: how a tally is read against the marked branches that a scope charges.
use Prim.Native.Nat.{ℕ, suc, ◌+◌, ◌*◌, ◌≤◌}
use mathlib.Core.Path.{◌≡◌, refl, ap, ap₂, ◌∙◌}
use mathlib.Core.List.{List, [], ◌∷◌, ◌++◌, append_assoc}
use native.Mathlib.Omega.{arith}
use native.Mathlib.Nat.{mul-le-mul_right, le_trans}
use Rattle.meaning.specs.Value.{Marked, Charge, times}
use Rattle.runs.specs.Run.{Tally, never, ◌⊕◌}

-- what the passes of a tally cost beyond the largest plain branches
abbrev pub excess_of : Tally → List Marked → ℕ
excess_of [] ms = 0
excess_of (t ∷ ts) [] = 0
excess_of (t ∷ ts) (m ∷ ms) = t * m.excess + excess_of ts ms

-- the marked branches of all charges; the limits of marked branches; the passes of a tally together
abbrev pub all_branches : List Charge → List Marked
all_branches [] = []
all_branches (a ∷ as') = a.branches ++ all_branches as'

abbrev pub all_limits : List Marked → List ℕ
all_limits [] = []
all_limits (m ∷ ms) = m.limit ∷ all_limits ms

abbrev pub all_passes : Tally → ℕ
all_passes [] = 0
all_passes (t ∷ ts) = t + all_passes ts

-- the tally has a number for each marked branch
pub data Paired : Tally → List Marked → Type 0 where
  pair : Paired [] []
  pairs : {t : ℕ} {ts : Tally} {m : Marked} {ms : List Marked} → Paired ts ms → Paired (t ∷ ts) (m ∷ ms)

-- the markers of each alternative are passed, together, at most as often as the loops down to it allow
pub data Fits : Tally → List Charge → Type 0 where
  fit : Fits [] []
  fits : {t p q : Tally} {a : Charge} {as' : List Charge} → Paired p a.branches → all_passes p ≤ a.product → Fits q as' → t ≡ p ++ q →
      Fits t (a ∷ as')

-- one list after another
pub paired_append : {p q : Tally} {ms ns : List Marked} → Paired p ms → Paired q ns → Paired (p ++ q) (ms ++ ns)
paired_append pair g = g
paired_append (pairs f) g = pairs (paired_append f g)

pub fits_append : {t u : Tally} {as' bs : List Charge} → Fits t as' → Fits u bs → Fits (t ++ u) (as' ++ bs)
fits_append fit g = g
fits_append {u = u} (fits {p = p} {q = q} w h f e) g = fits w h (fits_append f g) (ap (λ z. z ++ u) e ∙ append_assoc p q u)

pub branches_append : (as' bs : List Charge) → all_branches (as' ++ bs) ≡ all_branches as' ++ all_branches bs
branches_append [] bs = refl
branches_append (a ∷ as') bs = rw (branches_append as' bs, append_assoc)

pub limits_append : (ms ns : List Marked) → all_limits (ms ++ ns) ≡ all_limits ms ++ all_limits ns
limits_append [] ns = refl
limits_append (m ∷ ms) ns = ap (λ r. m.limit ∷ r) (limits_append ms ns)

pub passes_append : (t u : Tally) → all_passes (t ++ u) ≡ all_passes t + all_passes u
passes_append [] u = omega arith
passes_append (t ∷ ts) u = let e = passes_append ts u in omega arith

pub excess_append : {t : Tally} {ms : List Marked} (u : Tally) (ns : List Marked) → Paired t ms →
    excess_of (t ++ u) (ms ++ ns) ≡ excess_of t ms + excess_of u ns
excess_append u ns pair = omega arith
excess_append u ns (pairs f) = let e = excess_append u ns f in omega arith

pub never_append : (ls ks : List ℕ) → never (ls ++ ks) ≡ never ls ++ never ks
unfolding never
never_append [] ks = refl
never_append (l ∷ ls) ks = ap (λ r. 0 ∷ r) (never_append ls ks)

-- a tally that fits has a number for each marked branch
pub fits_paired : {t : Tally} {as' : List Charge} → Fits t as' → Paired t (all_branches as')
fits_paired fit = pair
fits_paired (fits p h f e) = rw e (paired_append p (fits_paired f))

-- a loop around charges changes no branch
pub branches_times : (k : ℕ) (as' : List Charge) → all_branches (times k as') ≡ all_branches as'
unfolding times
branches_times k [] = refl
branches_times k (a ∷ as') = ap (λ r. a.branches ++ r) (branches_times k as')

pub times_paired : {t : Tally} (k : ℕ) (as' : List Charge) → Fits t (times k as') → Paired t (all_branches as')
times_paired k as' f = rw (branches_times k as') at (fits_paired f)

-- passing no marker fits, and costs nothing
pub excess_never : (ls : List ℕ) (ms : List Marked) → excess_of (never ls) ms ≡ 0
unfolding never
excess_never [] ms = refl
excess_never (l ∷ ls) [] = refl
excess_never (l ∷ ls) (m ∷ ms) = let e = excess_never ls ms in omega arith

pub passes_never : (ls : List ℕ) → all_passes (never ls) ≡ 0
unfolding never
passes_never [] = refl
passes_never (l ∷ ls) = let e = passes_never ls in omega arith

pub paired_never : (ms : List Marked) → Paired (never (all_limits ms)) ms
unfolding never
paired_never [] = pair
paired_never (m ∷ ms) = pairs (paired_never ms)

pub fits_never : (as' : List Charge) → Fits (never (all_limits (all_branches as'))) as'
unfolding never
fits_never [] = fit
fits_never (a ∷ as') =
    let h : all_passes (never (all_limits a.branches)) ≤ a.product = omega (arith, passes_never (all_limits a.branches)) in
    fits (paired_never a.branches) h (fits_never as')
    (ap never (limits_append a.branches (all_branches as')) ∙ never_append (all_limits a.branches) (all_limits (all_branches as')))

-- both tallies together
passes_add : (t u : Tally) → all_passes (t ⊕ u) ≡ all_passes t + all_passes u
unfolding ◌⊕◌
passes_add [] u = omega arith
passes_add (t ∷ ts) [] = omega arith
passes_add (t ∷ ts) (u ∷ us) = let e = passes_add ts us in omega arith

paired_add : {t u : Tally} {ms : List Marked} → Paired t ms → Paired u ms → Paired (t ⊕ u) ms
unfolding ◌⊕◌
paired_add pair pair = pair
paired_add (pairs f) (pairs g) = pairs (paired_add f g)

pub excess_add : {t u : Tally} {ms : List Marked} → Paired t ms → Paired u ms → excess_of (t ⊕ u) ms ≡ excess_of t ms + excess_of u ms
unfolding ◌⊕◌
excess_add pair pair = refl
excess_add (pairs f) (pairs g) = let e = excess_add f g in omega arith

pub add_append : {p r : Tally} {ms : List Marked} (q s : Tally) → Paired p ms → Paired r ms → (p ++ q) ⊕ (r ++ s) ≡ (p ⊕ r) ++ (q ⊕ s)
unfolding ◌⊕◌
add_append q s pair pair = refl
add_append q s (pairs f) (pairs g) = rw (add_append q s f g)

-- one round after k rounds fits k + 1 rounds; what fits k rounds fits more
pub fits_add : {t u : Tally} {as' : List Charge} (k : ℕ) → Fits t as' → Fits u (times k as') → Fits (t ⊕ u) (times (suc k) as')
unfolding times ◌⊕◌
fits_add k fit fit = fit
fits_add k (fits {p = p} {q = q} {a = a} w h f e) (fits {p = r} {q = s} w' h' f' e') =
    let g : all_passes (p ⊕ r) ≤ suc k * a.product = omega (arith, passes_add p r) in
    fits (paired_add w w') g (fits_add k f f') (ap₂ ◌⊕◌ e e' ∙ add_append q s w w')

pub fits_more : {t : Tally} (as' : List Charge) {k n : ℕ} → k ≤ n → Fits t (times k as') → Fits t (times n as')
unfolding times
fits_more [] h fit = fit
fits_more (a ∷ as') h (fits w h' f e) = fits w (le_trans h' (mul-le-mul_right a.product h)) (fits_more as' h f) e
