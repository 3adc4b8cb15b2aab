-- The branches of an alternative that hold no marker of a scope around it besides their own: one of them meets any plan.
use Prim.Native.Nat.{ℕ, ◌+◌, ◌*◌, ◌-◌, max, ◌≤◌}
use mathlib.Core.Path.{◌≡◌, refl, sym, ◌∙◌}
use mathlib.Core.Logic.{◌⊎◌, inl, inr}
use mathlib.Core.List.{List, [], ◌∷◌, ◌++◌}
use mathlib.Core.Option.{Option, some, none}
use native.Mathlib.Omega.{arith}
use native.Mathlib.Decide.{dec_le}
use native.Mathlib.Nat.{le_refl}
use Rattle.meaning.specs.Tree.{Marker, Construct, Constructs, mark, end, ◌then◌}
use Rattle.meaning.specs.Value.{marked, larger, Known, value, largest, marked_in}
use Rattle.meaning.specs.Legal.{Plain}
use Rattle.runs.specs.Run.{Tally, never, once, Within, empty, both, limit_of, own, limits, limits_in, World, Run, Taken, this, other}
use Rattle.runs.proofs.Tallies.{excess_of, all_passes, Paired, pairs, never_append}
use Rattle.runs.proofs.Pays.{within_append}
use Rattle.runs.proofs.Counted.{own_counted}
use Rattle.runs.proofs.Plans.{Keeping, within_never, paired_nil, no_passes}

-- where a list of branches holds no further marker, no branch does
nil_both : (ls ks : List ℕ) → ls ++ ks ≡ [] → (ls ≡ []) × (ks ≡ [])
nil_both [] ks e = (refl, e)
nil_both (l ∷ ls) ks e = (cc, cc)

pub bare_both : (b : Construct) (bs : Constructs) → limits_in (b then bs) ≡ [] → (limits b ≡ []) × (limits_in bs ≡ [])
unfolding limits
bare_both b bs e = nil_both (limits b) (limits_in bs) e

-- one marker against its plan; the branch that is taken passes its marker once
within_one : {t l : ℕ} → t ≤ l → Within (t ∷ []) (l ∷ [])
within_one h = both h empty

one_pass : (m : Marker) → Within (once (some m)) (1 ∷ [])
one_pass m = within_one (omega arith)

module _ (world : World) (known : Known) where
  -- each branch has a run that takes its value
  abbrev pub Each : Constructs → Type 0
  Each end = Unit {0}
  Each (b then bs) = Run world b (value known b) [] × Each bs

  -- a run of n cycles takes one of the branches and passes their markers as the tally says
  abbrev TakesOne : Constructs → ℕ → Tally → Type 0
  TakesOne bs n t = Taken world bs n t []

  -- the largest plain branch can be taken, if there is one
  Plainest : Constructs → Type 0
  Plainest bs = ((largest known bs ≡ 0) × (Plain bs → ⊥)) ⊎ TakesOne bs (largest known bs) (never (own bs))

  -- a plan that costs x beyond the largest plain branch: either x is nothing, or a marked branch that costs it can be taken
  data Choice (plain : ℕ) (bs : Constructs) (q : Tally) (x : ℕ) : Type 0 where
    same : x ≡ 0 → Choice plain bs q x
    dearer : {t : Tally} → TakesOne bs (plain + x) t → Within t q → Choice plain bs q x

  -- what a plan for the branches costs, and that such a plan, with one pass at most, leaves a choice
  abbrev cost : ℕ → Constructs → Tally → ℕ
  cost plain bs q = excess_of q (marked_in known plain bs)

  abbrev Choices : ℕ → Constructs → Type 0
  Choices plain bs = (q : Tally) → Paired q (marked_in known plain bs) → all_passes q ≤ 1 → Choice plain bs q (cost plain bs q)

  -- a first branch b and the others
  module _ (b : Construct) (bs : Constructs) (r : Run world b (value known b) []) (bare : (limits b ≡ []) × (limits_in bs ≡ [])) where
    take_this : TakesOne (b then bs) (value known b) (once (mark b) ++ never (own bs))
    unfolding never
    take_this = this {b = b} {bs = bs} {t = once (mark b) ++ never (own bs)} {u = []} {v = []} r refl (rw bare.1)

    take_other : {n : ℕ} {t : Tally} → TakesOne bs n t → TakesOne (b then bs) n (never (limit_of (mark b)) ++ t)
    unfolding never
    take_other {t = t} s = other {b = b} {bs = bs} {t = never (limit_of (mark b)) ++ t} {u = []} s refl (rw bare.0)

    plain_this : mark b ≡ none → largest known bs ≤ value known b → Plainest (b then bs)
    unfolding Plainest value never
    plain_this m h =
        let v : max (value known b) (largest known bs) ≡ value known b = omega arith in
        inr (rw (m, v) (rw m at take_this))

    plain_other : larger (mark b) (value known b) (largest known bs) ≡ largest known bs → TakesOne bs (largest known bs) (never (own bs)) →
        Plainest (b then bs)
    unfolding Plainest value
    plain_other v t = inr (rw (v, never_append (limit_of (mark b)) (own bs)) (take_other t))

    plainest_next : (o : Option Marker) → mark b ≡ o → Plainest bs → Dec (largest known bs ≤ value known b) → Plainest (b then bs)
    unfolding Plainest value
    plainest_next none m p (yes h) = plain_this m h
    plainest_next none m (inl (z, p)) (no h) = absurd (omega arith)
    plainest_next none m (inr t) (no h) = plain_other (rw m (omega arith)) t
    plainest_next (some k) m (inl (z, p)) d = inl (rw m z, unplain)
      where
        unplain : (mark b ≡ none) ⊎ Plain bs → ⊥
        unplain (inl n) = let clash : some k ≡ none = sym m ∙ n in let z : ◌≡◌ {A = ℕ} 0 1 = cc in omega arith
        unplain (inr h) = p h
    plainest_next (some k) m (inr t) d = plain_other (rw m) t

    choice_other : {plain x : ℕ} {q : Tally} → Choice plain bs q x → (p : Tally) → Within (never (limit_of (mark b))) p →
        Choice plain (b then bs) (p ++ q) x
    choice_other (same z) p v = same z
    choice_other (dearer s w) p v = dearer (take_other s) (within_append v w)

    choice_this : (plain : ℕ) {k : Marker} {q : Tally} → mark b ≡ some k → Paired q (marked_in known plain bs) → Dec (value known b ≤ plain) →
        Choice plain (b then bs) (1 ∷ q) (value known b - plain)
    choice_this plain m f (yes h) = same (omega arith)
    choice_this plain {k} m f (no h) =
        let n : plain + (value known b - plain) ≡ value known b = omega arith in
        dearer {t = once (mark b) ++ never (own bs)} (rw n take_this) (rw m (within_append (one_pass k) (rw (own_counted known plain bs) at (within_never f))))

    choice_marked : (plain : ℕ) {k : Marker} → mark b ≡ some k → (x : ℕ) (q : Tally) → Paired q (marked_in known plain bs) → x + all_passes q ≤ 1 →
        Choice plain bs q (cost plain bs q) → Dec (x ≤ 0) → Choice plain (b then bs) (x ∷ q) (x * (value known b - plain) + cost plain bs q)
    unfolding never
    choice_marked plain m x q f h d (yes h') =
        let z : x ≡ 0 = omega arith in
        let n : 0 * (value known b - plain) + cost plain bs q ≡ cost plain bs q = omega arith in
        rw (z, n) (choice_other d (0 ∷ []) (rw m (within_one (le_refl 0))))
    choice_marked plain m x q f h d (no h') =
        let z : x ≡ 1 = omega arith in
        let n : 1 * (value known b - plain) + cost plain bs q ≡ value known b - plain = omega (arith, no_passes f (omega arith)) in
        rw (z, n) (choice_this plain m f (dec_le (value known b) plain))

    choice_next : (plain : ℕ) (o : Option Marker) → mark b ≡ o → {q : Tally} →
        Paired q (marked o (value known b - plain) ++ marked_in known plain bs) → all_passes q ≤ 1 → Choices plain bs →
        Choice plain (b then bs) q (excess_of q (marked o (value known b - plain) ++ marked_in known plain bs))
    unfolding never
    choice_next plain none m {q} f h rest = choice_other (rest q f h) [] (rw m empty)
    choice_next plain (some k) m (pairs {t = x} {ts = xs} f) h rest = choice_marked plain m x xs f h (rest xs f (omega arith)) (dec_le x 0)

  plainest : (bs : Constructs) → Each bs → limits_in bs ≡ [] → Plainest bs
  unfolding Plainest value
  plainest end rs bare = inl (refl, λ h. h)
  plainest (b then bs) rs bare =
      let none_inside = bare_both b bs bare in
      plainest_next b bs rs.0 none_inside (mark b) refl (plainest bs rs.1 none_inside.1) (dec_le (largest known bs) (value known b))

  choices : (plain : ℕ) (bs : Constructs) → Each bs → limits_in bs ≡ [] → Choices plain bs
  unfolding value
  choices plain end rs bare q f h = same (rw (paired_nil f))
  choices plain (b then bs) rs bare q f h =
      let none_inside = bare_both b bs bare in
      choice_next b bs rs.0 none_inside plain (mark b) refl f h (choices plain bs rs.1 none_inside.1)

  -- a plan with one pass at most is met by one branch
  settle : (bs : Constructs) → Plain bs → Plainest bs → (q : Tally) → Paired q (marked_in known (largest known bs) bs) → (x : ℕ) →
      Choice (largest known bs) bs q x → Keeping (TakesOne bs (largest known bs + x)) q
  unfolding Plainest
  settle bs p (inl (z, unplain)) q f x d = absurd (unplain p)
  settle bs p (inr t) q f x (same z) =
      let n : largest known bs + x ≡ largest known bs = omega arith in
      record { tally = never (own bs); run = rw n t; small = rw (own_counted known (largest known bs) bs) at (within_never f) }
  settle bs p (inr t) q f x (dearer s w) = record { tally = _; run = s; small = w }

  pub chosen : (bs : Constructs) → Each bs → Plain bs → limits_in bs ≡ [] → (q : Tally) → Paired q (marked_in known (largest known bs) bs) →
      all_passes q ≤ 1 → Keeping (TakesOne bs (largest known bs + cost (largest known bs) bs q)) q
  chosen bs rs p bare q f h = settle bs p (plainest bs rs bare) q f (cost (largest known bs) bs q) (choices (largest known bs) bs rs bare q f h)
