-- Laws of what `construct` comes to by the record that it finds: one that owns nothing, which `at_once` reads too, or one that owns a list.
use Prim.Native.Nat.{ℕ, zero, suc, ◌-◌, ◌≤◌, ◌<◌}
use mathlib.Core.Path.{◌≡◌, refl, ap, subst, ◌∙◌}
use mathlib.Core.Bool.{Bool}
use mathlib.Core.List.{List}
use lib.ListN.{length, get_or}
use native.Mathlib.Omega.{arith}
use native.Mathlib.Numerals.{sub-one}
use Rattle.records.specs.declared.Cursor.{Cursor}
use Rattle.records.specs.declared.Found.{Found}
use Rattle.records.specs.declared.Found.TheVariants as kinds
use Rattle.records.proofs.Founds.{Past, Ranged, ranged}
use Rattle.records.specs.declared.standings.Standing.{Standing}
use Rattle.meaning.specs.Judgement.{Reading, refused, found}
use Rattle.std.specs.Prelude.{Option, Some, None, Ok}
use Rattle.reader.specs.Tallies.{Aside, mark_as, aside_of, value_cap, Parsed, Done, Refused, share, Limited, Valued}
use Rattle.reader.specs.Reader.{ChildReader, owned_of, owned_by, found_at, construct_of, Within}
use Rattle.reader.proofs.Tells.{aside_none}

-- a record that owns nothing comes to the same, however children are read
alone : (left : ℕ) (s bounds : List ℕ) (own : ℕ) (standing : Standing) (product : ℕ) (c : Cursor) {f : Reading Found} {x : Parsed} → found_at s own left standing c ≡ f →
    ((read : ChildReader) → owned_of read bounds c.at standing product f ≡ x) → construct_of left s bounds own standing product c ≡ x
unfolding construct_of
alone zero s bounds own standing product c e h = ap (owned_of (λ _ _ d. Refused 8 d.at) bounds c.at standing product) e ∙ h _
alone (suc left) s bounds own standing product c e h = ap (owned_of (construct_of left s bounds own) bounds c.at standing product) e ∙ h _

-- a record with children
pub owner : (left : ℕ) (s bounds : List ℕ) (own : ℕ) (standing : Standing) (product : ℕ) (c : Cursor) {f : Reading Found} → 1 ≤ left → found_at s own left standing c ≡ f →
    construct_of left s bounds own standing product c ≡ owned_of (construct_of (left - 1) s bounds own) bounds c.at standing product f
unfolding construct_of
owner zero s bounds own standing product c h e = absurd (omega arith)
owner (suc left) s bounds own standing product c h e = rw (e, sub-one (suc left))

module _ (left : ℕ) (s bounds : List ℕ) (own : ℕ) (standing : Standing) (product : ℕ) (c : Cursor) where
  abbrev comes_to : Parsed
  comes_to = construct_of left s bounds own standing product c

  pub refuses : {number place : ℕ} → found_at s own left standing c ≡ refused number place → comes_to ≡ Refused number place
  refuses e = alone left s bounds own standing product c e (λ read. refl)

  module _ {a : Aside} (small : a.added ≤ value_cap) where
    -- nothing is told aside but a mark
    told_alone : {v : ℕ} {mark : Option ℕ} {next : Cursor} {b : Aside} → comes_to ≡ Done (share v None 0 mark 0 next) →
        b ≡ aside_of a None 0 mark 0 → v ≤ 1099511627775 → Limited mark → Past s left c.at next.at → Valued (length s) c.at a comes_to (Ok (v, next)) b
    told_alone {v} {mark} {next} is same low few p = record {
      told = share v None 0 mark 0 next;
      is = is;
      returned = refl;
      aside = same;
      fine = record { value = low; added = omega arith; mark = few; past = omega (arith, p.past); inside = p.inside };
    }

    pub primitive_alone : {cost next : ℕ} → found_at s own left standing c ≡ found (kinds.Primitive cost) next →
        Valued (length s) c.at a comes_to (Ok (cost, record { at = next })) a
    unfolding owned_by
    primitive_alone {cost} {next} e = go (subst (Ranged s own left c.at) e (ranged s own left standing c.at))
      where
        go : Ranged s own left c.at (found (kinds.Primitive cost) next) → Valued (length s) c.at a comes_to (Ok (cost, record { at = next })) a
        go (Ranged.a_primitive p h) = told_alone (alone left s bounds own standing product c e (λ read. refl)) (aside_none small) (omega arith) tt p

    pub call_alone : {number next : ℕ} → ((i : ℕ) → get_or bounds i 0 ≤ 1099511627775) → found_at s own left standing c ≡ found (kinds.Call number) next →
        Valued (length s) c.at a comes_to (Ok (get_or bounds (number - 1) 0, record { at = next })) a
    unfolding owned_by
    call_alone {number} {next} low e = go (subst (Ranged s own left c.at) e (ranged s own left standing c.at))
      where
        go : Ranged s own left c.at (found (kinds.Call number) next) → Valued (length s) c.at a comes_to (Ok (get_or bounds (number - 1) 0, record { at = next })) a
        go (Ranged.a_call p g h) = told_alone (alone left s bounds own standing product c e (λ read. refl)) (aside_none small) (low (number - 1)) tt p

    pub marker_alone : {limit cost next : ℕ} → found_at s own left standing c ≡ found (kinds.Marker limit cost) next →
        Valued (length s) c.at a comes_to (Ok (cost, record { at = next })) (mark_as a (Some limit))
    unfolding owned_by
    marker_alone {limit} {cost} {next} e = go (subst (Ranged s own left c.at) e (ranged s own left standing c.at))
      where
        marked : mark_as a (Some limit) ≡ aside_of a None 0 (Some limit) 0
        marked = let none : a ≡ aside_of a None 0 None 0 = aside_none small in λ i. mark_as (none i) (Some limit)

        go : Ranged s own left c.at (found (kinds.Marker limit cost) next) → Valued (length s) c.at a comes_to (Ok (cost, record { at = next })) (mark_as a (Some limit))
        go (Ranged.a_marker p g h) = told_alone (alone left s bounds own standing product c e (λ read. refl)) marked (omega arith) g p

-- what a good record holds, by its kind
module _ (left : ℕ) (s : List ℕ) (own : ℕ) (standing : Standing) (c : Cursor) where
  of_found : {f : Reading Found} → found_at s own left standing c ≡ f → Ranged s own left c.at f
  of_found e = subst (Ranged s own left c.at) e (ranged s own left standing c.at)

  pub call_range : {number next : ℕ} → found_at s own left standing c ≡ found (kinds.Call number) next → (1 ≤ number) × (number < own)
  call_range {number} {next} e = go (of_found e)
    where
      go : Ranged s own left c.at (found (kinds.Call number) next) → (1 ≤ number) × (number < own)
      go (Ranged.a_call p g h) = (g, h)

  pub marker_range : {limit cost next : ℕ} → found_at s own left standing c ≡ found (kinds.Marker limit cost) next → limit ≤ 1000000
  marker_range {limit} {cost} {next} e = go (of_found e)
    where
      go : Ranged s own left c.at (found (kinds.Marker limit cost) next) → limit ≤ 1000000
      go (Ranged.a_marker p g h) = g

  pub sequence_range : {n next : ℕ} → found_at s own left standing c ≡ found (kinds.Sequence n) next → Past s left c.at next × (n ≤ 1000)
  sequence_range {n} {next} e = go (of_found e)
    where
      go : Ranged s own left c.at (found (kinds.Sequence n) next) → Past s left c.at next × (n ≤ 1000)
      go (Ranged.a_sequence p h) = (p, h)

  pub alternative_range : {n next : ℕ} → found_at s own left standing c ≡ found (kinds.Alternative n) next → Past s left c.at next × (2 ≤ n) × (n ≤ 256)
  alternative_range {n} {next} e = go (of_found e)
    where
      go : Ranged s own left c.at (found (kinds.Alternative n) next) → Past s left c.at next × (2 ≤ n) × (n ≤ 256)
      go (Ranged.an_alternative p g h) = (p, g, h)

  pub head_range : {count : ℕ} {scope : Bool} {next : ℕ} → found_at s own left standing c ≡ found (kinds.HeadLoop count scope) next → Past s left c.at next × (count ≤ 1000000)
  head_range {count} {scope} {next} e = go (of_found e)
    where
      go : Ranged s own left c.at (found (kinds.HeadLoop count scope) next) → Past s left c.at next × (count ≤ 1000000)
      go (Ranged.a_head_loop p h) = (p, h)

  pub tail_range : {count : ℕ} {scope : Bool} {next : ℕ} → found_at s own left standing c ≡ found (kinds.TailLoop count scope) next → Past s left c.at next × (count ≤ 1000000)
  tail_range {count} {scope} {next} e = go (of_found e)
    where
      go : Ranged s own left c.at (found (kinds.TailLoop count scope) next) → Past s left c.at next × (count ≤ 1000000)
      go (Ranged.a_tail_loop p f h) = (p, h)

  pub timed_range : {time next : ℕ} → found_at s own left standing c ≡ found (kinds.TimedLoop time) next → Past s left c.at next × (time ≤ 4294967295)
  timed_range {time} {next} e = go (of_found e)
    where
      go : Ranged s own left c.at (found (kinds.TimedLoop time) next) → Past s left c.at next × (time ≤ 4294967295)
      go (Ranged.a_timed_loop p h) = (p, h)

  -- no good record stands where no depth is left
  pub good_deep : {f : Found} {next : ℕ} → found_at s own left standing c ≡ found f next → 1 ≤ left
  good_deep {f} {next} e = go f (of_found e)
    where
      go : (f : Found) → Ranged s own left c.at (found f next) → 1 ≤ left
      go (kinds.Primitive cost) (Ranged.a_primitive p _) = p.deep
      go (kinds.Sequence n) (Ranged.a_sequence p _) = p.deep
      go (kinds.Alternative n) (Ranged.an_alternative p _ _) = p.deep
      go (kinds.HeadLoop count scope) (Ranged.a_head_loop p _) = p.deep
      go (kinds.TailLoop count scope) (Ranged.a_tail_loop p _ _) = p.deep
      go (kinds.TimedLoop time) (Ranged.a_timed_loop p _) = p.deep
      go (kinds.Call number) (Ranged.a_call p _ _) = p.deep
      go (kinds.Marker limit cost) (Ranged.a_marker p _ _) = p.deep

pub within_list : {s : List ℕ} {left at next : ℕ} → Past s left at next → Within s at next
within_list p = record { past = p.past; inside = p.inside }
