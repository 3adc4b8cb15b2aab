-- What the code holds after any number of routines is what document 01 says of the sheet of these routines.
use Prim.Native.Nat.{ℕ, zero, suc, ◌+◌, ◌-◌, ◌<◌}
use mathlib.Core.Path.{◌≡◌, refl, sym, ap, ap₂, ◌∙◌}
use mathlib.Core.Bool.{Bool, true, false}
use mathlib.Core.List.{List, [], ◌∷◌, ◌++◌}
use lib.ListN.{length, take, set, length-set}
use lib.Seq.{length-take-le, take-suc-set, get_or-take}
use lib.Dec.{eqb}
use borrow.Author.Tests.{le-ltb}
use native.Mathlib.Omega.{arith}
use native.Mathlib.Numerals.{add-one}
use Rattle.std.specs.Prelude.{Option, None}
use Rattle.std.specs.Option.{option_or}
use Rattle.meaning.specs.Tree.{Routine}
use Rattle.meaning.specs.Format.{pick, routines_bytes}
use Rattle.meaning.specs.Value.{Known, value, bounds, nothing, bounds_of, task_bound}
use Rattle.meaning.specs.Work.{records, valuing_routines}
use Rattle.meaning.specs.Answer.{ended, ended_routines, ended_of, too_big, accepted, part_in}
use Rattle.meaning.proofs.Works.{one_more}
use Rattle.demands.proofs.Limit.{NoneOverLimit}
use Rattle.records.specs.declared.Cursor.{Cursor}
use Rattle.reader.specs.declared.Bounds.{Bounds}
use Rattle.reader.specs.declared.Progress.{Progress}
use Rattle.reader.specs.Tallies.{Share}
use Rattle.reader.specs.Reader.{no_bounds, bounds_with, progress_from, progress_with}
use Rattle.reader.proofs.Under.{set_small, none_small}
use Rattle.bridge.proofs.Agree.{over_in, Agrees, Finds}
use Rattle.bridge.proofs.Ends.{neither, or_same}
use Rattle.bridge.proofs.More.{as_loop, Long, place_after, sheet_with, more, length_more, place_more, bounds_more, too_big_more, task_more, part_more}

-- the bounds read so far, as what calls know
abbrev pub known_to : Bounds → Known
known_to b = record { bounds = take b.count b.values }

pub finds : (b : Bounds) → Finds (known_to b) b.values b.count
finds b zero low high = absurd (omega arith)
finds b (suc i) low high = let e : suc i - 1 ≡ i = omega arith in rw e (sym (get_or-take b.count b.values i 0 high))

module _ (s : List ℕ) (number edition : ℕ) where
  -- the first record of these routines to end with too large a value, if there is one
  abbrev big_in : List Routine → Option ℕ
  big_in rs = over_in (ended_of (sheet_with edition rs))

  -- What the code holds after these routines. Values count only while no record was too big.
  pub record Holds (rs : List Routine) (b : Bounds) (progress : Progress) : Type 0 where
    pub place : progress.at.at ≡ place_after rs
    pub many : b.count ≡ length rs
    pub room : length b.values ≡ 64
    pub small : NoneOverLimit b.values
    pub over : progress.over ≡ big_in rs
    pub values : big_in rs ≡ None → take b.count b.values ≡ bounds_of (sheet_with edition rs)
    pub last : big_in rs ≡ None → progress.last ≡ task_bound (sheet_with edition rs)
    pub part : part_in s (accepted (sheet_with edition rs)) number ≡ record { start = progress.start; stop = progress.end }
    pub constructs : b.constructs ≡ (valuing_routines nothing rs).constructs

  pub holds_none : (c : Cursor) → c.at ≡ 12 → Holds [] no_bounds (progress_from (length s) c)
  unfolding no_bounds progress_from routines_bytes ended_routines too_big bounds valuing_routines
  holds_none c e = record {
    place = e;
    many = refl;
    room = refl;
    small = none_small 64;
    over = refl;
    values = λ _. refl;
    last = λ _. refl;
    part = none_asked number;
    constructs = refl;
  }
    where
      none_asked : (k : ℕ) → part_in s (accepted (sheet_with edition [])) k ≡ record { start = length s; stop = length s }
      none_asked zero = refl
      none_asked (suc i) = rw (le-ltb i 0 (omega arith))

  module _ {rs : List Routine} {b : Bounds} {progress : Progress} (d : Holds rs b progress) (space : b.count < 64)
      {r : Routine} {past : ℕ} {p : Share} (f : Agrees (known_to b) 0 progress.at.at (as_loop r) past p) (long : Long progress.at.at r past) where
    abbrev known : Known
    known = bounds nothing rs

    -- while no record was too big, the code's bounds are the sheet's
    agrees : big_in rs ≡ None → Agrees known 0 (place_after rs) (as_loop r) past p
    agrees h =
        let same : known_to b ≡ known = ap (λ z. record { bounds = z }) (d.values h) in
        rw (← same, ← d.place) f

    pub holds_more : Holds (more r rs) (bounds_with b p.value p.constructs) (progress_with progress (b.count + 1) number p.value p.over p.next)
    unfolding bounds_with progress_with records
    holds_more = record {
      place = place;
      many = (let n = length_more r rs in let k = d.many in omega arith);
      room = length-set b.values b.count p.value ∙ d.room;
      small = set_small b.values b.count p.value d.small f.small;
      over = rw (d.over, big) (or_same (big_in rs) (λ h. (agrees h).over));
      values = values;
      last = last;
      part = rw (ap (λ n. eqb (n + 1) number) d.many) (part_more r s edition rs number ∙ part (eqb (length rs + 1) number));
      constructs = omega (arith, d.constructs, one_more nothing rs r, f.inside);
    }
      where
        place : p.next.at ≡ place_after (more r rs)
        place = let n = place_more r rs in let a = f.reached in let c = d.place in omega arith

        big : big_in (more r rs) ≡ option_or (big_in rs) (over_in (ended known (place_after rs) (as_loop r)))
        big = too_big_more r rs nothing 12

        -- no record is too big, so none was before
        before : big_in (more r rs) ≡ None → (big_in rs ≡ None) × (p.value ≡ value known (as_loop r))
        before h = let (a, b) = neither _ _ (sym big ∙ h) in (a, (agrees a).amount b)

        values : big_in (more r rs) ≡ None → take (b.count + 1) (set b.values b.count p.value) ≡ bounds_of (sheet_with edition (more r rs))
        values h =
            let (a, e) = before h in
            let room = d.room in
            rw add-one (take-suc-set b.values b.count p.value (omega arith) ∙ ap₂ (λ xs w. xs ++ (w ∷ [])) (d.values a) e
            ∙ sym (ap (λ z. z.bounds) (bounds_more r rs nothing)))

        last : big_in (more r rs) ≡ None → p.value ≡ task_bound (sheet_with edition (more r rs))
        last h =
            let (a, e) = before h in
            let room = d.room in
            e ∙ sym (task_more r edition rs (ap length (sym (d.values a)) ∙ length-take-le b.count b.values (omega arith) ∙ d.many))

        part : (t : Bool) → pick t (record { start = place_after rs; stop = place_after (more r rs) }) (part_in s (accepted (sheet_with edition rs)) number) ≡
            record { start = pick t progress.at.at progress.start; stop = pick t p.next.at progress.end }
        part true = ap₂ (λ a b. record { start = a; stop = b }) (sym d.place) (sym place)
        part false = d.part
