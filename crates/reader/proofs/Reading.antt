-- What a record learns of a child: how it is read; its value; or its refusal, which is one of the list.
use Rattle.std.proofs.Common.{ℕ, ◌≡◌, sym, ap, ◌∙◌, ◌-◌, ◌*◌, ◌<◌, ◌≤◌, List, length, arith}
use Rattle.std.specs.Prelude.{Bool, Option, Some, None, Ok, Err, IsErrAnd}
use Rattle.meaning.specs.Judgement.{Reading, found}
use Rattle.records.specs.declared.Found.{Found}
use Rattle.records.specs.declared.Cursor.{Cursor}
use Rattle.records.specs.declared.standings.Standing.{Standing}
use Rattle.records.specs.declared.faults.Refusal.{Refusal}
use Rattle.reader.specs.Tallies.{Aside, Parsed, Tally, Valued, Tells, a_refusal, Quickly, at_once, not_read}
use Rattle.reader.specs.Reader.{Owner, owner_of, ChildReader, child_of, list_from, construct_of}
use Rattle.reader.proofs.Tells.{Returned, told_as, tells_value, tells_refusal}
use Rattle.reader.proofs.Going.{Going, child_refused}

-- what was found of a record, by its kind
pub found_as : {f g : Found} {next : ℕ} {j : Reading Found} → found f next ≡ j → f ≡ g → j ≡ found g next
found_as {next = next} e is = sym e ∙ ap (λ x. found x next) is

-- what was read at once has its value, whatever its passes are
pub quickly_value : {long at : ℕ} {a b : Aside} {x : ℕ → Parsed} {v : ℕ} {next : Cursor} → Quickly long at a x (Some (v, next)) b → (product : ℕ) →
    Valued long at a (x product) (Ok (v, next)) b
quickly_value {v = v} {next = next} (at_once {v = w} {next = past} e h) product =
    let is : ◌≡◌ {A = Returned} (Ok (w, past)) (Ok (v, next)) = cc in
    rw (← is) (h product)
quickly_value (not_read e f) product = let z : ◌≡◌ {A = ℕ} 0 1 = cc in absurd (omega arith)

-- what is not read at once is as it was
pub unread : {long at : ℕ} {a b b' : Aside} {x : ℕ → Parsed} {r : Returned} (product : ℕ) → Quickly long at a x None b → Tells long at b (x product) r b' →
    Tells long at a (x product) r b'
unread product (at_once e h) t = let z : ◌≡◌ {A = ℕ} 0 1 = cc in absurd (omega arith)
unread product (not_read e f) t = rw (← f) t

-- a list is read as deep as it is said to be
pub deeper_list : {left left' product product' : ℕ} (standing : Standing) (s bounds : List ℕ) (own kind first : ℕ) (scope : Bool) (start n : ℕ) (next : Cursor) →
    left' ≡ left → product' ≡ product →
    list_from (construct_of left s bounds own) (owner_of kind first scope start standing product) n next
    ≡ list_from (construct_of left' s bounds own) (owner_of kind first scope start standing product') n next
deeper_list standing s bounds own kind first scope start n next e g = rw (e, g)

-- a child is reached as it is said to be
pub reached : {left left' product product' : ℕ} {standing standing' : Standing} (s bounds : List ℕ) (own : ℕ) (c : Cursor) → left' ≡ left → standing' ≡ standing →
    product' ≡ product → construct_of left s bounds own standing product c ≡ construct_of left' s bounds own standing' product' c
reached s bounds own c e f g = rw (e, f, g)

-- a refusal that is passed on is the same
pub passed_on : {refusal : Refusal} (r : Returned) → IsErrAnd r (λ e. e ≡ refusal) → r ≡ Err refusal
passed_on (Ok x) h = absurd h
passed_on (Err e) h = ap Err h

pub read_child : {long at : ℕ} {a b : Aside} {x y : Parsed} {r : Returned} {v : ℕ} {next : Cursor} → y ≡ x → Tells long at a x r b → r ≡ Ok (v, next) →
    Valued long at a y (Ok (v, next)) b
read_child is t e = told_as is (tells_value t e)

module _ {read : ChildReader} {o : Owner} {s lent : List ℕ} {n base : ℕ} {from : Cursor} {first : Aside} {marks : List ℕ} {t : Tally} {held : ℕ} {c : Cursor}
    {i : ℕ} {aside : Aside} {marked : Option ℕ} where
  pub list_tells : {long at long' at' : ℕ} {a b a' b' : Aside} {x : Parsed} {r : Returned} {refusal : Refusal} →
      Going read o s lent n base from first marks t held c i aside marked → length s ≤ 8 * length lent → i < n →
      child_of read o i (held - base) c ≡ x → Tells long at a x r b → r ≡ Err refusal → {q : Returned} → q ≡ Err refusal →
      Tells long' at' a' (list_from read o n from) q b'
  list_tells g spare more is t e f = a_refusal (child_refused g spare more (is ∙ tells_refusal t e)) f
