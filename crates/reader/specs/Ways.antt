-- How the children of a record stand to a scope, and the passes that the counts allow them, in the code's shape.
-- Products are held at 1,000,000, since no limit is higher.
use Rattle.std.specs.Prelude.{ℕ, ◌+◌, ◌*◌, Bool, min, eqb}
use Rattle.meaning.specs.Format.{pick}
use Rattle.records.specs.declared.standings.Standing.{Standing}
use Rattle.records.specs.declared.standings.Standing.TheVariants.{Outside, InScope, InAlternative, Branch, LastBranch, Leading, LeadingLast}

-- How the first child stands, the third, the others; and the last branch where all others are marked.
-- branches: how many an alternative in a scope has, 0 for any other record. inner: the passes that the counts allow.
pub record Ways : Type 0 where
  pub lead : Standing
  pub third : Standing
  pub others : Standing
  pub branches : ℕ
  pub inner : ℕ

-- the first child of a sequence, and the later ones: a marker may lead a branch
unfoldable pub lead_of : Standing → Standing
lead_of Outside = Outside
lead_of InScope = InScope
lead_of Branch = Leading
lead_of LastBranch = LeadingLast
lead_of _ = InAlternative

unfoldable pub later_of : Standing → Standing
later_of Outside = Outside
later_of InScope = InScope
later_of _ = InAlternative

-- the body of a counted loop: a scope opens, any other keeps one that no alternative stands in
abbrev pub kept_scope : Standing → Standing
kept_scope InScope = InScope
kept_scope _ = Outside

unfoldable pub body_of : Bool → Standing → Standing
body_of scope standing = pick scope InScope (kept_scope standing)

unfoldable pub inner_of : ℕ → Bool → ℕ → ℕ
inner_of count scope product = pick scope count (min 1000000 (product * count))

-- a branch of an alternative, and its last one where all others are marked, in a scope
unfoldable pub branch_of : Standing → Bool → Standing
branch_of Outside last = Outside
branch_of _ last = pick last LastBranch Branch

abbrev pub ways : Standing → Standing → Standing → ℕ → ℕ → Ways
ways lead third others branches inner = record { lead = lead; third = third; others = others; branches = branches; inner = inner }

-- of an alternative, by whether it is in a scope
abbrev pub alternative_ways : Standing → ℕ → ℕ → Ways
alternative_ways Outside n product = ways Outside Outside Outside 0 product
alternative_ways _ n product = ways Outside Branch Branch n product

unfoldable pub ways_of : ℕ → ℕ → Bool → Standing → ℕ → Ways
ways_of kind first scope standing product =
    pick (eqb kind 3) (ways (lead_of standing) (later_of standing) (later_of standing) 0 product)
    (pick (eqb kind 4) (alternative_ways standing first product)
    (pick (eqb kind 5) (ways Outside (body_of scope standing) Outside 0 (inner_of first scope product))
    (pick (eqb kind 6) (ways (body_of scope standing) Outside Outside 0 (inner_of first scope product))
    (ways Outside Outside Outside 0 0))))

-- how child i stands, where so many branches before it are marked
unfoldable pub way_of : Ways → ℕ → ℕ → Standing
way_of w i marked = pick (eqb i 0) w.lead (pick (eqb (marked + 1) w.branches) LastBranch (pick (eqb i 2) w.third w.others))
