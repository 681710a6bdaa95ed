-- How a clause stands under entries of a trail: false, unit, true, or none of these.
use Rattle.std.specs.Prelude.{◌≡◌, ◌≢◌, ℕ, ◌≤◌, true, false, List, Some, None}
use Rattle.std.specs.List.{Contains}
use Rattle.order_ints.specs.declared.literal.Lit.{Lit}
use Rattle.literal_trail.specs.declared.entry.Entry.{Entry}
use Rattle.literal_trail.specs.Trail.{entry_of, truth_in}

-- each literal is false
abbrev pub IsFalse : List Entry → List Lit → Type 0
IsFalse entries lits = (l : Lit) → Contains lits l → truth_in entries l ≡ Some false

-- one literal is free, and each other one is false
pub record IsUnit (entries : List Entry) (lits : List Lit) (u : Lit) : Type 0 where
  pub is_in : Contains lits u
  pub free : truth_in entries u ≡ None
  pub others : (l : Lit) → Contains lits l → l ≢ u → truth_in entries l ≡ Some false

-- neither false nor unit
pub record IsQuiet (entries : List Entry) (lits : List Lit) : Type 0 where
  pub not_false : ¬ IsFalse entries lits
  pub not_unit : (u : Lit) → ¬ IsUnit entries lits u

-- a literal is true, by an entry of level k or below
pub record HasTrue (entries : List Entry) (lits : List Lit) (k : ℕ) : Type 0 where
  pub lit : Lit
  pub is_in : Contains lits lit
  pub entry : Entry
  pub given : entry_of entries lit.var ≡ Some entry
  pub is_true : truth_in entries lit ≡ Some true
  pub low : entry.level ≤ k
