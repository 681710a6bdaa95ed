-- What looking at the literals of a clause shows.
use Rattle.std.specs.Prelude.{◌≡◌, ◌≢◌, ℕ, ◌<◌, ◌≤◌, ◌-◌, ◌^◌, Bool, true, false, List}
use Rattle.std.specs.Prelude.{length, Option, Some, None, if◌then◌else◌}
use Rattle.std.specs.List.{Contains}
use Rattle.order_ints.specs.declared.literal.Lit.{Lit}
use Rattle.literal_trail.specs.declared.entry.Entry.{Entry}
use Rattle.literal_trail.specs.Trail.{entry_of, truth_in}
use Rattle.literal_trail.specs.Standing.{IsUnit, IsFalse}
use Rattle.clause_arena.specs.Clauses.{lit_in}
use Rattle.clause_rings.specs.declared.looks.Look.{Look}
use Rattle.clause_rings.specs.declared.looks.Look.TheVariants.{Holds, Open, Forces, Fails}

-- from a place on each literal is false
abbrev pub AreFalseFrom : List Entry → List Lit → ℕ → Type 0
AreFalseFrom es ls m = (k : ℕ) → m ≤ k → k < length ls → truth_in es (lit_in ls k) ≡ Some false

-- a place behind the watched ones, whose literal isn't false
abbrev pub IsOpenPlace : List Entry → List Lit → ℕ → Type 0
IsOpenPlace es ls k = (2 ≤ k) × (k < length ls) × (truth_in es (lit_in ls k) ≢ Some false)

-- what a look says is so
abbrev pub Shows : List Entry → List Lit → Look → Type 0
Shows es ls (Holds other) = Contains ls other × (truth_in es other ≡ Some true)
Shows es ls (Open k other) = IsOpenPlace es ls k × Contains ls other
Shows es ls (Forces other) = IsUnit es ls other
Shows es ls Fails = IsFalse es ls

abbrev pub no_level : ℕ
no_level = 2 ^ 32 - 1

abbrev pub rank_by : Option Entry → Bool → ℕ
rank_by None sign = no_level
rank_by (Some e) true = if e.lit.positive then no_level else e.level
rank_by (Some e) false = if e.lit.positive then e.level else no_level

-- the level at which a literal became false, else a number above all levels
abbrev pub rank_of : List Entry → Lit → ℕ
rank_of es l = rank_by (entry_of es l.var) l.positive

-- no literal from a place on has a higher rank than that at another place there
pub record IsBestFrom (es : List Entry) (ls : List Lit) (start best : ℕ) : Type 0 where
  pub after : start ≤ best
  pub inside : best < length ls
  pub highest : (k : ℕ) → start ≤ k → k < length ls → rank_of es (lit_in ls k) ≤ rank_of es (lit_in ls best)
