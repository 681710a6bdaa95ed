-- Decisions.
use Rattle.std.specs.Prelude.{◌≡◌, ℕ, ◌≤◌, Bool, true, List, length, Option, None, Some}
use Rattle.order_ints.specs.declared.literal.Lit.{Lit}
use Rattle.order_ints.specs.Truth.{valuation_of}
use Rattle.literal_trail.specs.Trail.{Trail, entry_of, truth_in, value_in}
use Rattle.learning_solver.specs.declared.deciding.Stand.{Stand}
use Rattle.learning_solver.specs.declared.deciding.Stand.TheVariants.{Open, Against, Holds}
use Rattle.learning_solver.specs.Ending.{IsDenied}

-- the assumption is true, where there is one
abbrev pub IsTrueIn : Trail → Option Lit → Type 0
IsTrueIn t None = Unit {0}
IsTrueIn t (Some a) = truth_in t.entries a ≡ Some true

-- the assumption is free at level 0
pub record IsOpen (t : Trail) (assumption : Option Lit) (l : Lit) : Type 0 where
  pub is : assumption ≡ Some l
  pub low : 1 ≤ l.var
  pub high : l.var ≤ t.vars
  pub free : entry_of t.entries l.var ≡ None

-- how an assumption stands
abbrev pub Stands : Trail → Option Lit → Stand → Type 0
Stands t assumption (Open l) = IsOpen t assumption l
Stands t assumption (Against denied reason) = (t.level ≡ 0) × IsDenied t assumption denied reason
Stands t assumption Holds = IsTrueIn t assumption

-- the value of each variable that has one
pub record AreValues (t : Trail) (values : List Bool) : Type 0 where
  pub count : length values ≡ t.vars
  pub each : (v : ℕ) (b : Bool) → 1 ≤ v → v ≤ t.vars → value_in t.entries v ≡ Some b
      → valuation_of values v ≡ b
