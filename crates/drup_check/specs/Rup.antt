-- Reverse unit propagation (Evgueni Goldberg and Yakov Novikov, 2003): which clauses others show where their literals
-- are denied and units propagated to the end.
use Rattle.std.specs.Prelude.{◌≢◌, List, Contains}
use Rattle.order_ints.specs.declared.literal.Lit.{Lit}
use Rattle.order_ints.specs.Truth.{not_lit}

-- The least set of literals that has the negations of a clause's literals and, with a clause all of whose literals but
-- one have their negations in the set, that one.
pub data Derived (cs : List (List Lit)) (c : List Lit) : Lit → Type 0 where
  denied : (l : Lit) → Contains c l → Derived cs c (not_lit l)
  unit : (d : List Lit) (l : Lit) → Contains cs d → Contains d l
      → ((k : Lit) → Contains d k → k ≢ l → Derived cs c (not_lit k)) → Derived cs c l

-- the clauses show a clause: the set has the negations of all literals of one of them, or a literal and its negation
pub data Rup (cs : List (List Lit)) (c : List Lit) : Type 0 where
  falsified : (d : List Lit) → Contains cs d → ((k : Lit) → Contains d k → Derived cs c (not_lit k))
      → Rup cs c
  opposed : (l : Lit) → Derived cs c l → Derived cs c (not_lit l) → Rup cs c
