-- Clauses by their ids.
use Rattle.std.specs.Prelude.{◌≡◌, ◌==◌, ℕ, ◌+◌, Bool, Option, None, Some, is_some, List, [], ◌∷◌}
use Rattle.std.specs.Prelude.{map, if◌then◌else◌}
use Rattle.order_ints.specs.declared.literal.Lit.{Lit}

-- a clause and its id
pub record Named : Type 0 where
  pub id : ℕ
  pub lits : List Lit

-- the clauses under ids one after another, from a first one on
abbrev pub numbered : ℕ → List (List Lit) → List Named
numbered id [] = []
numbered id (c ∷ cs) = record { id = id; lits = c } ∷ numbered (id + 1) cs

-- the literals of each clause
abbrev pub literals_of : List Named → List (List Lit)
literals_of cs = map (λ c. c.lits) cs

-- the clause under an id, if one stands there
abbrev pub clause_at : List Named → ℕ → Option (List Lit)
clause_at [] id = None
clause_at (c ∷ cs) id = if c.id == id then Some c.lits else clause_at cs id

-- whether a clause stands under the id
abbrev pub has_id : List Named → ℕ → Bool
has_id cs id = is_some (clause_at cs id)

-- the clauses but that under an id
abbrev pub without : ℕ → List Named → List Named
without id [] = []
without id (c ∷ cs) = if c.id == id then without id cs else c ∷ without id cs

-- the clauses but those under the ids
abbrev pub without_all : List ℕ → List Named → List Named
without_all [] cs = cs
without_all (id ∷ ids) cs = without_all ids (without id cs)

-- the clause stands under its id
abbrev pub Lives : List Named → Named → Type 0
Lives live c = clause_at live c.id ≡ Some c.lits
