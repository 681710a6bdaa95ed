-- New clauses: no live clause lies within them.
use Rattle.std.specs.Prelude.{◌≡◌, Bool, false, List}
use Rattle.std.specs.List.{list_all}
use Rattle.order_ints.specs.declared.literal.Lit.{Lit}
use Rattle.order_ints.specs.OrderedClauses.{has_lit}
use Rattle.proof_check.specs.Named.{Named, Lives}

-- whether each literal of the first clause is one of the second
abbrev pub lies_within : List Lit → List Lit → Bool
lies_within c d = list_all (λ l. has_lit l d) c

-- no live clause has all its literals among those of the clause
abbrev pub New : List Named → List Lit → Type 0
New live c = (d : Named) → Lives live d → lies_within d.lits c ≡ false
