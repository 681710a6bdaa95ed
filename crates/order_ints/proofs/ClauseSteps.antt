-- Steps of the loops that put a clause in order, and when two clauses are the same.
use Rattle.std.proofs.Common.{◌≡◌, Bool, not, List, ◌++◌, Option, option_map, Decides, refl, sym, ap, ◌∙◌}
use Rattle.std.proofs.lemmas.Slice.Eq.{slice_eq-Decides}
use Rattle.order_ints.specs.declared.literal.Lit.{Lit}
use Rattle.order_ints.specs.OrderedClauses.{same_lit, same_clause}
use Rattle.order_ints.proofs.LitOrder.{same_lit-true, same_lit-refl}

-- a list in front of the literals, if there are any
abbrev pub in_front : List Lit → Option (List Lit) → Option (List Lit)
in_front xs o = option_map (λ ls. xs ++ ls) o

-- the clauses are the same exactly where `same_clause` says so
pub same_clause-decides : (c d : List Lit) → Decides (same_clause c d) (c ≡ d)
same_clause-decides c d = slice_eq-Decides (λ l m. (same_lit-true l m, λ e. ap (same_lit l) (sym e) ∙ same_lit-refl l)) c d (same_clause c d) refl

-- another clause than this one
abbrev pub is_other : List Lit → List Lit → Bool
is_other c d = not (same_clause d c)
