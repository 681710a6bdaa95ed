-- What partial values make of a clause: it is refuted, it is unit, or neither.
use Rattle.std.specs.Prelude.{List, [], ◌∷◌, if◌then◌else◌}
use Rattle.order_ints.specs.declared.literal.Lit.{Lit}
use Rattle.proof_check.specs.declared.standing.Standing.{Standing}
use Rattle.proof_check.specs.declared.standing.Standing.TheVariants.{Refuted, UnitFor, Neither}
use Rattle.proof_check.specs.Values.{Values, is_false, is_free}

-- the literals that aren't false
abbrev pub open_lits : Values → List Lit → List Lit
open_lits f [] = []
open_lits f (l ∷ ls) = if is_false f l then open_lits f ls else l ∷ open_lits f ls

-- by a clause's open literals: without one it is refuted; with one alone, that has no value, it is unit for it
abbrev pub standing_of : Values → List Lit → Standing
standing_of f [] = Refuted
standing_of f (l ∷ []) = if is_free f l then UnitFor l else Neither
standing_of f (l ∷ m ∷ ls) = Neither

-- how a clause stands
abbrev pub standing : Values → List Lit → Standing
standing f c = standing_of f (open_lits f c)
