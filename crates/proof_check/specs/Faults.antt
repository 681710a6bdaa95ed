-- The first fault of a proof line, in the order of the tests; `None` where it is accepted. Places count from 1.
use Rattle.std.specs.Prelude.{ℕ, ◌+◌, Bool, true, false, not, ◌&&◌, nat_le, nat_lt, ℤ, pos, negsuc, Option}
use Rattle.std.specs.Prelude.{None, Some, List, [], ◌∷◌, map, if◌then◌else◌}
use Rattle.order_ints.specs.declared.literal.Lit.{Lit}
use Rattle.order_ints.specs.Truth.{not_lit}
use Rattle.proof_check.specs.declared.standing.Standing.{Standing}
use Rattle.proof_check.specs.declared.standing.Standing.TheVariants.{Refuted, UnitFor, Neither}
use Rattle.proof_check.specs.declared.fault.ProofFault.{ProofFault}
use Rattle.proof_check.specs.declared.fault.ProofFault.TheVariants.{Id, Rat, Absent, Hint}
use Rattle.proof_check.specs.declared.fault.ProofFault.TheVariants as fault
use Rattle.proof_check.specs.Named.{Named, clause_at, has_id, without}
use Rattle.proof_check.specs.Values.{Values, set_value, value_in, has_var}
use Rattle.proof_check.specs.Standing.{standing}

-- the fault of a test, or else that of the tests behind it
abbrev pub or_else : Option ProofFault → Option ProofFault → Option ProofFault
or_else None behind = behind
or_else (Some e) behind = Some e

-- an id is above all earlier ones
abbrev pub id_fault : ℕ → ℕ → Option ProofFault
id_fault last id = if nat_lt last id then None else Some Id

-- whether a literal's variable is from 1 to `vars`, and none of the earlier literals has it
abbrev pub fits : ℕ → List Lit → Lit → Bool
fits vars earlier l = nat_lt 0 l.var && nat_le l.var vars && not (has_var l.var earlier)

-- the first literal of a clause that doesn't fit, the next one standing at the place
abbrev pub lits_fault : ℕ → List Lit → List Lit → ℕ → Option ProofFault
lits_fault vars earlier [] place = None
lits_fault vars earlier (l ∷ ls) place =
    if fits vars earlier l then lits_fault vars (l ∷ earlier) ls (place + 1) else Some (fault.Lit place)

-- a hint's clause that is unit goes on with its literal, unless the hint is the last one; the last one's is refuted
abbrev pub by_standing : Standing → Bool → ℕ → (Lit → Option ProofFault) → Option ProofFault
by_standing Refuted last place next = if last then None else Some (Hint place)
by_standing (UnitFor l) last place next = if last then Some (Hint place) else next l
by_standing Neither last place next = Some (Hint place)

-- a hint names a live clause
abbrev pub by_clause : Values → ℕ → Option (List Lit) → Bool → ℕ → (Lit → Option ProofFault)
    → Option ProofFault
by_clause f id None last place next = Some (Absent id)
by_clause f id (Some c) last place next = by_standing (standing f c) last place next

-- and it isn't negative
abbrev pub by_hint : List Named → Values → ℤ → Bool → ℕ → (Lit → Option ProofFault)
    → Option ProofFault
by_hint live f (pos id) last place next = by_clause f id (clause_at live id) last place next
by_hint live f (negsuc n) last place next = Some Rat

-- whether there is none
abbrev pub is_none_left : List ℤ → Bool
is_none_left [] = true
is_none_left (h ∷ hs) = false

-- the hints refute the values, one making the literal of its unit clause true for those behind it
abbrev pub hints_fault : List Named → Values → List ℤ → ℕ → Option ProofFault
hints_fault live f [] place = Some (Hint place)
hints_fault live f (h ∷ hs) place =
    by_hint live f h (is_none_left hs) place (λ l. hints_fault live (set_value f l) hs (place + 1))

-- the values that make each literal of a clause false
abbrev pub against : List Lit → Values
against lits = value_in (map not_lit lits)

-- the literals fit, and where they are denied the hints refute that
abbrev pub body_fault : ℕ → List Named → List Lit → List ℤ → Option ProofFault
body_fault vars live lits hints = or_else (lits_fault vars [] lits 1) (hints_fault live (against lits) hints 1)

-- a deletion takes away live clauses one by one
abbrev pub deletion_fault : List Named → List ℕ → Option ProofFault
deletion_fault live [] = None
deletion_fault live (id ∷ ids) = if has_id live id then deletion_fault (without id live) ids else Some (Absent id)
