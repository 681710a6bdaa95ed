-- Which hints show a clause (LRAT: Luís Cruz-Filipe, Marijn Heule, Warren Hunt, Matt Kaufmann and Peter
-- Schneider-Kamp, 2017): its literals are denied; then each hint in turn names a clause. One that is unit makes its
-- literal true, one that is false ends the test, and any other is passed over.
use Rattle.std.specs.Prelude.{ℕ, ◌-◌, Bool, true, false, ◌&&◌, nat_lt, nat_le, ℤ, pos, negsuc, Option, None, Some}
use Rattle.std.specs.Prelude.{is_none, List, [], ◌∷◌, length, slice_get, if◌then◌else◌, nat_eq}
use Rattle.std.specs.Map.{lookup}
use Rattle.order_ints.specs.declared.literal.Lit.{Lit}
use Rattle.order_ints.specs.Truth.{not_lit}
use Rattle.proof_check.specs.declared.standing.Standing.{Standing}
use Rattle.proof_check.specs.declared.standing.Standing.TheVariants.{Refuted, UnitFor, Neither}
use Rattle.proof_check.specs.Values.{Values, no_values, set_value}
use Rattle.proof_check.specs.Standing.{standing}

-- clauses that were added, with their ids
abbrev pub Added : Type 0
Added = List (ℕ × List Lit)

-- the added clause of an id
abbrev pub added_at : Added → ℕ → Option (List Lit)
added_at added id = lookup (λ k. nat_eq id k) added

-- the clause of an id: those of the CNF have the ids from 1 on
abbrev pub clause_at : List (List Lit) → Added → ℕ → Option (List Lit)
clause_at given added id =
    if nat_lt 0 id && nat_le id (length given) then slice_get given (id - 1) else added_at added id

-- whether an id is above those of the CNF, and no added clause has it
abbrev pub is_new : List (List Lit) → Added → ℕ → Bool
is_new given added id = nat_lt (length given) id && is_none (added_at added id)

-- whether a literal's variable is from 1 to `vars` and has no value
abbrev pub fits : ℕ → Values → Lit → Bool
fits vars f l = nat_lt 0 l.var && nat_le l.var vars && is_none (f l.var)

-- the values with each literal false; none where a variable is not one of so many, or stands twice
abbrev pub deny : ℕ → Values → List Lit → Option Values
deny vars f [] = Some f
deny vars f (l ∷ ls) = if fits vars f l then deny vars (set_value f (not_lit l)) ls else None

-- what a clause comes to that stands so, before the next hints
abbrev pub by_standing : Standing → Values → (Values → Bool) → Bool
by_standing Refuted f next = true
by_standing (UnitFor l) f next = next (set_value f l)
by_standing Neither f next = next f

abbrev pub by_clause : Option (List Lit) → Values → (Values → Bool) → Bool
by_clause None f next = false
by_clause (Some c) f next = by_standing (standing f c) f next

-- what a hint comes to: it names a clause, and isn't negative
abbrev pub by_hint : List (List Lit) → Added → ℤ → Values → (Values → Bool) → Bool
by_hint given added (pos id) f next = by_clause (clause_at given added id) f next
by_hint given added (negsuc n) f next = false

-- whether hints lead from values to a clause that is false
abbrev pub shows : List (List Lit) → Added → Values → List ℤ → Bool
shows given added f [] = false
shows given added f (h ∷ hs) = by_hint given added h f (λ g. shows given added g hs)

abbrev pub shows_from : List (List Lit) → Added → Option Values → List ℤ → Bool
shows_from given added None hints = false
shows_from given added (Some f) hints = shows given added f hints

-- whether hints show a clause
abbrev pub is_shown : ℕ → List (List Lit) → Added → List Lit → List ℤ → Bool
is_shown vars given added lits hints = shows_from given added (deny vars no_values lits) hints
