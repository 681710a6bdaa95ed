-- The linear rule: members with steps are added up, and those without are one number.
use Rattle.std.specs.Prelude.{ℕ, ◌-◌, ◌≤◌, ℤ, pos, ◌+ℤ◌, neg_ℤ, Bool, true, false, List, []}
use Rattle.std.specs.Prelude.{◌∷◌, ◌++◌, length, if◌then◌else◌}
use Rattle.order_ints.specs.declared.atom.Atom.{Atom}
use Rattle.order_ints.specs.declared.order_int.OrdInt.{OrdInt}
use Rattle.order_ints.specs.OrderChange.{negated_of, scaled_of}
use Rattle.core_forms.specs.declared.form.Core.{Core}
use Rattle.core_forms.specs.declared.form.Core.TheVariants as core
use Rattle.core_forms.specs.WellFormed.{IsSound, greatest_abs}
use Rattle.model_meaning.specs.declared.statement.Relation.{Relation}
use Rattle.model_meaning.specs.declared.statement.Relation.TheVariants as relation
use Rattle.statement_lower.specs.declared.made.MadeCores.{MadeCores}
use Rattle.statement_lower.specs.Queue.{queue_made}

-- each integer multiplied by its coefficient
abbrev pub scaled_each : List ℤ → List OrdInt → List OrdInt
scaled_each [] ints = []
scaled_each (c ∷ cs) [] = []
scaled_each (c ∷ cs) (a ∷ ints) = scaled_of a c ∷ scaled_each cs ints

abbrev pub has_steps : List (Atom × ℕ) → Bool
has_steps [] = false
has_steps (s ∷ steps) = true

-- the members that have steps
abbrev pub with_steps : List OrdInt → List OrdInt
with_steps [] = []
with_steps (a ∷ ints) = if has_steps a.steps then a ∷ with_steps ints else with_steps ints

-- the members that have none, which are constants, added up
abbrev pub constant_of_members : List OrdInt → ℤ
constant_of_members [] = pos 0
constant_of_members (a ∷ ints) = if has_steps a.steps then constant_of_members ints
    else a.base +ℤ constant_of_members ints

-- the members of a linear statement: the scaled integers and, last, minus the right side
abbrev pub linear_members : List OrdInt → OrdInt → List OrdInt
linear_members ints a = ints ++ negated_of a ∷ []

-- the members, added up, are 0
abbrev pub zero_sum : List OrdInt → Core
zero_sum members = core.Sum (with_steps members) (neg_ℤ (constant_of_members members))

-- the integers, added up, are the right side
abbrev pub equal_sum : List OrdInt → OrdInt → Core
equal_sum ints a = zero_sum (linear_members ints a)

-- members with steps and a number, added up, stand in a relation to 0: fresh sums until two members are left
abbrev pub compared_made : ℕ → Relation → ℤ → List OrdInt → MadeCores
compared_made vars rel k members = queue_made (length members - 2) vars rel k members

-- members, added up, stand in a relation to 0 other than equality
abbrev pub compared_sum : ℕ → Relation → List OrdInt → MadeCores
compared_sum vars rel members = compared_made vars rel (constant_of_members members) (with_steps members)

-- a sum stands in a relation to the right side; for equality it is one core
abbrev pub linear_made : ℕ → Relation → List OrdInt → OrdInt → MadeCores
linear_made vars relation.Leq ints a = compared_sum vars relation.Leq (linear_members ints a)
linear_made vars relation.Geq ints a = compared_sum vars relation.Geq (linear_members ints a)
linear_made vars relation.Eq ints a = record { vars = vars; cores = equal_sum ints a ∷ [] }
linear_made vars relation.Lt ints a = compared_sum vars relation.Lt (linear_members ints a)
linear_made vars relation.Gt ints a = compared_sum vars relation.Gt (linear_members ints a)
linear_made vars relation.Neq ints a = compared_sum vars relation.Neq (linear_members ints a)

-- an integer that may be added up with 16,777,216 others: it is sound, and no value is above 2 ^ 60 in absolute value,
-- as it is so of the multiple of an integer in the limit of numerals by a numeral
abbrev pub IsSummand : OrdInt → Type 0
IsSummand a = IsSound a × (greatest_abs a ≤ 1152921504606846976)

abbrev pub AreSummands : List OrdInt → Type 0
AreSummands [] = Unit {0}
AreSummands (a ∷ ints) = IsSummand a × AreSummands ints
