-- The shapes of integers, by what is declared: an integer has a step for each value of its domain but the least, of the
-- gap between that value and the one before it.
use Rattle.std.specs.Prelude.{ℕ, pos, ◌-ℤ◌, List, map, slice_get, Option, Some, None}
use Rattle.core_cost.specs.declared.shape.Shape.{Shape}
use Rattle.core_cost.specs.Sums.{unit_steps}
use Rattle.model_meaning.specs.declared.what.IntTerm.{IntTerm}
use Rattle.model_meaning.specs.declared.what.IntTerm.TheVariants as int_term
use Rattle.model_meaning.specs.declared.model.Kind.{Kind}
use Rattle.model_meaning.specs.declared.model.Kind.TheVariants as kind
use Rattle.model_meaning.specs.declared.model.Decl.{Decl}
use Rattle.model_meaning.specs.Domains.{at_least_zero}
use Rattle.value_lists.specs.ValueLists.{first_of, last_of, shape_of as listed_shape}
use Rattle.model_weight.specs.declared.shapes.Domain.{Domain}
use Rattle.model_weight.specs.declared.shapes.Domain.TheVariants as lent

-- the number of steps; a Boolean has one
abbrev pub steps_of : Kind → ℕ
steps_of kind.Bool = 1
steps_of (kind.Range low high) = at_least_zero (high -ℤ low)
steps_of (kind.Listed vs) = (listed_shape vs).steps

abbrev pub shape_of : Kind → Shape
shape_of kind.Bool = unit_steps 1
shape_of (kind.Range low high) = unit_steps (at_least_zero (high -ℤ low))
shape_of (kind.Listed vs) = listed_shape vs

-- the least and the greatest value, where they aren't negative, and else 0
abbrev pub least_of : Kind → ℕ
least_of kind.Bool = 0
least_of (kind.Range low high) = at_least_zero low
least_of (kind.Listed vs) = at_least_zero (first_of vs)

abbrev pub greatest_of : Kind → ℕ
greatest_of kind.Bool = 1
greatest_of (kind.Range low high) = at_least_zero high
greatest_of (kind.Listed vs) = at_least_zero (last_of vs)

-- the domain of the declaration at a place; past the last one it is 0 alone
abbrev pub domain_at : Option Decl → Kind
domain_at None = kind.Range (pos 0) (pos 0)
domain_at (Some d) = d.kind

-- the domain of an integer term; that of a numeral is the numeral alone
abbrev pub domain_of : List Decl → IntTerm → Kind
domain_of ds (int_term.Number n) = kind.Range n n
domain_of ds (int_term.Of place) = domain_at (slice_get ds place)

-- what the code lends of a domain
abbrev pub lent_domain : Domain → Kind
lent_domain (lent.Declared k) = k.now
lent_domain (lent.Number n) = kind.Range n n

abbrev pub steps_in : List Decl → IntTerm → ℕ
steps_in ds i = steps_of (domain_of ds i)

abbrev pub shape_in : List Decl → IntTerm → Shape
shape_in ds i = shape_of (domain_of ds i)

-- the numbers of steps of some integer terms
abbrev pub all_steps : List Decl → List IntTerm → List ℕ
all_steps ds is = map (steps_in ds) is
