-- The values of a declaration, and the assignments whose values are in the domains.
use Rattle.std.specs.Prelude.{ℕ, zero, suc, ℤ, pos, negsuc, ◌+ℤ◌, ◌-ℤ◌, Bool, true, false, ◌&&◌}
use Rattle.std.specs.Prelude.{List, [], ◌∷◌}
use Rattle.model_meaning.specs.declared.model.Kind.{Kind}
use Rattle.model_meaning.specs.declared.model.Kind.TheVariants as kind
use Rattle.model_meaning.specs.declared.model.Decl.{Decl}
use Rattle.model_meaning.specs.Integers.{is_member}
use Rattle.value_lists.specs.ValueLists.{first_of, last_of}

-- the n whole numbers from low upwards
abbrev pub numbers_from : ℕ → ℤ → List ℤ
numbers_from zero low = []
numbers_from (suc n) low = low ∷ numbers_from n (low +ℤ pos 1)

-- a number, or 0 where it is negative
abbrev pub at_least_zero : ℤ → ℕ
at_least_zero (pos n) = n
at_least_zero (negsuc n) = 0

-- the least and the greatest value that a declaration allows
abbrev pub least : Kind → ℤ
least kind.Bool = pos 0
least (kind.Range low high) = low
least (kind.Listed values) = first_of values

abbrev pub greatest : Kind → ℤ
greatest kind.Bool = pos 1
greatest (kind.Range low high) = high
greatest (kind.Listed values) = last_of values

-- the values that a declaration allows: 0 and 1 for a Boolean, and for an integer the whole numbers from low to high or
-- the listed ones
unfoldable pub domain : Kind → List ℤ
domain kind.Bool = pos 0 ∷ pos 1 ∷ []
domain (kind.Range low high) = numbers_from (at_least_zero (high -ℤ low +ℤ pos 1)) low
domain (kind.Listed values) = values

-- each declaration has a value, and the value is in its domain
abbrev pub in_domains : List Decl → List ℤ → Bool
in_domains [] [] = true
in_domains [] (v ∷ vs) = false
in_domains (d ∷ ds) [] = false
in_domains (d ∷ ds) (v ∷ vs) = is_member v (domain d.kind) && in_domains ds vs
