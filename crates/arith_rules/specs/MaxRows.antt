-- The equations that a greatest member states.
use Rattle.std.specs.Prelude.{ℕ, ◌+◌, ◌==◌, Bool, nat_le, List, [], ◌∷◌, ◌++◌, map, filter, ℤ}
use Rattle.std.specs.Prelude.{pos, ◌+ℤ◌, int_le, if◌then◌else◌}
use Rattle.order_ints.specs.declared.atom.Atom.{Atom}
use Rattle.order_ints.specs.declared.atom.Atom.TheVariants.{False}
use Rattle.order_ints.specs.declared.order_int.OrdInt.{OrdInt}
use Rattle.order_ints.specs.OrderRange.{low_of, high_of}
use Rattle.order_ints.specs.OrderLevels.{values_of, at_of}
use Rattle.rule_base.specs.Pairs.{only_if}
use Rattle.rule_base.specs.Stated.{at_least, is_below}
use Rattle.arith_rules.specs.Links.{alike_where, alike_back}

-- c is the greatest of members: at least the least value of each, and none is above the greatest value of c
abbrev pub member_ranges : OrdInt → List OrdInt → List (Atom × Atom)
member_ranges c [] = []
member_ranges c (a ∷ ints) = at_least c (low_of a) ∷ is_below a (high_of c +ℤ pos 1) ∷ member_ranges c ints

-- the greater of a number and the greatest values of integers
abbrev pub top_from : ℤ → List OrdInt → ℤ
top_from top [] = top
top_from top (a ∷ ints) = top_from (if int_le top (high_of a) then high_of a else top) ints

-- c is not above all of the members' greatest values
abbrev pub top_equations : OrdInt → List OrdInt → List (Atom × Atom)
top_equations c [] = []
top_equations c (a ∷ ints) = is_below c (top_from (high_of a) ints +ℤ pos 1) ∷ []

-- how many of the integers have v or a greater value
abbrev pub reaching : ℤ → List OrdInt → ℕ
reaching v [] = 0
reaching v (a ∷ ints) = (if int_le v (high_of a) then 1 else 0) + reaching v ints

-- at most one of the integers has v or a greater value: then v is above the greatest values of all but one
abbrev pub is_sole : List OrdInt → ℤ → Bool
is_sole ints v = nat_le (reaching v ints) 1

-- c is at least v exactly where the member a is, for each value v of c and each of a that no other member reaches
abbrev pub linked_equations : OrdInt → OrdInt → List OrdInt → List (Atom × Atom)
linked_equations c a ints = alike_where (is_sole ints) c a ++ alike_back (is_sole ints) a c

-- the members one by one: one whose greatest value no other member reaches is linked with c
abbrev pub leader_equations : OrdInt → List OrdInt → List OrdInt → List (Atom × Atom)
leader_equations c ints [] = []
leader_equations c ints (a ∷ rest) =
    only_if (is_sole ints (high_of a)) (linked_equations c a ints) ++ leader_equations c ints rest

-- c is below each of its values that no member reaches
abbrev pub unreached_equations : OrdInt → List OrdInt → List (Atom × Atom)
unreached_equations c ints = map (λ v. (at_of c v, False)) (filter (λ v. reaching v ints == 0) (values_of c))

abbrev pub max_equations : List OrdInt → OrdInt → List (Atom × Atom)
max_equations ints c =
    member_ranges c ints ++ top_equations c ints ++ unreached_equations c ints ++ leader_equations c ints ints
