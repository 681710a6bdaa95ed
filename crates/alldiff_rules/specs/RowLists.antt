-- The equations that all-different states, as a list: member by member, and value by value.
use Rattle.std.specs.Prelude.{◌==◌, ℕ, zero, suc, nat_lt, Bool, true, false, not, ◌&&◌, ◌||◌, List, []}
use Rattle.std.specs.Prelude.{◌∷◌, ◌++◌, length, ℤ, pos, ◌+ℤ◌}
use Rattle.std.specs.List.{flat_map}
use Rattle.std.specs.Ordering.{int_eq}
use Rattle.order_ints.specs.declared.atom.Atom.{Atom}
use Rattle.order_ints.specs.declared.atom.Atom.TheVariants.{True, False}
use Rattle.order_ints.specs.declared.order_int.OrdInt.{OrdInt}
use Rattle.order_ints.specs.Truth.{not_atom}
use Rattle.order_ints.specs.OrderRange.{low_of, high_of}
use Rattle.order_ints.specs.OrderLevels.{values_of, at_of, is_among}
use Rattle.order_ints.specs.OrderMade.{constant_of}
use Rattle.order_ints.specs.Same.{is_true, same_int}
use Rattle.rule_base.specs.Pairs.{only_if}
use Rattle.rule_base.specs.Constant.{is_constant}
use Rattle.alldiff_rules.specs.Members.{int_at, condition_at, number_of_values}
use Rattle.alldiff_rules.specs.Twins.{first_atom}

-- a test holds at some place below a bound
abbrev pub any_place : ℕ → (ℕ → Bool) → Bool
any_place zero test = false
any_place (suc n) test = any_place n test || test n

-- the equations at each place below a bound
abbrev pub at_places : ℕ → (ℕ → List (Atom × Atom)) → List (Atom × Atom)
at_places zero equations = []
at_places (suc n) equations = at_places n equations ++ equations n

-- each condition is True
abbrev pub are_all_sure : List Atom → Bool
are_all_sure [] = true
are_all_sure (c ∷ cs) = is_true c && are_all_sure cs

-- that at the place is
abbrev pub is_sure : List Atom → ℕ → Bool
is_sure cs i = is_true (condition_at cs i)

-- all members differ, and there are fewer values than members, or as many
abbrev pub are_too_few : List OrdInt → List Atom → Bool
are_too_few ints cs = are_all_sure cs && nat_lt (number_of_values ints) (length ints)

abbrev pub are_as_many : List OrdInt → List Atom → Bool
are_as_many ints cs = are_all_sure cs && (number_of_values ints == length ints)

-- a sure member at another place than k is the constant v
abbrev pub is_constant_elsewhere : List OrdInt → List Atom → ℕ → ℤ → Bool
is_constant_elsewhere ints cs k v =
    any_place (length cs) (λ i. not (i == k) && (is_sure cs i && same_int (int_at ints i) (constant_of v)))

-- two integers have two values each, and these are the same
abbrev pub has_two_values : OrdInt → Bool
has_two_values a = length a.steps == 1

abbrev pub share_two_values : OrdInt → OrdInt → Bool
share_two_values a b =
    (has_two_values a && has_two_values b) && (int_eq (low_of a) (low_of b) && int_eq (high_of a) (high_of b))

-- sure members at two places have the same two values
abbrev pub are_twins : List OrdInt → List Atom → ℕ → ℕ → Bool
are_twins ints cs i j = not (i == j)
    && ((is_sure cs i && is_sure cs j) && share_two_values (int_at ints i) (int_at ints j))

-- those at two other places than k have, and v is one of the two
abbrev pub is_of_twins_elsewhere : List OrdInt → List Atom → ℕ → ℤ → Bool
is_of_twins_elsewhere ints cs k v =
    any_place (length cs) (λ i. not (i == k) && any_place (length cs) (λ j.
    not (j == k) && (are_twins ints cs i j && is_among v (values_of (int_at ints i)))))

-- members at other places than k need the value
abbrev pub is_taken : List OrdInt → List Atom → ℕ → ℤ → Bool
is_taken ints cs k v = is_constant_elsewhere ints cs k v || is_of_twins_elsewhere ints cs k v

-- no member at another place than k has it
abbrev pub is_nowhere_else : List OrdInt → ℕ → ℤ → Bool
is_nowhere_else ints k v = not (any_place (length ints) (λ j. not (j == k) && is_among v (values_of (int_at ints j))))

-- at a value that others need, and at one that this member has alone; here and above are the atoms that it is reached
-- and passed
abbrev pub value_equations : Bool → Bool → Atom → Atom → List (Atom × Atom)
value_equations needed alone here above =
    only_if needed ((here, above) ∷ []) ++ only_if alone ((here, True) ∷ [])
    ++ only_if alone ((above, False) ∷ [])

-- so at a value of the member at the place
abbrev pub equations_at_value : List OrdInt → List Atom → ℕ → ℤ → List (Atom × Atom)
equations_at_value ints cs k v =
    value_equations (is_sure cs k && is_taken ints cs k v) (are_as_many ints cs && is_nowhere_else ints k v)
    (at_of (int_at ints k) v) (at_of (int_at ints k) (v +ℤ pos 1))

-- of the member at the place: that its condition is false, if it is a constant that another one is; and at its values
abbrev pub equations_at_place : List OrdInt → List Atom → ℕ → List (Atom × Atom)
equations_at_place ints cs k =
    only_if (is_constant (int_at ints k) && is_constant_elsewhere ints cs k (low_of (int_at ints k)))
    ((condition_at cs k, False) ∷ [])
    ++ flat_map (λ v. equations_at_value ints cs k v) (values_of (int_at ints k))

-- of the members at two places
abbrev pub equations_of_twins : List OrdInt → List Atom → ℕ → ℕ → List (Atom × Atom)
equations_of_twins ints cs i j =
    only_if (are_twins ints cs i j) ((first_atom (int_at ints i).steps, not_atom (first_atom (int_at ints j).steps))
    ∷ [])

-- that there are too few values, and of each member, and of each two
abbrev pub row_equations : List OrdInt → List Atom → List (Atom × Atom)
row_equations ints cs =
    only_if (are_too_few ints cs) ((True, False) ∷ [])
    ++ at_places (length ints) (λ k. equations_at_place ints cs k)
    ++ at_places (length cs) (λ i. at_places (length cs) (λ j. equations_of_twins ints cs i j))
