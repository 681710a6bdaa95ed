-- The equations that comparisons of two integers state.
use Rattle.std.specs.Prelude.{not, ◌||◌, List, [], ◌∷◌, ◌++◌, map, ℤ, pos, ◌+ℤ◌, int_le, int_lt}
use Rattle.std.specs.Ordering.{int_eq}
use Rattle.order_ints.specs.declared.atom.Atom.{Atom}
use Rattle.order_ints.specs.declared.atom.Atom.TheVariants.{True, False}
use Rattle.order_ints.specs.declared.order_int.OrdInt.{OrdInt}
use Rattle.order_ints.specs.Truth.{not_atom}
use Rattle.order_ints.specs.OrderRange.{low_of, high_of}
use Rattle.order_ints.specs.OrderLevels.{values_of, at_of}
use Rattle.order_ints.specs.Walk.{has_value}
use Rattle.order_ints.specs.Same.{is_true, is_false, same_int}
use Rattle.rule_base.specs.Pairs.{only_if}
use Rattle.rule_base.specs.Stated.{at_least, is_below, is_not}
use Rattle.rule_base.specs.Constant.{is_constant}

-- r is the truth of a being at most b. Where r is True, a is at most the greatest value of b, and b at least the least
-- value of a
abbrev pub leq_equations_true : OrdInt → OrdInt → List (Atom × Atom)
leq_equations_true a b = is_below a (high_of b +ℤ pos 1) ∷ at_least b (low_of a) ∷ []

-- where r is False, a is above the least value of b, and b below the greatest value of a
abbrev pub leq_equations_false : OrdInt → OrdInt → List (Atom × Atom)
leq_equations_false a b = at_least a (low_of b +ℤ pos 1) ∷ is_below b (high_of a) ∷ []

abbrev pub leq_equations_known : Atom → OrdInt → OrdInt → List (Atom × Atom)
leq_equations_known r a b =
    only_if (is_true r) (leq_equations_true a b) ++ only_if (is_false r) (leq_equations_false a b)

-- all values of a are at most all of b, or all are above
abbrev pub leq_equations_decided : Atom → OrdInt → OrdInt → List (Atom × Atom)
leq_equations_decided r a b =
    only_if (int_le (high_of a) (low_of b)) ((r, True) ∷ [])
    ++ only_if (int_lt (high_of b) (low_of a)) ((r, False) ∷ [])

-- where one of the integers is constant, r is an atom of the other
abbrev pub leq_equations_constant : Atom → OrdInt → OrdInt → List (Atom × Atom)
leq_equations_constant r a b =
    only_if (is_constant a) ((r, at_of b (low_of a)) ∷ [])
    ++ only_if (is_constant b) ((r, not_atom (at_of a (low_of b +ℤ pos 1))) ∷ [])

abbrev pub leq_equations : Atom → OrdInt → OrdInt → List (Atom × Atom)
leq_equations r a b = leq_equations_known r a b ++ leq_equations_decided r a b ++ leq_equations_constant r a b

-- both integers are at least v, or neither is
abbrev pub equal_at : OrdInt → OrdInt → ℤ → Atom × Atom
equal_at a b v = (at_of a v, at_of b v)

-- r is the truth of a and b being equal. Where r is True, for each value of a, and for each of b
abbrev pub eq_equations_true : OrdInt → OrdInt → List (Atom × Atom)
eq_equations_true a b = map (equal_at a b) (values_of a) ++ map (equal_at a b) (values_of b)

-- no value of one is a value of the other, since all are less
abbrev pub eq_equations_apart : Atom → OrdInt → OrdInt → List (Atom × Atom)
eq_equations_apart r a b =
    only_if (int_lt (high_of a) (low_of b) || int_lt (high_of b) (low_of a)) ((r, False) ∷ [])

-- One of the integers is the constant v, and d is the other. Where r is False, d is not v; where v is no value of d, r
-- is false; where v is the least value of d, r says that d is not above v; where it is the greatest, that d is at
-- least v.
abbrev pub eq_equations_value : Atom → ℤ → OrdInt → List (Atom × Atom)
eq_equations_value r v d =
    only_if (is_false r) (is_not d v ∷ [])
    ++ only_if (not (has_value d v)) ((r, False) ∷ [])
    ++ only_if (int_eq v (low_of d)) ((r, not_atom (at_of d (v +ℤ pos 1))) ∷ [])
    ++ only_if (int_eq v (high_of d)) ((r, at_of d v) ∷ [])

abbrev pub eq_equations_constant : Atom → OrdInt → OrdInt → List (Atom × Atom)
eq_equations_constant r a d = only_if (is_constant a) (eq_equations_value r (low_of a) d)

abbrev pub eq_equations : Atom → OrdInt → OrdInt → List (Atom × Atom)
eq_equations r a b =
    only_if (is_true r) (eq_equations_true a b)
    ++ eq_equations_constant r a b
    ++ eq_equations_constant r b a
    ++ eq_equations_apart r a b
    ++ only_if (same_int a b) ((r, True) ∷ [])
