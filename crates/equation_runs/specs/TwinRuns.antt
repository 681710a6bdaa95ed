-- Which values two members of an all-different constraint take that have the same two values, where each has the one
-- that the other has not.
use Rattle.std.specs.Prelude.{ℕ, zero, suc, Bool, false, ◌&&◌, ◌||◌, List, [], ◌∷◌, ℤ, Option, None, Some}
use Rattle.std.specs.Prelude.{if◌then◌else◌}
use Rattle.std.specs.Option.{option_or}
use Rattle.std.specs.Ordering.{int_eq, is_eq}
use Rattle.order_ints.specs.declared.atom.Atom.{Atom}
use Rattle.order_ints.specs.declared.order_int.OrdInt.{OrdInt}
use Rattle.order_ints.specs.OrderRange.{low_of, high_of}
use Rattle.order_ints.specs.Same.{same_atom}
use Rattle.order_ints.specs.Truth.{not_atom}
use Rattle.alldiff_rules.specs.Table.{pair_cmp}
use Rattle.alldiff_rules.specs.Members.{int_at}
use Rattle.alldiff_rules.specs.RowLists.{any_place, is_sure, has_two_values}
use Rattle.alldiff_rules.specs.Twins.{first_atom}

-- by what the greater one of two values is greater
abbrev pub first_weight : List (Atom × ℕ) → ℕ
first_weight [] = 0
first_weight (s ∷ steps) = s.1

-- the lower one of the two values of the member at a place, and by what the other one is greater, if it is sure and has
-- two
abbrev pub choice_at : List OrdInt → List Atom → ℕ → Option (ℤ × ℕ)
choice_at ints cs i =
    if is_sure cs i && has_two_values (int_at ints i)
    then Some (low_of (int_at ints i), first_weight (int_at ints i).steps)
    else None

abbrev pub is_choice : ℤ × ℕ → Option (ℤ × ℕ) → Bool
is_choice key None = false
is_choice key (Some other) = is_eq (pair_cmp other key)

-- the first of the first places at which a member has these two values
abbrev pub first_with : List OrdInt → List Atom → ℕ → ℤ × ℕ → Option ℕ
first_with ints cs zero key = None
first_with ints cs (suc n) key =
    option_or (first_with ints cs n key) (if is_choice key (choice_at ints cs n) then Some n else None)

-- the first place at which a member has the two values of the one at a place, if that is an earlier one
abbrev pub twin_by : List OrdInt → List Atom → ℕ → Option (ℤ × ℕ) → Option ℕ
twin_by ints cs i None = None
twin_by ints cs i (Some key) = first_with ints cs i key

abbrev pub twin_at : List OrdInt → List Atom → ℕ → Option ℕ
twin_at ints cs i = twin_by ints cs i (choice_at ints cs i)

-- v is one of the two values of a member whose earlier twin has the one that it has not
abbrev pub is_of_twin : List OrdInt → ℕ → ℤ → Option ℕ → Bool
is_of_twin ints i v None = false
is_of_twin ints i v (Some j) =
    same_atom (first_atom (int_at ints j).steps) (not_atom (first_atom (int_at ints i).steps))
    && (int_eq (low_of (int_at ints i)) v || int_eq (high_of (int_at ints i)) v)

-- it is so of one of the members at the first places
abbrev pub is_shared_before : List OrdInt → List Atom → ℕ → ℤ → Bool
is_shared_before ints cs n v = any_place n (λ i. is_of_twin ints i v (twin_at ints cs i))
