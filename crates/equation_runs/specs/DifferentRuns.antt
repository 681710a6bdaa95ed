-- Which equations all-different tells in turn: value by value, that a sure member hasn't what others take, a sure
-- constant or two members with the same two values of which each has the one that the other has not. A constant stays
-- one whatever becomes of the store, and of such two members each has one of the two for good; so each of these is made
-- or told in every view. They hold only pairs of different atoms: a run is no longer than what is not made yet. That of
-- two members with the same two values each has the one that the other has not stands before them in a run
-- (`twin_pairs`). A pigeonhole is no part of one: an equation before it may give its value to another member.
use Rattle.std.specs.Prelude.{nat_le, ℕ, Bool, true, false, not, ◌&&◌, ◌||◌, List, [], ◌∷◌, ◌++◌, length, ℤ, pos}
use Rattle.std.specs.Prelude.{◌+ℤ◌, Option, None, Some, if◌then◌else◌}
use Rattle.std.specs.Ordering.{int_eq}
use Rattle.order_ints.specs.declared.atom.Atom.{Atom}
use Rattle.order_ints.specs.declared.atom.Atom.TheVariants.{False}
use Rattle.order_ints.specs.declared.order_int.OrdInt.{OrdInt}
use Rattle.order_ints.specs.OrderRange.{low_of, high_of}
use Rattle.order_ints.specs.OrderLevels.{values_of, at_of}
use Rattle.order_ints.specs.Same.{is_true, same_atom}
use Rattle.core_forms.specs.Plain.{is_literal}
use Rattle.rule_base.specs.Pairs.{only_if}
use Rattle.rule_base.specs.Constant.{is_constant}
use Rattle.alldiff_rules.specs.Members.{int_at, condition_at}
use Rattle.alldiff_rules.specs.RowLists.{any_place, at_places, is_sure}
use Rattle.equation_runs.specs.TwinRuns.{is_shared_before}

-- the value of the member at a place, if it is sure and has one alone
abbrev pub constant_at : List OrdInt → List Atom → ℕ → Option ℤ
constant_at ints cs i = if is_sure cs i && is_constant (int_at ints i) then Some (low_of (int_at ints i)) else None

abbrev pub is_value : ℤ → Option ℤ → Bool
is_value v None = false
is_value v (Some w) = int_eq w v

-- a sure member at one of the first places is the constant v
abbrev pub is_held_before : List OrdInt → List Atom → ℕ → ℤ → Bool
is_held_before ints cs n v = any_place n (λ i. is_value v (constant_at ints cs i))

-- one of all members is
abbrev pub is_held : List OrdInt → List Atom → ℤ → Bool
is_held ints cs v = is_held_before ints cs (length ints) v

-- two members have the same two values, of which v is one, and each has the one that the other has not
abbrev pub is_shared : List OrdInt → List Atom → ℤ → Bool
is_shared ints cs v = is_shared_before ints cs (length ints) v

-- an integer isn't v, unless this is said already
abbrev pub apart_pair : OrdInt → ℤ → List (Atom × Atom)
apart_pair a v =
    only_if (not (same_atom (at_of a v) (at_of a (v +ℤ pos 1)))) ((at_of a v, at_of a (v +ℤ pos 1)) ∷ [])

-- of some values those that others take
abbrev pub apart_pairs : (ℤ → Bool) → OrdInt → List ℤ → List (Atom × Atom)
apart_pairs taken a [] = []
apart_pairs taken a (v ∷ values) = only_if (taken v) (apart_pair a v) ++ apart_pairs taken a values

-- a constant whose value a sure constant has has no true condition
abbrev pub condition_pair : (ℤ → Bool) → Atom → OrdInt → List (Atom × Atom)
condition_pair held c a = only_if (is_literal c && (is_constant a && held (low_of a))) ((c, False) ∷ [])

-- an integer has one value or two, which are taken: so are those of a sure constant, and of members with the same two
-- values
abbrev pub is_spent : (ℤ → Bool) → OrdInt → Bool
is_spent taken a = nat_le (length a.steps) 1 && (taken (low_of a) && taken (high_of a))

-- a sure member has no value that others take
abbrev pub excluded_pairs : (ℤ → Bool) → Atom → OrdInt → List (Atom × Atom)
excluded_pairs taken c a = only_if (is_true c && not (is_spent taken a)) (apart_pairs taken a (values_of a))

-- of one member with its condition
abbrev pub member_pairs : (ℤ → Bool) → (ℤ → Bool) → Atom → OrdInt → List (Atom × Atom)
member_pairs held shared c a = condition_pair held c a ++ excluded_pairs (λ v. held v || shared v) c a

-- of the members at the first places
abbrev pub members_pairs : (ℤ → Bool) → (ℤ → Bool) → List OrdInt → List Atom → ℕ → List (Atom × Atom)
members_pairs held shared ints cs n = at_places n (λ i. member_pairs held shared (condition_at cs i) (int_at ints i))

-- of all members
abbrev pub different_pairs : List OrdInt → List Atom → List (Atom × Atom)
different_pairs ints cs = members_pairs (is_held ints cs) (is_shared ints cs) ints cs (length ints)
