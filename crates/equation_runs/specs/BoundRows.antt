-- Which equations say what the others leave a member, or that each member is True or False.
use Rattle.std.specs.Prelude.{◌==◌, List, [], ◌∷◌, ◌++◌, map, length, ℤ, pos, ◌+ℤ◌, ◌-ℤ◌, if◌then◌else◌}
use Rattle.std.specs.Ordering.{int_eq}
use Rattle.order_ints.specs.declared.atom.Atom.{Atom}
use Rattle.order_ints.specs.declared.atom.Atom.TheVariants.{True, False, Of}
use Rattle.order_ints.specs.declared.order_int.OrdInt.{OrdInt}
use Rattle.order_ints.specs.Same.{is_true}
use Rattle.order_ints.specs.OrderRange.{low_of, high_of}
use Rattle.order_ints.specs.OrderLevels.{at_of}
use Rattle.core_forms.specs.declared.form.Core.{Core}
use Rattle.core_forms.specs.declared.form.Core.TheVariants.{Ladder, Clause, Parity, Conj, Comp, LeqR, EqR, Sum3}
use Rattle.core_forms.specs.declared.form.Core.TheVariants.{Count, Sum, Max, AllDiff, Amo, Prod, DivMod, Lex}
use Rattle.rule_base.specs.Pairs.{only_if}
use Rattle.rule_base.specs.Stated.{all_equal}
use Rattle.arith_rules.specs.SumRows.{lows_of, highs_of}
use Rattle.equation_runs.specs.FreeAtoms.{are_free, step_atoms, int_atoms}
use Rattle.equation_runs.specs.TwinPairs.{twin_pairs}

-- the literals among atoms
abbrev pub literals : List Atom → List Atom
literals [] = []
literals (True ∷ atoms) = literals atoms
literals (False ∷ atoms) = literals atoms
literals (Of l ∷ atoms) = Of l ∷ literals atoms

-- of integers that make up k, where their greatest values add up to `highs`: that each is at least what the others
-- leave it; and where their least values add up to `lows`: that it is more than that
abbrev pub lower_atoms : ℤ → ℤ → List OrdInt → List Atom
lower_atoms k highs ints = map (λ a. at_of a (k -ℤ (highs -ℤ high_of a))) ints

abbrev pub upper_atoms : ℤ → ℤ → List OrdInt → List Atom
upper_atoms k lows ints = map (λ a. at_of a (k -ℤ (lows -ℤ low_of a) +ℤ pos 1)) ints

-- of the members of a maximum: that each is above what it is the greatest of
abbrev pub above_atoms : OrdInt → List OrdInt → List Atom
above_atoms c ints = map (λ a. at_of a (high_of c +ℤ pos 1)) ints

-- that each of some atoms is a constant, where those of integers are literals of different variables
abbrev pub free_bound : List OrdInt → List Atom → Atom → List (Atom × Atom)
free_bound ints atoms constant = only_if (are_free (int_atoms ints)) (all_equal atoms constant)

-- the same, where there is an atom
abbrev pub ints_bound : List OrdInt → List Atom → Atom → List (Atom × Atom)
ints_bound ints atoms constant = if length atoms == 0 then [] else free_bound ints atoms constant

-- what the least or the greatest values of the others leave each member of a sum, the former first
abbrev pub sum_bounds : List OrdInt → List Atom → List Atom → List (Atom × Atom)
sum_bounds ints lower upper = if length lower == 0 then ints_bound ints upper False else free_bound ints lower True

-- that each member is a constant, where these and the atoms of the count are literals of different variables
abbrev pub members_bound : List Atom → OrdInt → Atom → List (Atom × Atom)
members_bound ls c constant = only_if (are_free (ls ++ step_atoms c.steps)) (all_equal ls constant)

-- all members of a count that is as great as can be, or is 0
abbrev pub count_bounds : List Atom → OrdInt → List (Atom × Atom)
count_bounds ls c =
    if int_eq (low_of c) (pos (length ls)) then members_bound ls c True
    else only_if (int_eq (high_of c) (pos 0)) (members_bound ls c False)

-- What is told once those before it are made, where the atoms of the core are literals of different variables: the
-- members of a conjunction that is true; those of a count at its least or greatest value; what a sum, or a maximum,
-- leaves its members; and that of two members that differ, with the same two values, each has the one that the other
-- has not.
abbrev pub bound_pairs : Core → List (Atom × Atom)
bound_pairs (Ladder a) = []
bound_pairs (Clause ls) = []
bound_pairs (Parity ls odd) = []
bound_pairs (Conj r ls) = only_if (is_true r) (only_if (are_free ls) (all_equal ls True))
bound_pairs (Comp a b hi lo) = []
bound_pairs (LeqR r a b) = []
bound_pairs (EqR r a b) = []
bound_pairs (Sum3 a b c) = []
bound_pairs (Count ls c) = count_bounds ls c
bound_pairs (Sum ints k) =
    sum_bounds ints (literals (lower_atoms k (highs_of ints) ints)) (literals (upper_atoms k (lows_of ints) ints))
bound_pairs (Max ints c) = ints_bound (c ∷ ints) (literals (above_atoms c ints)) False
bound_pairs (AllDiff ints cs) = twin_pairs ints cs
bound_pairs (Amo ls) = []
bound_pairs (Prod a b c) = []
bound_pairs (DivMod a b q r) = []
bound_pairs (Lex r strict front back) = []
