-- What a core costs: the cost of its form, at the shapes of its integers and the lengths of its lists.
use Rattle.std.specs.Prelude.{ℕ, length}
use Rattle.core_cost.specs.ListForms.{cost_of_clause, cost_of_parity, cost_of_conj, cost_of_comp, cost_of_amo}
use Rattle.core_cost.specs.Comparisons.{cost_of_ladder, cost_of_leq, cost_of_eq, cost_of_lex}
use Rattle.core_cost.specs.Arithmetic.{cost_of_max, cost_of_all_diff, cost_of_prod, cost_of_div_mod}
use Rattle.core_cost.specs.Counts.{cost_of_count}
use Rattle.core_cost.specs.Sums.{cost_of_sum3, cost_of_sum}
use Rattle.core_cost.specs.Relations.{FitsInMemory, AllFitInMemory, PairsFitInMemory}
use Rattle.core_forms.specs.declared.form.Core.{Core}
use Rattle.core_forms.specs.declared.form.Core.TheVariants.{Ladder, Clause, Parity, Conj, Comp, LeqR, EqR, Sum3, Count}
use Rattle.core_forms.specs.declared.form.Core.TheVariants.{Sum, Max, AllDiff, Amo, Prod, DivMod, Lex}
use Rattle.core_forms.specs.Shapes.{steps_of, shape_of, shapes_of, numbers_of_steps, pairs_of_steps}

-- the cost of a core, form by form
abbrev pub cost_of : Core → ℕ
cost_of (Ladder a) = cost_of_ladder (steps_of a)
cost_of (Clause ls) = cost_of_clause (length ls)
cost_of (Parity ls odd) = cost_of_parity (length ls)
cost_of (Conj r ls) = cost_of_conj (length ls)
cost_of (Comp a b hi lo) = cost_of_comp
cost_of (LeqR r a b) = cost_of_leq (steps_of a) (steps_of b)
cost_of (EqR r a b) = cost_of_eq (steps_of a) (steps_of b)
cost_of (Sum3 a b c) = cost_of_sum3 (shape_of a) (shape_of b) (steps_of c)
cost_of (Count ls c) = cost_of_count (length ls) (steps_of c)
cost_of (Sum ints k) = cost_of_sum (shapes_of ints)
cost_of (Max ints c) = cost_of_max (numbers_of_steps ints) (steps_of c)
cost_of (AllDiff ints cs) = cost_of_all_diff (numbers_of_steps ints)
cost_of (Amo ls) = cost_of_amo (length ls)
cost_of (Prod a b c) = cost_of_prod (steps_of a) (steps_of b) (steps_of c)
cost_of (DivMod a b q r) = cost_of_div_mod (steps_of a) (steps_of b) (steps_of q) (steps_of r)
cost_of (Lex r strict front back) = cost_of_lex (pairs_of_steps front back)

-- the lists of a core, of which its cost is made, fit in memory
abbrev pub HasListsInMemory : Core → Type 0
HasListsInMemory (Ladder a) = FitsInMemory (steps_of a)
HasListsInMemory (Clause ls) = FitsInMemory (length ls)
HasListsInMemory (Parity ls odd) = FitsInMemory (length ls)
HasListsInMemory (Conj r ls) = FitsInMemory (length ls)
HasListsInMemory (Comp a b hi lo) = Unit {0}
HasListsInMemory (LeqR r a b) = FitsInMemory (steps_of a) × FitsInMemory (steps_of b)
HasListsInMemory (EqR r a b) = FitsInMemory (steps_of a) × FitsInMemory (steps_of b)
HasListsInMemory (Sum3 a b c) = FitsInMemory (steps_of a) × FitsInMemory (steps_of b) × FitsInMemory (steps_of c)
HasListsInMemory (Count ls c) = FitsInMemory (length ls) × FitsInMemory (steps_of c)
HasListsInMemory (Sum ints k) = FitsInMemory (length ints)
HasListsInMemory (Max ints c) =
    AllFitInMemory (numbers_of_steps ints) × FitsInMemory (length ints) × FitsInMemory (steps_of c)
HasListsInMemory (AllDiff ints cs) = AllFitInMemory (numbers_of_steps ints) × FitsInMemory (length ints)
HasListsInMemory (Amo ls) = FitsInMemory (length ls)
HasListsInMemory (Prod a b c) = FitsInMemory (steps_of a) × FitsInMemory (steps_of b) × FitsInMemory (steps_of c)
HasListsInMemory (DivMod a b q r) =
    FitsInMemory (steps_of a) × FitsInMemory (steps_of b) × FitsInMemory (steps_of q) × FitsInMemory (steps_of r)
HasListsInMemory (Lex r strict front back) = PairsFitInMemory (pairs_of_steps front back) × FitsInMemory (length front)
