-- Which equations are told in turn: those that follow along the steps of an integer from one constant step, and those
-- that link two integers value by value.
use Rattle.std.specs.Prelude.{ℕ, pos, List, [], ◌∷◌, ◌++◌, map, reverse, if◌then◌else◌}
use Rattle.order_ints.specs.declared.atom.Atom.{Atom}
use Rattle.order_ints.specs.declared.atom.Atom.TheVariants.{True, False}
use Rattle.order_ints.specs.declared.order_int.OrdInt.{OrdInt}
use Rattle.order_ints.specs.Same.{same_atom, is_true}
use Rattle.order_ints.specs.OrderRange.{low_of}
use Rattle.core_forms.specs.declared.equation.Equation.{Equation}
use Rattle.core_forms.specs.declared.equation.Rule.{Rule}
use Rattle.core_forms.specs.declared.equation.Rule.TheVariants.{Order, Form}
use Rattle.core_forms.specs.declared.form.Core.{Core}
use Rattle.core_forms.specs.declared.form.Core.TheVariants.{Ladder, Clause, Parity, Conj, Comp, LeqR, EqR, Sum3}
use Rattle.core_forms.specs.declared.form.Core.TheVariants.{Count, Sum, Max, AllDiff, Amo, Prod, DivMod, Lex}
use Rattle.core_forms.specs.Contents.{ints_of}
use Rattle.rule_base.specs.Pairs.{only_if}
use Rattle.rule_base.specs.Stated.{all_equal}
use Rattle.rule_base.specs.Constant.{is_constant}
use Rattle.equi_rules.specs.AtomRows.{amo_equations}
use Rattle.arith_rules.specs.SumRows.{raised_equations, sum3_constants}
use Rattle.arith_rules.specs.ProductRows.{scaled_equations}
use Rattle.arith_rules.specs.MaxRows.{leader_equations}
use Rattle.equation_runs.specs.BoundRows.{bound_pairs}
use Rattle.equation_runs.specs.DifferentRuns.{different_pairs}

-- a pair as an equation of a rule
abbrev pub equation_of : Rule → Atom × Atom → Equation
equation_of rule p = record { rule = rule; a = p.0; b = p.1 }

-- of steps in an order: the atom of each one behind the first whose atom is the constant is that constant too
abbrev pub behind : Atom → List (Atom × ℕ) → List (Atom × Atom)
behind constant [] = []
behind constant (s ∷ steps) =
    if same_atom s.0 constant then all_equal (map (λ t. t.0) steps) constant else behind constant steps

-- above the lowest False step of an integer each one is false, upwards; below the highest True one each is true,
-- downwards
abbrev pub chain_pairs : OrdInt → List (Atom × Atom)
chain_pairs a = behind False a.steps ++ behind True (reverse a.steps)

-- of each integer of a list
abbrev pub chains_of : List OrdInt → List (Atom × Atom)
chains_of [] = []
chains_of (a ∷ ints) = chain_pairs a ++ chains_of ints

-- of a product, where a factor is constant: for each value of the other one and of the product what belongs to it
abbrev pub prod_constants : OrdInt → OrdInt → OrdInt → List (Atom × Atom)
prod_constants a b c =
    only_if (is_constant a) (scaled_equations (low_of a) b c)
    ++ only_if (is_constant b) (scaled_equations (low_of b) a c)

-- What is told whatever the store makes of the core. Two integers that are equal, two of a sum whose third is constant,
-- a product by a constant, and a greatest member at the values that it alone reaches: for each value of one what the
-- other has there. Beside a True member of at-most-one each other one is false. And of members that differ what
-- constants and twins among them exclude.
abbrev pub link_pairs : Core → List (Atom × Atom)
link_pairs (Ladder a) = []
link_pairs (Clause ls) = []
link_pairs (Parity ls odd) = []
link_pairs (Conj r ls) = []
link_pairs (Comp a b hi lo) = []
link_pairs (LeqR r a b) = []
link_pairs (EqR r a b) = only_if (is_true r) (raised_equations (pos 0) a b)
link_pairs (Sum3 a b c) = sum3_constants a b c
link_pairs (Count ls c) = []
link_pairs (Sum ints k) = []
link_pairs (Max ints c) = leader_equations c ints ints
link_pairs (AllDiff ints cs) = different_pairs ints cs
link_pairs (Amo ls) = amo_equations ls
link_pairs (Prod a b c) = prod_constants a b c
link_pairs (DivMod a b q r) = []
link_pairs (Lex r strict front back) = []

-- the run of a core
abbrev pub run_of : Core → List Equation
run_of core =
    map (equation_of Form) (bound_pairs core)
    ++ map (equation_of Order) (chains_of (ints_of core))
    ++ map (equation_of Form) (link_pairs core)
