-- The clauses of a core have at most as many literals as it costs.
use Rattle.std.proofs.Common.{◌≡◌, ℕ, ◌+◌, ◌≤◌, List, ◌++◌, arith}
use Rattle.std.specs.Prelude.{IsTrue}
use Rattle.order_ints.specs.declared.atom.Atom.{Atom}
use Rattle.order_ints.specs.declared.order_int.OrdInt.{OrdInt}
use Rattle.core_cost.specs.Comparisons.{cost_of_ladder}
use Rattle.core_cost.specs.Network.{has_network, cost_of_table, cost_of_network}
use Rattle.core_cost.specs.Sums.{first_units, second_units}
use Rattle.core_forms.specs.declared.form.Core.{Core}
use Rattle.core_forms.specs.declared.form.Core.TheVariants.{Ladder, Clause, Parity, Conj, Comp, LeqR, EqR, Sum3, Count, Sum, Max, AllDiff, Amo, Prod, DivMod, Lex}
use Rattle.core_forms.specs.Shapes.{steps_of, shape_of}
use Rattle.core_forms.specs.WellFormed.{IsWellFormed}
use Rattle.core_forms.specs.Basic.{is_basic_of}
use Rattle.core_forms.specs.Cost.{cost_of}
use Rattle.direct_encode.specs.Literals.{literals}
use Rattle.direct_encode.specs.Orders.{order_clauses}
use Rattle.direct_encode.specs.Comparisons.{leq_clauses, eq_clauses}
use Rattle.direct_encode.specs.Tables.{sum_pair, sum3_clauses, product_pair, prod_clauses, division_pair, div_mod_clauses}
use Rattle.direct_encode.specs.Clauses.{clauses_of}
use Rattle.direct_encode.proofs.Sizes.{literals-append, literals-order, literals-parity, literals-conj, literals-amo, literals-leq, literals-eq, literals-compared, literals-of_max}
use Rattle.direct_encode.proofs.TableSizes.{literals-table, literals-sum_pair, literals-product_pair, literals-division_pair, table-cheaper}

literals-three : (a b c : OrdInt) (cs : List (List Atom)) → literals (order_clauses a ++ (order_clauses b ++ (order_clauses c ++ cs))) ≡ cost_of_ladder (steps_of a) + cost_of_ladder (steps_of b) + cost_of_ladder (steps_of c) + literals cs
literals-three a b c cs =
    let split = literals-append (order_clauses a) (order_clauses b ++ (order_clauses c ++ cs)) in
    let rest = literals-compared b c cs in
    let first = literals-order a in
    omega (arith, split, rest, first)

equal : (m n : ℕ) → m ≡ n → m ≤ n
equal m n e = omega (arith, e)

-- the literals of the clauses of a basic core are at most its cost
pub literals-clauses_of : (core : Core) → IsTrue (is_basic_of core) → IsWellFormed core → literals (clauses_of core) ≤ cost_of core
literals-clauses_of (Ladder a) basic well = equal _ _ (literals-order a)
literals-clauses_of (Clause ls) basic well = omega arith
literals-clauses_of (Parity ls odd) basic well = literals-parity ls odd basic
literals-clauses_of (Conj r ls) basic well = equal _ _ (literals-conj r ls)
literals-clauses_of (Comp a b hi lo) basic well = omega arith
literals-clauses_of (LeqR r a b) basic well =
    let all = literals-compared a b (leq_clauses r a b) in
    let leq = literals-leq r a b in
    omega (arith, all, leq)
literals-clauses_of (EqR r a b) basic well =
    let all = literals-compared a b (eq_clauses r a b) in
    let eq = literals-eq r a b well.0.1 in
    omega (arith, all, eq)
literals-clauses_of (Sum3 a b c) basic well =
    let all = literals-three a b c (sum3_clauses a b c) in
    let table = literals-table (sum_pair a b c) a b 6 (literals-sum_pair a b c) in
    let least = table-cheaper (has_network (first_units (shape_of a) (shape_of b)) (second_units (shape_of a) (shape_of b))) (cost_of_table (steps_of a) (steps_of b)) (cost_of_network (first_units (shape_of a) (shape_of b)) (second_units (shape_of a) (shape_of b)) (steps_of c)) basic in
    omega (arith, all, table, least)
literals-clauses_of (Count ls c) basic well = omega arith
literals-clauses_of (Sum ints k) basic well = omega arith
literals-clauses_of (Max ints c) basic well = equal _ _ (literals-of_max ints c)
literals-clauses_of (AllDiff ints cs) basic well = omega arith
literals-clauses_of (Amo ls) basic well = literals-amo ls basic
literals-clauses_of (Prod a b c) basic well =
    let all = literals-three a b c (prod_clauses a b c) in
    let table = literals-table (product_pair a b c) a b 10 (literals-product_pair a b c) in
    omega (arith, all, table)
literals-clauses_of (DivMod a b q r) basic well =
    let split = literals-append (order_clauses a) (order_clauses b ++ (order_clauses q ++ (order_clauses r ++ div_mod_clauses a b q r))) in
    let first = literals-order a in
    let all = literals-three b q r (div_mod_clauses a b q r) in
    let table = literals-table (division_pair a b q r) a b 20 (literals-division_pair a b q r) in
    omega (arith, split, first, all, table)
literals-clauses_of (Lex r strict front back) basic well = omega arith
