-- The cores of comparisons and counts cost at most what their statements weigh.
use Rattle.std.proofs.Common.{◌≡◌, ℕ, zero, suc, ◌+◌, ◌≤◌, List, length, refl, ap, arith}
use Rattle.order_ints.specs.declared.atom.Atom.{Atom}
use Rattle.order_ints.specs.declared.atom.Atom.TheVariants.{True}
use Rattle.order_ints.specs.declared.order_int.OrdInt.{OrdInt}
use Rattle.order_ints.specs.OrderMade.{unit_steps}
use Rattle.core_cost.specs.Counts.{cost_of_count}
use Rattle.core_cost.proofs.Monotone.{leq-mono, eq-mono, count-mono}
use Rattle.core_forms.specs.Shapes.{steps_of}
use Rattle.core_forms.specs.Cost.{cost_of}
use Rattle.core_forms.specs.Cores.{costs_of}
use Rattle.model_meaning.specs.declared.statement.Relation.{Relation}
use Rattle.model_meaning.specs.declared.statement.Relation.TheVariants as relation
use Rattle.statement_lower.specs.Comparison.{comparison_core}
use Rattle.statement_lower.specs.Lines.{fresh_range, compared_count, count_made}
use Rattle.model_weight.specs.Comparisons.{weight_of_comparison, weight_of_fresh_count, weight_of_count}
use Rattle.weight_laws.specs.Size.{size_of_made}

pub comparison-cost : (rel : Relation) (r : Atom) (a b : OrdInt) (n m : ℕ) → steps_of a ≤ n → steps_of b ≤ m
    → cost_of (comparison_core rel r a b) ≤ weight_of_comparison rel n m
comparison-cost relation.Leq r a b n m h k = leq-mono (steps_of a) (steps_of b) n m h k
comparison-cost relation.Geq r a b n m h k = leq-mono (steps_of b) (steps_of a) m n k h
comparison-cost relation.Eq r a b n m h k = eq-mono (steps_of a) (steps_of b) n m h k
comparison-cost relation.Lt r a b n m h k = leq-mono (steps_of b) (steps_of a) m n k h
comparison-cost relation.Gt r a b n m h k = leq-mono (steps_of a) (steps_of b) n m h k
comparison-cost relation.Neq r a b n m h k = eq-mono (steps_of a) (steps_of b) n m h k

-- a comparison costs something
pub comparison-some : (rel : Relation) (r : Atom) (a b : OrdInt) → 1 ≤ cost_of (comparison_core rel r a b)
comparison-some relation.Leq r a b = omega arith
comparison-some relation.Geq r a b = omega arith
comparison-some relation.Eq r a b = omega arith
comparison-some relation.Lt r a b = omega arith
comparison-some relation.Gt r a b = omega arith
comparison-some relation.Neq r a b = omega arith

-- Counts.

pub length-units : (first count : ℕ) → length (unit_steps first count) ≡ count
length-units first zero = refl
length-units first (suc count) = ap suc (length-units (first + 1) count)

pub fresh-steps : (vars most : ℕ) → steps_of (fresh_range vars most) ≡ most
fresh-steps vars most = length-units (vars + 1) most

fresh-count-size : (vars : ℕ) (rel : Relation) (atoms : List Atom) (a : OrdInt) (m : ℕ) → steps_of a ≤ m
    → size_of_made (compared_count vars rel atoms a) ≤ vars + weight_of_fresh_count rel (length atoms) m
fresh-count-size vars rel atoms a m h =
    let k : ℕ = length atoms in
    let steps = fresh-steps vars k in
    let count : cost_of_count k (steps_of (fresh_range vars k)) ≤ cost_of_count k k = count-mono k (steps_of (fresh_range vars k)) k k (omega arith) (omega (arith, steps)) in
    let compare = comparison-cost rel True (fresh_range vars k) a k m (omega (arith, steps)) h in
    omega (arith, count, compare)

pub count-size : (vars : ℕ) (rel : Relation) (atoms : List Atom) (a : OrdInt) (m : ℕ) → steps_of a ≤ m
    → size_of_made (count_made vars rel atoms a) ≤ vars + weight_of_count rel (length atoms) m
count-size vars relation.Leq atoms a m h = fresh-count-size vars relation.Leq atoms a m h
count-size vars relation.Geq atoms a m h = fresh-count-size vars relation.Geq atoms a m h
count-size vars relation.Eq atoms a m h =
    let count = count-mono (length atoms) (steps_of a) (length atoms) m (omega arith) h in
    omega (arith, count)
count-size vars relation.Lt atoms a m h = fresh-count-size vars relation.Lt atoms a m h
count-size vars relation.Gt atoms a m h = fresh-count-size vars relation.Gt atoms a m h
count-size vars relation.Neq atoms a m h = fresh-count-size vars relation.Neq atoms a m h

fresh-count-count : (vars : ℕ) (rel : Relation) (atoms : List Atom) (a : OrdInt)
    → length (compared_count vars rel atoms a).cores ≤ 1 + costs_of (compared_count vars rel atoms a).cores
fresh-count-count vars rel atoms a = omega (arith, comparison-some rel True (fresh_range vars (length atoms)) a)

pub count-count : (vars : ℕ) (rel : Relation) (atoms : List Atom) (a : OrdInt)
    → length (count_made vars rel atoms a).cores ≤ 1 + costs_of (count_made vars rel atoms a).cores
count-count vars relation.Leq atoms a = fresh-count-count vars relation.Leq atoms a
count-count vars relation.Geq atoms a = fresh-count-count vars relation.Geq atoms a
count-count vars relation.Eq atoms a = omega arith
count-count vars relation.Lt atoms a = fresh-count-count vars relation.Lt atoms a
count-count vars relation.Gt atoms a = fresh-count-count vars relation.Gt atoms a
count-count vars relation.Neq atoms a = fresh-count-count vars relation.Neq atoms a
