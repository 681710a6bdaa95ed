-- The cores of operators cost what their statements weigh, and number at most one more than they cost.
use Rattle.std.proofs.Common.{◌≡◌, ℕ, ◌+◌, ◌*◌, ◌≤◌, List, [], ◌∷◌, ◌++◌, length, map, refl, arith, length-append}
use Rattle.std.proofs.lemmas.List.{length-map}
use Rattle.order_ints.specs.declared.atom.Atom.{Atom}
use Rattle.order_ints.specs.Truth.{not_atom}
use Rattle.core_cost.specs.ListForms.{cost_of_parity}
use Rattle.core_forms.specs.declared.form.Core.{Core}
use Rattle.core_forms.specs.Cost.{cost_of}
use Rattle.core_forms.specs.Cores.{costs_of}
use Rattle.model_meaning.specs.declared.statement.Operator.{Operator}
use Rattle.model_meaning.specs.declared.statement.Operator.TheVariants as operator
use Rattle.statement_lower.specs.Lines.{made_here, equal_core, array_cores, operator_made}
use Rattle.model_weight.specs.Statements.{weight_of_array, weight_of_reified_array}
use Rattle.weight_laws.specs.Size.{size_of_made}

-- One core.

pub one-core : (vars : ℕ) (core : Core) (w : ℕ) → cost_of core ≤ w → size_of_made (made_here vars (core ∷ [])) ≤ vars + w
one-core vars core w h = omega (arith, h)

-- Equal neighbours.

pub equal-costs : (x : Atom) (atoms : List Atom) → costs_of (map (equal_core x) atoms) ≡ length atoms * cost_of_parity 2
equal-costs x [] = refl
equal-costs x (y ∷ atoms) = omega (arith, equal-costs x atoms)

equal-count : (x : Atom) (atoms : List Atom) → length (map (equal_core x) atoms) ≤ costs_of (map (equal_core x) atoms)
equal-count x [] = omega arith
equal-count x (y ∷ atoms) = omega (arith, equal-count x atoms)

-- An operator of a list is true.

pub array-costs : (op : Operator) (atoms : List Atom) → costs_of (array_cores op atoms) ≤ weight_of_array op (length atoms)
array-costs operator.Or atoms = omega arith
array-costs operator.And atoms = omega arith
array-costs operator.Xor atoms = omega arith
array-costs operator.Iff [] = omega arith
array-costs operator.Iff (x ∷ atoms) = omega (arith, equal-costs x atoms)

pub array-count : (op : Operator) (atoms : List Atom) → length (array_cores op atoms) ≤ 1 + costs_of (array_cores op atoms)
array-count operator.Or atoms = omega arith
array-count operator.And atoms = omega arith
array-count operator.Xor atoms = omega arith
array-count operator.Iff [] = omega arith
array-count operator.Iff (x ∷ atoms) = omega (arith, equal-count x atoms)

-- An atom is the truth of an operator of a list.

pub operator-size : (vars : ℕ) (op : Operator) (atoms : List Atom) (z : Atom) → size_of_made (operator_made vars op atoms z) ≤ vars + weight_of_reified_array op (length atoms)
operator-size vars operator.Or atoms z = omega (arith, length-map atoms not_atom)
operator-size vars operator.And atoms z = omega arith
operator-size vars operator.Xor atoms z =
    let e = length-append atoms (z ∷ []) in
    let same : cost_of_parity (length (atoms ++ z ∷ [])) ≡ cost_of_parity (length atoms + 1) = rw e refl in
    omega (arith, same)
operator-size vars operator.Iff atoms z = omega (arith, length-map atoms not_atom)

pub operator-count : (vars : ℕ) (op : Operator) (atoms : List Atom) (z : Atom)
    → length (operator_made vars op atoms z).cores ≤ 1 + costs_of (operator_made vars op atoms z).cores
operator-count vars operator.Or atoms z = omega arith
operator-count vars operator.And atoms z = omega arith
operator-count vars operator.Xor atoms z = omega arith
operator-count vars operator.Iff atoms z = omega arith
