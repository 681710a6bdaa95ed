-- The objective under truth values, and that it is better than a number.
use Rattle.std.specs.Prelude.{Bool, true, false, List, ◌++◌, ℤ, pos}
use Rattle.order_ints.specs.declared.atom.Atom.{Atom}
use Rattle.order_ints.specs.declared.cnf.Cnf.{Cnf}
use Rattle.order_ints.specs.declared.order_int.MapValue.{MapValue}
use Rattle.order_ints.specs.OrderValue.{value_of}
use Rattle.order_ints.specs.Truth.{valuation_of, not_atom}
use Rattle.model_meaning.specs.declared.model.Goal.{Goal}
use Rattle.model_meaning.specs.declared.model.Goal.TheVariants.{Satisfy, Minimize, Maximize}
use Rattle.answer_document.specs.BoundAtoms.{integer_named, first_bound}
use Rattle.answer_document.specs.Valid.{atom_clauses}

-- the value of the objective under truth values
abbrev pub value_at : Goal → List MapValue → List Bool → ℤ
value_at Satisfy entries values = pos 0
value_at (Minimize place second) entries values = value_of (valuation_of values) (integer_named entries place)
value_at (Maximize place second) entries values = value_of (valuation_of values) (integer_named entries place)

-- the atom that says that the objective is better than a number: the negation of the bound that it is no better
abbrev pub better_than : Goal → List MapValue → ℤ → Atom
better_than goal entries m = not_atom (first_bound goal entries m)

-- a CNF, and at its end the clause of an atom
abbrev pub with_atom : Cnf → Atom → Cnf
with_atom cnf a = record { vars = cnf.vars; clauses = cnf.clauses ++ atom_clauses a }
