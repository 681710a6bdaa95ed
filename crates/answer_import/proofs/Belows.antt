-- An atom that says that an objective is better is over the variables of its integer.
use Rattle.std.proofs.Common.{◌≡◌, ℕ, List, ℤ, sym, subst}
use Rattle.order_ints.specs.declared.atom.Atom.{Atom}
use Rattle.order_ints.specs.declared.order_int.MapValue.{MapValue}
use Rattle.order_ints.specs.OrderRange.{IntBelow}
use Rattle.order_ints.specs.Place.{AtomBelow}
use Rattle.model_meaning.specs.declared.model.Goal.{Goal}
use Rattle.answer_document.specs.BoundAtoms.{integer_named}
use Rattle.objective_bound.specs.Bounds.{better_than}
use Rattle.objective_bound.proofs.Objectives.{better-below}

pub better-is : (n : ℕ) (goal : Goal) (entries : List MapValue) (m : ℤ) (x : Atom) → ((place : ℕ) → IntBelow n (integer_named entries place)) → x ≡ better_than goal entries m → AtomBelow n x
better-is n goal entries m x h e = subst (AtomBelow n) (sym e) (better-below n goal entries m h)
