-- What a round of solving gives.
use Rattle.std.specs.Prelude.{◌≡◌, ℕ, Bool, false, List, length}
use Rattle.order_ints.specs.declared.atom.Atom.{Atom}
use Rattle.order_ints.specs.declared.cnf.Cnf.{Cnf}
use Rattle.order_ints.specs.declared.literal.Lit.{Lit}
use Rattle.order_ints.specs.Truth.{valuation_of, atom_truth}
use Rattle.order_ints.specs.Satisfies.{Satisfies}
use Rattle.std.specs.Prelude.{Option}
use Rattle.learning_solver.specs.Log.{proof_behind}
use Rattle.learning_solver.specs.Outcome.{Logged, IsSolution, IsRefutation, NoneRefutes}
use Rattle.answer_document.specs.Valid.{IsShown}
use Rattle.decode_minimize.specs.declared.asking.Ended.TheVariants.{Shown, Spent}
use Rattle.decode_minimize.specs.declared.asking.Round.{Round}
use Rattle.decode_minimize.specs.declared.asking.Round.TheVariants.{Better, Last}

-- truth values of all variables satisfy a CNF
pub record AreSatisfying (cnf : Cnf) (values : List Bool) : Type 0 where
  pub count : length values ≡ cnf.vars
  pub satisfies : Satisfies (valuation_of values) cnf

-- what an assumption was asked for
abbrev pub IsAsked : Logged → Option Lit → Round → Type 0
IsAsked s asked (Better values) = IsSolution s.cnf asked values
IsAsked s asked (Last Shown) = (id : ℕ) × IsRefutation s.cnf s.log asked id
IsAsked s asked (Last Spent) = NoneRefutes s.cnf s.log asked

-- A bound is broken by truth values that satisfy the CNF; or it is shown by the log; or it is not, which one that is
-- True always is.
abbrev pub IsRound : Logged → Atom → Round → Type 0
IsRound s bound (Better values) = AreSatisfying s.cnf values × (atom_truth (valuation_of values) bound ≡ false)
IsRound s bound (Last Shown) = IsShown (proof_behind s.cnf s.log) bound
IsRound s bound (Last Spent) = IsShown (proof_behind s.cnf s.log) bound → ⊥
