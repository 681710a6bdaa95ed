-- What is asked of a text, and what comes of it behind values.
use Rattle.std.specs.Prelude.{◌≡◌, ◌≢◌, ℕ, ◌+◌, ◌≤◌, ◌^◌, Bool, List, [], Some, None}
use Rattle.sat_front.specs.Closed.{closed}
use Rattle.order_ints.specs.declared.cnf.Cnf.{Cnf}
use Rattle.order_ints.specs.declared.order_int.MapValue.{MapValue}
use Rattle.order_ints.specs.Numbers.{numbers_of}
use Rattle.order_ints.specs.OrderedClauses.{ClausesAscend}
use Rattle.order_ints.specs.OrderRange.{IsBounded, IntBelow}
use Rattle.order_ints.specs.Place.{InRange}
use Rattle.order_ints.specs.Truth.{valuation_of}
use Rattle.model_meaning.specs.declared.model.Assignment.{Assignment}
use Rattle.model_meaning.specs.declared.model.Goal.{Goal}
use Rattle.model_decode.specs.Short.{AreShort}
use Rattle.proof_import.specs.Refutations.{IsRefutation, RefutationFails}
use Rattle.answer_document.specs.declared.verdict.Verdict.TheVariants.{Satisfiable, Unsatisfiable, Optimum}
use Rattle.answer_document.specs.BoundAtoms.{integer_named}
use Rattle.answer_document.specs.Valid.{numbers_given}
use Rattle.answer_import.specs.declared.judging.Found.{Found}
use Rattle.answer_import.specs.declared.judging.Found.TheVariants.{Shown, Refused}
use Rattle.answer_import.specs.declared.judging.Task.{Task}
use Rattle.objective_bound.specs.Bounds.{value_at}
use Rattle.answer_import.specs.Imports.{Sought, better_cnf, ShowsBehind, FailsBehind}

-- clauses that a solver takes, and names that stand for integers over their variables
pub record IsTask (cnf : Cnf) (entries : List MapValue) : Type 0 where
  pub few : cnf.vars ≤ 2 ^ 27
  pub in_range : InRange cnf
  pub ascend : ClausesAscend cnf.clauses
  pub bounded : (place : ℕ) → IsBounded (integer_named entries place)
  pub below : (place : ℕ) → IntBelow (cnf.vars + 1) (integer_named entries place)
  pub short : AreShort entries

abbrev pub sought_in : Task → Sought
sought_in t = record { cnf = t.cnf; entries = t.map.entries; goal = t.goal }

-- what stands behind values is found to be this, where a goal is sought
abbrev pub FoundFor : Sought → List Bool → List ℕ → ℕ → Goal → Found → Type 0
FoundFor s values rest lines goal (Shown v a proof) = ShowsBehind s values rest goal v
    × (numbers_given a ≡ Some (numbers_of (valuation_of values) s.entries))
FoundFor s values rest lines goal (Refused line) = (k : ℕ) × FailsBehind s values rest goal k × (line ≡ lines + k)

abbrev pub IsFoundBehind : Sought → List Bool → List ℕ → ℕ → Found → Type 0
IsFoundBehind s values rest lines found = FoundFor s values rest lines s.goal found

-- where the objective is better than under the values, with this assignment
abbrev pub IsFoundBest : Sought → List Bool → List ℕ → ℕ → Assignment → Found → Type 0
IsFoundBest s values rest lines given (Shown v a proof) = IsRefutation (better_cnf s values) rest
    × (v ≡ Optimum (record { first = value_at s.goal s.entries values; second = None })) × (a ≡ Some given)
IsFoundBest s values rest lines given (Refused line) = (k : ℕ) × RefutationFails (better_cnf s values) rest k
    × (line ≡ lines + k)

-- where any solution is sought
abbrev pub IsFoundAlone : List ℕ → ℕ → Assignment → Found → Type 0
IsFoundAlone rest lines given (Shown v a proof) = (closed rest ≡ []) × (v ≡ Satisfiable) × (a ≡ Some given)
IsFoundAlone rest lines given (Refused line) = (closed rest ≢ []) × (line ≡ lines + 1)

-- where no values are told
abbrev pub IsFoundRefuted : Cnf → List ℕ → Found → Type 0
IsFoundRefuted cnf text (Shown v a proof) = IsRefutation cnf text × (v ≡ Unsatisfiable) × (a ≡ None)
IsFoundRefuted cnf text (Refused line) = RefutationFails cnf text line
