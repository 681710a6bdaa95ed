-- The rounds of one objective.
use Rattle.std.specs.Prelude.{◌≡◌, ◌+◌, ◌*◌, ◌<◌, ◌≤◌, ℕ, Option, None, Some, length}
use Rattle.order_ints.specs.Place.{AtomsBelow}
use Rattle.order_ints.specs.OrderValue.{value_of, IsOrdered}
use Rattle.order_ints.specs.Truth.{Valuation, valuation_of}
use Rattle.order_ints.specs.Satisfies.{Satisfies}
use Rattle.order_ints.specs.View.{resolve}
use Rattle.state_compile.specs.StandsFor.{read_by}
use Rattle.learning_solver.specs.Log.{additions, proof_behind}
use Rattle.learning_solver.specs.Outcome.{Logged, most_learned}
use Rattle.answer_document.specs.Valid.{IsShown}
use Rattle.search_options.specs.declared.options.SearchOptions.{SearchOptions}
use Rattle.decode_minimize.specs.declared.asking.Ended.{Ended}
use Rattle.decode_minimize.specs.declared.asking.Ended.TheVariants.{Shown, Spent}
use Rattle.decode_minimize.specs.declared.improving.Sought.{Sought}
use Rattle.decode_minimize.specs.declared.improving.Best.{Best}
use Rattle.decode_minimize.specs.Objectives.{better_left, bound_of, IsObjective}
use Rattle.decode_minimize.specs.Rounds.{AreSatisfying}

-- what a solver seeks is an integer over its variables, ordered as a view reads a valuation that satisfies its CNF; and
-- the best solution so far is one
pub record IsSeeking (s : Logged) (sought : Sought) (best : Best) : Type 0 where
  pub vars : s.cnf.vars ≡ length sought.view.now
  pub labels : AtomsBelow (length sought.view.now + 1) sought.view.now
  pub objective : IsObjective (length sought.view.now + 1) sought.integer.now
  pub ordered : (σ : Valuation) → Satisfies σ s.cnf → IsOrdered (read_by sought.view.now σ) sought.integer.now
  pub values : AreSatisfying s.cnf best.values
  pub number : best.number ≡ value_of (read_by sought.view.now (valuation_of best.values)) sought.integer.now

-- how many values are better than the best one so far
abbrev pub left : Sought → Best → ℕ
left sought best = better_left sought.direction sought.integer.now best.number

-- the log shows that no value is better
abbrev pub IsBestShown : Logged → Sought → Best → Type 0
IsBestShown s sought best =
    IsShown (proof_behind s.cnf s.log)
    (resolve sought.view.now (bound_of sought.direction sought.integer.now best.number))

-- What a round costs is at most a search for each value that it leaves out. Where the budget was spent, so many clauses
-- are fewer, a value was left, and the log shows nothing of it.
abbrev pub IsTurned : Logged → Logged → Sought → SearchOptions → Best → Best → Option Ended → Type 0
IsTurned old new sought options was is None =
    (left sought is < left sought was)
    × (additions new.log + left sought is * most_learned options.restart old.cnf.vars
    ≤ additions old.log + left sought was * most_learned options.restart old.cnf.vars)
IsTurned old new sought options was is (Some Shown) =
    IsBestShown new sought is
    × (additions new.log ≤ additions old.log + left sought was * most_learned options.restart old.cnf.vars)
    × (is ≡ was)
IsTurned old new sought options was is (Some Spent) =
    (additions new.log ≡ options.budget) × (1 ≤ left sought was)
    × (additions new.log < additions old.log + most_learned options.restart old.cnf.vars)
    × (IsBestShown new sought is → ⊥) × (is ≡ was)

-- Rounds to their end. No more values are better than the solution that is kept than were better than the first one;
-- and each search but the last is paid for by a value that is left out, so what a round found is not given up again.
pub record IsImproved (old new : Logged) (sought : Sought) (options : SearchOptions) (was is : Best) (ended : Ended)
    : Type 0 where
  pub best : ended ≡ Shown → IsBestShown new sought is
  pub most : additions new.log ≤ additions old.log + left sought was * most_learned options.restart old.cnf.vars
  pub spent : ended ≡ Spent → (additions new.log ≡ options.budget)
      × (additions new.log < additions old.log + left sought was * most_learned options.restart old.cnf.vars)
  pub no_worse : left sought is ≤ left sought was
  pub paid : ended ≡ Spent → additions new.log + left sought is * most_learned options.restart old.cnf.vars
      < additions old.log + left sought was * most_learned options.restart old.cnf.vars
      + most_learned options.restart old.cnf.vars
  pub unshown : ended ≡ Spent → IsBestShown new sought is → ⊥
