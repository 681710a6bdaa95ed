-- What solving gives, over what is to be solved alone: no model is known here.
use Rattle.std.specs.Prelude.{◌≡◌, ◌⊎◌, ℕ, ◌+◌, ◌*◌, ◌<◌, ◌≤◌, ◌^◌, ◌++◌, Bool}
use Rattle.std.specs.Prelude.{List, length, ℤ, Option, Some, None, Ok}
use Rattle.std.specs.Option.{option_map}
use Rattle.order_ints.specs.declared.atom.Atom.{Atom}
use Rattle.order_ints.specs.declared.atom.Atom.TheVariants as atom
use Rattle.order_ints.specs.declared.cnf.Cnf.{Cnf}
use Rattle.order_ints.specs.declared.order_int.OrdInt.{OrdInt}
use Rattle.order_ints.specs.declared.order_int.MapValue.{MapValue}
use Rattle.order_ints.specs.Numbers.{numbers_of}
use Rattle.order_ints.specs.OrderLevels.{values_of}
use Rattle.order_ints.specs.OrderValue.{value_of, IsOrdered}
use Rattle.order_ints.specs.OrderedClauses.{ClausesAscend}
use Rattle.order_ints.specs.Place.{AtomsBelow, InRange}
use Rattle.order_ints.specs.Satisfies.{Satisfies}
use Rattle.order_ints.specs.Truth.{Valuation, valuation_of}
use Rattle.order_ints.specs.View.{resolve}
use Rattle.statement_lower.specs.Entries.{AreOrdered}
use Rattle.state_compile.specs.StandsFor.{read_by}
use Rattle.model_decode.specs.Short.{AreShort}
use Rattle.model_meaning.specs.declared.model.Goal.{Goal}
use Rattle.model_meaning.specs.declared.model.Goal.TheVariants.{Satisfy, Minimize, Maximize}
use Rattle.proof_check.specs.declared.line.ProofLine.{ProofLine}
use Rattle.proof_check.specs.Lrat.{proof_of, take_lines}
use Rattle.learning_solver.specs.Log.{additions, proof_behind, IsFreshLog}
use Rattle.learning_solver.specs.Outcome.{most_learned}
use Rattle.answer_document.specs.declared.verdict.Bounds.{Bounds}
use Rattle.answer_document.specs.declared.verdict.Verdict.{Verdict}
use Rattle.answer_document.specs.declared.verdict.Verdict.TheVariants.{Satisfiable, Unsatisfiable, Optimum, Unknown}
use Rattle.answer_document.specs.BoundAtoms.{integer_named}
use Rattle.answer_document.specs.Valid.{IsShown, AreReadableLines, atom_clauses, numbers_given}
use Rattle.decode_minimize.specs.declared.objective.Direction.{Direction}
use Rattle.decode_minimize.specs.declared.objective.Direction.TheVariants.{Least, Greatest}
use Rattle.search_options.specs.declared.options.SearchOptions.{SearchOptions}
use Rattle.decode_minimize.specs.declared.asking.Ended.{Ended}
use Rattle.decode_minimize.specs.declared.asking.Ended.TheVariants.{Shown, Spent}
use Rattle.decode_minimize.specs.declared.improving.Sought.{Sought}
use Rattle.decode_minimize.specs.declared.solved.Names.{Names}
use Rattle.decode_minimize.specs.declared.solved.Progress.{Progress}
use Rattle.decode_minimize.specs.declared.solved.First.{First}
use Rattle.decode_minimize.specs.declared.solved.First.TheVariants.{Refuted, GivenUp, Found}
use Rattle.decode_minimize.specs.declared.solved.Solved.{Solved}
use Rattle.decode_minimize.specs.Objectives.{better_left, bound_of, no_worse_of, IsObjective}
use Rattle.decode_minimize.specs.Rounds.{AreSatisfying}

-- what is to be solved: clauses, what the names stand for, and the view by which it is read
pub record Problem : Type 0 where
  pub entries : List MapValue
  pub view : List Atom
  pub cnf : Cnf

abbrev pub problem_of : Names → Cnf → Problem
problem_of names cnf = record { entries = names.map.now.entries; view = names.view.now; cnf = cnf }

-- clauses that a solver takes
pub record IsSolvable (cnf : Cnf) : Type 0 where
  pub vars : cnf.vars ≤ 2 ^ 27
  pub in_range : InRange cnf
  pub ascend : ClausesAscend cnf.clauses

pub record IsProblem (p : Problem) : Type 0 where
  pub solvable : IsSolvable p.cnf
  pub vars : p.cnf.vars ≡ length p.view
  pub labels : AtomsBelow (length p.view + 1) p.view
  pub objectives : (place : ℕ) → IsObjective (length p.view + 1) (integer_named p.entries place)
  pub short : AreShort p.entries
  pub ordered : (σ : Valuation) → Satisfies σ p.cnf → AreOrdered (read_by p.view σ) p.entries

-- what is sought is an integer over the variables, ordered as the view reads a valuation that satisfies the clauses
pub record IsSeekable (cnf : Cnf) (sought : Sought) : Type 0 where
  pub vars : cnf.vars ≡ length sought.view.now
  pub labels : AtomsBelow (length sought.view.now + 1) sought.view.now
  pub objective : IsObjective (length sought.view.now + 1) sought.integer.now
  pub ordered : (σ : Valuation) → Satisfies σ cnf → IsOrdered (read_by sought.view.now σ) sought.integer.now

-- a derivation from a CNF: its lines are accepted, and fresh, and can be read back from their text
pub record IsDerivation (cnf : Cnf) (lines : List ProofLine) : Type 0 where
  pub accepted : take_lines (proof_of cnf) lines ≡ Ok (proof_behind cnf lines)
  pub fresh : IsFreshLog cnf lines
  pub readable : AreReadableLines lines

-- how many values an integer has
abbrev pub values_count : OrdInt → ℕ
values_count a = length (values_of a)

-- The rounds of an objective, from a solution on. The solution that is kept has the value of the last one that was
-- found, and each that a round finds is better than all before it.
pub record IsProgress (cnf : Cnf) (sought : Sought) (options : SearchOptions) (r : Progress) : Type 0 where
  pub derivation : IsDerivation cnf r.proof.lines
  pub values : AreSatisfying cnf r.best.values
  pub kept : r.proof.incumbent ≡ Some r.best.number
  pub number : r.best.number ≡ value_of (read_by sought.view.now (valuation_of r.best.values)) sought.integer.now
  pub within : additions r.proof.lines ≤ options.budget
  pub most : additions r.proof.lines ≤ values_count sought.integer.now * most_learned options.restart cnf.vars
  pub shown : r.ended ≡ Shown
      → IsShown (proof_behind cnf r.proof.lines)
      (resolve sought.view.now (bound_of sought.direction sought.integer.now r.best.number))
  pub spent : r.ended ≡ Spent → (additions r.proof.lines ≡ options.budget)
      × (additions r.proof.lines < values_count sought.integer.now * most_learned options.restart cnf.vars)
  pub paid : r.ended ≡ Spent
      → additions r.proof.lines + better_left sought.direction sought.integer.now r.best.number
      * most_learned options.restart cnf.vars < (values_count sought.integer.now + 1)
      * most_learned options.restart cnf.vars
  pub unshown : r.ended ≡ Spent
      → IsShown (proof_behind cnf r.proof.lines)
      (resolve sought.view.now (bound_of sought.direction sought.integer.now r.best.number)) → ⊥

-- and before any is known
pub record IsRefuted (cnf : Cnf) (options : SearchOptions) (proof : List ProofLine) : Type 0 where
  pub derivation : IsDerivation cnf proof
  pub within : additions proof ≤ options.budget
  pub most : additions proof ≤ most_learned options.restart cnf.vars
  pub shown : IsShown (proof_behind cnf proof) atom.False

pub record IsGivenUp (cnf : Cnf) (options : SearchOptions) (proof : List ProofLine) : Type 0 where
  pub derivation : IsDerivation cnf proof
  pub spent : additions proof ≡ options.budget
  pub early : additions proof < most_learned options.restart cnf.vars
  pub unshown : IsShown (proof_behind cnf proof) atom.False → ⊥

abbrev pub IsFirst : Cnf → Sought → SearchOptions → First → Type 0
IsFirst cnf sought options (Refuted proof) = IsRefuted cnf options proof
IsFirst cnf sought options (GivenUp proof) = IsGivenUp cnf options proof
IsFirst cnf sought options (Found r) = IsProgress cnf sought options r

-- an assignment is what the names have under truth values that satisfy the clauses
pub record IsReadFrom (p : Problem) (s : Solved) (values : List Bool) : Type 0 where
  pub satisfying : AreSatisfying p.cnf values
  pub numbers : numbers_given s.assignment ≡ Some (numbers_of (read_by p.view (valuation_of values)) p.entries)

-- the value of an integer under them
abbrev pub value_under : Problem → List Bool → OrdInt → ℤ
value_under p values a = value_of (read_by p.view (valuation_of values)) a

-- the values of the objectives, of which there may be a second one
pub record HasBounds (p : Problem) (values : List Bool) (a : OrdInt) (other : Option OrdInt) (b : Bounds) : Type 0 where
  pub first : b.first ≡ value_under p values a
  pub second : b.second ≡ option_map (value_under p values) other

-- the first objective is shown to be no better than its number
abbrev pub IsFirstShown : Problem → Direction → OrdInt → Solved → Bounds → Type 0
IsFirstShown p d a s b = IsShown (proof_behind p.cnf s.proof) (resolve p.view (bound_of d a b.first))

-- the clauses, and that it is no worse
abbrev pub fixed_cnf : Problem → Direction → OrdInt → ℤ → Cnf
fixed_cnf p d a m = record {
  vars = p.cnf.vars;
  clauses = p.cnf.clauses ++ atom_clauses (resolve p.view (no_worse_of d a m));
}

-- a second derivation is one from these
pub record HasSecond (p : Problem) (d : Direction) (a : OrdInt) (s : Solved) (b : Bounds) (lines : List ProofLine)
    : Type 0 where
  pub is : s.second ≡ Some lines
  pub first : IsFirstShown p d a s b
  pub derivation : IsDerivation (fixed_cnf p d a b.first) lines

-- no solution has better values
abbrev pub IsOptimal : Problem → Direction → OrdInt → Option OrdInt → Solved → Bounds → Type 0
IsOptimal p d a None s b = (s.second ≡ None) × IsFirstShown p d a s b
IsOptimal p d a (Some other) s b = (lines : List ProofLine) × HasSecond p d a s b lines
    × ((n : ℤ) → b.second ≡ Some n
    → IsShown (proof_behind (fixed_cnf p d a b.first) lines) (resolve p.view (bound_of d other n)))

-- The budget is spent on the first objective, or on both. What was derived does not show that no solution is better;
-- and each search but the last is paid for by a value that is no better than the one that is given.
pub record IsSpentFirst (p : Problem) (options : SearchOptions) (d : Direction) (a : OrdInt) (s : Solved) (b : Bounds)
    : Type 0 where
  pub alone : s.second ≡ None
  pub spent : additions s.proof ≡ options.budget
  pub early : options.budget < values_count a * most_learned options.restart p.cnf.vars
  pub paid : options.budget + better_left d a b.first * most_learned options.restart p.cnf.vars
      < (values_count a + 1) * most_learned options.restart p.cnf.vars
  pub unshown : IsFirstShown p d a s b → ⊥

pub record IsSpentSecond (p : Problem) (options : SearchOptions) (d : Direction) (a : OrdInt) (second : Option OrdInt)
    (s : Solved) (b : Bounds) : Type 0 where
  pub other : OrdInt
  pub is : second ≡ Some other
  pub lines : List ProofLine
  pub has : HasSecond p d a s b lines
  pub spent : additions s.proof + additions lines ≡ options.budget
  pub early : options.budget < (values_count a + values_count other) * most_learned options.restart p.cnf.vars
  pub number : ℤ
  pub number_is : b.second ≡ Some number
  pub paid : options.budget + better_left d other number * most_learned options.restart p.cnf.vars
      < (values_count a + values_count other + 1) * most_learned options.restart p.cnf.vars
  pub unshown : IsShown (proof_behind (fixed_cnf p d a b.first) lines) (resolve p.view (bound_of d other number))
      → ⊥

-- there is no assignment, and no second derivation
abbrev pub IsBare : Solved → Type 0
IsBare s = (numbers_given s.assignment ≡ None) × (s.second ≡ None)

-- any solution serves
abbrev pub IsSolvedAny : Problem → SearchOptions → Solved → Verdict → Type 0
IsSolvedAny p options s Satisfiable = (values : List Bool) × IsReadFrom p s values × (s.second ≡ None)
IsSolvedAny p options s Unsatisfiable = IsBare s × IsShown (proof_behind p.cnf s.proof) atom.False
IsSolvedAny p options s (Optimum b) = ⊥
IsSolvedAny p options s (Unknown n None) = IsBare s × (n ≡ options.budget) × IsGivenUp p.cnf options s.proof
IsSolvedAny p options s (Unknown n (Some b)) = ⊥

-- a best one is sought
abbrev pub IsSolvedBest : Problem → SearchOptions → Direction → OrdInt → Option OrdInt → Solved → Verdict
    → Type 0
IsSolvedBest p options d a second s Satisfiable = ⊥
IsSolvedBest p options d a second s Unsatisfiable = IsBare s × IsShown (proof_behind p.cnf s.proof) atom.False
IsSolvedBest p options d a second s (Optimum b) =
    (values : List Bool) × IsReadFrom p s values × HasBounds p values a second b × IsOptimal p d a second s b
IsSolvedBest p options d a second s (Unknown n None) = IsBare s × (n ≡ options.budget)
    × IsGivenUp p.cnf options s.proof
IsSolvedBest p options d a second s (Unknown n (Some b)) =
    (values : List Bool) × IsReadFrom p s values × HasBounds p values a second b × (n ≡ options.budget)
    × (IsSpentFirst p options d a s b ⊎ IsSpentSecond p options d a second s b)

-- how many clauses a second derivation adds
abbrev pub second_added : Option (List ProofLine) → ℕ
second_added None = 0
second_added (Some lines) = additions lines

-- what holds of the derivations, of so many rounds at most, and what the verdict says
pub record IsSolved (p : Problem) (options : SearchOptions) (s : Solved) (rounds : ℕ) (claims : Verdict → Type 0)
    : Type 0 where
  pub derivation : IsDerivation p.cnf s.proof
  pub within : additions s.proof + second_added s.second ≤ options.budget
  pub most : additions s.proof + second_added s.second ≤ rounds * most_learned options.restart p.cnf.vars
  pub says : claims s.verdict

-- how many values a second integer has, where there is one
abbrev pub values_in : Option OrdInt → ℕ
values_in None = 0
values_in (Some a) = values_count a

-- any solution serves; or a best one is sought, of one objective or two
abbrev pub IsAnySolved : Problem → SearchOptions → Solved → Type 0
IsAnySolved p options s = IsSolved p options s 1 (IsSolvedAny p options s)

abbrev pub IsBestSolved : Problem → SearchOptions → Direction → OrdInt → Option OrdInt → Solved → Type 0
IsBestSolved p options d a second s =
    IsSolved p options s (values_count a + values_in second) (IsSolvedBest p options d a second s)

-- the integer of a second objective, where there is one
abbrev pub second_named : List MapValue → Option ℕ → Option OrdInt
second_named entries second = option_map (integer_named entries) second

abbrev pub IsSolvedFor : Problem → SearchOptions → Goal → Solved → Type 0
IsSolvedFor p options Satisfy s = IsAnySolved p options s
IsSolvedFor p options (Minimize place second) s =
    IsBestSolved p options Least (integer_named p.entries place) (second_named p.entries second) s
IsSolvedFor p options (Maximize place second) s =
    IsBestSolved p options Greatest (integer_named p.entries place) (second_named p.entries second) s

-- what is made of truth values, a verdict and derivations
pub record IsMadeOf (names : Names) (values : List Bool) (v : Verdict) (lines : List ProofLine)
    (behind : Option (List ProofLine)) (s : Solved) : Type 0 where
  pub verdict : s.verdict ≡ v
  pub numbers : numbers_given s.assignment ≡ Some
      (numbers_of (read_by names.view.now (valuation_of values)) names.map.now.entries)
  pub proof : s.proof ≡ lines
  pub second : s.second ≡ behind

-- the verdict on a solution that is known
abbrev pub verdict_on : Ended → Bounds → SearchOptions → Verdict
verdict_on Shown b options = Optimum b
verdict_on Spent b options = Unknown options.budget (Some b)
