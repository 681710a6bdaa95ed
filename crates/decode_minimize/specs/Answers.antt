-- What an answer to a model is, beside being valid: where its parts come from, and what it may have cost.
use Rattle.std.specs.Prelude.{◌≡◌, ◌↔◌, ℕ, ◌+◌, ◌*◌, ◌≤◌, ◌<◌, ◌^◌, List, length}
use Rattle.std.specs.Prelude.{ℤ, slice_get, Option, Some, None, IfSome}
use Rattle.order_ints.specs.declared.atom.Atom.TheVariants.{False}
use Rattle.order_ints.specs.declared.order_int.MapValue.{MapValue}
use Rattle.order_ints.specs.declared.order_int.OrdInt.{OrdInt}
use Rattle.order_ints.specs.Truth.{Valuation}
use Rattle.order_ints.specs.Satisfies.{Satisfies}
use Rattle.core_forms.specs.declared.equation.Equation.{Equation}
use Rattle.core_forms.specs.declared.form.Core.{Core}
use Rattle.model_meaning.specs.declared.model.Decl.{Decl}
use Rattle.model_meaning.specs.declared.model.Goal.{Goal}
use Rattle.model_meaning.specs.declared.model.Goal.TheVariants.{Satisfy, Minimize, Maximize}
use Rattle.model_meaning.specs.declared.model.Model.{Model}
use Rattle.model_meaning.specs.declared.model.Assignment.{Assignment}
use Rattle.model_meaning.specs.Domains.{domain}
use Rattle.model_meaning.specs.Solutions.{IsSolution}
use Rattle.model_lower.specs.Lowering.{lowered_of}
use Rattle.step_kernel.specs.Kernel.{Kernel}
use Rattle.step_kernel.specs.CnfOf.{cnf_of}
use Rattle.asking_bound.specs.Questions.{most_questions}
use Rattle.state_compile.specs.Compilation.{IsCompilation}
use Rattle.model_decode.specs.Decoding.{numbers_at}
use Rattle.proof_check.specs.declared.line.ProofLine.{ProofLine}
use Rattle.learning_solver.specs.Log.{additions, proof_behind, IsFreshLog}
use Rattle.learning_solver.specs.Outcome.{most_learned}
use Rattle.answer_document.specs.declared.verdict.Bounds.{Bounds}
use Rattle.answer_document.specs.declared.verdict.Verdict.{Verdict}
use Rattle.answer_document.specs.declared.verdict.Verdict.TheVariants.{Satisfiable, Unsatisfiable, Optimum, Unknown}
use Rattle.answer_document.specs.declared.document.Document.{Document}
use Rattle.answer_document.specs.BoundAtoms.{integer_named}
use Rattle.answer_document.specs.DocumentText.{document_text}
use Rattle.answer_document.specs.Valid.{start_of, IsShown, first_shown, second_shown, second_cnf, numbers_given, stated}
use Rattle.answer_document.specs.Valid.{IsValid}
use Rattle.decode_minimize.specs.declared.objective.Direction.{Direction}
use Rattle.decode_minimize.specs.declared.objective.Direction.TheVariants.{Least, Greatest}
use Rattle.search_options.specs.declared.options.SearchOptions.{SearchOptions}
use Rattle.decode_minimize.specs.Objectives.{better_left}
use Rattle.decode_minimize.specs.Solved.{values_count, second_added}

-- the budget is one that a document can state
abbrev pub IsBudget : ℕ → Type 0
IsBudget budget = (1 ≤ budget) × (budget < 2 ^ 63)

-- how many values the name at a place may have
abbrev pub values_of_decl : Option Decl → ℕ
values_of_decl None = 0
values_of_decl (Some d) = length (domain d.kind)

abbrev pub values_at : List Decl → ℕ → ℕ
values_at decls place = values_of_decl (slice_get decls place)

abbrev pub second_values : List Decl → Option ℕ → ℕ
second_values decls None = 0
second_values decls (Some place) = values_at decls place

-- The most rounds that a goal takes, each one search: one where any solution serves, and else one for each value of an
-- objective's domain.
abbrev pub most_rounds : List Decl → Goal → ℕ
most_rounds decls Satisfy = 1
most_rounds decls (Minimize place second) = values_at decls place + second_values decls second
most_rounds decls (Maximize place second) = values_at decls place + second_values decls second

-- how many clauses both derivations add together
abbrev pub all_additions : Document → ℕ
all_additions d = additions d.proof + second_added d.second

-- the search was not given up
abbrev pub IsDecided : Verdict → Type 0
IsDecided Satisfiable = Unit {0}
IsDecided Unsatisfiable = Unit {0}
IsDecided (Optimum b) = Unit {0}
IsDecided (Unknown n best) = ⊥

-- or it was, and the budget is its number, and so many clauses were added
abbrev pub IsSpent : ℕ → ℕ → Verdict → Type 0
IsSpent budget added Satisfiable = Unit {0}
IsSpent budget added Unsatisfiable = Unit {0}
IsSpent budget added (Optimum b) = Unit {0}
IsSpent budget added (Unknown n best) = (n ≡ budget) × (added ≡ budget)

-- a second derivation is fresh, too, over the CNF in which the first objective is no worse than its number
abbrev pub IsFreshSecond : Model → Kernel → Option Bounds → Option (List ProofLine) → Type 0
IsFreshSecond model last bounds None = Unit {0}
IsFreshSecond model last None (Some lines) = ⊥
IsFreshSecond model last (Some b) (Some lines) = IsFreshLog (second_cnf model last b.first) lines

-- the bound of the objective that was sought last is not shown: that of the second one, where there is a second
-- derivation
abbrev pub IsOpenBehind : Model → Kernel → List ProofLine → Bounds → Option (List ProofLine) → Option ℤ
    → Type 0
IsOpenBehind model last proof b None second =
    IsShown (proof_behind (cnf_of last) proof) (first_shown model last b.first) → ⊥
IsOpenBehind model last proof b (Some lines) None = ⊥
IsOpenBehind model last proof b (Some lines) (Some n) =
    IsShown (proof_behind (second_cnf model last b.first) lines) (second_shown model last n) → ⊥

-- Where the search was given up, what was derived shows neither that there is no solution, nor that the one that is
-- given is best.
abbrev pub IsOpen : Model → Kernel → Document → Verdict → Type 0
IsOpen model last d Satisfiable = Unit {0}
IsOpen model last d Unsatisfiable = Unit {0}
IsOpen model last d (Optimum b) = Unit {0}
IsOpen model last d (Unknown n None) = IsShown (proof_behind (cnf_of last) d.proof) False → ⊥
IsOpen model last d (Unknown n (Some b)) = IsOpenBehind model last d.proof b d.second b.second

-- How good the solution is that is given where the search was given up. Each search but the last left out a value, and
-- those that are still better than what is given were not left out: so with them, the budget is less than the most that
-- a search may need for each value of the objectives that were sought, and for one search more.
abbrev pub IsPaidFor : ℕ → ℕ → ℕ → Direction → OrdInt → ℤ → Type 0
IsPaidFor budget most values d a m = budget + better_left d a m * most < (values + 1) * most

-- how many values the integer at a place has
abbrev pub values_named : List MapValue → ℕ → ℕ
values_named entries place = values_count (integer_named entries place)

-- of the objective that was sought last: the second one, where there is a second derivation
abbrev pub IsPaidBehind : List MapValue → ℕ → ℕ → Direction → ℕ → Option ℕ → Bounds
    → Option (List ProofLine) → Type 0
IsPaidBehind entries budget most d place second b None =
    IsPaidFor budget most (values_named entries place) d (integer_named entries place) b.first
IsPaidBehind entries budget most d place None b (Some lines) = ⊥
IsPaidBehind entries budget most d place (Some other) b (Some lines) =
    (n : ℤ) → b.second ≡ Some n
    → IsPaidFor budget most (values_named entries place + values_named entries other) d (integer_named entries other)
    n

abbrev pub IsPaidTowards : List MapValue → ℕ → ℕ → Bounds → Option (List ProofLine) → Goal → Type 0
IsPaidTowards entries budget most b lines Satisfy = ⊥
IsPaidTowards entries budget most b lines (Minimize place second) =
    IsPaidBehind entries budget most Least place second b lines
IsPaidTowards entries budget most b lines (Maximize place second) =
    IsPaidBehind entries budget most Greatest place second b lines

abbrev pub IsPaid : List MapValue → ℕ → ℕ → Goal → Option (List ProofLine) → Verdict → Type 0
IsPaid entries budget most goal lines Satisfiable = Unit {0}
IsPaid entries budget most goal lines Unsatisfiable = Unit {0}
IsPaid entries budget most goal lines (Optimum b) = Unit {0}
IsPaid entries budget most goal lines (Unknown n None) = Unit {0}
IsPaid entries budget most goal lines (Unknown n (Some b)) = IsPaidTowards entries budget most b lines goal

-- An answer to a model, where a counter has risen from one number to another. Its ledger is that of a whole
-- compilation, whatever the verdict, and the last state's CNF stands for exactly the solutions.
pub record IsAnswer (told : Core → Equation → Type 0) (model : Model) (options : SearchOptions) (d : Document)
    (counter now : ℕ) : Type 0 where
  pub last : Kernel
  pub compilation : IsCompilation told (start_of model) d.ledger last
  pub solutions : (a : List ℤ) → IsSolution model a ↔
      ((σ : Valuation) × Satisfies σ (cnf_of last) × (a ≡ numbers_at model last σ))
  -- its text is a valid answer, with its verdict and its assignment
  pub valid : IsValid model (document_text model.decls model.goal d) d.verdict (numbers_given d.assignment)
  -- as the text of this very document, whose parts can be read back and whose certificate shows the verdict
  pub own : valid.document ≡ d
  pub count : IfSome d.assignment (λ (a : Assignment). length model.decls ≡ length a.values)
  -- each addition of a derivation is new among the clauses that live before it, and deletions name additions alone
  pub fresh : IsFreshLog (cnf_of last) d.proof
  pub second : IsFreshSecond model last (stated d.verdict) d.second
  -- no more clauses are added than the budget has, exactly as many where the search was given up, which it never is
  -- where the budget is as great as the most that the rounds may need
  pub within : all_additions d ≤ options.budget
  -- nor more than the rounds may need with these options, whatever the budget
  pub most : all_additions d ≤ most_learned options.restart (cnf_of last).vars * most_rounds model.decls model.goal
  pub spent : IsSpent options.budget (all_additions d) d.verdict
  pub enough : most_learned options.restart (cnf_of last).vars * most_rounds model.decls model.goal ≤ options.budget
      → IsDecided d.verdict
  pub unshown : IsOpen model last d d.verdict
  -- and a solution that is given then is as good as the searches were many
  pub paid : IsPaid (lowered_of model).map.entries options.budget (most_learned options.restart (cnf_of last).vars)
      model.goal d.second d.verdict
  -- the counter rose by three at most for each query that the compilation may have made
  pub asked : now ≤ counter + 3 * most_questions (start_of model) d.ledger last
