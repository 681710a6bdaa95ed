-- Answers to models that are lowered.
use Rattle.std.specs.Prelude.{◌≡◌, ℕ, ◌+◌, ◌≤◌, List, length}
use Rattle.order_ints.specs.declared.cnf.Cnf.{Cnf}
use Rattle.order_ints.specs.declared.order_int.MapValue.{MapValue}
use Rattle.order_ints.specs.Truth.{Valuation}
use Rattle.core_forms.specs.declared.equation.Equation.{Equation}
use Rattle.core_forms.specs.declared.form.Core.{Core}
use Rattle.core_forms.specs.Cores.{CoresBelow, AreWellFormed, MeetsAll, costs_of}
use Rattle.statement_lower.specs.Entries.{AreOrdered}
use Rattle.model_meaning.specs.declared.model.Goal.{Goal}
use Rattle.model_meaning.specs.declared.model.Model.{Model}
use Rattle.model_meaning.specs.WellTyped.{WellTyped}
use Rattle.model_meaning.specs.Limits.{InLimits}
use Rattle.model_weight.specs.Weight.{weight_of}
use Rattle.model_lower.specs.declared.state.Lowered.{Lowered}
use Rattle.model_lower.specs.Lowering.{lowered_of}
use Rattle.model_lower.specs.Weighed.{most_weight}
use Rattle.step_kernel.specs.Kernel.{Kernel, most_potential}
use Rattle.step_kernel.specs.CnfOf.{cnf_of}
use Rattle.model_decode.specs.Short.{AreShort}
use Rattle.answer_document.specs.declared.document.Document.{Document}
use Rattle.answer_document.specs.BoundAtoms.{integer_named}
use Rattle.search_options.specs.declared.options.SearchOptions.{SearchOptions}
use Rattle.decode_minimize.specs.declared.answering.CnfSize.{CnfSize}
use Rattle.decode_minimize.specs.Objectives.{IsObjective}
use Rattle.decode_minimize.specs.Solved.{Problem}
use Rattle.decode_minimize.specs.Answers.{IsAnswer}

-- what is to be solved at the end of a compilation
abbrev pub problem_at : List MapValue → Kernel → Problem
problem_at entries k = record { entries = entries; view = k.view; cnf = cnf_of k }

-- how large a CNF is
abbrev pub size_of : Cnf → CnfSize
size_of cnf = record { variables = cnf.vars; clauses = length cnf.clauses }

-- what is known of a model that is lowered
pub record IsReady (l : Lowered) : Type 0 where
  pub formed : AreWellFormed l.cores
  pub below : CoresBelow (l.vars + 1) l.cores
  pub small : l.vars + costs_of l.cores ≤ most_potential
  pub objectives : (place : ℕ) → IsObjective (l.vars + 1) (integer_named l.map.entries place)
  pub short : AreShort l.map.entries
  pub ordered : (σ : Valuation) → MeetsAll σ l.cores → AreOrdered σ l.map.entries

-- an answer to each model that is lowered to this, and has this goal
abbrev pub IsAnswerOf : (Core → Equation → Type 0) → Lowered → Goal → SearchOptions → Document → ℕ → ℕ
    → Type 0
IsAnswerOf told l goal options d counter now =
    (model : Model) → WellTyped model → InLimits model → weight_of model ≤ most_weight
    → l ≡ lowered_of model → goal ≡ model.goal → IsAnswer told model options d counter now
