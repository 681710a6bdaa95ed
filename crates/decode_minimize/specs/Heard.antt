-- What a watcher is told: it is a ghost member of the watcher, of declarations, goal and values.
use Rattle.std.specs.Prelude.{Bool, ℤ, List}
use Rattle.order_ints.specs.declared.cnf.Cnf.{Cnf}
use Rattle.order_ints.specs.Numbers.{numbers_of}
use Rattle.order_ints.specs.Truth.{Valuation, valuation_of}
use Rattle.core_forms.specs.Cores.{MeetsAll}
use Rattle.state_compile.specs.StandsFor.{read_by}
use Rattle.model_meaning.specs.declared.model.Decl.{Decl}
use Rattle.model_meaning.specs.declared.model.Goal.{Goal}
use Rattle.model_meaning.specs.declared.model.Model.{Model}
use Rattle.model_meaning.specs.Limits.{InLimits}
use Rattle.model_meaning.specs.Solutions.{IsSolution}
use Rattle.model_meaning.specs.WellTyped.{WellTyped}
use Rattle.model_lower.specs.declared.state.Lowered.{Lowered}
use Rattle.model_decode.specs.Short.{AreShort}
use Rattle.decode_minimize.specs.declared.solved.Names.{Names}
use Rattle.decode_minimize.specs.Rounds.{AreSatisfying}

-- whatever is a solution of a model may be told
abbrev pub AreHeard : (List Decl → Goal → List ℤ → Type 0) → Model → Type 0
AreHeard heard model = (a : List ℤ) → IsSolution model a → heard model.decls model.goal a

-- of every model
abbrev pub HearsAll : (List Decl → Goal → List ℤ → Type 0) → Type 0
HearsAll heard = (model : Model) → WellTyped model → InLimits model → AreHeard heard model

-- what the names have under a valuation that meets the cores may be told
abbrev pub AreDecodedHeard : (List Decl → Goal → List ℤ → Type 0) → List Decl → Goal → Lowered → Type 0
AreDecodedHeard heard decls goal l =
    (σ : Valuation) → MeetsAll σ l.cores → heard decls goal (numbers_of σ l.map.entries)

-- what they have under truth values that satisfy clauses may be told
pub record IsHeard (heard : List Decl → Goal → List ℤ → Type 0) (cnf : Cnf) (names : Names) : Type 0 where
  pub short : AreShort names.map.now.entries
  pub told : (values : List Bool) → AreSatisfying cnf values
      → heard names.decls.now names.goal
      (numbers_of (read_by names.view.now (valuation_of values)) names.map.now.entries)
