-- The model that a text holds with what it is compiled to, and why a text holds none of which an answer is imported.
use Rattle.std.specs.Prelude.{◌≡◌, ℕ, true, false, List}
use Rattle.model_meaning.specs.declared.model.Model.{Model}
use Rattle.answer_document.specs.Goals.{has_second}
use Rattle.model_texts.specs.HeldModels.{HoldsModel}
use Rattle.model_texts.specs.ModelTexts.{HasFault as HasModelFault}
use Rattle.bee_compile.specs.Compiled.{IsInstance, IsCompiled}
use Rattle.bee_compile.specs.Fits.{CompiledFits}
use Rattle.certify_mode.specs.declared.fault.CertifyFault.{CertifyFault}
use Rattle.certify_mode.specs.declared.fault.CertifyFault.TheVariants.{Model as InModel, TwoObjectives}
use Rattle.certify_mode.specs.declared.holding.HeldCompilation.{HeldCompilation}

-- a text says this model, and it is compiled to this
pub record HoldsLight (text : List ℕ) (held : HeldCompilation) : Type 0 where
  pub model : HoldsModel text held.model
  pub compiled : IsCompiled IsInstance held.model held.compiled
  pub fits : CompiledFits held.compiled

-- and it has one objective at most
pub record HoldsCompiled (text : List ℕ) (held : HeldCompilation) : Type 0 where
  pub light : HoldsLight text held
  pub one : has_second held.model.goal ≡ false

-- a text says a model that is compiled, with two objectives
pub record HasTwo (text : List ℕ) : Type 0 where
  pub model : Model
  pub held : HoldsModel text model
  pub two : has_second model.goal ≡ true

-- why nothing is imported for a text: it has a fault, or it says a model with two objectives
abbrev pub HasFault : List ℕ → CertifyFault → Type 0
HasFault text (InModel fault) = HasModelFault text fault
HasFault text TwoObjectives = HasTwo text
