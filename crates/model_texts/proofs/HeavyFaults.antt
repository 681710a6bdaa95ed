-- Why a model that a text says is not lowered, as the fault of the text.
use Rattle.std.proofs.Common.{ℕ, ◌≤◌, ◌≡◌, List, length, sym, subst}
use Rattle.model_meaning.specs.declared.model.Model.{Model}
use Rattle.model_lower.specs.declared.fault.LowerFault.{LowerFault}
use Rattle.model_lower.specs.declared.fault.LowerFault.TheVariants.{TooHeavy, Memory}
use Rattle.model_lower.specs.Faults.{IsFaultOf}
use Rattle.model_texts.specs.declared.model_text.ModelTextFault.{ModelTextFault}
use Rattle.model_texts.specs.ModelTexts.{longest_text, IsModelOf, IsCauseOf}
use Rattle.model_texts.specs.HeldModels.{lower_fault_of}
use Rattle.model_texts.proofs.Weights.{exact}

heavy_cause : (text : List ℕ) (m : Model) (f : LowerFault) → length text ≤ longest_text → IsModelOf text m → IsFaultOf f m → IsCauseOf (lower_fault_of f) text
heavy_cause text m (TooHeavy w) short says h = (m, says, h.0, h.1 (exact text m short says))
heavy_cause text m Memory short says h = tt

-- the fault of the lowering is the fault of the text
pub heavy_caused : (text : List ℕ) (m : Model) (f : LowerFault) (e : ModelTextFault) → length text ≤ longest_text → IsModelOf text m → IsFaultOf f m → e ≡ lower_fault_of f → IsCauseOf e text
heavy_caused text m f e short says h same =
    let P : ModelTextFault → Type 0 = λ x. IsCauseOf x text in subst P (sym same) (heavy_cause text m f short says h)
