-- What is known of the model that a text says.
use Rattle.std.proofs.Common.{arith, ℕ, ◌≤◌, List, [], map, length, sym, subst}
use Rattle.bumblebee_reader.specs.Names.{AreDeclared}
use Rattle.bumblebee_reader.proofs.Shapes.{text_is_spellable_lem}
use Rattle.model_meaning.specs.declared.model.Decl.{Decl}
use Rattle.model_meaning.specs.declared.model.Model.{Model}
use Rattle.typed_model.specs.Items.{model_of}
use Rattle.model_meaning.specs.Limits.{InLimits}
use Rattle.model_meaning.specs.WellTyped.{WellTyped}
use Rattle.typed_model.proofs.ModelShares.{WellTyped-model_of}
use Rattle.typed_model.proofs.ModelLimits.{InLimits-model_of}
use Rattle.typed_model.proofs.TextSizes.{text-size}
use Rattle.model_texts.specs.ModelTexts.{IsModelOf}
use Rattle.model_texts.specs.ModelTexts.{longest_text}
use Rattle.model_texts.proofs.Names.{items_limit, names_from, are_declared}

-- a model that a text within the limit says is well typed, and its numbers and lists are in their limits
pub typed : (text : List ℕ) (m : Model) → IsModelOf text m → WellTyped m
typed text m says = subst (λ (n : Model). WellTyped n) (sym says.model_is) (WellTyped-model_of says.syntax.items says.no_fault)

pub limited : (text : List ℕ) (m : Model) → length text ≤ longest_text → IsModelOf text m → InLimits m
limited text m short says =
    subst (λ (n : Model). InLimits n) (sym says.model_is)
    (InLimits-model_of says.syntax.items (items_limit says.syntax.items (text_is_spellable_lem text says.syntax says.spelled)) (omega (arith, text-size text says.syntax says.spelled, short)))

-- its names may be written
pub names : (text : List ℕ) (m : Model) → IsModelOf text m → AreDeclared (map (λ (d : Decl). d.name) m.decls)
names text m says =
    let spelled = text_is_spellable_lem text says.syntax says.spelled in
    let at = names_from 1 [] says.syntax.items tt spelled in
    let fit = (WellTyped-model_of says.syntax.items says.no_fault).decls in
    subst (λ (n : Model). AreDeclared (map (λ (d : Decl). d.name) n.decls)) (sym says.model_is) (are_declared 1 (model_of says.syntax.items).decls at fit)
