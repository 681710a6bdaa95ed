-- The laws of a pseudo-Boolean file's model that other crates build on. The file is one that is read.
use Rattle.std.specs.Prelude.{◌≡◌, ◌↔◌, ℤ, Bool, List, None}
use Rattle.bumblebee_reader.specs.Grammar.{IsText}
use Rattle.typed_model.specs.Items.{first_fault, model_of}
use Rattle.model_meaning.specs.Solutions.{IsSolution}
use Rattle.opb_front.specs.declared.items.Opb.{Opb}
use Rattle.opb_front.specs.Fits.{OpbFits}
use Rattle.opb_model.specs.Models.{opb_model}
use Rattle.opb_model.specs.Items.{items_of, syntax_of, opb_text}
use Rattle.opb_model.specs.Meaning.{numbers_of, SolvesAs}

-- the text of the model is a text of the language, its items have no fault, and the model is theirs
pub record IsSaid (opb : Opb) : Type 0 where
  pub spelled : IsText (opb_text opb) (syntax_of opb)
  pub no_fault : first_fault (items_of opb) ≡ None
  pub model : opb_model opb ≡ model_of (items_of opb)

abbrev pub TextSays : Type 0
TextSays = (opb : Opb) → OpbFits opb → IsSaid opb

-- The solutions of the model are the assignments that satisfy the file, with what they cost, and each of these is one
-- solution.
abbrev pub SolutionsAreThose : Type 0
SolutionsAreThose =
    (opb : Opb) → OpbFits opb
    → ((a : List ℤ) → IsSolution (opb_model opb) a ↔ SolvesAs opb a)
    × ((b c : List Bool) → numbers_of opb b ≡ numbers_of opb c → b ≡ c)
