-- What the document of a conflict says of a model, and that it is true.
use Rattle.std.specs.Prelude.{◌≡◌, ◌≤◌, length}
use Rattle.model_meaning.specs.declared.model.Model.{Model}
use Rattle.model_meaning.specs.Limits.{InLimits}
use Rattle.model_meaning.specs.WellTyped.{WellTyped}
use Rattle.model_lower.specs.Weighed.{most_weight}
use Rattle.model_parts.specs.CoreWeight.{core_weight}
use Rattle.conflict_text.specs.declared.verdict.CoreVerdict.{CoreVerdict}
use Rattle.conflict_text.specs.declared.verdict.CoreVerdict.TheVariants.{Satisfiable, Core, Unknown}
use Rattle.conflict_text.specs.declared.document.ConflictDocument.{ConflictDocument}
use Rattle.conflict_text.specs.ConflictDocuments.{IsOneSolution, IsConflictDocument}
use Rattle.conflict_text.specs.ConflictSays.{IsConflict}

-- SATISFIABLE: the one assignment is a solution. CORE: no assignment in the domains meets all statements that are
-- named, of which there are so many, and each of them is needed for that. UNKNOWN claims nothing.
abbrev pub Claims : Model → ConflictDocument → CoreVerdict → Type 0
Claims model d Satisfiable = IsOneSolution model d.assignments
Claims model d (Core k) = IsConflict model d.statements × (length d.statements ≡ k)
Claims model d (Unknown n) = Unit {0}

-- what the document of a conflict says of a model that is taken is true
abbrev pub DocumentLaw : Type 0
DocumentLaw = (model : Model) (d : ConflictDocument) → WellTyped model → InLimits model
    → core_weight model ≤ most_weight → IsConflictDocument model d → Claims model d d.verdict
