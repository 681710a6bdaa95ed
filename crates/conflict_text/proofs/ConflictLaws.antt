-- What the text of a conflict says is true.
use Rattle.std.proofs.Common.{ℕ, ◌≤◌, List, [], ◌∷◌, refl, subst}
use Rattle.model_meaning.specs.declared.model.Model.{Model}
use Rattle.model_meaning.specs.Limits.{InLimits}
use Rattle.model_meaning.specs.WellTyped.{WellTyped}
use Rattle.model_lower.specs.Weighed.{most_weight}
use Rattle.model_parts.specs.CoreWeight.{core_weight}
use Rattle.model_parts.proofs.Holding.{others-hold, only-solutions}
use Rattle.line_texts.specs.LineByLine.{Lead}
use Rattle.conflict_text.specs.declared.part.Part.{Part}
use Rattle.conflict_text.specs.ConflictLines.{Standing, start_standing, IsNext}
use Rattle.conflict_text.specs.ConflictSays.{IsNeeded, ConflictLaw, Irreducible}
use Rattle.conflict_text.proofs.Standings.{Stands, StandsIn, stands-next}

module _ (model : Model) (typed : WellTyped model) (limits : InLimits model) (light : core_weight model ≤ most_weight) where
  lead-stands : (lines : List (List ℕ)) (s t : Standing) → Stands model s → Lead IsNext s lines t → Stands model t
  lead-stands [] s t stands e = subst (λ (u : Standing). Stands model u) e stands
  lead-stands (line ∷ lines) s t stands lead = lead-stands lines lead.0 t (stands-next model typed limits light s lead.0 line stands lead.1) lead.2

pub conflict-law : ConflictLaw
conflict-law model text s typed limits light whole =
    subst (λ (p : Part). StandsIn model s p) whole.ended (lead-stands model typed limits light whole.lines (start_standing model) s (refl, refl) whole.lead)

pub irreducible : Irreducible
irreducible model conflict fewer n is within listed lacks =
    let needed : IsNeeded model conflict n = is.needed n listed in
    (needed.assignment, (only-solutions model fewer needed.assignment).1 (needed.in_domains, others-hold conflict fewer n needed.assignment model.stmts within lacks needed.others))
