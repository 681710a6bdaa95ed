-- What the document of a conflict says is true.
use Rattle.std.proofs.Common.{◌≡◌, ℕ, ◌≤◌, ℤ, Bool, true, false, List, [], ◌∷◌, refl, subst, arith}
use Rattle.std.specs.Prelude.{◌==◌, ◌||◌, IsTrue}
use Rattle.model_meaning.specs.declared.model.Model.{Model}
use Rattle.model_meaning.specs.declared.model.Assignment.{Assignment}
use Rattle.model_meaning.specs.Limits.{InLimits}
use Rattle.model_meaning.specs.WellTyped.{WellTyped}
use Rattle.model_meaning.specs.Solutions.{IsSolution}
use Rattle.model_weight.specs.Weight.{weight_of}
use Rattle.model_lower.specs.Weighed.{most_weight}
use Rattle.model_parts.specs.Only.{is_listed, only}
use Rattle.model_parts.specs.CoreWeight.{core_weight}
use Rattle.model_parts.proofs.Typed.{only-typed, only-limits}
use Rattle.model_parts.proofs.Weights.{only-weight}
use Rattle.step_kernel.specs.CnfOf.{cnf_of}
use Rattle.proof_check.specs.Known.{known}
use Rattle.answer_document.proofs.Witnesses.{witness}
use Rattle.answer_document.proofs.Shown.{not-refuted}
use Rattle.conflict_text.specs.declared.verdict.CoreVerdict.{CoreVerdict}
use Rattle.conflict_text.specs.declared.verdict.CoreVerdict.TheVariants.{Satisfiable, Core, Unknown}
use Rattle.conflict_text.specs.declared.document.ConflictDocument.{ConflictDocument}
use Rattle.conflict_text.specs.ConflictDocuments.{IsShownBy, IsDocumentOf, AreWitnesses}
use Rattle.conflict_text.specs.ConflictSays.{IsNeeded}
use Rattle.core_extract.specs.Claims.{Claims, DocumentLaw}

module _ (model : Model) (d : ConflictDocument) where
  needed : (ns : List ℕ) (given : List Assignment) → AreWitnesses model d.statements ns given → (n : ℕ) → IsTrue (is_listed n ns) → IsNeeded model d.statements n
  needed [] given h n listed = absurd (cc)
  needed (m ∷ ns) [] h n listed = absurd h
  needed (m ∷ ns) (a ∷ given) h n listed = by_test (n == m) refl listed (needed ns given h.1 n)
    where
      same : (x y : ℕ) → (x == y) ≡ true → y ≡ x
      same x y e = grind arith

      by_test : (b : Bool) → (n == m) ≡ b → IsTrue (b || is_listed n ns) → (IsTrue (is_listed n ns) → IsNeeded model d.statements n) → IsNeeded model d.statements n
      by_test true e k rest =
          subst (IsNeeded model d.statements) (same n m e) (record { assignment = a.values; in_domains = h.0.in_domains; others = h.0.others })
      by_test false e k rest = rest k

  module _ (typed : WellTyped model) (limits : InLimits model) (light : core_weight model ≤ most_weight) where
    refutes : (s : IsShownBy model d) → IsTrue (known s.proof []) → (a : List ℤ) → IsSolution (only model d.statements) a → ⊥
    refutes s empty a solution =
        let weight = only-weight model d.statements typed in
        let fits : weight_of (only model d.statements) ≤ most_weight = omega (arith, weight, light) in
        let given = witness (only model d.statements) (only-typed model d.statements typed) (only-limits model d.statements limits) fits d.ledger s.last s.leads a solution in
        not-refuted (cnf_of s.last) d.proof s.proof s.accepted given.valuation given.satisfies empty

    claimed : (v : CoreVerdict) → IsDocumentOf model d v → Claims model d v
    claimed Satisfiable h = h
    claimed (Core k) h = (record { unsatisfiable = refutes h.0 h.1; needed = needed d.statements d.assignments h.3 }, h.2)
    claimed (Unknown n) h = tt

pub document-claims : DocumentLaw
document-claims model d typed limits light is = claimed model d typed limits light d.verdict is.document
