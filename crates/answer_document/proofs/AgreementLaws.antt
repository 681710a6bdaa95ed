-- True answers never contradict each other.
use Rattle.std.proofs.Common.{◌≡◌, ℕ, Bool, true, false, List, [], ◌∷◌, Option, None, Some, refl, sym, ap, ◌∙◌, subst, ℤ}
use Rattle.std.specs.Prelude.{IsFalse}
use Rattle.model_meaning.specs.declared.model.Model.{Model}
use Rattle.model_meaning.specs.declared.model.Goal.{Goal}
use Rattle.model_meaning.specs.declared.model.Goal.TheVariants.{Satisfy, Minimize, Maximize}
use Rattle.model_meaning.specs.Terms.{value_at}
use Rattle.model_meaning.specs.Lists.{in_order}
use Rattle.model_meaning.specs.Solutions.{IsSolution, objective, second_value, is_better}
use Rattle.answer_document.specs.declared.verdict.Bounds.{Bounds}
use Rattle.answer_document.specs.declared.verdict.Verdict.{Verdict}
use Rattle.answer_document.specs.declared.verdict.Verdict.TheVariants.{Satisfiable, Unsatisfiable, Optimum, Unknown}
use Rattle.answer_document.specs.Verdicts.{numbers_in}
use Rattle.answer_document.specs.Claims.{IsSolutionAt, IsOptimum, Claims}
use Rattle.answer_document.specs.Laws.{NoneContradicts, OptimaAgree, OptimumIsBest}
use Rattle.answer_document.proofs.OrderLaws.{both-equal}

pub none_contradicts : NoneContradicts
none_contradicts model Satisfiable a none claim = none a claim
none_contradicts model Unsatisfiable a none claim = claim
none_contradicts model (Optimum b) a none claim = none a claim.best.solution
none_contradicts model (Unknown n None) a none claim = claim
none_contradicts model (Unknown n (Some b)) a none claim = none a claim.solution

-- of two values of one goal's objectives, of which none is better, neither differs
same-order : (second : Option ℕ) (v m : ℤ) (x y : List ℤ) → in_order true (v ∷ second_value second x) (m ∷ second_value second y) ≡ false
    → in_order true (m ∷ second_value second y) (v ∷ second_value second x) ≡ false → v ∷ second_value second x ≡ m ∷ second_value second y
same-order None v m x y e f = ap (λ z. z ∷ []) (both-equal v m [] [] e f).0
same-order (Some place) v m x y e f =
    let heads = both-equal v m (second_value (Some place) x) (second_value (Some place) y) e f in
    let tails = both-equal (value_at x place) (value_at y place) [] [] heads.1 heads.2 in
    ap (λ z. z ∷ second_value (Some place) x) heads.0 ∙ ap (λ z. m ∷ z ∷ []) tails.0

same-values : (goal : Goal) (x y : List ℤ) → is_better goal (objective goal x) (objective goal y) ≡ false → is_better goal (objective goal y) (objective goal x) ≡ false
    → objective goal x ≡ objective goal y
same-values Satisfy x y e f = refl
same-values (Minimize place second) x y e f = same-order second (value_at x place) (value_at y place) x y e f
same-values (Maximize place second) x y e f = same-order second (value_at x place) (value_at y place) x y f e

pub optima_agree : OptimaAgree
optima_agree model b c x y p q =
    sym p.objective ∙ same-values model.goal x y (q.best.best x p.best.solution) (p.best.best y q.best.solution) ∙ q.objective

pub optimum_is_best : OptimumIsBest
optimum_is_best model b c n x y p q =
    subst (λ v. is_better model.goal (numbers_in c) v ≡ false) p.objective
    (subst (λ v. is_better model.goal v (objective model.goal x) ≡ false) q.objective (p.best.best y q.solution))
