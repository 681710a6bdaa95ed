-- What a valid answer says is true.
use Rattle.std.proofs.Common.{◌≡◌, ◌⊎◌, ℕ, ◌+◌, ◌<◌, ◌≤◌, Bool, true, false, not, List, [], ◌∷◌, ◌++◌, Option, None, Some, Ok, refl, sym, ap, ◌∙◌, subst, ℤ, pos, arith}
use Rattle.std.specs.Prelude.{IsTrue, IsFalse, IsSomeAnd, slice_get, int_le, ◌+ℤ◌, ◌≤ℤ◌, ◌<ℤ◌}
use Rattle.std.proofs.lemmas.Int.{ints}
use Rattle.order_ints.specs.declared.atom.Atom.{Atom}
use Rattle.order_ints.specs.Truth.{Valuation, atom_truth}
use Rattle.order_ints.specs.View.{resolve}
use Rattle.order_ints.specs.Satisfies.{Satisfies}
use Rattle.order_ints.specs.Numbers.{numbers_of}
use Rattle.order_ints.proofs.Comparisons.{le_from_test, lt_from_test, int_le-true, int_le-false}
use Rattle.model_meaning.specs.declared.model.Model.{Model}
use Rattle.model_meaning.specs.declared.model.Decl.{Decl}
use Rattle.model_meaning.specs.declared.model.Goal.{Goal}
use Rattle.model_meaning.specs.declared.model.Goal.TheVariants.{Satisfy, Minimize, Maximize}
use Rattle.model_meaning.specs.Terms.{value_at}
use Rattle.model_meaning.specs.WellTyped.{IsInt, IsNumberAt, ObjectiveFits, SecondFits, GoalFits, WellTyped}
use Rattle.model_meaning.specs.Limits.{InLimits}
use Rattle.model_meaning.specs.Solutions.{IsSolution, objective, is_better}
use Rattle.model_weight.specs.Weight.{weight_of}
use Rattle.model_lower.specs.Lowering.{lowered_of}
use Rattle.model_lower.specs.Weighed.{most_weight}
use Rattle.model_lower.proofs.LoweringLaw.{lowering_law}
use Rattle.step_kernel.specs.Kernel.{Kernel}
use Rattle.step_kernel.specs.CnfOf.{cnf_of}
use Rattle.proof_check.specs.declared.line.ProofLine.{ProofLine}
use Rattle.proof_check.specs.Lrat.{Proof}
use Rattle.proof_check.specs.Known.{known}
use Rattle.answer_document.specs.declared.verdict.Bounds.{Bounds}
use Rattle.answer_document.specs.declared.verdict.Verdict.{Verdict}
use Rattle.answer_document.specs.declared.verdict.Verdict.TheVariants.{Satisfiable, Unsatisfiable, Optimum, Unknown}
use Rattle.answer_document.specs.declared.document.Document.{Document}
use Rattle.answer_document.specs.Verdicts.{numbers_in, numbers_with, HaveSecond, BoundsFit, VerdictFits}
use Rattle.answer_document.specs.BoundAtoms.{integer_named, at_least, at_most, first_bound, second_bound, fixed}
use Rattle.answer_document.specs.Claims.{IsSolutionAt, IsOptimum, Claims}
use Rattle.answer_document.specs.Valid.{IsShown, first_shown, second_shown, second_cnf, IsDerived, IsSecond, AreShown, IsCertified, AnswerHolds, IsValid}
use Rattle.answer_document.specs.Laws.{ClaimLaw}
use Rattle.answer_document.proofs.OrderLaws.{not-better-one, not-better-two}
use Rattle.answer_document.proofs.Witnesses.{Witness, witness}
use Rattle.answer_document.proofs.BoundLaws.{at-least-truth, at-most-truth}
use Rattle.answer_document.proofs.Shown.{not-refuted, shown-true, with-atom-true}

-- the place of an objective is that of an integer that some item declares
number-from : (o : Option Decl) → IsSomeAnd o (λ d. IsInt d.kind) → (m : ℕ) × IsSomeAnd o (λ d. (d.number < m) × IsInt d.kind)
number-from None h = absurd h
number-from (Some d) h = (d.number + 1, (omega arith, h))

module _ (model : Model) (typed : WellTyped model) (limits : InLimits model) (light : weight_of model ≤ most_weight) (last : Kernel)
    (x : List ℤ) (w : Witness model last x) where
  -- the bounds of an objective at a place, under the valuation of a solution
  least-value : (place : ℕ) → ObjectiveFits model.decls place → (v : ℤ)
      → atom_truth w.valuation (resolve last.view (at_least (integer_named (lowered_of model).map.entries place) v)) ≡ int_le v (value_at x place)
  least-value place objective v =
      let number = number-from (slice_get model.decls place) objective in
      let law = lowering_law model typed limits light in
      at-least-truth w.valuation last.view w.view ((lowered_of model).vars + 1) number.0 model.decls (lowered_of model).map.entries law.fits.entries w.ordered place number.1 v
      ∙ ap (λ a. int_le v (value_at a place)) (sym w.numbers)

  most-value : (place : ℕ) → ObjectiveFits model.decls place → (v : ℤ)
      → atom_truth w.valuation (resolve last.view (at_most (integer_named (lowered_of model).map.entries place) v)) ≡ not (int_le (v +ℤ pos 1) (value_at x place))
  most-value place objective v =
      let number = number-from (slice_get model.decls place) objective in
      let law = lowering_law model typed limits light in
      at-most-truth w.valuation last.view w.view ((lowered_of model).vars + 1) number.0 model.decls (lowered_of model).map.entries law.fits.entries w.ordered place number.1 v
      ∙ ap (λ a. not (int_le (v +ℤ pos 1) (value_at a place))) (sym w.numbers)

  pub at-least-from : (place : ℕ) → ObjectiveFits model.decls place → (v : ℤ)
      → atom_truth w.valuation (resolve last.view (at_least (integer_named (lowered_of model).map.entries place) v)) ≡ true → v ≤ℤ value_at x place
  at-least-from place fits v e = le_from_test v (value_at x place) (sym (least-value place fits v) ∙ e)

  pub at-least-to : (place : ℕ) → ObjectiveFits model.decls place → (v : ℤ) → v ≤ℤ value_at x place
      → atom_truth w.valuation (resolve last.view (at_least (integer_named (lowered_of model).map.entries place) v)) ≡ true
  at-least-to place fits v h = least-value place fits v ∙ int_le-true v (value_at x place) h

  pub at-most-from : (place : ℕ) → ObjectiveFits model.decls place → (v : ℤ)
      → atom_truth w.valuation (resolve last.view (at_most (integer_named (lowered_of model).map.entries place) v)) ≡ true → value_at x place ≤ℤ v
  at-most-from place fits v e = at-most (value_at x place) v (lt_from_test (v +ℤ pos 1) (value_at x place) (not-true (int_le (v +ℤ pos 1) (value_at x place)) (sym (most-value place fits v) ∙ e)))
    where
      not-true : (t : Bool) → not t ≡ true → t ≡ false
      not-true true e = sym e
      not-true false e = refl

      at-most : (y v : ℤ) → y <ℤ (v +ℤ pos 1) → y ≤ℤ v
      at-most y v h = omega (arith, ints, h)

  pub at-most-to : (place : ℕ) → ObjectiveFits model.decls place → (v : ℤ) → value_at x place ≤ℤ v
      → atom_truth w.valuation (resolve last.view (at_most (integer_named (lowered_of model).map.entries place) v)) ≡ true
  at-most-to place fits v h = most-value place fits v ∙ ap not (int_le-false (v +ℤ pos 1) (value_at x place) (below (value_at x place) v h))
    where
      below : (y v : ℤ) → y ≤ℤ v → y <ℤ (v +ℤ pos 1)
      below y v h = omega (arith, ints, h)

  same-least : (y v : ℤ) → y ≡ v → y ≤ℤ v
  same-least y v e = omega (arith, ints, e)

  -- no value of the objectives is better than the bounds that are true of it
  pub not-better : (goal : Goal) → GoalFits model.decls goal → (m : ℤ) (second : Option ℤ) → BoundsFit goal (record { first = m; second = second })
      → atom_truth w.valuation (resolve last.view (first_bound goal (lowered_of model).map.entries m)) ≡ true
      → ((n : ℤ) → second ≡ Some n → atom_truth w.valuation (resolve last.view (fixed goal (lowered_of model).map.entries m)) ≡ true
      → atom_truth w.valuation (resolve last.view (second_bound goal (lowered_of model).map.entries n)) ≡ true)
      → is_better goal (objective goal x) (numbers_with m second) ≡ false
  not-better Satisfy fits m second have first behind = absurd have
  not-better (Minimize place None) fits m None have first behind = not-better-one (value_at x place) m (at-least-from place fits.0 m first)
  not-better (Minimize place None) fits m (Some n) have first behind = absurd have
  not-better (Minimize place (Some other)) fits m None have first behind = absurd have
  not-better (Minimize place (Some other)) fits m (Some n) have first behind =
      not-better-two (value_at x place) (value_at x other) m n (at-least-from place fits.0 m first)
      (λ e. at-least-from other fits.1 n (behind n refl (at-most-to place fits.0 m (same-least (value_at x place) m e))))
  not-better (Maximize place None) fits m None have first behind = not-better-one m (value_at x place) (at-most-from place fits.0 m first)
  not-better (Maximize place None) fits m (Some n) have first behind = absurd have
  not-better (Maximize place (Some other)) fits m None have first behind = absurd have
  not-better (Maximize place (Some other)) fits m (Some n) have first behind =
      not-better-two m n (value_at x place) (value_at x other) (at-most-from place fits.0 m first)
      (λ e. at-most-from other fits.1 n (behind n refl (at-least-to place fits.0 m (same-least m (value_at x place) e))))

module _ (model : Model) (typed : WellTyped model) (limits : InLimits model) (light : weight_of model ≤ most_weight) (d : Document) (c : IsDerived model d) where
  module _ (x : List ℤ) (solution : IsSolution model x) where
    given : Witness model c.last x
    given = witness model typed limits light d.ledger c.last c.leads x solution

    -- where the empty clause is known there is no solution
    pub no-solution : IsTrue (known c.proof []) → ⊥
    no-solution h = not-refuted (cnf_of c.last) d.proof c.proof c.accepted given.valuation given.satisfies h

    first-true : (m : ℤ) → IsShown c.proof (first_shown model c.last m) → atom_truth given.valuation (first_shown model c.last m) ≡ true
    first-true m h = shown-true (cnf_of c.last) d.proof c.proof c.accepted given.valuation given.satisfies (first_shown model c.last m) h

    second-true : (b : Bounds) (lines : List ProofLine) (s : IsSecond model c.last c.proof b lines) (n : ℤ) → IsShown s.proof (second_shown model c.last n)
        → atom_truth given.valuation (resolve c.last.view (fixed model.goal (lowered_of model).map.entries b.first)) ≡ true → atom_truth given.valuation (second_shown model c.last n) ≡ true
    second-true b lines s n h no_worse =
        let atom = resolve c.last.view (fixed model.goal (lowered_of model).map.entries b.first) in
        shown-true (second_cnf model c.last b.first) lines s.proof s.accepted given.valuation
        (with-atom-true given.valuation (cnf_of c.last).clauses atom given.satisfies no_worse) (second_shown model c.last n) h

    -- no solution is better than bounds that are shown
    best-by : (m : ℤ) (second : Option ℤ) (lines : Option (List ProofLine)) → BoundsFit model.goal (record { first = m; second = second })
        → AreShown model c.last c.proof (record { first = m; second = second }) second lines
        → is_better model.goal (objective model.goal x) (numbers_with m second) ≡ false
    best-by m None None have h =
        not-better model typed limits light c.last x given model.goal typed.goal m None have (first-true m h) (λ n e. absurd (none n e))
      where
        none : (n : ℤ) → None ≡ Some n → ⊥
        none n e = cc
    best-by m None (Some lines) have h = absurd h
    best-by m (Some n) None have h = absurd h
    best-by m (Some n) (Some lines) have h =
        not-better model typed limits light c.last x given model.goal typed.goal m (Some n) have (first-true m h.0.bound)
        (λ k e. subst (λ z. atom_truth given.valuation (resolve c.last.view (fixed model.goal (lowered_of model).map.entries m)) ≡ true → atom_truth given.valuation (second_shown model c.last z) ≡ true)
        (same n k e) (second-true (record { first = m; second = Some n }) lines h.0 n h.1))
      where
        same : (n k : ℤ) → Some n ≡ Some k → n ≡ k
        same n k e = cc

module _ (model : Model) (typed : WellTyped model) (limits : InLimits model) (light : weight_of model ≤ most_weight) (d : Document) where
  by-verdict : (v : Verdict) (a : Option (List ℤ)) → VerdictFits model.goal v → AnswerHolds model v a → IsCertified model d v → Claims model v a
  by-verdict Satisfiable (Some a) fits answer certificate = answer
  by-verdict Satisfiable None fits answer certificate = absurd answer
  by-verdict Unsatisfiable (Some a) fits answer certificate = absurd answer
  by-verdict Unsatisfiable None fits answer certificate = λ a solution. no-solution model typed limits light d certificate.0 a solution certificate.1
  by-verdict (Optimum b) (Some a) fits answer certificate = record {
    best = record {
      solution = answer.solution;
      best = λ other solution. subst (λ (ns : List ℤ). is_better model.goal (objective model.goal other) ns ≡ false) (sym answer.objective)
          (best-by model typed limits light d certificate.0 other solution b.first b.second d.second fits certificate.1);
    };
    objective = answer.objective;
  }
  by-verdict (Optimum b) None fits answer certificate = absurd answer
  by-verdict (Unknown n (Some b)) (Some a) fits answer certificate = answer
  by-verdict (Unknown n (Some b)) None fits answer certificate = absurd answer
  by-verdict (Unknown n None) (Some a) fits answer certificate = absurd answer
  by-verdict (Unknown n None) None fits answer certificate = tt

pub claim_law : ClaimLaw
claim_law model text v a typed limits light valid = by-verdict model typed limits light valid.document v a valid.fits valid.answer valid.certificate
