-- The verdict of an answer to a file's model is true of the file.
use Rattle.std.proofs.Common.{arith, ◌≡◌, ◌↔◌, ℕ, ◌+◌, ℤ, ◌≤ℤ◌, Bool, true, false, ◌||◌, ◌&&◌, List, [], ◌∷◌, ◌++◌, map, length, refl, ap, sym, subst, ◌∙◌, true≢false, Option, Some, None}
use Rattle.std.specs.Prelude.{int_lt, IsFalse}
use Rattle.std.specs.Ordering.{int_eq}
use Rattle.std.proofs.lemmas.Int.{ints}
use Rattle.model_meaning.specs.declared.model.Goal.{Goal}
use Rattle.model_meaning.specs.declared.model.Model.{Model}
use Rattle.model_meaning.specs.Terms.{value_at, as_number}
use Rattle.model_meaning.specs.Lists.{in_order}
use Rattle.model_meaning.specs.Solutions.{IsSolution, objective, is_better}
use Rattle.answer_document.specs.declared.verdict.Bounds.{Bounds}
use Rattle.answer_document.specs.declared.verdict.Verdict.{Verdict}
use Rattle.answer_document.specs.declared.verdict.Verdict.TheVariants.{Satisfiable, Unsatisfiable, Optimum, Unknown}
use Rattle.answer_document.specs.Verdicts.{numbers_with, numbers_in}
use Rattle.answer_document.specs.Valid.{numbers_given}
use Rattle.answer_document.specs.Claims.{Claims, IsSolutionAt, IsOptimum}
use Rattle.opb_front.specs.declared.items.Objective.{Objective}
use Rattle.opb_front.specs.declared.items.Opb.{Opb}
use Rattle.opb_front.specs.Fits.{OpbFits}
use Rattle.opb_front.specs.Solutions.{Solves, costs, sum_of}
use Rattle.opb_model.specs.Models.{goal_of, opb_model}
use Rattle.opb_model.specs.Meaning.{numbers_of, SolvesAs}
use Rattle.opb_model.proofs.Solving.{solutions_are_those}
use Rattle.opb_mode.specs.Claims.{SolvesAt, IsLeast, FileClaims}
use Rattle.opb_mode.specs.Laws.{VerdictTrueOfFile}
use Rattle.opb_mode.proofs.Shapes.{fits}

-- The value of what is sought is the cost.

value-behind : (b : List Bool) (v : ℤ) → value_at (map as_number b ++ v ∷ []) (length b) ≡ v
value-behind [] v = refl
value-behind (x ∷ b) v = value-behind b v

sought : (vars : ℕ) (o : Option Objective) (b : List Bool) → length b ≡ vars → objective (goal_of vars o) (map as_number b ++ costs o b) ≡ costs o b
sought vars None b e = refl
sought vars (Some o) b e =
    ap (λ v. v ∷ []) (subst (λ n. value_at (map as_number b ++ sum_of b o.terms ∷ []) n ≡ sum_of b o.terms) e (value-behind b (sum_of b o.terms)))

-- a list of one number is the numbers of bounds with one number
one-number : (first z : ℤ) (second : Option ℤ) → numbers_with first second ≡ z ∷ [] → first ≡ z
one-number first z None e = cc
one-number first z (Some n) e = absurd (two first n z e)
  where
    two : (x y z : ℤ) → x ∷ y ∷ [] ≡ z ∷ [] → ⊥
    two x y z e = cc

no-number : (first : ℤ) (second : Option ℤ) → [] ≡ numbers_with first second → ⊥
no-number first None e = cc
no-number first (Some n) e = cc

stated-cost : (o : Option Objective) (b : List Bool) (s : Bounds) → costs o b ≡ numbers_in s → costs o b ≡ s.first ∷ []
stated-cost None b s e = absurd (no-number s.first s.second e)
stated-cost (Some o) b s e = ap (λ v. v ∷ []) (sym (one-number s.first (sum_of b o.terms) s.second (sym e)))

-- what is not less is at least as great

least-of : (x y : ℤ) (t r : Bool) → int_lt x y ≡ t → (t || r) ≡ false → y ≤ℤ x
least-of x y true r e h = absurd (true≢false h)
least-of x y false r e h = grind (arith, ints, e)

not-less : (x y : ℤ) (second : Option ℤ) → IsFalse (in_order true (x ∷ []) (numbers_with y second)) → y ≤ℤ x
not-less x y None h = least-of x y (int_lt x y) (int_eq x y && in_order true [] []) refl h
not-less x y (Some n) h = least-of x y (int_lt x y) (int_eq x y && in_order true [] (n ∷ [])) refl h

better : (vars : ℕ) (o : Option Objective) (b : List Bool) (s : Bounds) (cost : ℤ) → IsFalse (is_better (goal_of vars o) (costs o b) (numbers_in s)) → costs o b ≡ cost ∷ [] → s.first ≤ℤ cost
better vars None b s cost h e = absurd (none cost e)
  where
    none : (z : ℤ) → [] ≡ z ∷ [] → ⊥
    none z e = cc
better vars (Some o) b s cost h e =
    let P : List ℤ → Type 0 = λ l. IsFalse (in_order true l (numbers_in s)) in
    not-less cost s.first s.second (subst P e h)

module _ (opb : Opb) (fit : OpbFits opb) where
  abbrev solutions : (a : List ℤ) → IsSolution (opb_model opb) a ↔ SolvesAs opb a
  solutions = (solutions_are_those opb fit).0

  valued : (a : List ℤ) (s : SolvesAs opb a) → objective (goal_of opb.vars opb.objective) a ≡ costs opb.objective s.truths
  valued a s = ap (objective (goal_of opb.vars opb.objective)) s.numbers ∙ sought opb.vars opb.objective s.truths s.solves.values

  solves-at : (a : List ℤ) (s : Bounds) → IsSolutionAt (opb_model opb) a s → SolvesAt opb a s
  solves-at a s h =
      let assignment = (solutions a).0 h.solution in
      record { assignment = assignment; cost = stated-cost opb.objective assignment.truths s (sym (valued a assignment) ∙ h.objective) }

  least : (a : List ℤ) (s : Bounds) → IsOptimum (opb_model opb) a s → IsLeast opb a s
  least a s h = record { solves = solves-at a s (record { solution = h.best.solution; objective = h.objective }); least = λ b cost solves e. at-least b cost solves e }
    where
      at-least : (b : List Bool) (cost : ℤ) → Solves opb b → costs opb.objective b ≡ cost ∷ [] → s.first ≤ℤ cost
      at-least b cost solves e =
          let other : SolvesAs opb (numbers_of opb b) = record { truths = b; solves = solves; numbers = refl } in
          let not_better : IsFalse (is_better (goal_of opb.vars opb.objective) (objective (goal_of opb.vars opb.objective) (numbers_of opb b)) (numbers_in s)) =
          subst (λ (ns : List ℤ). IsFalse (is_better (goal_of opb.vars opb.objective) (objective (goal_of opb.vars opb.objective) (numbers_of opb b)) ns)) h.objective
          (h.best.best (numbers_of opb b) ((solutions (numbers_of opb b)).1 other)) in
          let P : List ℤ → Type 0 = λ l. IsFalse (is_better (goal_of opb.vars opb.objective) l (numbers_in s)) in
          better opb.vars opb.objective b s cost (subst P (valued (numbers_of opb b) other) not_better) e

  pub claims : (v : Verdict) (a : Option (List ℤ)) → Claims (opb_model opb) v a → FileClaims opb v a
  claims Satisfiable (Some a) h = (solutions a).0 h
  claims Satisfiable None h = absurd h
  claims Unsatisfiable (Some a) h = absurd h
  claims Unsatisfiable None h = λ b s. h (numbers_of opb b) ((solutions (numbers_of opb b)).1 (record { truths = b; solves = s; numbers = refl }))
  claims (Optimum s) (Some a) h = least a s h
  claims (Optimum s) None h = absurd h
  claims (Unknown n (Some s)) (Some a) h = solves-at a s h
  claims (Unknown n (Some s)) None h = absurd h
  claims (Unknown n None) (Some a) h = absurd h
  claims (Unknown n None) None h = tt

pub verdict_true : VerdictTrueOfFile
verdict_true options text outcome written h =
    let held = h.answer.held in
    let d = h.answer.is.document in
    claims held.opb (fits text held.opb held.file.says) d.verdict (numbers_given d.assignment)
    (subst (λ (m : Model). Claims m d.verdict (numbers_given d.assignment)) held.model_is h.true_claims)
