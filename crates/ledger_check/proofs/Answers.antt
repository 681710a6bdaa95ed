-- Behind the last value: the answer holds, and the ledger or the end may follow.
use Rattle.std.proofs.Common.{◌≡◌, ℕ, Bool, true, false, List, [], ◌∷◌, Option, None, Some, refl, ap, ◌∙◌, ℤ, arith}
use Rattle.std.specs.Prelude.{is_some, if◌then◌else◌, ◌&&◌}
use Rattle.std.specs.Ordering.{int_eq}
use Rattle.std.proofs.lemmas.Bool.{false≢true}
use Rattle.std.proofs.lemmas.Int.{ints}
use Rattle.model_meaning.specs.declared.model.Goal.{Goal}
use Rattle.model_meaning.specs.declared.model.Model.{Model}
use Rattle.model_meaning.specs.Domains.{in_domains}
use Rattle.model_meaning.specs.Holds.{holds}
use Rattle.model_meaning.specs.Solutions.{IsSolution, objective, first_broken}
use Rattle.model_meaning.proofs.SolutionLaws.{first_broken-none}
use Rattle.answer_document.specs.declared.verdict.Bounds.{Bounds}
use Rattle.answer_document.specs.declared.verdict.Verdict.{Verdict}
use Rattle.answer_document.specs.declared.verdict.Verdict.TheVariants.{Satisfiable, Unsatisfiable, Optimum, Unknown}
use Rattle.answer_document.specs.Verdicts.{numbers_in, is_certified}
use Rattle.answer_document.specs.Valid.{stated, FitValues, AnswerHolds}
use Rattle.ledger_check.specs.declared.fault.Why.{Why}
use Rattle.ledger_check.specs.declared.fault.Why.TheVariants as why
use Rattle.ledger_check.specs.Tests.{same_numbers, objective_fault, statement_fault, values_fault}
use Rattle.ledger_check.specs.Items.{Standing}
use Rattle.ledger_check.specs.Fronts.{answer_of, HasAnswer, IsFitting, IsAnswered}

none-of : (w : Why) → Some w ≡ None → ⊥
none-of w e = cc

both-true : (a b : Bool) → (a && b) ≡ true → (a ≡ true) × (b ≡ true)
both-true true b e = (refl, e)
both-true false b e = absurd (false≢true e)

equal-numbers : (x y : ℤ) → int_eq x y ≡ true → x ≡ y
equal-numbers x y e = grind (arith, ints)

pub same-numbers : (xs ys : List ℤ) → same_numbers xs ys ≡ true → xs ≡ ys
same-numbers [] [] e = refl
same-numbers [] (y ∷ ys) e = absurd (false≢true e)
same-numbers (x ∷ xs) [] e = absurd (false≢true e)
same-numbers (x ∷ xs) (y ∷ ys) e =
    let parts = both-true (int_eq x y) (same_numbers xs ys) e in
    ap (λ z. z ∷ xs) (equal-numbers x y parts.0) ∙ ap (λ zs. y ∷ zs) (same-numbers xs ys parts.1)

objective-holds : (goal : Goal) (values : List ℤ) (b : Bounds) → objective_fault goal values (Some b) ≡ None → objective goal values ≡ numbers_in b
objective-holds goal values b e = by (same_numbers (objective goal values) (numbers_in b)) refl e
  where
    by : (t : Bool) → same_numbers (objective goal values) (numbers_in b) ≡ t → (if t then None else Some why.Objective) ≡ None → objective goal values ≡ numbers_in b
    by true is f = same-numbers (objective goal values) (numbers_in b) is
    by false is f = absurd (none-of why.Objective f)

-- no fault behind the values
pub record NoFault (model : Model) (values : List ℤ) (b : Option Bounds) : Type 0 where
  pub inside : in_domains model.decls values ≡ true
  pub unbroken : first_broken values model.stmts ≡ None
  pub objective : objective_fault model.goal values b ≡ None

no-fault : (model : Model) (s : Standing) → values_fault model s ≡ None → NoFault model s.values (stated s.verdict)
no-fault model s e = by (in_domains model.decls s.values) refl e
  where
    broken : (o : Option ℕ) → first_broken s.values model.stmts ≡ o → statement_fault o (objective_fault model.goal s.values (stated s.verdict)) ≡ None
        → in_domains model.decls s.values ≡ true → NoFault model s.values (stated s.verdict)
    broken None is f inside = record { inside = inside; unbroken = is; objective = f }
    broken (Some n) is f inside = absurd (none-of (why.Statement n) f)

    by : (t : Bool) → in_domains model.decls s.values ≡ t
        → (if t then statement_fault (first_broken s.values model.stmts) (objective_fault model.goal s.values (stated s.verdict)) else Some why.Value) ≡ None
        → NoFault model s.values (stated s.verdict)
    by true is f = broken (first_broken s.values model.stmts) refl f is
    by false is f = absurd (none-of why.Value f)

solution : (model : Model) (values : List ℤ) (b : Option Bounds) → NoFault model values b → IsSolution model values
solution model values b h = record { in_domains = h.inside; holds = (first_broken-none values model.stmts).0 (ap is_some h.unbroken) }

answer-holds : (model : Model) (values : List ℤ) (v : Verdict) → HasAnswer v → NoFault model values (stated v) → AnswerHolds model v (answer_of v values)
answer-holds model values Satisfiable has h = solution model values None h
answer-holds model values Unsatisfiable has h = absurd has
answer-holds model values (Optimum b) has h = record { solution = solution model values (Some b) h; objective = objective-holds model.goal values b h.objective }
answer-holds model values (Unknown n None) has h = absurd has
answer-holds model values (Unknown n (Some b)) has h = record { solution = solution model values (Some b) h; objective = objective-holds model.goal values b h.objective }

-- an answer is there where the verdict has one
has-some : (v : Verdict) (values : List ℤ) → HasAnswer v → answer_of v values ≡ None → ⊥
has-some Satisfiable values has e = none-some values e
  where
    none-some : (values : List ℤ) → Some values ≡ None → ⊥
    none-some values e = cc
has-some Unsatisfiable values has e = absurd has
has-some (Optimum b) values has e = none-some values e
  where
    none-some : (values : List ℤ) → Some values ≡ None → ⊥
    none-some values e = cc
has-some (Unknown n None) values has e = absurd has
has-some (Unknown n (Some b)) values has e = none-some values e
  where
    none-some : (values : List ℤ) → Some values ≡ None → ⊥
    none-some values e = cc

pub answered : (model : Model) (s : Standing) → HasAnswer s.verdict → IsFitting model s.verdict → FitValues s.values → values_fault model s ≡ None → is_certified s.verdict ≡ true → IsAnswered model s.verdict s.values
answered model s has fitting values fault certified = record {
  fitting = fitting;
  holds = answer-holds model s.values s.verdict has (no-fault model s fault);
  fit = values;
  none = λ e. absurd (has-some s.verdict s.values has e);
  certified = certified;
}

pub answered-alone : (model : Model) (s : Standing) → HasAnswer s.verdict → values_fault model s ≡ None → AnswerHolds model s.verdict (answer_of s.verdict s.values)
answered-alone model s has fault = answer-holds model s.values s.verdict has (no-fault model s fault)
