-- The solutions of a file's model are the assignments that satisfy the file.
use Rattle.std.proofs.Common.{arith, ◌≡◌, ℕ, zero, suc, ◌+◌, ℤ, pos, negsuc, ◌≤ℤ◌, Bool, true, false, List, [], ◌∷◌, ◌++◌, map, length, refl, ap, sym, subst, ◌∙◌, Option, Some, None}
use Rattle.std.proofs.lemmas.Int.{ints}
use Rattle.std.proofs.lemmas.Bool.{false≢true, and_parts}
use Rattle.model_meaning.specs.declared.model.Kind.TheVariants as kind
use Rattle.model_meaning.specs.declared.model.Decl.{Decl}
use Rattle.model_meaning.specs.Terms.{as_number}
use Rattle.model_meaning.specs.Integers.{is_member}
use Rattle.model_meaning.specs.Domains.{domain, in_domains}
use Rattle.model_meaning.specs.Solutions.{AllHold, IsSolution}
use Rattle.model_meaning.proofs.DomainLaws.{Decides-domain}
use Rattle.opb_front.specs.declared.items.Constraint.{Constraint}
use Rattle.opb_front.specs.declared.items.Objective.{Objective}
use Rattle.opb_front.specs.declared.items.Opb.{Opb}
use Rattle.opb_front.specs.Grammar.{ObjectiveFits, SumsFit}
use Rattle.opb_front.specs.Fits.{OpbFits, TermsFit, ConstraintsFit, objective_terms}
use Rattle.opb_front.specs.Solutions.{sum_of, AreMet, costs}
use Rattle.opb_model.specs.Models.{variables_from, cost, cost_decls, cost_stmts, constraint_stmts, first_constraint, opb_model}
use Rattle.opb_model.specs.Meaning.{SolvesAs}
use Rattle.opb_model.specs.Laws.{SolutionsAreThose}
use Rattle.opb_model.proofs.Sums.{constraints-same, cost-same, within}

-- The values of Booleans are truth values.

bit : (v : ℤ) → (pos 0 ≤ℤ v) → (v ≤ℤ pos 1) → (x : Bool) × (v ≡ as_number x)
bit (pos zero) h k = (false, refl)
bit (pos (suc zero)) h k = (true, refl)
bit (pos (suc (suc n))) h k = absurd (omega (arith, ints, h, k))
bit (negsuc n) h k = absurd (omega (arith, ints, h, k))

boolean : (v : ℤ) → is_member v (domain kind.Bool) ≡ true → (x : Bool) × (v ≡ as_number x)
unfolding domain
boolean v h =
    let p = (Decides-domain (pos 0) (pos 1) v).0 h in
    bit v p.0 p.1

as-member : (x : Bool) → is_member (as_number x) (domain kind.Bool) ≡ true
unfolding domain
as-member true = refl
as-member false = refl

-- the first values, of the variables, as truth values, and those behind
record Split (n : ℕ) (ds : List Decl) (a : List ℤ) : Type 0 where
  truths : List Bool
  rest : List ℤ
  count : length truths ≡ n
  same : a ≡ map as_number truths ++ rest
  domains : in_domains ds rest ≡ true

split : (index n : ℕ) (ds : List Decl) (a : List ℤ) → in_domains (variables_from index n ++ ds) a ≡ true → Split n ds a
split index zero ds a h = record { truths = []; rest = a; count = refl; same = refl; domains = h }
split index (suc n) ds [] h = absurd (false≢true h)
split index (suc n) ds (v ∷ a) h =
    let p = and_parts (is_member v (domain kind.Bool)) (in_domains (variables_from (index + 1) n ++ ds) a) h in
    let q = split (index + 1) n ds a p.1 in
    let x = boolean v p.0 in
    let count = q.count in
    let first = x.1 in
    let behind = q.same in
    record {
      truths = x.0 ∷ q.truths;
      rest = q.rest;
      count = omega (arith, count);
      same = λ i. first i ∷ behind i;
      domains = q.domains;
    }

joined : (index n : ℕ) (ds : List Decl) (b : List Bool) (r : List ℤ) → length b ≡ n → in_domains ds r ≡ true
    → in_domains (variables_from index n ++ ds) (map as_number b ++ r) ≡ true
joined index zero ds [] r e h = h
joined index zero ds (x ∷ b) r e h = absurd (omega (arith, e))
joined index (suc n) ds [] r e h = absurd (omega (arith, e))
joined index (suc n) ds (x ∷ b) r e h = rw (as-member x) (joined (index + 1) n ds b r (omega (arith, e)) h)

ends : (r : List ℤ) → in_domains [] r ≡ true → r ≡ []
ends [] h = refl
ends (v ∷ r) h = absurd (false≢true h)

alone : (d : Decl) (r : List ℤ) → in_domains (d ∷ []) r ≡ true → (v : ℤ) × (r ≡ v ∷ [])
alone d [] h = absurd (false≢true h)
alone d (v ∷ r) h =
    let p = and_parts (is_member v (domain d.kind)) (in_domains [] r) h in
    (v, ap (λ (l : List ℤ). v ∷ l) (ends r p.1))

-- The two directions, with an objective and without one.

module _ (vars : ℕ) (cs : List Constraint) (fit : ConstraintsFit vars cs) where
  abbrev Solved : Option Objective → List ℤ → Type 0
  Solved o a = (b : List Bool) × (length b ≡ vars) × AreMet b cs × (a ≡ map as_number b ++ costs o b)

  abbrev Holding : Option Objective → List ℤ → Type 0
  Holding o a =
      (in_domains (variables_from 1 vars ++ cost_decls (vars + 1) o) a ≡ true)
      × AllHold a (cost_stmts (vars + 2) vars o ++ constraint_stmts (first_constraint vars o) cs)

  fit-for : (b : List Bool) → length b ≡ vars → ConstraintsFit (length b) cs
  fit-for b e = subst (λ n. ConstraintsFit n cs) (sym e) fit

  solved : (o : Option Objective) (a : List ℤ) → TermsFit vars (objective_terms o) → Holding o a → Solved o a
  solved None a few h =
      let q = split 1 vars [] a h.0 in
      let same : a ≡ map as_number q.truths ++ [] = q.same ∙ ap (λ r. map as_number q.truths ++ r) (ends q.rest q.domains) in
      let holds = subst (λ (x : List ℤ). AllHold x (constraint_stmts (vars + 1) cs)) same h.1 in
      (q.truths, q.count, (constraints-same q.truths [] (vars + 1) cs (fit-for q.truths q.count)).0 holds, same)
  solved (Some o) a few h =
      let q = split 1 vars (cost (vars + 1) o ∷ []) a h.0 in
      let v = alone (cost (vars + 1) o) q.rest q.domains in
      let same : a ≡ map as_number q.truths ++ v.0 ∷ [] = q.same ∙ ap (λ r. map as_number q.truths ++ r) v.1 in
      let holds = subst (λ (x : List ℤ). AllHold x (cost_stmts (vars + 2) vars (Some o) ++ constraint_stmts (vars + 3) cs)) same h.1 in
      let few_here = subst (λ n. TermsFit n o.terms) (sym q.count) few in
      let place = subst (λ n. AllHold (map as_number q.truths ++ v.0 ∷ []) (cost_stmts (vars + 2) n (Some o))) (sym q.count) (holds.0, tt) in
      let cost_is = (cost-same q.truths v.0 (vars + 2) o.terms few_here).0 place.0 in (
        q.truths,
        q.count,
        (constraints-same q.truths (v.0 ∷ []) (vars + 3) cs (fit-for q.truths q.count)).0 holds.1,
        same ∙ ap (λ z. map as_number q.truths ++ z ∷ []) cost_is,
      )

  in-range : (b : List Bool) (o : Objective) → SumsFit o → in_domains (cost (vars + 1) o ∷ []) (sum_of b o.terms ∷ []) ≡ true
  in-range b o h =
      let bounds = within b o.terms in
      let low = subst (λ z. z ≤ℤ sum_of b o.terms) (sym h.low) bounds.0 in
      let high = subst (λ z. sum_of b o.terms ≤ℤ z) (sym h.high) bounds.1 in
      let inside : is_member (sum_of b o.terms) (domain (kind.Range o.low o.high)) ≡ true = (Decides-domain o.low o.high (sum_of b o.terms)).1 (low, high) in
      rw inside refl

  holding : (o : Option Objective) (b : List Bool) → TermsFit vars (objective_terms o) → ObjectiveFits o → length b ≡ vars → AreMet b cs
      → Holding o (map as_number b ++ costs o b)
  holding None b few sums count met =
      (joined 1 vars [] b [] count refl, (constraints-same b [] (vars + 1) cs (fit-for b count)).1 met)
  holding (Some o) b few sums count met =
      let few_here = subst (λ n. TermsFit n o.terms) (sym count) few in
      let first = (cost-same b (sum_of b o.terms) (vars + 2) o.terms few_here).1 refl in
      let place = subst (λ n. AllHold (map as_number b ++ sum_of b o.terms ∷ []) (cost_stmts (vars + 2) n (Some o))) count (first, tt) in (
        joined 1 vars (cost (vars + 1) o ∷ []) b (sum_of b o.terms ∷ []) count (in-range b o sums),
        (place.0, (constraints-same b (sum_of b o.terms ∷ []) (vars + 3) cs (fit-for b count)).1 met),
      )

to-file : (opb : Opb) → OpbFits opb → (a : List ℤ) → IsSolution (opb_model opb) a → SolvesAs opb a
to-file opb fits a h =
    let s = solved opb.vars opb.constraints fits.constraints opb.objective a fits.objective (h.in_domains, h.holds) in
    record { truths = s.0; solves = record { values = s.1; met = s.2 }; numbers = s.3 }

from-file : (opb : Opb) → OpbFits opb → (a : List ℤ) → SolvesAs opb a → IsSolution (opb_model opb) a
from-file opb fits a s =
    let h = holding opb.vars opb.constraints fits.constraints opb.objective s.truths fits.objective fits.sums s.solves.values s.solves.met in
    subst (λ (x : List ℤ). IsSolution (opb_model opb) x) (sym s.numbers) (record { in_domains = h.0; holds = h.1 })

-- Each assignment is one solution.

number-tells : (x y : Bool) → as_number x ≡ as_number y → x ≡ y
number-tells true true e = refl
number-tells false false e = refl
number-tells true false e = absurd (omega (arith, ints, e))
number-tells false true e = absurd (omega (arith, ints, e))

head-tells : (u v : ℤ) (us vs : List ℤ) → u ∷ us ≡ v ∷ vs → (u ≡ v) × (us ≡ vs)
head-tells u v us vs e = (cc, cc)

counted : (b : List Bool) (r : List ℤ) → length (map as_number b ++ r) ≡ length b + length r
counted [] r = omega arith
counted (x ∷ b) r = let e = counted b r in omega (arith, e)

uneven : (b c : List Bool) (r s : List ℤ) → length r ≡ length s → map as_number b ++ r ≡ map as_number c ++ s → length b ≡ length c
uneven b c r s e h =
    let l : length (map as_number b ++ r) ≡ length (map as_number c ++ s) = ap (λ (x : List ℤ). length x) h in
    omega (arith, e, l, counted b r, counted c s)

tell : (b c : List Bool) (r s : List ℤ) → length r ≡ length s → map as_number b ++ r ≡ map as_number c ++ s → b ≡ c
tell [] [] r s e h = refl
tell [] (y ∷ c) r s e h = absurd (omega (arith, uneven [] (y ∷ c) r s e h))
tell (x ∷ b) [] r s e h = absurd (omega (arith, uneven (x ∷ b) [] r s e h))
tell (x ∷ b) (y ∷ c) r s e h =
    let p = head-tells (as_number x) (as_number y) (map as_number b ++ r) (map as_number c ++ s) h in
    let first = number-tells x y p.0 in
    let rest = tell b c r s e p.1 in
    λ i. first i ∷ rest i

costs-count : (o : Option Objective) (b c : List Bool) → length (costs o b) ≡ length (costs o c)
costs-count None b c = refl
costs-count (Some o) b c = refl

pub solutions_are_those : SolutionsAreThose
solutions_are_those opb fits = (
  λ a. (to-file opb fits a, from-file opb fits a),
  λ b c e. tell b c (costs opb.objective b) (costs opb.objective c) (costs-count opb.objective b c) e,
)
