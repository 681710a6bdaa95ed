-- The integers of terms have exactly the shapes that weights count.
use Rattle.std.proofs.Common.{◌≡◌, ℕ, zero, suc, ◌+◌, ◌*◌, ◌<◌, ℤ, pos, negsuc, Bool, true, false, not, List, [], ◌∷◌, ◌++◌, length, map, Some, refl, sym, ap, ap₂, ◌∙◌, arith}
use Rattle.std.specs.Prelude.{slice_get, ◌-ℤ◌, ◌==◌, if◌then◌else◌}
use Rattle.std.specs.List.{zip}
use Rattle.std.proofs.lemmas.Bool.{false≢true, eqb-true}
use Rattle.std.proofs.lemmas.Int.{ints}
use Rattle.order_ints.specs.declared.atom.Atom.{Atom}
use Rattle.order_ints.specs.declared.order_int.OrdInt.{OrdInt}
use Rattle.order_ints.specs.declared.order_int.MapValue.{MapValue}
use Rattle.order_ints.specs.declared.order_int.MapValue.TheVariants as entry
use Rattle.order_ints.specs.OrderRange.{weights, low_of, high_of}
use Rattle.order_ints.specs.OrderMade.{integer_of_atom}
use Rattle.order_ints.specs.OrderChange.{negated_of, multiplied_of, scaled_of}
use Rattle.order_ints.proofs.Negation.{weights-negated}
use Rattle.order_ints.proofs.Multiples.{weights-multiplied}
use Rattle.core_cost.specs.declared.shape.Shape.{Shape}
use Rattle.core_cost.specs.Divisor.{common_divisor_of}
use Rattle.core_cost.specs.Sums.{unit_steps, cost_of_sum}
use Rattle.core_forms.specs.Shapes.{divisor_of, steps_of, shape_of, shapes_of, numbers_of_steps, pairs_of_steps}
use Rattle.core_forms.specs.Cost.{cost_of}
use Rattle.model_meaning.specs.declared.model.Decl.{Decl}
use Rattle.model_meaning.specs.declared.model.Kind.{Kind}
use Rattle.model_meaning.specs.declared.model.Kind.TheVariants as kind
use Rattle.model_meaning.specs.declared.what.BoolTerm.{BoolTerm}
use Rattle.model_meaning.specs.declared.what.IntTerm.{IntTerm}
use Rattle.model_meaning.specs.declared.what.IntTerm.TheVariants as int_term
use Rattle.model_meaning.specs.declared.statement.Relation.TheVariants as relation
use Rattle.model_meaning.specs.Domains.{at_least_zero}
use Rattle.model_meaning.specs.WellTyped.{IsInt, IsNumberAt, NumberFits, NumbersFit}
use Rattle.statement_lower.specs.Terms.{atom_of, atoms_of, integer_at, integer_of, integers_of}
use Rattle.statement_lower.specs.Linear.{scaled_each, has_steps, with_steps, linear_members, equal_sum}
use Rattle.model_weight.specs.Shapes as counted
use Rattle.model_weight.specs.Statements.{truth_steps}
use Rattle.model_weight.specs.Linear as linear
use Rattle.model_weight.proofs.Spans.{kind-steps}
use Rattle.weight_laws.proofs.Divisors.{divisor-negated, divisor-multiplied}
use Rattle.weight_laws.proofs.Integers.{EntryIs, EntriesAre, length-negated, length-multiplied, not-nothing}

-- The shape of an integer with one step, of minus an integer, and of a multiple.

one-common : common_divisor_of 1 0 ≡ 1
unfolding common_divisor_of
one-common = refl

pub shape-bit : (a : Atom) → shape_of (integer_of_atom a) ≡ unit_steps 1
shape-bit a = ap (λ (d : ℕ). record { steps = 1; span = 1; divisor = d }) one-common

pub shape-negated : (a : OrdInt) → shape_of (negated_of a) ≡ shape_of a
shape-negated a =
    let steps = length-negated a.steps in
    let span = weights-negated a.steps in
    let divisor = divisor-negated a.steps in
    λ i. record { steps = steps i; span = span i; divisor = divisor i }

shape-multiplied : (k : ℕ) (a : OrdInt) → 0 < k → shape_of (multiplied_of k a) ≡ record { steps = steps_of a; span = k * weights a.steps; divisor = k * divisor_of a.steps }
shape-multiplied k a some =
    let steps = length-multiplied k a.steps in
    let span = weights-multiplied k a.steps in
    let divisor = divisor-multiplied k a.steps some in
    λ i. record { steps = steps i; span = span i; divisor = divisor i }

shape-scaled : (c : ℤ) (a : OrdInt) → shape_of (scaled_of a c) ≡ linear.scaled c (shape_of a)
shape-scaled (pos zero) a = refl
shape-scaled (pos (suc n)) a = rw (not-nothing (pos (suc n)) (λ e. omega (arith, ints, e))) (shape-multiplied (suc n) a (omega arith))
shape-scaled (negsuc n) a =
    shape-multiplied (suc n) (negated_of a) (omega arith)
    ∙ ap (λ (s : Shape). record { steps = s.steps; span = suc n * s.span; divisor = suc n * s.divisor }) (shape-negated a)

-- An integer has its domain's shape, and its least and greatest value, as far as they are not negative.
pub record IsExact (k : Kind) (a : OrdInt) : Type 0 where
  pub shape : shape_of a ≡ counted.shape_of k
  pub least : at_least_zero (low_of a) ≡ counted.least_of k
  pub greatest : at_least_zero (high_of a) ≡ counted.greatest_of k

pub exact-steps : (k : Kind) (a : OrdInt) → IsExact k a → steps_of a ≡ counted.steps_of k
exact-steps k a h = ap (λ (s : Shape). s.steps) h.shape ∙ kind-steps k

exact-entry : (k : Kind) (e : MapValue) → EntryIs k e → IsInt k → IsExact k (integer_at (Some e))
exact-entry kind.Bool e h i = absurd i
exact-entry (kind.Range low high) (entry.Bool a) h i = absurd h
exact-entry (kind.Range low high) (entry.Int a) h i = record { shape = h.shape; least = ap at_least_zero h.least; greatest = ap at_least_zero h.greatest }
exact-entry (kind.Listed vs) (entry.Bool a) h i = absurd h
exact-entry (kind.Listed vs) (entry.Int a) h i = record { shape = h.shape; least = ap at_least_zero h.least; greatest = ap at_least_zero h.greatest }

exact-at : (n : ℕ) (ds more : List Decl) (entries : List MapValue) (p : ℕ) → EntriesAre ds entries → IsNumberAt ds n p
    → IsExact (counted.domain_at (slice_get (ds ++ more) p)) (integer_at (slice_get entries p))
exact-at n [] more entries p h k = absurd k
exact-at n (d ∷ ds) more [] p h k = absurd h
exact-at n (d ∷ ds) more (e ∷ entries) zero h k = exact-entry d.kind e h.0 k.1
exact-at n (d ∷ ds) more (e ∷ entries) (suc p) h k = exact-at n ds more entries p h.1 k

-- the integer of each well-typed term, where more is declared behind
pub exact-term : (n : ℕ) (ds more : List Decl) (entries : List MapValue) → EntriesAre ds entries → (i : IntTerm) → NumberFits ds n i
    → IsExact (counted.domain_of (ds ++ more) i) (integer_of entries i)
exact-term n ds more entries h (int_term.Number z) k = record {
  shape = let none : z -ℤ z ≡ pos 0 = omega (arith, ints) in rw none refl;
  least = refl;
  greatest = let e : high_of (integer_of entries (int_term.Number z)) ≡ z = omega (arith, ints) in ap at_least_zero e;
}
exact-term n ds more entries h (int_term.Of p) k = exact-at n ds more entries p h k

-- Lists of integers.

pub bits-same : (entries : List MapValue) (xs ys : List BoolTerm)
    → pairs_of_steps (map integer_of_atom (atoms_of entries xs)) (map integer_of_atom (atoms_of entries ys)) ≡ zip (truth_steps xs) (truth_steps ys)
bits-same entries [] ys = refl
bits-same entries (x ∷ xs) [] = refl
bits-same entries (x ∷ xs) (y ∷ ys) = ap (λ (ps : List (ℕ × ℕ)). (1, 1) ∷ ps) (bits-same entries xs ys)

pub truths-same : (entries : List MapValue) (cs : List ℤ) (xs : List BoolTerm)
    → shapes_of (scaled_each cs (map integer_of_atom (atoms_of entries xs))) ≡ linear.scaled_truths cs xs
truths-same entries [] xs = refl
truths-same entries (c ∷ cs) [] = refl
truths-same entries (c ∷ cs) (x ∷ xs) =
    let a : OrdInt = integer_of_atom (atom_of entries x) in
    let first : shape_of (scaled_of a c) ≡ linear.scaled c (unit_steps 1) = shape-scaled c a ∙ ap (λ (s : Shape). linear.scaled c s) (shape-bit (atom_of entries x)) in
    ap₂ (λ (s : Shape) (ss : List Shape). s ∷ ss) first (truths-same entries cs xs)

module _ (n : ℕ) (ds more : List Decl) (entries : List MapValue) (h : EntriesAre ds entries) where
  pub steps-same : (i : IntTerm) → NumberFits ds n i → steps_of (integer_of entries i) ≡ counted.steps_in (ds ++ more) i
  steps-same i k = exact-steps (counted.domain_of (ds ++ more) i) (integer_of entries i) (exact-term n ds more entries h i k)

  pub shape-same : (i : IntTerm) → NumberFits ds n i → shape_of (integer_of entries i) ≡ counted.shape_in (ds ++ more) i
  shape-same i k = (exact-term n ds more entries h i k).shape

  pub numbers-same : (is : List IntTerm) → NumbersFit ds n is → numbers_of_steps (integers_of entries is) ≡ counted.all_steps (ds ++ more) is
  numbers-same [] k = refl
  numbers-same (i ∷ is) k = ap₂ (λ (s : ℕ) (ss : List ℕ). s ∷ ss) (steps-same i k.0) (numbers-same is k.1)

  pub pairs-same : (is js : List IntTerm) → NumbersFit ds n is → NumbersFit ds n js
      → pairs_of_steps (integers_of entries is) (integers_of entries js) ≡ zip (counted.all_steps (ds ++ more) is) (counted.all_steps (ds ++ more) js)
  pairs-same [] js k l = refl
  pairs-same (i ∷ is) [] k l = refl
  pairs-same (i ∷ is) (j ∷ js) k l =
      let first = steps-same i k.0 in
      let second = steps-same j l.0 in
      let rest = pairs-same is js k.1 l.1 in
      λ t. (first t, second t) ∷ rest t

  pub shapes-same : (is : List IntTerm) → NumbersFit ds n is → shapes_of (integers_of entries is) ≡ linear.numbers (ds ++ more) is
  shapes-same [] k = refl
  shapes-same (i ∷ is) k = ap₂ (λ (s : Shape) (ss : List Shape). s ∷ ss) (shape-same i k.0) (shapes-same is k.1)

  pub multiples-same : (cs : List ℤ) (is : List IntTerm) → NumbersFit ds n is → shapes_of (scaled_each cs (integers_of entries is)) ≡ linear.scaled_numbers (ds ++ more) cs is
  multiples-same [] is k = refl
  multiples-same (c ∷ cs) [] k = refl
  multiples-same (c ∷ cs) (i ∷ is) k =
      let a : OrdInt = integer_of entries i in
      let first : shape_of (scaled_of a c) ≡ linear.scaled c (counted.shape_in (ds ++ more) i) = shape-scaled c a ∙ ap (λ (s : Shape). linear.scaled c s) (shape-same i k.0) in
      ap₂ (λ (s : Shape) (ss : List Shape). s ∷ ss) first (multiples-same cs is k.1)

-- Sums that are equal to a right side.

shapes-append : (xs ys : List OrdInt) → shapes_of (xs ++ ys) ≡ shapes_of xs ++ shapes_of ys
shapes-append [] ys = refl
shapes-append (x ∷ xs) ys = ap (λ (ss : List Shape). shape_of x ∷ ss) (shapes-append xs ys)

never-zero : (n : ℕ) (b : Bool) → (suc n == 0) ≡ b → b ≡ false
never-zero n true e = absurd (omega (arith, eqb-true (suc n) 0 e))
never-zero n false e = refl

some-steps : (steps : List (Atom × ℕ)) → has_steps steps ≡ not (length steps == 0)
some-steps [] = refl
some-steps (s ∷ steps) = ap not (sym (never-zero (length steps) (suc (length steps) == 0) refl))

with_steps-same : (ints : List OrdInt) → shapes_of (with_steps ints) ≡ linear.with_steps (shapes_of ints)
with_steps-same [] = refl
with_steps-same (a ∷ ints) = by_tests (has_steps a.steps) (length a.steps == 0) (some-steps a.steps) (with_steps-same ints)
  where
    by_tests : (b c : Bool) → b ≡ not c → shapes_of (with_steps ints) ≡ linear.with_steps (shapes_of ints)
        → shapes_of (if b then a ∷ with_steps ints else with_steps ints) ≡ (if c then linear.with_steps (shapes_of ints) else shape_of a ∷ linear.with_steps (shapes_of ints))
    by_tests true true e rest = absurd (false≢true (sym e))
    by_tests true false e rest = ap (λ (ss : List Shape). shape_of a ∷ ss) rest
    by_tests false true e rest = rest
    by_tests false false e rest = absurd (false≢true e)

pub equal-sum-same : (ints : List OrdInt) (shapes : List Shape) (a : OrdInt) (right : Shape) → shapes_of ints ≡ shapes → shape_of a ≡ right
    → cost_of (equal_sum ints a) ≡ linear.weight_of_linear relation.Eq shapes right
equal-sum-same ints shapes a right e f =
    let members : List OrdInt = linear_members ints a in
    let same : shapes_of members ≡ shapes ++ right ∷ [] =
    shapes-append ints (negated_of a ∷ []) ∙ ap₂ (λ (ss : List Shape) (s : Shape). ss ++ s ∷ []) e (shape-negated a ∙ f) in
    ap (λ (ss : List Shape). cost_of_sum ss) (with_steps-same members ∙ ap (λ (ss : List Shape). linear.with_steps ss) same)
