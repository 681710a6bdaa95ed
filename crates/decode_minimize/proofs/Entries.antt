-- What the declared names stand for, as objectives: their ranges, and how many values they have.
use Rattle.std.proofs.Common.{◌≡◌, ℕ, zero, suc, ◌+◌, ◌≤◌, ◌<◌, List, [], ◌∷◌, length, map, refl, sym, ap, ◌∙◌, subst, ℤ, pos, ◌+ℤ◌, ◌-ℤ◌, arith}
use Rattle.std.specs.Prelude.{Some, FitsSigned, if◌then◌else◌, Bool, true, false}
use Rattle.std.specs.Int.{w64}
use Rattle.std.proofs.lemmas.Int.{ints}
use Rattle.order_ints.specs.declared.atom.Atom.{Atom}
use Rattle.order_ints.specs.declared.order_int.OrdInt.{OrdInt}
use Rattle.order_ints.specs.declared.order_int.MapValue.{MapValue}
use Rattle.order_ints.specs.declared.order_int.MapValue.TheVariants as values
use Rattle.order_ints.specs.Numbers.{number_of, numbers_of}
use Rattle.order_ints.specs.OrderLevels.{levels}
use Rattle.order_ints.specs.OrderMade.{constant_of}
use Rattle.order_ints.specs.OrderRange.{weights, AreRising}
use Rattle.order_ints.specs.Place.{StepsBelow}
use Rattle.order_ints.specs.Truth.{Valuation, atom_truth}
use Rattle.order_ints.proofs.PlaceLaws.{AtomBelow-up}
use Rattle.model_meaning.specs.declared.model.Decl.{Decl}
use Rattle.model_meaning.specs.declared.model.Kind.{Kind}
use Rattle.model_meaning.specs.declared.model.Kind.TheVariants as kind
use Rattle.model_meaning.specs.Domains.{numbers_from, at_least_zero, domain}
use Rattle.model_meaning.specs.Limits.{InLimit}
use Rattle.model_meaning.specs.WellTyped.{IsInt, KindFits, DeclsFit, ObjectiveFits}
use Rattle.core_cost.specs.declared.shape.Shape.{Shape}
use Rattle.value_lists.specs.ValueLists.{first_of, last_of, shape_of}
use Rattle.name_map.specs.Fits.{IntegerFits, EntryFits, EntriesFit}
use Rattle.statement_lower.specs.Terms.{integer_at}
use Rattle.model_decode.specs.Short.{IsShort, AreShort}
use Rattle.model_decode.proofs.Ranges.{value-fits}
use Rattle.answer_document.specs.BoundAtoms.{integer_named}
use Rattle.answer_document.specs.Valid.{FitValues}
use Rattle.decode_minimize.specs.Objectives.{IsObjective}
use Rattle.decode_minimize.specs.Solved.{values_count}
use Rattle.decode_minimize.specs.Answers.{values_at}

limit-fits : (z : ℤ) → InLimit z → FitsSigned w64 z
limit-fits z h = omega (arith, ints)

integer-objective : (n : ℕ) (low high : ℤ) (s : Shape) (a : OrdInt) → IntegerFits n low high s a → IsObjective n a
integer-objective n low high s a h = record {
  bounded = h.sound.0;
  least = subst (FitsSigned w64) (sym h.least) (limit-fits low h.low_in_limit);
  greatest = subst (FitsSigned w64) (sym h.greatest) (limit-fits high h.high_in_limit);
  below = h.below;
}

zero-objective : (n : ℕ) → IsObjective n (constant_of (pos 0))
zero-objective n = record { bounded = (omega arith, omega arith); least = omega (arith, ints); greatest = omega (arith, ints); below = tt }

entry-objective : (n : ℕ) (k : Kind) (e : MapValue) → EntryFits n k e → IsObjective n (integer_at (Some e))
entry-objective n kind.Bool (values.Bool a) h = zero-objective n
entry-objective n kind.Bool (values.Int a) h = absurd h
entry-objective n k (values.Bool a) h = zero-objective n
entry-objective n (kind.Range low high) (values.Int a) h = integer-objective n low high _ a h
entry-objective n (kind.Listed vs) (values.Int a) h = integer-objective n (first_of vs) (last_of vs) (shape_of vs) a h

-- each name stands for an integer that may be sought
pub entries-objectives : (n : ℕ) (ds : List Decl) (entries : List MapValue) → EntriesFit n ds entries → (place : ℕ) → IsObjective n (integer_named entries place)
entries-objectives n ds [] h place = zero-objective n
entries-objectives n [] (e ∷ entries) h place = absurd h
entries-objectives n (d ∷ ds) (e ∷ entries) h zero = entry-objective n d.kind e h.0
entries-objectives n (d ∷ ds) (e ∷ entries) h (suc place) = entries-objectives n ds entries h.1 place

steps-up : (n m : ℕ) → n ≤ m → (steps : List (Atom × ℕ)) → StepsBelow n steps → StepsBelow m steps
steps-up n m more [] h = tt
steps-up n m more (s ∷ steps) h = (AtomBelow-up n m more s.0 h.0, steps-up n m more steps h.1)

pub objective-up : (n m : ℕ) (a : OrdInt) → n ≤ m → IsObjective n a → IsObjective m a
objective-up n m a more h = record { bounded = h.bounded; least = h.least; greatest = h.greatest; below = steps-up n m more a.steps h.below }

-- an integer has one value more than steps, and no more steps than its weights
length-levels : (low : ℤ) (x : Atom) (steps : List (Atom × ℕ)) → length (map (λ (level : ℤ × Atom). level.0) (levels low x steps)) ≡ length steps + 1
length-levels low x [] = refl
length-levels low x (s ∷ steps) = omega (arith, length-levels (low +ℤ pos s.1) s.0 steps)

steps-most : (steps : List (Atom × ℕ)) → AreRising steps → length steps ≤ weights steps
steps-most [] h = omega arith
steps-most (s ∷ steps) h = omega (arith, h.0, steps-most steps h.1)

length-numbers_from : (n : ℕ) (low : ℤ) → length (numbers_from n low) ≡ n
length-numbers_from zero low = refl
length-numbers_from (suc n) low = ap suc (length-numbers_from n (low +ℤ pos 1))

-- so an integer of a range has no more values than the range
range-size : (low high : ℤ) (n : ℕ) → high ≡ low +ℤ pos n → at_least_zero (high -ℤ low +ℤ pos 1) ≡ n + 1
range-size low high n e = by (high -ℤ low +ℤ pos 1) (omega (arith, ints, e))
  where
    by : (z : ℤ) → z ≡ pos (n + 1) → at_least_zero z ≡ n + 1
    by z is = ap at_least_zero is

values-length : (a : OrdInt) → values_count a ≡ length a.steps + 1
values-length a = length-levels a.base _ a.steps

range-count : (n : ℕ) (low high : ℤ) (s : Shape) (a : OrdInt) → IntegerFits n low high s a → values_count a ≤ length (domain (kind.Range low high))
unfolding domain
range-count n low high s a h =
    let whole : high ≡ low +ℤ pos (weights a.steps) = omega (arith, ints, h.least, h.greatest) in
    let size = length-numbers_from (at_least_zero (high -ℤ low +ℤ pos 1)) low ∙ range-size low high (weights a.steps) whole in
    omega (arith, size, values-length a, steps-most a.steps h.sound.1)

listed-steps : (n : ℕ) (vs : List ℤ) (a : OrdInt) → IntegerFits n (first_of vs) (last_of vs) (shape_of vs) a → 0 < length vs → length a.steps + 1 ≡ length vs
listed-steps n [] a h some = absurd (omega (arith, some))
listed-steps n (v ∷ vs) a h some = omega (arith, ap (λ s. s.steps) h.shape)

listed-count : (n : ℕ) (vs : List ℤ) (a : OrdInt) → IntegerFits n (first_of vs) (last_of vs) (shape_of vs) a → 0 < length vs → values_count a ≤ length (domain (kind.Listed vs))
unfolding domain
listed-count n vs a h some = omega (arith, values-length a, listed-steps n vs a h some)

entry-count : (n : ℕ) (k : Kind) (e : MapValue) → IsInt k → KindFits k → EntryFits n k e → values_count (integer_at (Some e)) ≤ length (domain k)
entry-count n kind.Bool e i fits h = absurd i
entry-count n (kind.Range low high) (values.Bool a) i fits h = absurd h
entry-count n (kind.Range low high) (values.Int a) i fits h = range-count n low high _ a h
entry-count n (kind.Listed vs) (values.Bool a) i fits h = absurd h
entry-count n (kind.Listed vs) (values.Int a) i fits h = listed-count n vs a h fits.0

pub count-at : (n k : ℕ) (ds : List Decl) (entries : List MapValue) → DeclsFit k ds → EntriesFit n ds entries → (place : ℕ) → ObjectiveFits ds place → values_count (integer_named entries place) ≤ values_at ds place
count-at n k [] entries fits h place o = absurd o
count-at n k (d ∷ ds) [] fits h place o = absurd h
count-at n k (d ∷ ds) (e ∷ entries) fits h zero o = entry-count n d.kind e o fits.1.1.1.0 h.0
count-at n k (d ∷ ds) (e ∷ entries) fits h (suc place) o = count-at n (d.number + 1) ds entries fits.1.1.1.1 h.1 place o

-- numbers of 64 bits
number-fits : (σ : Valuation) (v : MapValue) → IsShort v → FitsSigned w64 (number_of σ v)
number-fits σ (values.Bool a) h = by (atom_truth σ a)
  where
    by : (b : Bool) → FitsSigned w64 (if b then pos 1 else pos 0)
    by true = omega (arith, ints)
    by false = omega (arith, ints)
number-fits σ (values.Int a) h = value-fits σ a h.0 h.1

pub numbers-fit : (σ : Valuation) (entries : List MapValue) → AreShort entries → FitValues (numbers_of σ entries)
numbers-fit σ [] h = tt
numbers-fit σ (v ∷ entries) h = (number-fits σ v h.0, numbers-fit σ entries h.1)
