-- Lists of integers have the shapes that weights count.
use Rattle.std.proofs.Common.{◌≡◌, ℕ, suc, ◌<◌, ◌≤◌, ℤ, Bool, true, false, List, [], ◌∷◌, ◌++◌, length, map, refl, ap, arith}
use Rattle.std.specs.Prelude.{◌==◌, if◌then◌else◌}
use Rattle.std.specs.List.{zip}
use Rattle.std.proofs.lemmas.Bool.{eqb-true}
use Rattle.std.proofs.lemmas.Bool.Decides.{nat_tests}
use Rattle.order_ints.specs.declared.atom.Atom.{Atom}
use Rattle.order_ints.specs.declared.order_int.OrdInt.{OrdInt}
use Rattle.order_ints.specs.declared.order_int.MapValue.{MapValue}
use Rattle.order_ints.specs.OrderMade.{integer_of_atom}
use Rattle.order_ints.specs.OrderChange.{negated_of}
use Rattle.core_cost.specs.declared.shape.Shape.{Shape}
use Rattle.core_cost.specs.Sums.{unit_steps}
use Rattle.core_cost.specs.Relations.{AreWithin, AreAtMost, PairsAreAtMost}
use Rattle.core_forms.specs.Shapes.{steps_of, shapes_of, numbers_of_steps, pairs_of_steps}
use Rattle.model_meaning.specs.declared.model.Decl.{Decl}
use Rattle.model_meaning.specs.declared.what.BoolTerm.{BoolTerm}
use Rattle.model_meaning.specs.declared.what.IntTerm.{IntTerm}
use Rattle.model_meaning.specs.WellTyped.{NumberFits, NumbersFit}
use Rattle.statement_lower.specs.Terms.{atom_of, atoms_of, integer_of, integers_of}
use Rattle.statement_lower.specs.Linear.{scaled_each, has_steps, with_steps}
use Rattle.model_weight.specs.Shapes.{steps_in, shape_in, all_steps, domain_of}
use Rattle.model_weight.specs.Statements.{truth_steps}
use Rattle.model_weight.specs.Linear as linear
use Rattle.weight_laws.proofs.Integers.{EntriesAre, IsLike, integer-in, steps-in, like-term, like-shape, like-units, like-bit, like-scaled, length-negated}

-- Numbers of steps.

module _ (ds more : List Decl) (entries : List MapValue) (h : EntriesAre ds entries) where
  pub few-steps : (i : IntTerm) → steps_of (integer_of entries i) ≤ steps_in (ds ++ more) i
  few-steps i = steps-in (domain_of (ds ++ more) i) (integer_of entries i) (integer-in ds more entries h i)

  pub numbers-few : (is : List IntTerm) → AreAtMost (numbers_of_steps (integers_of entries is)) (all_steps (ds ++ more) is)
  numbers-few [] = tt
  numbers-few (i ∷ is) = (few-steps i, numbers-few is)

  pub pairs-few : (is js : List IntTerm)
      → PairsAreAtMost (pairs_of_steps (integers_of entries is) (integers_of entries js)) (zip (all_steps (ds ++ more) is) (all_steps (ds ++ more) js))
  pairs-few [] js = tt
  pairs-few (i ∷ is) [] = tt
  pairs-few (i ∷ is) (j ∷ js) = (few-steps i, (few-steps j, pairs-few is js))

pub negated-steps : (a : OrdInt) → steps_of (negated_of a) ≡ steps_of a
negated-steps a = length-negated a.steps

pub numbers-negated : (ints : List OrdInt) → numbers_of_steps (map negated_of ints) ≡ numbers_of_steps ints
numbers-negated [] = refl
numbers-negated (a ∷ ints) = rw (negated-steps a, numbers-negated ints) refl

pub bits-few : (entries : List MapValue) (xs ys : List BoolTerm)
    → PairsAreAtMost (pairs_of_steps (map integer_of_atom (atoms_of entries xs)) (map integer_of_atom (atoms_of entries ys))) (zip (truth_steps xs) (truth_steps ys))
bits-few entries [] ys = tt
bits-few entries (x ∷ xs) [] = tt
bits-few entries (x ∷ xs) (y ∷ ys) = (omega arith, (omega arith, bits-few entries xs ys))

-- Shapes.

-- each integer is like the shape at its place
abbrev pub AreLike : List OrdInt → List Shape → Type 0
AreLike [] [] = Unit {0}
AreLike [] (s ∷ shapes) = ⊥
AreLike (a ∷ ints) [] = ⊥
AreLike (a ∷ ints) (s ∷ shapes) = IsLike a s × AreLike ints shapes

pub within-like : (ints : List OrdInt) (shapes : List Shape) → AreLike ints shapes → AreWithin (shapes_of ints) shapes
within-like [] [] h = tt
within-like [] (s ∷ shapes) h = absurd h
within-like (a ∷ ints) [] h = absurd h
within-like (a ∷ ints) (s ∷ shapes) h = (like-shape a s h.0, (h.0.within, within-like ints shapes h.1))

pub length-like : (ints : List OrdInt) (shapes : List Shape) → AreLike ints shapes → length ints ≡ length shapes
length-like [] [] h = refl
length-like [] (s ∷ shapes) h = absurd h
length-like (a ∷ ints) [] h = absurd h
length-like (a ∷ ints) (s ∷ shapes) h = ap suc (length-like ints shapes h.1)

pub like-append : (ints others : List OrdInt) (shapes more : List Shape) → AreLike ints shapes → AreLike others more → AreLike (ints ++ others) (shapes ++ more)
like-append [] others [] more h k = k
like-append [] others (s ∷ shapes) more h k = absurd h
like-append (a ∷ ints) others [] more h k = absurd h
like-append (a ∷ ints) others (s ∷ shapes) more h k = (h.0, like-append ints others shapes more h.1 k)

-- those with steps stand at the same places in both lists

no-step : (steps : List (Atom × ℕ)) → has_steps steps ≡ false → length steps ≡ 0
no-step [] e = refl
no-step (s ∷ steps) e = absurd (cc)

some-step : (steps : List (Atom × ℕ)) → has_steps steps ≡ true → 0 < length steps
some-step [] e = absurd (cc)
some-step (s ∷ steps) e = omega arith

is-zero : (n : ℕ) → (n == 0) ≡ true → n ≡ 0
is-zero n e = eqb-true n 0 e

not-zero : (n : ℕ) → (n == 0) ≡ false → 0 < n
not-zero n e = grind (arith, nat_tests)

pub like-with_steps : (ints : List OrdInt) (shapes : List Shape) → AreLike ints shapes → AreLike (with_steps ints) (linear.with_steps shapes)
like-with_steps [] [] h = tt
like-with_steps [] (s ∷ shapes) h = absurd h
like-with_steps (a ∷ ints) [] h = absurd h
like-with_steps (a ∷ ints) (s ∷ shapes) h = by_tests (has_steps a.steps) (s.steps == 0) refl refl (like-with_steps ints shapes h.1)
  where
    by_tests : (b c : Bool) → has_steps a.steps ≡ b → (s.steps == 0) ≡ c → AreLike (with_steps ints) (linear.with_steps shapes)
        → AreLike (if b then a ∷ with_steps ints else with_steps ints) (if c then linear.with_steps shapes else s ∷ linear.with_steps shapes)
    by_tests true true e f rest = absurd (omega (arith, h.0.within.steps, is-zero s.steps f, some-step a.steps e))
    by_tests true false e f rest = (h.0, rest)
    by_tests false true e f rest = rest
    by_tests false false e f rest = absurd (omega (arith, h.0.some (not-zero s.steps f), no-step a.steps e))

-- the members of sums

pub like-bits : (entries : List MapValue) (cs : List ℤ) (xs : List BoolTerm) → AreLike (scaled_each cs (map integer_of_atom (atoms_of entries xs))) (linear.scaled_truths cs xs)
like-bits entries [] xs = tt
like-bits entries (c ∷ cs) [] = tt
like-bits entries (c ∷ cs) (x ∷ xs) = (like-scaled c (integer_of_atom (atom_of entries x)) (unit_steps 1) (like-bit (atom_of entries x)), like-bits entries cs xs)

module _ (n : ℕ) (ds more : List Decl) (entries : List MapValue) (h : EntriesAre ds entries) where
  pub like-integer : (i : IntTerm) → NumberFits ds n i → IsLike (integer_of entries i) (shape_in (ds ++ more) i)
  like-integer i k = like-term n ds more entries h i k

  pub like-integers : (is : List IntTerm) → NumbersFit ds n is → AreLike (integers_of entries is) (linear.numbers (ds ++ more) is)
  like-integers [] k = tt
  like-integers (i ∷ is) k = (like-integer i k.0, like-integers is k.1)

  pub like-multiples : (cs : List ℤ) (is : List IntTerm) → NumbersFit ds n is → AreLike (scaled_each cs (integers_of entries is)) (linear.scaled_numbers (ds ++ more) cs is)
  like-multiples [] is k = tt
  like-multiples (c ∷ cs) [] k = tt
  like-multiples (c ∷ cs) (i ∷ is) k = (like-scaled c (integer_of entries i) (shape_in (ds ++ more) i) (like-integer i k.0), like-multiples cs is k.1)
