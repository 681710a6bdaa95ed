-- The integers of terms have the shapes that weights count.
use Rattle.std.proofs.Common.{◌≡◌, ℕ, zero, suc, ◌*◌, ◌<◌, ◌≤◌, ℤ, pos, negsuc, Bool, true, false, ◌+ℤ◌, List, [], ◌∷◌, ◌++◌, length, map, Some, ◌⊎◌, inl, inr, refl, ap, subst, ◌∙◌, arith}
use Rattle.std.specs.Prelude.{slice_get, ◌-ℤ◌, reverse}
use Rattle.std.specs.Bool.{Decides}
use Rattle.std.specs.Ordering.{int_eq}
use Rattle.std.proofs.lemmas.Bool.Decides.{Decides-int_eq}
use Rattle.std.proofs.lemmas.Int.{ints}
use Rattle.std.proofs.lemmas.List.{length-map, length-reverse}
use Rattle.std.proofs.Math.Nat.{mul-le-mul_left}
use Rattle.order_ints.specs.declared.atom.Atom.{Atom}
use Rattle.order_ints.specs.declared.order_int.OrdInt.{OrdInt}
use Rattle.order_ints.specs.declared.order_int.MapValue.{MapValue}
use Rattle.order_ints.specs.declared.order_int.MapValue.TheVariants as entry
use Rattle.order_ints.specs.OrderRange.{weights, low_of, high_of, AreRising}
use Rattle.order_ints.specs.OrderMade.{constant_of, integer_of_atom}
use Rattle.order_ints.specs.OrderChange.{negated_step, negated_of, multiplied_steps, multiplied_of, scaled_of}
use Rattle.order_ints.proofs.Negation.{weights-negated, AreRising-negated}
use Rattle.order_ints.proofs.Multiples.{weights-multiplied, AreRising-scaled_of}
use Rattle.core_cost.specs.declared.shape.Shape.{Shape}
use Rattle.core_cost.specs.Sums.{unit_steps}
use Rattle.core_cost.specs.Relations.{IsShape, IsWithin}
use Rattle.core_forms.specs.Shapes.{shape_of}
use Rattle.core_forms.proofs.ShapeLaws.{IsShape-of}
use Rattle.model_meaning.specs.declared.model.Decl.{Decl}
use Rattle.model_meaning.specs.declared.model.Kind.{Kind}
use Rattle.model_meaning.specs.declared.model.Kind.TheVariants as kind
use Rattle.model_meaning.specs.declared.what.IntTerm.{IntTerm}
use Rattle.model_meaning.specs.declared.what.IntTerm.TheVariants as int_term
use Rattle.model_meaning.specs.Domains.{at_least_zero}
use Rattle.model_meaning.specs.WellTyped.{IsInt, IsNumberAt, NumberFits}
use Rattle.statement_lower.specs.Terms.{integer_at, integer_of}
use Rattle.name_map.specs.Fits.{EntryFits, EntriesFit}
use Rattle.model_weight.specs.Shapes as counted
use Rattle.model_weight.specs.Linear.{scaled}
use Rattle.std.proofs.lemmas.Nat.Gcd.{dvd_refl, dvd-zero}
use Prim.Native.Nat.{◌∣◌}
use Rattle.value_lists.specs.ValueLists.{first_of, last_of, shape_of as listed_shape}
use Rattle.model_weight.proofs.Spans.{units-span, units-steps, kind-steps}
use Rattle.weight_laws.proofs.Divisors.{divides-negated, divides-multiplied, divides-units, steps-few}

-- An integer of a domain: its steps rise, and its least and greatest value and its shape are the domain's.
pub record IsOf (low high : ℤ) (s : Shape) (a : OrdInt) : Type 0 where
  pub rising : AreRising a.steps
  pub least : low_of a ≡ low
  pub greatest : high_of a ≡ high
  pub shape : shape_of a ≡ s

-- a Boolean has an atom, an integer an integer of its domain
abbrev pub EntryIs : Kind → MapValue → Type 0
EntryIs kind.Bool (entry.Bool a) = Unit {0}
EntryIs kind.Bool (entry.Int a) = ⊥
EntryIs (kind.Range low high) (entry.Bool a) = ⊥
EntryIs (kind.Range low high) (entry.Int a) = IsOf low high (unit_steps (at_least_zero (high -ℤ low))) a
EntryIs (kind.Listed vs) (entry.Bool a) = ⊥
EntryIs (kind.Listed vs) (entry.Int a) = IsOf (first_of vs) (last_of vs) (listed_shape vs) a

-- one entry for each declaration
abbrev pub EntriesAre : List Decl → List MapValue → Type 0
EntriesAre [] [] = Unit {0}
EntriesAre [] (e ∷ entries) = ⊥
EntriesAre (d ∷ ds) [] = ⊥
EntriesAre (d ∷ ds) (e ∷ entries) = EntryIs d.kind e × EntriesAre ds entries

entry-fits : (n : ℕ) (k : Kind) (e : MapValue) → EntryFits n k e → EntryIs k e
entry-fits n kind.Bool (entry.Bool a) h = tt
entry-fits n kind.Bool (entry.Int a) h = absurd h
entry-fits n (kind.Range low high) (entry.Bool a) h = absurd h
entry-fits n (kind.Range low high) (entry.Int a) h = record { rising = h.sound.1; least = h.least; greatest = h.greatest; shape = h.shape }
entry-fits n (kind.Listed vs) (entry.Bool a) h = absurd h
entry-fits n (kind.Listed vs) (entry.Int a) h = record { rising = h.sound.1; least = h.least; greatest = h.greatest; shape = h.shape }

pub entries-fit : (n : ℕ) (ds : List Decl) (entries : List MapValue) → EntriesFit n ds entries → EntriesAre ds entries
entries-fit n [] [] h = tt
entries-fit n [] (e ∷ entries) h = absurd h
entries-fit n (d ∷ ds) [] h = absurd h
entries-fit n (d ∷ ds) (e ∷ entries) h = (entry-fits n d.kind e h.0, entries-fit n ds entries h.1)

-- of unit steps
within-units : (n : ℕ) (a : OrdInt) → AreRising a.steps → weights a.steps ≤ n → IsWithin (shape_of a) (unit_steps n)
within-units n a up h = record {
  steps = omega (arith, units-steps n, steps-few a.steps up, h);
  span = omega (arith, units-span n, h);
  divisor = divides-units n a.steps up h;
}

within-itself : (s t : Shape) → s ≡ t → IsWithin s t
within-itself s t e = subst (IsWithin s) e (record { steps = omega arith; span = omega arith; divisor = dvd_refl s.divisor })

-- the values of an integer are among a domain's: its steps rise, its shape is within the domain's, its greatest value is no
-- more, and its least value, as far as it is not negative, is the domain's or 0
pub record IsIn (k : Kind) (a : OrdInt) : Type 0 where
  pub rising : AreRising a.steps
  pub within : IsWithin (shape_of a) (counted.shape_of k)
  pub least : (at_least_zero (low_of a) ≡ counted.least_of k) ⊎ (at_least_zero (low_of a) ≡ 0)
  pub greatest : at_least_zero (high_of a) ≤ counted.greatest_of k

constant-in : (z : ℤ) → IsIn (kind.Range z z) (constant_of z)
constant-in z = record {
  rising = tt;
  within = within-units (at_least_zero (z -ℤ z)) (constant_of z) tt (omega arith);
  least = inl refl;
  greatest = let e : z +ℤ pos 0 ≡ z = omega (arith, ints) in rw e (omega arith);
}

-- where there is no integer, there is the constant 0
nothing-within : (s : Shape) → s.divisor ∣ 0 → IsWithin (shape_of (constant_of (pos 0))) s
nothing-within s h = record { steps = omega arith; span = omega arith; divisor = h }

nothing-in : (k : Kind) → IsIn k (constant_of (pos 0))
nothing-in k = record { rising = tt; within = nothing-within (counted.shape_of k) (dvd-zero (counted.shape_of k).divisor); least = inr refl; greatest = omega arith }

entry-in : (k : Kind) (e : MapValue) → EntryIs k e → IsIn k (integer_at (Some e))
entry-in kind.Bool (entry.Bool a) h = nothing-in kind.Bool
entry-in kind.Bool (entry.Int a) h = absurd h
entry-in (kind.Range low high) (entry.Bool a) h = absurd h
entry-in (kind.Range low high) (entry.Int a) h =
    let span : high -ℤ low ≡ pos (weights a.steps) = omega (arith, ints, h.least, h.greatest) in
    record {
      rising = h.rising;
      within = within-units (at_least_zero (high -ℤ low)) a h.rising (rw span (omega arith));
      least = inl (ap at_least_zero h.least);
      greatest = rw h.greatest (omega arith);
    }
entry-in (kind.Listed vs) (entry.Bool a) h = absurd h
entry-in (kind.Listed vs) (entry.Int a) h = record {
  rising = h.rising;
  within = within-itself (shape_of a) (listed_shape vs) h.shape;
  least = inl (ap at_least_zero h.least);
  greatest = rw h.greatest (omega arith);
}

at-in : (ds more : List Decl) (entries : List MapValue) (p : ℕ) → EntriesAre ds entries → IsIn (counted.domain_at (slice_get (ds ++ more) p)) (integer_at (slice_get entries p))
at-in [] more [] p h = nothing-in (counted.domain_at (slice_get more p))
at-in [] more (e ∷ entries) p h = absurd h
at-in (d ∷ ds) more [] p h = absurd h
at-in (d ∷ ds) more (e ∷ entries) zero h = entry-in d.kind e h.0
at-in (d ∷ ds) more (e ∷ entries) (suc p) h = at-in ds more entries p h.1

-- the integer of each term, where more is declared behind
pub integer-in : (ds more : List Decl) (entries : List MapValue) → EntriesAre ds entries → (i : IntTerm) → IsIn (counted.domain_of (ds ++ more) i) (integer_of entries i)
integer-in ds more entries h (int_term.Number z) = constant-in z
integer-in ds more entries h (int_term.Of p) = at-in ds more entries p h

pub steps-in : (k : Kind) (a : OrdInt) → IsIn k a → length a.steps ≤ counted.steps_of k
steps-in k a h =
    let within = h.within.steps in
    omega (arith, within, kind-steps k)

-- An integer is like a shape: its own is within it, and it has a step where the shape has one.
pub record IsLike (a : OrdInt) (s : Shape) : Type 0 where
  pub rising : AreRising a.steps
  pub within : IsWithin (shape_of a) s
  pub some : 0 < s.steps → 0 < length a.steps

pub like-shape : (a : OrdInt) (s : Shape) → IsLike a s → IsShape (shape_of a)
like-shape a s h = IsShape-of a h.rising

pub within-in : (k : Kind) (a : OrdInt) → IsIn k a → IsWithin (shape_of a) (counted.shape_of k)
within-in k a h = h.within

no-steps : (steps : List (Atom × ℕ)) → 0 < weights steps → 0 < length steps
no-steps [] h = h
no-steps (s ∷ steps) h = omega arith

pub like-units : (n : ℕ) (a : OrdInt) → AreRising a.steps → weights a.steps ≡ n → IsLike a (unit_steps n)
like-units n a up e = record {
  rising = up;
  within = within-units n a up (omega (arith, e));
  some = λ h. no-steps a.steps (omega (arith, e, h, units-steps n));
}

-- the integer of a well-typed term is like the shape of its domain
like-entry : (k : Kind) (e : MapValue) → EntryIs k e → IsInt k → IsLike (integer_at (Some e)) (counted.shape_of k)
like-entry kind.Bool e h i = absurd i
like-entry (kind.Range low high) (entry.Bool a) h i = absurd h
like-entry (kind.Range low high) (entry.Int a) h i =
    let span : high -ℤ low ≡ pos (weights a.steps) = omega (arith, ints, h.least, h.greatest) in
    like-units (at_least_zero (high -ℤ low)) a h.rising (rw span refl)
like-entry (kind.Listed vs) (entry.Bool a) h i = absurd h
like-entry (kind.Listed vs) (entry.Int a) h i = record {
  rising = h.rising;
  within = within-itself (shape_of a) (listed_shape vs) h.shape;
  some = λ some. let same : length a.steps ≡ (listed_shape vs).steps = ap (λ (s : Shape). s.steps) h.shape in omega (arith, same, some);
}

like-at : (n : ℕ) (ds more : List Decl) (entries : List MapValue) (p : ℕ) → EntriesAre ds entries → IsNumberAt ds n p
    → IsLike (integer_at (slice_get entries p)) (counted.shape_of (counted.domain_at (slice_get (ds ++ more) p)))
like-at n [] more entries p h k = absurd k
like-at n (d ∷ ds) more [] p h k = absurd h
like-at n (d ∷ ds) more (e ∷ entries) zero h k = like-entry d.kind e h.0 k.1
like-at n (d ∷ ds) more (e ∷ entries) (suc p) h k = like-at n ds more entries p h.1 k

pub like-term : (n : ℕ) (ds more : List Decl) (entries : List MapValue) → EntriesAre ds entries → (i : IntTerm) → NumberFits ds n i
    → IsLike (integer_of entries i) (counted.shape_in (ds ++ more) i)
like-term n ds more entries h (int_term.Number z) k =
    let none : z -ℤ z ≡ pos 0 = omega (arith, ints) in like-units (at_least_zero (z -ℤ z)) (constant_of z) tt (rw none refl)
like-term n ds more entries h (int_term.Of p) k = like-at n ds more entries p h k

pub like-bit : (a : Atom) → IsLike (integer_of_atom a) (unit_steps 1)
like-bit a = like-units 1 (integer_of_atom a) (omega arith, tt) refl

pub length-negated : (steps : List (Atom × ℕ)) → length (map negated_step (reverse steps)) ≡ length steps
length-negated steps = length-map (reverse steps) negated_step ∙ length-reverse steps

pub like-negated : (a : OrdInt) (s : Shape) → IsLike a s → IsLike (negated_of a) s
like-negated a s h = record {
  rising = AreRising-negated a.steps h.rising;
  within = record {
    steps = omega (arith, length-negated a.steps, h.within.steps);
    span = omega (arith, weights-negated a.steps, h.within.span);
    divisor = divides-negated s.divisor a.steps h.within.divisor;
  };
  some = λ k. omega (arith, length-negated a.steps, h.some k);
}

pub length-multiplied : (n : ℕ) (steps : List (Atom × ℕ)) → length (multiplied_steps n steps) ≡ length steps
length-multiplied n [] = refl
length-multiplied n (s ∷ steps) = ap suc (length-multiplied n steps)

-- by a factor of at least 1
like-multiplied : (n : ℕ) (a : OrdInt) (s : Shape) → AreRising (multiplied_of n a).steps → IsLike a s
    → IsLike (multiplied_of n a) (record { steps = s.steps; span = n * s.span; divisor = n * s.divisor })
like-multiplied n a s up h = record {
  rising = up;
  within = record {
    steps = omega (arith, length-multiplied n a.steps, h.within.steps);
    span = let e = weights-multiplied n a.steps in rw e (mul-le-mul_left n h.within.span);
    divisor = divides-multiplied n s.divisor a.steps h.within.divisor;
  };
  some = λ k. omega (arith, length-multiplied n a.steps, h.some k);
}

nonzero : (r : Bool) (c : ℤ) → Decides r (c ≡ pos 0) → (c ≡ pos 0 → ⊥) → r ≡ false
nonzero true c d nz = absurd (nz (d.0 refl))
nonzero false c d nz = refl

pub not-nothing : (c : ℤ) → (c ≡ pos 0 → ⊥) → int_eq c (pos 0) ≡ false
not-nothing c nz = nonzero (int_eq c (pos 0)) c (Decides-int_eq c (pos 0)) nz

pub like-scaled : (c : ℤ) (a : OrdInt) (s : Shape) → IsLike a s → IsLike (scaled_of a c) (scaled c s)
like-scaled (pos zero) a s h = like-units 0 (constant_of (pos 0)) tt refl
like-scaled (pos (suc n)) a s h =
    rw (not-nothing (pos (suc n)) (λ e. omega (arith, ints, e))) (like-multiplied (suc n) a s (AreRising-scaled_of a (pos (suc n)) h.rising) h)
like-scaled (negsuc n) a s h = like-multiplied (suc n) (negated_of a) s (AreRising-scaled_of a (negsuc n) h.rising) (like-negated a s h)
