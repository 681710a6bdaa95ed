-- What names stand for, as a store has it, fits.
use Rattle.std.proofs.Common.{◌≡◌, ℕ, ◌≤◌, List, [], ◌∷◌, ℤ, pos, ◌≤ℤ◌, subst}
use Rattle.std.specs.Prelude.{◌+ℤ◌, ◌-ℤ◌}
use Rattle.order_ints.specs.declared.atom.Atom.{Atom}
use Rattle.order_ints.specs.declared.order_int.OrdInt.{OrdInt}
use Rattle.order_ints.specs.declared.order_int.MapValue.{MapValue}
use Rattle.order_ints.specs.declared.order_int.MapValue.TheVariants as values
use Rattle.order_ints.specs.OrderRange.{weights, low_of, high_of}
use Rattle.order_ints.specs.Place.{AtomsBelow}
use Rattle.order_ints.specs.View.{resolve}
use Rattle.order_ints.proofs.PlaceLaws.{AtomBelow-resolve, AtomBelow-up}
use Rattle.core_cost.specs.declared.shape.Shape.{Shape}
use Rattle.core_cost.specs.Sums.{unit_steps}
use Rattle.core_forms.specs.declared.form.Core.TheVariants.{Ladder}
use Rattle.core_forms.specs.Resolved.{map_steps}
use Rattle.core_forms.specs.Trimmed.{trimmed_int}
use Rattle.core_forms.proofs.Places.{CoreBelow-trimmed, CoreBelow-more}
use Rattle.core_forms.proofs.Tidied.{low-raised_by, high-raised_by, weights-map_steps}
use Rattle.core_forms.proofs.Kept.{IsWellFormed-trimmed}
use Rattle.model_meaning.specs.declared.model.Kind.{Kind}
use Rattle.model_meaning.specs.declared.model.Kind.TheVariants as kind
use Rattle.model_meaning.specs.declared.model.Decl.{Decl}
use Rattle.model_meaning.specs.Domains.{at_least_zero}
use Rattle.value_lists.specs.ValueLists.{first_of, last_of, shape_of as listed_shape}
use Rattle.name_map.specs.Fits.{IntegerFits, EntryFits, EntriesFit}
use Rattle.name_map.specs.Values.{IsBoundedValue, AreBounded}
use Rattle.name_map.specs.Trimmed.{trimmed_value, trimmed_values}
use Rattle.name_map.specs.Fits.{TrimmedFits, ValueFits, ValuesFit}

module _ (view : List Atom) (n m : ℕ) (up : n ≤ m) (labels : AtomsBelow m view) where
  integer-fits : (low high : ℤ) (s : Shape) (a : OrdInt) → IntegerFits n low high s a → TrimmedFits m low high s (trimmed_int view a)
  integer-fits low high s a h =
      let least = low-raised_by a.base (map_steps (resolve view) a.steps) in
      let greatest = high-raised_by a.base (map_steps (resolve view) a.steps) in
      let same : weights (map_steps (resolve view) a.steps) ≡ weights a.steps = weights-map_steps (resolve view) a.steps in
      let most : high_of (trimmed_int view a) ≤ℤ high_of a = subst (λ w. high_of (trimmed_int view a) ≤ℤ (a.base +ℤ pos w)) same greatest in
      record {
        below = (CoreBelow-trimmed m view (Ladder a) (CoreBelow-more n m (Ladder a) up (tt, (h.below, tt))) labels).1.0;
        sound = IsWellFormed-trimmed view (Ladder a) h.sound;
        least = subst (λ l. l ≤ℤ low_of (trimmed_int view a)) h.least least;
        greatest = subst (λ g. high_of (trimmed_int view a) ≤ℤ g) h.greatest most;
        low_in_limit = h.low_in_limit;
        high_in_limit = h.high_in_limit;
      }

  value-fits : (k : Kind) (v : MapValue) → EntryFits n k v → ValueFits m k (trimmed_value view v)
  value-fits kind.Bool (values.Bool a) h = AtomBelow-resolve m view labels a (AtomBelow-up n m up a h)
  value-fits kind.Bool (values.Int a) h = absurd h
  value-fits (kind.Range low high) (values.Bool a) h = absurd h
  value-fits (kind.Range low high) (values.Int a) h = integer-fits low high (unit_steps (at_least_zero (high -ℤ low))) a h
  value-fits (kind.Listed vs) (values.Bool a) h = absurd h
  value-fits (kind.Listed vs) (values.Int a) h = integer-fits (first_of vs) (last_of vs) (listed_shape vs) a h

  pub values-fit : (ds : List Decl) (map : List MapValue) → EntriesFit n ds map → ValuesFit m ds (trimmed_values view map)
  values-fit [] [] h = tt
  values-fit [] (v ∷ map) h = absurd h
  values-fit (d ∷ ds) [] h = absurd h
  values-fit (d ∷ ds) (v ∷ map) h = (value-fits d.kind v h.0, values-fit ds map h.1)

-- The values of what names stand for are below 2 ^ 100 in absolute value.

is-bounded : (n : ℕ) (k : Kind) (v : MapValue) → EntryFits n k v → IsBoundedValue v
is-bounded n kind.Bool (values.Bool a) h = tt
is-bounded n kind.Bool (values.Int a) h = absurd h
is-bounded n (kind.Range low high) (values.Bool a) h = absurd h
is-bounded n (kind.Range low high) (values.Int a) h = h.sound.0
is-bounded n (kind.Listed vs) (values.Bool a) h = absurd h
is-bounded n (kind.Listed vs) (values.Int a) h = h.sound.0

pub are-bounded : (n : ℕ) (ds : List Decl) (map : List MapValue) → EntriesFit n ds map → AreBounded map
are-bounded n [] [] h = tt
are-bounded n [] (v ∷ map) h = absurd h
are-bounded n (d ∷ ds) [] h = absurd h
are-bounded n (d ∷ ds) (v ∷ map) h = (is-bounded n d.kind v h.0, are-bounded n ds map h.1)
