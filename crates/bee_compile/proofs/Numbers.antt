-- What names have under a valuation, as a view has them.
use Rattle.std.proofs.Common.{◌≡◌, ℕ, ◌+◌, List, [], ◌∷◌, pos, refl, sym, ap, ap₂, ◌∙◌}
use Rattle.std.specs.Prelude.{◌+ℤ◌, if◌then◌else◌}
use Rattle.order_ints.specs.declared.atom.Atom.{Atom}
use Rattle.order_ints.specs.declared.order_int.OrdInt.{OrdInt}
use Rattle.order_ints.specs.declared.order_int.MapValue.{MapValue}
use Rattle.order_ints.specs.declared.order_int.MapValue.TheVariants as values
use Rattle.order_ints.specs.Truth.{Valuation}
use Rattle.order_ints.specs.OrderValue.{gains, value_of}
use Rattle.order_ints.specs.Numbers.{number_of, numbers_of}
use Rattle.order_ints.specs.Place.{StepsBelow}
use Rattle.order_ints.specs.View.{resolve, MeetsView}
use Rattle.order_ints.proofs.TruthLaws.{atom_truth-resolve}
use Rattle.core_forms.specs.Resolved.{map_steps, map_int}
use Rattle.core_forms.specs.Trimmed.{trimmed_int}
use Rattle.core_forms.proofs.Tidied.{value-tidied}
use Rattle.model_meaning.specs.declared.model.Kind.{Kind}
use Rattle.model_meaning.specs.declared.model.Kind.TheVariants as kind
use Rattle.model_meaning.specs.declared.model.Decl.{Decl}
use Rattle.name_map.specs.Fits.{EntryFits, EntriesFit}
use Rattle.state_compile.specs.StandsFor.{read_by}
use Rattle.state_compile.proofs.Reading.{read-atom}
use Rattle.name_map.specs.Trimmed.{trimmed_value, trimmed_values}

-- A valuation is read by the view.
module _ (view : List Atom) (σ : Valuation) where
  gains-read : (steps : List (Atom × ℕ)) → gains σ (map_steps (resolve view) steps) ≡ gains (read_by view σ) steps
  gains-read [] = refl
  gains-read (s ∷ steps) = ap₂ (λ t n. (if t then s.1 else 0) + n) (sym (read-atom view σ s.0)) (gains-read steps)

  value-read : (a : OrdInt) → value_of σ (trimmed_int view a) ≡ value_of (read_by view σ) a
  value-read a = value-tidied σ (map_int (resolve view) a) ∙ ap (λ n. a.base +ℤ pos n) (gains-read a.steps)

  number-read : (v : MapValue) → number_of σ (trimmed_value view v) ≡ number_of (read_by view σ) v
  number-read (values.Bool a) = ap (λ t. if t then pos 1 else pos 0) (sym (read-atom view σ a))
  number-read (values.Int a) = value-read a

  -- what names have, trimmed, is what they have under the valuation so read
  pub numbers-read : (map : List MapValue) → numbers_of σ (trimmed_values view map) ≡ numbers_of (read_by view σ) map
  numbers-read [] = refl
  numbers-read (v ∷ map) = ap₂ (λ n ns. n ∷ ns) (number-read v) (numbers-read map)

-- A valuation meets the view.
module _ (view : List Atom) (σ : Valuation) (meets : MeetsView σ view) (n : ℕ) where
  gains-met : (steps : List (Atom × ℕ)) → StepsBelow n steps → gains σ (map_steps (resolve view) steps) ≡ gains σ steps
  gains-met [] h = refl
  gains-met (s ∷ steps) h = ap₂ (λ t m. (if t then s.1 else 0) + m) (atom_truth-resolve σ view n meets s.0 h.0) (gains-met steps h.1)

  value-met : (a : OrdInt) → StepsBelow n a.steps → value_of σ (trimmed_int view a) ≡ value_of σ a
  value-met a h = value-tidied σ (map_int (resolve view) a) ∙ ap (λ m. a.base +ℤ pos m) (gains-met a.steps h)

  number-met : (k : Kind) (v : MapValue) → EntryFits n k v → number_of σ (trimmed_value view v) ≡ number_of σ v
  number-met kind.Bool (values.Bool a) h = ap (λ t. if t then pos 1 else pos 0) (atom_truth-resolve σ view n meets a h)
  number-met kind.Bool (values.Int a) h = absurd h
  number-met (kind.Range low high) (values.Bool a) h = absurd h
  number-met (kind.Range low high) (values.Int a) h = value-met a h.below
  number-met (kind.Listed vs) (values.Bool a) h = absurd h
  number-met (kind.Listed vs) (values.Int a) h = value-met a h.below

  -- what names have, trimmed, is what they have
  pub numbers-met : (ds : List Decl) (map : List MapValue) → EntriesFit n ds map → numbers_of σ (trimmed_values view map) ≡ numbers_of σ map
  numbers-met [] [] h = refl
  numbers-met [] (v ∷ map) h = absurd h
  numbers-met (d ∷ ds) [] h = absurd h
  numbers-met (d ∷ ds) (v ∷ map) h = ap₂ (λ m ms. m ∷ ms) (number-met d.kind v h.0) (numbers-met ds map h.1)
