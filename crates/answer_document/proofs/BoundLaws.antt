-- What the atoms of bounds say under the valuation that a solution gives.
use Rattle.std.proofs.Common.{◌≡◌, ℕ, zero, suc, ◌+◌, Bool, true, false, not, List, [], ◌∷◌, length, Some, refl, sym, ap, ◌∙◌, subst, ℤ, pos, arith}
use Rattle.std.specs.Prelude.{IsTrue, slice_get, int_le, ◌+ℤ◌}
use Rattle.order_ints.specs.declared.atom.Atom.{Atom}
use Rattle.order_ints.specs.declared.order_int.MapValue.{MapValue}
use Rattle.order_ints.specs.declared.order_int.MapValue.TheVariants as entry
use Rattle.order_ints.specs.Truth.{Valuation, atom_truth, not_atom}
use Rattle.order_ints.specs.View.{MeetsView, resolve}
use Rattle.order_ints.specs.OrderValue.{value_of, IsOrdered}
use Rattle.order_ints.specs.OrderLevels.{at_of}
use Rattle.order_ints.specs.Place.{AtomBelow}
use Rattle.order_ints.specs.Numbers as numbers
use Rattle.order_ints.proofs.Truths.{atom_truth-not_atom, AtomBelow-not_atom}
use Rattle.order_ints.proofs.TruthLaws.{atom_truth-resolve}
use Rattle.order_ints.proofs.Reaching.{atom_truth-at_of, AtomBelow-at_of}
use Rattle.model_meaning.specs.declared.model.Model.{Model}
use Rattle.model_meaning.specs.declared.model.Decl.{Decl}
use Rattle.model_meaning.specs.declared.what.IntTerm.TheVariants.{Of}
use Rattle.model_meaning.specs.Terms.{value_at}
use Rattle.model_meaning.specs.WellTyped.{IsNumberAt}
use Rattle.name_map.specs.Fits.{EntriesFit}
use Rattle.statement_lower.specs.Entries.{AreOrdered}
use Rattle.statement_lower.specs.Terms.{integer_at}
use Rattle.statement_lower.proofs.EntryLaws.{integer_of-small, integer_of-value}
use Rattle.answer_document.specs.BoundAtoms.{integer_named, at_least, at_most}

-- each integer of a map is ordered where all are
ordered-named : (σ : Valuation) (entries : List MapValue) (place : ℕ) → AreOrdered σ entries → IsOrdered σ (integer_named entries place)
ordered-named σ [] place h = refl
ordered-named σ (entry.Bool a ∷ entries) zero h = refl
ordered-named σ (entry.Int a ∷ entries) zero h = h.0
ordered-named σ (entry.Bool a ∷ entries) (suc place) h = ordered-named σ entries place h
ordered-named σ (entry.Int a ∷ entries) (suc place) h = ordered-named σ entries place h.1

module _ (σ : Valuation) (view : List Atom) (meets : MeetsView σ view) (n m : ℕ) (decls : List Decl) (entries : List MapValue)
    (fit : EntriesFit n decls entries) (ordered : AreOrdered σ entries) (place : ℕ) (number : IsNumberAt decls m place) where
  named-value : value_of σ (integer_named entries place) ≡ value_at (numbers.numbers_of σ entries) place
  named-value = integer_of-value n m decls entries fit σ (Of place) number

  at-least-below : (v : ℤ) → AtomBelow n (at_least (integer_named entries place) v)
  at-least-below v = AtomBelow-at_of n (integer_named entries place) v (integer_of-small n m decls entries fit (Of place) number tt).below

  -- the bound from below says that the value is at least the number
  pub at-least-truth : (v : ℤ) → atom_truth σ (resolve view (at_least (integer_named entries place) v)) ≡ int_le v (value_at (numbers.numbers_of σ entries) place)
  at-least-truth v =
      atom_truth-resolve σ view n meets (at_least (integer_named entries place) v) (at-least-below v)
      ∙ atom_truth-at_of σ (integer_named entries place) v (ordered-named σ entries place ordered) ∙ ap (int_le v) named-value

  -- and the bound from above, that it is not more
  pub at-most-truth : (v : ℤ) → atom_truth σ (resolve view (at_most (integer_named entries place) v)) ≡ not (int_le (v +ℤ pos 1) (value_at (numbers.numbers_of σ entries) place))
  at-most-truth v =
      atom_truth-resolve σ view n meets (at_most (integer_named entries place) v) (AtomBelow-not_atom n (at_of (integer_named entries place) (v +ℤ pos 1)) (at-least-below (v +ℤ pos 1)))
      ∙ atom_truth-not_atom σ (at_of (integer_named entries place) (v +ℤ pos 1))
      ∙ ap not (atom_truth-at_of σ (integer_named entries place) (v +ℤ pos 1) (ordered-named σ entries place ordered) ∙ ap (int_le (v +ℤ pos 1)) named-value)
