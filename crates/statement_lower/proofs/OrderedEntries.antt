-- The integers of a map of names are ordered.
use Rattle.std.proofs.Common.{ℕ, List, [], ◌∷◌}
use Rattle.order_ints.specs.declared.order_int.OrdInt.{OrdInt}
use Rattle.order_ints.specs.declared.order_int.MapValue.{MapValue}
use Rattle.order_ints.specs.declared.order_int.MapValue.TheVariants as entry
use Rattle.order_ints.specs.Truth.{Valuation, Agree}
use Rattle.order_ints.specs.OrderValue.{IsOrdered}
use Rattle.order_ints.specs.Represents.{DependsBelow}
use Rattle.order_ints.proofs.Gains.{IsOrdered-agree}
use Rattle.model_meaning.specs.declared.model.Decl.{Decl}
use Rattle.model_meaning.specs.declared.model.Kind.{Kind}
use Rattle.model_meaning.specs.declared.model.Kind.TheVariants as kind
use Rattle.name_map.specs.Fits.{EntryFits, EntriesFit}
use Rattle.statement_lower.specs.Entries.{AreOrdered}

ordered-agree : (n : ℕ) (k : Kind) (a : OrdInt) (σ τ : Valuation) → EntryFits n k (entry.Int a) → Agree n σ τ → IsOrdered σ a → IsOrdered τ a
ordered-agree n kind.Bool a σ τ fit agree h = absurd fit
ordered-agree n (kind.Range low high) a σ τ fit agree h = IsOrdered-agree n σ τ a agree fit.below h
ordered-agree n (kind.Listed vs) a σ τ fit agree h = IsOrdered-agree n σ τ a agree fit.below h

-- the integers of the map stay ordered under a valuation that agrees on their variables
pub AreOrdered-depends : (n : ℕ) (ds : List Decl) (entries : List MapValue) → EntriesFit n ds entries → DependsBelow n (λ σ. AreOrdered σ entries)
AreOrdered-depends n [] [] fit σ τ agree h = tt
AreOrdered-depends n [] (e ∷ entries) fit σ τ agree h = absurd fit
AreOrdered-depends n (d ∷ ds) [] fit σ τ agree h = absurd fit
AreOrdered-depends n (d ∷ ds) (entry.Bool a ∷ entries) fit σ τ agree h = AreOrdered-depends n ds entries fit.1 σ τ agree h
AreOrdered-depends n (d ∷ ds) (entry.Int a ∷ entries) fit σ τ agree h =
    (ordered-agree n d.kind a σ τ fit.0 agree h.0, AreOrdered-depends n ds entries fit.1 σ τ agree h.1)
